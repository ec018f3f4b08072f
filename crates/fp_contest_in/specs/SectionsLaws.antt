-- The sections and the cost: what is read is in the grammar, and what is in the grammar is read.
use Rattle.std.proofs.Common.{◌≡◌, ◌≤◌, ℕ, zero, suc, ◌+◌, Bool, true, false, cond, eqb, List, [], ◌∷◌, ◌++◌, Option, Some, None, Ok, refl, sym, ap, subst, ◌∙◌, arith, append_assoc, ◌⊎◌, inl, inr}
use Rattle.std.specs.Str.{bytes_eq}
use Rattle.std.proofs.lemmas.Slice.Eq.{bytes_eq-Decides}
use Rattle.std.proofs.lemmas.Bool.{eq-eqb, cases_Bool}
use Rattle.std.proofs.lemmas.List.{append-nil}
use Rattle.fp_base.specs.declared.ids.Die.TheVariants.{Top, Bottom}
use Rattle.fp_base.specs.declared.ids.TechId.{TechId}
use Rattle.fp_text.specs.Words.{Word}
use Rattle.fp_text.specs.Reading.{Left, Read, ◌>>=◌, begins, word_next}
use Rattle.fp_text.specs.Items.{Each}
use Rattle.fp_text.specs.ReadingLaws.{left_of, bind_ok, cond_not, ok_is, word_ok, word_again}
use Rattle.fp_text.specs.declared.fault.Kind.TheVariants as kinds
use Rattle.fp_tech.specs.declared.dies.Frame.{Frame}
use Rattle.fp_contest_in.specs.declared.section.Section.{Section}
use Rattle.fp_contest_in.specs.declared.section.Section.TheVariants.{DieSize, MaxUtil, Rows, Tech, TerminalSize, TerminalSpacing, TerminalCost}
use Rattle.fp_contest_in.specs.declared.section.RowsFound.{RowsFound}
use Rattle.fp_contest_in.specs.declared.section.Found.{Found}
use Rattle.fp_contest_in.specs.declared.section.Setup.{Setup}
use Rattle.fp_contest_in.specs.Text.{TechText, tech_name_list}
use Rattle.fp_contest_in.specs.Grammar.{Numbers, ranged, any_number, most_number, keyword_of, HasFields, NamesTech, IsSection, IsNewSection, section_number, is_in, is_needed}
use Rattle.fp_contest_in.specs.Statements.{section_of, new_section, section_next, sections_next, may_cost_next, cost_next, has_section, has_nine, none_found, bits, count_true, found_count, setup_of, no_frame, no_rows}
use Rattle.fp_contest_in.specs.BitsLaws.{bit_at, with_bit, bit_at-with_bit, count_true-with_bit, has_bit, number_small, nine_has, all_nine, enough_nine, last_is_cost, is_in-push, is_in-front}
use Rattle.fp_contest_in.specs.NamesLaws.{AreNew}
use Rattle.fp_contest_in.specs.FieldsLaws.{FrameFields, RowsFields, kept_is, Keeps, keeps_refl, keeps_then, fields_ok}
use Rattle.fp_contest_in.specs.FieldsAgainLaws.{Agrees, FieldsRead, fields_again}
use Rattle.fp_contest_in.specs.BlocksLaws.{begins_again}

-- ---- keywords

-- one keyword was tried
tried : (word : List ℕ) (section : Section) (others : Option Section) (found : Section) → (others ≡ Some found → word ≡ keyword_of found)
    → cond (bytes_eq word (keyword_of section)) (Some section) others ≡ Some found → word ≡ keyword_of found
tried word section others found rest e = here (bytes_eq word (keyword_of section)) refl e
  where
    here : (b : Bool) → bytes_eq word (keyword_of section) ≡ b → cond b (Some section) others ≡ Some found → word ≡ keyword_of found
    here true same e =
        let is : section ≡ found = cc in
        (bytes_eq-Decides word (keyword_of section)).0 same ∙ ap keyword_of is
    here false other e = rest e

pub section_of-is : (word : List ℕ) (section : Section) → section_of word ≡ Some section → word ≡ keyword_of section
unfolding section_of
section_of-is word section e =
    tried word DieSize _ section (
    tried word (MaxUtil Top) _ section (
    tried word (MaxUtil Bottom) _ section (
    tried word (Rows Top) _ section (
    tried word (Rows Bottom) _ section (
    tried word (Tech Top) _ section (
    tried word (Tech Bottom) _ section (
    tried word TerminalSize _ section (
    tried word TerminalSpacing _ section (
    tried word TerminalCost None section (λ none. absurd cc)))))))))) e

pub section_of-keyword : (section : Section) → section_of (keyword_of section) ≡ Some section
unfolding section_of
section_of-keyword DieSize = refl
section_of-keyword (MaxUtil Top) = refl
section_of-keyword (MaxUtil Bottom) = refl
section_of-keyword (Rows Top) = refl
section_of-keyword (Rows Bottom) = refl
section_of-keyword (Tech Top) = refl
section_of-keyword (Tech Bottom) = refl
section_of-keyword TerminalSize = refl
section_of-keyword TerminalSpacing = refl
section_of-keyword TerminalCost = refl

new_section-ok : (section : Option Section) (at : ℕ) (found : Found) (s : Section) → new_section section at found ≡ Ok s → (section ≡ Some s) × (has_section found s ≡ false)
new_section-ok None at found s e = absurd cc
new_section-ok (Some section) at found s e =
    let g = cond_not (has_section found section) (Ok section) (record { at = at; kind = kinds.Twice }) s e in
    let same = ok_is section s g.1 in
    (ap Some same, subst (λ (t : Section). has_section found t ≡ false) same g.0)

-- ---- one section

-- what a section says goes on being said once more sections are read
says_kept : (techs : List TechText) (section : Section) (a b : Found) (words rest : List Word) → Keeps a b → has_section a section ≡ true
    → HasFields techs (setup_of a) section words rest → HasFields techs (setup_of b) section words rest
says_kept techs DieSize a b words rest k h says = subst (λ (frame : Frame). FrameFields frame words rest) (kept_is a.frame b.frame no_frame h k.frame) says
says_kept techs (MaxUtil Top) a b words rest k h says = subst (λ (n : ℕ). Numbers (ranged 0 100 n ∷ []) words rest) (kept_is a.top.percent b.top.percent 0 h k.top_percent) says
says_kept techs (Rows Top) a b words rest k h says = subst (λ (rows : RowsFound). RowsFields rows words rest) (kept_is a.top.rows b.top.rows no_rows h k.top_rows) says
says_kept techs (Tech Top) a b words rest k h says = subst (λ (tech : TechId). NamesTech techs tech.0 words rest) (kept_is a.top.tech b.top.tech (record { 0 = 0 }) h k.top_tech) says
says_kept techs (MaxUtil Bottom) a b words rest k h says = subst (λ (n : ℕ). Numbers (ranged 0 100 n ∷ []) words rest) (kept_is a.bottom.percent b.bottom.percent 0 h k.bottom_percent) says
says_kept techs (Rows Bottom) a b words rest k h says = subst (λ (rows : RowsFound). RowsFields rows words rest) (kept_is a.bottom.rows b.bottom.rows no_rows h k.bottom_rows) says
says_kept techs (Tech Bottom) a b words rest k h says = subst (λ (tech : TechId). NamesTech techs tech.0 words rest) (kept_is a.bottom.tech b.bottom.tech (record { 0 = 0 }) h k.bottom_tech) says
says_kept techs TerminalSize a b words rest k h says = subst (λ (size : ℕ × ℕ). Numbers (ranged 1 most_number size.0 ∷ ranged 1 most_number size.1 ∷ []) words rest) (kept_is a.size b.size (0, 0) h k.size) says
says_kept techs TerminalSpacing a b words rest k h says = subst (λ (n : ℕ). Numbers (any_number n ∷ []) words rest) (kept_is a.spacing b.spacing 0 h k.spacing) says
says_kept techs TerminalCost a b words rest k h says = subst (λ (n : ℕ). Numbers (any_number n ∷ []) words rest) (kept_is a.cost b.cost 0 h k.cost) says

pub record SectionTaken (techs : List TechText) (found : Found) (l : Left) (f : Found) (r : Left) : Type 0 where
  pub section : Section
  pub fresh : has_section found section ≡ false
  pub is : IsSection techs (setup_of f) section l.words r.words
  pub set : bits f ≡ with_bit (bits found) (section_number section)
  pub keeps : Keeps found f
  pub same : r.bytes ≡ l.bytes

pub section_ok : (techs : List TechText) (found : Found) (l : Left) (f : Found) (r : Left) → section_next (tech_name_list techs) found l ≡ Ok (f, r) → SectionTaken techs found l f r
unfolding section_next
section_ok techs found l f r e =
    let w = bind_ok (word_next l) _ _ e in
    let n = bind_ok (new_section (section_of w.0.0.text) w.0.0.at found) _ _ w.2 in
    let word = word_ok l w.0.0 w.0.1 w.1 in
    let new = new_section-ok (section_of w.0.0.text) w.0.0.at found n.0 n.1 in
    let t = fields_ok techs n.0 w.0.0.at found w.0.1 f r new.1 n.2 in
    record {
      section = n.0;
      fresh = new.1;
      is = (w.0.1.words, (w.0.0, word.words, section_of-is w.0.0.text n.0 new.0), t.says);
      set = t.set;
      keeps = t.keeps;
      same = t.same ∙ word.bytes;
    }

-- ---- which sections were read

-- the sections of a list are those that were read
abbrev pub AreFound : List Section → Found → Type 0
AreFound before found = (t : Section) → is_in t before ≡ has_section found t

has-set : (found f : Found) (s t : Section) → bits f ≡ with_bit (bits found) (section_number s) → has_section f t ≡ cond (eqb (section_number s) (section_number t)) true (has_section found t)
has-set found f s t set =
    has_bit f t ∙ ap (λ (bs : List Bool). bit_at bs (section_number t)) set
    ∙ bit_at-with_bit (bits found) (section_number s) (section_number t) (number_small found s)
    ∙ ap (cond (eqb (section_number s) (section_number t)) true) (sym (has_bit found t))

are_found-push : (before : List Section) (found f : Found) (s : Section) → bits f ≡ with_bit (bits found) (section_number s) → AreFound before found → AreFound (before ++ s ∷ []) f
are_found-push before found f s set are t =
    is_in-push t s before ∙ ap (cond (eqb (section_number s) (section_number t)) true) (are t) ∙ sym (has-set found f s t set)

has_itself : (found f : Found) (s : Section) → bits f ≡ with_bit (bits found) (section_number s) → has_section f s ≡ true
has_itself found f s set = has-set found f s s set ∙ ap (λ (b : Bool). cond b true (has_section found s)) (eq-eqb (section_number s) (section_number s) refl)

pub one_more_found : (found f : Found) (s : Section) → bits f ≡ with_bit (bits found) (section_number s) → has_section found s ≡ false → found_count f ≡ found_count found + 1
one_more_found found f s set fresh = ap count_true set ∙ count_true-with_bit (bits found) (section_number s) (number_small found s) (sym (has_bit found s) ∙ fresh)

-- a section that was read stays read
has_stays : (found f : Found) (s t : Section) → bits f ≡ with_bit (bits found) (section_number s) → has_section found t ≡ true → has_section f t ≡ true
has_stays found f s t set there = has-set found f s t set ∙ ap (λ (b : Bool). cond (eqb (section_number s) (section_number t)) true b) there ∙ either (eqb (section_number s) (section_number t))
  where
    either : (b : Bool) → cond b true true ≡ true
    either true = refl
    either false = refl

nine_stays : (found f : Found) (s : Section) → bits f ≡ with_bit (bits found) (section_number s) → has_nine found ≡ true → has_nine f ≡ true
nine_stays found f s set nine = all_nine f (λ t needed. has_stays found f s t set (nine_has found nine t needed))

-- nothing was read yet
pub none_read : (section : Section) → has_section none_found section ≡ false
none_read DieSize = refl
none_read (MaxUtil Top) = refl
none_read (MaxUtil Bottom) = refl
none_read (Rows Top) = refl
none_read (Rows Bottom) = refl
none_read (Tech Top) = refl
none_read (Tech Bottom) = refl
none_read TerminalSize = refl
none_read TerminalSpacing = refl
none_read TerminalCost = refl

-- ---- from reading to the grammar

-- sections that were read behind others
pub record SectionsTaken (techs : List TechText) (before : List Section) (found : Found) (l : Left) (f : Found) (r : Left) : Type 0 where
  pub order : List Section
  pub each : Each (IsNewSection techs (setup_of f)) before order l.words r.words
  pub are : AreFound (before ++ order) f
  pub keeps : Keeps found f
  pub same : r.bytes ≡ l.bytes

none_taken : (techs : List TechText) (before : List Section) (found : Found) (l : Left) → AreFound before found → SectionsTaken techs before found l found l
none_taken techs before found l are =
    record { order = []; each = refl; are = subst (λ (ss : List Section). AreFound ss found) (sym (append-nil before)) are; keeps = keeps_refl found; same = refl }

one_taken : (techs : List TechText) (before : List Section) (found : Found) (l : Left) (mid : Found) (m : Left) (f : Found) (r : Left) → AreFound before found
    → (one : SectionTaken techs found l mid m) → SectionsTaken techs (before ++ one.section ∷ []) mid m f r → SectionsTaken techs before found l f r
one_taken techs before found l mid m f r are one rest =
    let says = says_kept techs one.section mid f one.is.0 m.words rest.keeps (has_itself found mid one.section one.set) one.is.2 in
    record {
      order = one.section ∷ rest.order;
      each = (m.words, ((one.is.0, one.is.1, says), are one.section ∙ one.fresh), rest.each);
      are = subst (λ (ss : List Section). AreFound ss f) (append_assoc before (one.section ∷ []) rest.order) rest.are;
      keeps = keeps_then found mid f one.keeps rest.keeps;
      same = rest.same ∙ one.same;
    }

-- what is read next, whatever was read before
abbrev Follows : List TechText → Found → Left → Found → Left → Type 0
Follows techs mid m f r = (before : List Section) → AreFound before mid → SectionsTaken techs before mid m f r

-- a turn that reads nothing, or a section and the turns behind it
nothing_taken : (techs : List TechText) (before : List Section) (found : Found) (l : Left) (mid : Found) (m : Left) (f : Found) (r : Left) → AreFound before found
    → ◌≡◌ {A = Found × Left} (found, l) (mid, m) → Follows techs mid m f r → SectionsTaken techs before found l f r
nothing_taken techs before found l mid m f r are same then =
    subst (λ (p : Found × Left). Follows techs p.0 p.1 f r → SectionsTaken techs before found l f r) same (λ go. go before are) then

section_taken : (techs : List TechText) (before : List Section) (found : Found) (l : Left) (mid : Found) (m : Left) (f : Found) (r : Left) → AreFound before found
    → section_next (tech_name_list techs) found l ≡ Ok (mid, m) → Follows techs mid m f r → SectionsTaken techs before found l f r
section_taken techs before found l mid m f r are read then =
    let one = section_ok techs found l mid m read in
    one_taken techs before found l mid m f r are one (then (before ++ one.section ∷ []) (are_found-push before found mid one.section one.set are))

-- which branch was taken
pub chosen : {A : Type 0} (b : Bool) (x y z : Read A) → cond b x y ≡ z → ((b ≡ true) × (x ≡ z)) ⊎ ((b ≡ false) × (y ≡ z))
chosen true x y z e = inl (refl, e)
chosen false x y z e = inr (refl, e)

pub sections_ok : (techs : List TechText) (turns : ℕ) (before : List Section) (found : Found) (l : Left) (mid : Found) (m : Left) (f : Found) (r : Left) → AreFound before found
    → sections_next (tech_name_list techs) turns found l ≡ Ok (mid, m) → Follows techs mid m f r → SectionsTaken techs before found l f r
unfolding sections_next
sections_ok techs zero before found l mid m f r are e then = nothing_taken techs before found l mid m f r are (ok_is {A = Found × Left} (found, l) (mid, m) e) then
sections_ok techs (suc turns) before found l mid m f r are e then =
    elim (chosen {A = Found} (has_nine found) (Ok (found, l)) (section_next (tech_name_list techs) found l >>= (λ more. sections_next (tech_name_list techs) turns more.0 more.1)) (Ok (mid, m)) e) [
      | inl stop ↦ nothing_taken techs before found l mid m f r are (ok_is {A = Found × Left} (found, l) (mid, m) stop.1) then
      | inr go ↦
          let b = bind_ok (section_next (tech_name_list techs) found l) _ _ go.1 in
          section_taken techs before found l b.0.0 b.0.1 f r are b.1 (λ before_then are_then. sections_ok techs turns before_then b.0.0 b.0.1 mid m f r are_then b.2 then)
    ]

-- after ten turns the nine are read
pub sections_nine : (techs : List TechText) (turns : ℕ) (found : Found) (l : Left) (mid : Found) (m : Left) → 10 ≤ found_count found + turns
    → sections_next (tech_name_list techs) turns found l ≡ Ok (mid, m) → has_nine mid ≡ true
unfolding sections_next
sections_nine techs zero found l mid m enough e =
    let same = ok_is {A = Found × Left} (found, l) (mid, m) e in
    subst (λ (p : Found × Left). has_nine p.0 ≡ true) same (enough_nine found (omega arith))
sections_nine techs (suc turns) found l mid m enough e =
    elim (chosen {A = Found} (has_nine found) (Ok (found, l)) (section_next (tech_name_list techs) found l >>= (λ more. sections_next (tech_name_list techs) turns more.0 more.1)) (Ok (mid, m)) e) [
      | inl stop ↦ subst (λ (p : Found × Left). has_nine p.0 ≡ true) (ok_is {A = Found × Left} (found, l) (mid, m) stop.1) stop.0
      | inr go ↦
          let b = bind_ok (section_next (tech_name_list techs) found l) _ _ go.1 in
          let one = section_ok techs found l b.0.0 b.0.1 b.1 in
          let more : found_count b.0.0 ≡ found_count found + 1 = one_more_found found b.0.0 one.section one.set one.fresh in
          sections_nine techs turns b.0.0 b.0.1 mid m (omega (arith, more)) b.2
    ]

may_cost_ok : (techs : List TechText) (before : List Section) (found : Found) (l : Left) (mid : Found) (m : Left) (f : Found) (r : Left) → AreFound before found
    → may_cost_next (tech_name_list techs) found l ≡ Ok (mid, m) → Follows techs mid m f r → SectionsTaken techs before found l f r
unfolding may_cost_next
may_cost_ok techs before found l mid m f r are e then =
    elim (chosen {A = Found} (begins (keyword_of TerminalCost) l) (section_next (tech_name_list techs) found l) (Ok (found, l)) (Ok (mid, m)) e) [
      | inl told ↦ section_taken techs before found l mid m f r are told.1 then
      | inr none ↦ nothing_taken techs before found l mid m f r are (ok_is {A = Found × Left} (found, l) (mid, m) none.1) then
    ]

pub cost_ok : (techs : List TechText) (found : Found) (l : Left) (f : Found) (r : Left) → cost_next (tech_name_list techs) found l ≡ Ok (f, r) → Follows techs found l f r
unfolding cost_next
cost_ok techs found l f r e before are =
    let b = bind_ok (may_cost_next (tech_name_list techs) found l) _ _ e in
    may_cost_ok techs before found l b.0.0 b.0.1 f r are b.1 (λ before_then are_then.
    may_cost_ok techs before_then b.0.0 b.0.1 f r f r are_then b.2 (λ all all_are. none_taken techs all f r all_are))

-- ---- from the grammar to reading

section_again : (techs : List TechText) (setup : Setup) (section : Section) (found : Found) (l : Left) (rest : List Word) → AreNew [] (tech_name_list techs) → Agrees setup found
    → has_section found section ≡ false → (is : IsSection techs setup section l.words rest)
    → (f : FieldsRead (tech_name_list techs) setup section is.1.0.at found (left_of l is.0) rest) → section_next (tech_name_list techs) found l ≡ Ok (f.found_then, left_of l rest)
unfolding section_next
section_again techs setup section found l rest new a fresh is f =
    let word = word_again l is.1.0 is.0 is.1.1 in
    rw (word, is.1.2, section_of-keyword section, fresh, f.read) refl

-- the nine were read, and what is told behind them is left
pub record NineRead (techs : List TechText) (setup : Setup) (turns : ℕ) (found : Found) (l : Left) (all : List Section) (rest : List Word) : Type 0 where
  pub found_then : Found
  pub words : List Word
  pub read : sections_next (tech_name_list techs) turns found l ≡ Ok (found_then, left_of l words)
  pub nine : has_nine found_then ≡ true
  pub agrees : Agrees setup found_then
  pub before : List Section
  pub others : List Section
  pub whole : before ++ others ≡ all
  pub are : AreFound before found_then
  pub each : Each (IsNewSection techs setup) before others words rest

-- nothing is read once the nine are
pub sections_stop : (names : List (List ℕ)) (turns : ℕ) (found : Found) (l : Left) → has_nine found ≡ true → sections_next names turns found l ≡ Ok (found, l)
unfolding sections_next
sections_stop names zero found l nine = refl
sections_stop names (suc turns) found l nine = rw nine refl

nine_read : (techs : List TechText) (setup : Setup) (turns : ℕ) (before others : List Section) (found : Found) (l : Left) (all : List Section) (rest : List Word) → has_nine found ≡ true
    → AreFound before found → Agrees setup found → before ++ others ≡ all → Each (IsNewSection techs setup) before others l.words rest → NineRead techs setup turns found l all rest
nine_read techs setup turns before others found l all rest nine are a whole each = record {
  found_then = found;
  words = l.words;
  read = sections_stop (tech_name_list techs) turns found l nine;
  nine = nine;
  agrees = a;
  before = before;
  others = others;
  whole = whole;
  are = are;
  each = each;
}

-- each of the nine is among the sections
abbrev pub IsWhole : List Section → Type 0
IsWhole all = (section : Section) → is_needed section ≡ true → is_in section all ≡ true

pub sections_again : (techs : List TechText) (setup : Setup) (turns : ℕ) (order before : List Section) (found : Found) (l : Left) (all : List Section) (rest : List Word) → AreNew [] (tech_name_list techs)
    → IsWhole all → 10 ≤ found_count found + turns → AreFound before found → Agrees setup found → before ++ order ≡ all → Each (IsNewSection techs setup) before order l.words rest
    → NineRead techs setup turns found l all rest
unfolding sections_next
sections_again techs setup turns [] before found l all rest new needs enough are a whole each =
    let same : before ≡ all = sym (append-nil before) ∙ whole in
    let nine = all_nine found (λ section needed. sym (are section) ∙ ap (λ (ss : List Section). is_in section ss) same ∙ needs section needed) in
    nine_read techs setup turns before [] found l all rest nine are a whole each
sections_again techs setup zero (section ∷ order) before found l all rest new needs enough are a whole each =
    nine_read techs setup zero before (section ∷ order) found l all rest (enough_nine found (omega arith)) are a whole each
sections_again techs setup (suc turns) (section ∷ order) before found l all rest new needs enough are a whole each =
    elim (cases_Bool (has_nine found)) [
      | inl nine ↦ nine_read techs setup (suc turns) before (section ∷ order) found l all rest nine are a whole each
      | inr more ↦
          let is = each.1.0 in
          let fresh : has_section found section ≡ false = sym (are section) ∙ each.1.1 in
          let f = fields_again techs setup section is.1.0.at found (left_of l is.0) each.0 new a is.2 in
          let one = section_again techs setup section found l each.0 new a fresh is f in
          let count : found_count f.found_then ≡ found_count found + 1 = one_more_found found f.found_then section f.set fresh in
          let others = sections_again techs setup turns order (before ++ section ∷ []) f.found_then (left_of l each.0) all rest new needs (omega (arith, count))
          (are_found-push before found f.found_then section f.set are) f.agrees (append_assoc before (section ∷ []) order ∙ whole) each.2 in
          record {
            found_then = others.found_then;
            words = others.words;
            read = rw (more, one) others.read;
            nine = others.nine;
            agrees = others.agrees;
            before = others.before;
            others = others.others;
            whole = others.whole;
            are = others.are;
            each = others.each;
          }
    ]

-- what is told behind the nine is read
pub record CostRead (names : List (List ℕ)) (setup : Setup) (found : Found) (l : Left) (all : List Section) (rest : List Word) : Type 0 where
  pub found_then : Found
  pub read : cost_next names found l ≡ Ok (found_then, left_of l rest)
  pub nine : has_nine found_then ≡ true
  pub agrees : Agrees setup found_then
  pub are : AreFound all found_then

no_cost : (names : List (List ℕ)) (found : Found) (l : Left) → begins (keyword_of TerminalCost) l ≡ false → may_cost_next names found l ≡ Ok (found, l)
unfolding may_cost_next
no_cost names found l other = rw other refl

one_cost : (names : List (List ℕ)) (found f : Found) (l : Left) (rest : List Word) → begins (keyword_of TerminalCost) l ≡ true → section_next names found l ≡ Ok (f, left_of l rest)
    → may_cost_next names found l ≡ Ok (f, left_of l rest)
unfolding may_cost_next
one_cost names found f l rest told read = rw told read

-- a section behind the nine is the cost
late_begins : (techs : List TechText) (setup : Setup) (section : Section) (l : Left) (rest : List Word) → section ≡ TerminalCost → IsSection techs setup section l.words rest
    → begins (keyword_of TerminalCost) l ≡ true
late_begins techs setup section l rest cost is =
    begins_again (keyword_of TerminalCost) l is.0 (is.1.0, is.1.1, is.1.2 ∙ ap keyword_of cost)

pub cost_again : (techs : List TechText) (setup : Setup) (others before : List Section) (found : Found) (l : Left) (all : List Section) (rest : List Word) → AreNew [] (tech_name_list techs)
    → has_nine found ≡ true → AreFound before found → Agrees setup found → before ++ others ≡ all → begins (keyword_of TerminalCost) (left_of l rest) ≡ false
    → Each (IsNewSection techs setup) before others l.words rest → CostRead (tech_name_list techs) setup found l all rest
unfolding cost_next
cost_again techs setup [] before found l all rest new nine are a whole other each =
    let off : begins (keyword_of TerminalCost) l ≡ false = subst (λ (ws : List Word). begins (keyword_of TerminalCost) (left_of l ws) ≡ false) (sym each) other in
    let none = no_cost (tech_name_list techs) found l off in
    record {
      found_then = found;
      read = rw (none, none) (ap (λ (ws : List Word). Ok (found, left_of l ws)) each);
      nine = nine;
      agrees = a;
      are = subst (λ (ss : List Section). AreFound ss found) (sym (append-nil before) ∙ whole) are;
    }
cost_again techs setup (section ∷ []) before found l all rest new nine are a whole other each =
    let is : IsSection techs setup section l.words rest = subst (λ (ws : List Word). IsSection techs setup section l.words ws) each.2 each.1.0 in
    let fresh : has_section found section ≡ false = sym (are section) ∙ each.1.1 in
    let f = fields_again techs setup section is.1.0.at found (left_of l is.0) rest new a is.2 in
    let read = section_again techs setup section found l rest new a fresh is f in
    let told = late_begins techs setup section l rest (last_is_cost found section nine fresh) is in
    let first = one_cost (tech_name_list techs) found f.found_then l rest told read in
    let second = no_cost (tech_name_list techs) f.found_then (left_of l rest) other in
    record {
      found_then = f.found_then;
      read = rw (first, second) refl;
      nine = nine_stays found f.found_then section f.set nine;
      agrees = f.agrees;
      are = subst (λ (ss : List Section). AreFound ss f.found_then) whole (are_found-push before found f.found_then section f.set are);
    }
cost_again techs setup (section ∷ second ∷ others) before found l all rest new nine are a whole other each =
    let cost : section ≡ TerminalCost = last_is_cost found section nine (sym (are section) ∙ each.1.1) in
    let again : is_in second before ≡ false = (is_in-front second section before each.2.1.1).1 in
    let cost_too : second ≡ TerminalCost = last_is_cost found second nine (sym (are second) ∙ again) in
    let apart : eqb (section_number section) (section_number second) ≡ false = (is_in-front second section before each.2.1.1).0 in
    let same : eqb (section_number section) (section_number second) ≡ true = eq-eqb (section_number section) (section_number second) (ap section_number (cost ∙ sym cost_too)) in
    absurd cc
