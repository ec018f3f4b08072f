-- One section's fields: what is read is what they say, and what they say is read.
use Rattle.std.proofs.Common.{◌≡◌, ℕ, ◌+◌, ◌^◌, true, false, List, [], ◌∷◌, Option, Some, None, Ok, refl, sym, ap, subst, ◌∙◌, arith}
use Rattle.std.specs.Prelude.{is_some, unwrap_or}
use Rattle.fp_base.specs.declared.ids.Die.TheVariants.{Top, Bottom}
use Rattle.fp_base.specs.declared.ids.TechId.{TechId}
use Rattle.fp_text.specs.Words.{Word}
use Rattle.fp_text.specs.Reading.{Left, name_next, number_next}
use Rattle.fp_text.specs.ReadingLaws.{left_of, bind_ok, ok_is}
use Rattle.fp_text.specs.declared.fault.Kind.{Kind}
use Rattle.fp_text.specs.declared.fault.Kind.TheVariants as kinds
use Rattle.fp_tech.specs.declared.dies.Frame.{Frame}
use Rattle.fp_tech.specs.Book.{place_of}
use Rattle.fp_contest_in.specs.declared.section.Section.{Section}
use Rattle.fp_contest_in.specs.declared.section.Section.TheVariants.{DieSize, MaxUtil, Rows, Tech, TerminalSize, TerminalSpacing, TerminalCost}
use Rattle.fp_contest_in.specs.declared.section.RowsFound.{RowsFound}
use Rattle.fp_contest_in.specs.declared.section.Found.{Found}
use Rattle.fp_contest_in.specs.Text.{TechText, tech_name_list}
use Rattle.fp_contest_in.specs.Grammar.{Named, Numbers, any_number, ranged, most_number, NamesTech, HasFields, section_number}
use Rattle.fp_contest_in.specs.Statements.{frame_next, rows_next, known_tech, tech_name_next, sizes_next, fields_next, set_die, has_section, bits, setup_of}
use Rattle.fp_contest_in.specs.TakenLaws.{name_ok, name_again, number_ok, number_again}
use Rattle.fp_contest_in.specs.TechsLaws.{sizes_ok, sizes_again}
use Rattle.fp_contest_in.specs.BitsLaws.{with_bit}
use Rattle.fp_contest_in.specs.NamesLaws.{AreNew, place_is, place_again}

-- ---- the frame

abbrev pub FrameFields : Frame → List Word → List Word → Type 0
FrameFields frame = Numbers (any_number frame.llx ∷ any_number frame.lly ∷ ranged (frame.llx + 1) most_number frame.urx ∷ ranged (frame.lly + 1) most_number frame.ury ∷ [])

pub frame_ok : (l : Left) (frame : Frame) (r : Left) → frame_next l ≡ Ok (frame, r) → FrameFields frame l.words r.words × (r.bytes ≡ l.bytes)
unfolding frame_next
frame_ok l frame r e =
    let a = bind_ok (number_next 0 most_number kinds.Range l) _ _ e in
    let b = bind_ok (number_next 0 most_number kinds.Range a.0.1) _ _ a.2 in
    let c = bind_ok (number_next (a.0.0 + 1) most_number kinds.Range b.0.1) _ _ b.2 in
    let d = bind_ok (number_next (b.0.0 + 1) most_number kinds.Range c.0.1) _ _ c.2 in
    let at_a = number_ok 0 most_number kinds.Range l a.0.0 a.0.1 a.1 in
    let at_b = number_ok 0 most_number kinds.Range a.0.1 b.0.0 b.0.1 b.1 in
    let at_c = number_ok (a.0.0 + 1) most_number kinds.Range b.0.1 c.0.0 c.0.1 c.1 in
    let at_d = number_ok (b.0.0 + 1) most_number kinds.Range c.0.1 d.0.0 d.0.1 d.1 in
    let read : ◌≡◌ {A = Frame × Left} (record { llx = a.0.0; lly = b.0.0; urx = c.0.0; ury = d.0.0 }, d.0.1) (frame, r) = cc in
    subst (λ (p : Frame × Left). FrameFields p.0 l.words p.1.words × (p.1.bytes ≡ l.bytes)) read (
      (at_a.0.0, a.0.1.words, at_a.0.1, at_a.0.2, (at_b.0.0, b.0.1.words, at_b.0.1, at_b.0.2, (at_c.0.0, c.0.1.words, at_c.0.1, at_c.0.2, (at_d.0.0, d.0.1.words, at_d.0.1, at_d.0.2, refl)))),
      at_d.1 ∙ at_c.1 ∙ at_b.1 ∙ at_a.1,
    )

pub frame_again : (l : Left) (frame : Frame) (rest : List Word) → FrameFields frame l.words rest → frame_next l ≡ Ok (frame, left_of l rest)
unfolding frame_next
frame_again l frame rest a =
    let b = a.4 in
    let c = b.4 in
    let d = c.4 in
    let at_a = number_again 0 most_number kinds.Range l frame.llx a.1 (a.0, a.2, a.3) (omega arith) in
    let at_b = number_again 0 most_number kinds.Range (left_of l a.1) frame.lly b.1 (b.0, b.2, b.3) (omega arith) in
    let at_c = number_again (frame.llx + 1) most_number kinds.Range (left_of l b.1) frame.urx c.1 (c.0, c.2, c.3) (omega arith) in
    let at_d = number_again (frame.lly + 1) most_number kinds.Range (left_of l c.1) frame.ury rest (d.0, d.2 ∙ ap (λ (ws : List Word). d.0 ∷ ws) d.4, d.3) (omega arith) in
    rw (at_a, at_b, at_c, at_d) refl

-- ---- a die's rows

abbrev pub RowsFields : RowsFound → List Word → List Word → Type 0
RowsFields rows = Numbers (any_number rows.start_x ∷ any_number rows.start_y ∷ ranged 1 most_number rows.length ∷ ranged 1 most_number rows.height ∷ ranged 1 (2 ^ 16) rows.repeat ∷ [])

pub rows_ok : (at : ℕ) (l : Left) (rows : RowsFound) (r : Left) → rows_next at l ≡ Ok (rows, r) → RowsFields rows l.words r.words × (r.bytes ≡ l.bytes)
unfolding rows_next
rows_ok at l rows r e =
    let a = bind_ok (number_next 0 most_number kinds.Range l) _ _ e in
    let b = bind_ok (number_next 0 most_number kinds.Range a.0.1) _ _ a.2 in
    let s = bind_ok (sizes_next b.0.1) _ _ b.2 in
    let d = bind_ok (number_next 1 (2 ^ 16) kinds.Limit s.0.1) _ _ s.2 in
    let at_a = number_ok 0 most_number kinds.Range l a.0.0 a.0.1 a.1 in
    let at_b = number_ok 0 most_number kinds.Range a.0.1 b.0.0 b.0.1 b.1 in
    let at_s = sizes_ok b.0.1 s.0.0 s.0.1 s.1 in
    let at_d = number_ok 1 (2 ^ 16) kinds.Limit s.0.1 d.0.0 d.0.1 d.1 in
    let read : ◌≡◌ {A = RowsFound × Left} (record { at = at; start_x = a.0.0; start_y = b.0.0; length = s.0.0.0; height = s.0.0.1; repeat = d.0.0 }, d.0.1) (rows, r) = cc in
    let h = at_s.0.4 in
    subst (λ (p : RowsFound × Left). RowsFields p.0 l.words p.1.words × (p.1.bytes ≡ l.bytes)) read (
      (
        at_a.0.0,
        a.0.1.words,
        at_a.0.1,
        at_a.0.2,
        (
          at_b.0.0,
          b.0.1.words,
          at_b.0.1,
          at_b.0.2,
          (at_s.0.0, at_s.0.1, at_s.0.2, at_s.0.3, (h.0, h.1, h.2, h.3, (at_d.0.0, d.0.1.words, h.4 ∙ at_d.0.1, at_d.0.2, refl))),
        ),
      ),
      at_d.1 ∙ at_s.1 ∙ at_b.1 ∙ at_a.1,
    )

-- rows with the place of their keyword
abbrev pub rows_at : ℕ → RowsFound → RowsFound
rows_at at rows = record { at = at; start_x = rows.start_x; start_y = rows.start_y; length = rows.length; height = rows.height; repeat = rows.repeat }

pub rows_again : (at : ℕ) (l : Left) (rows : RowsFound) (rest : List Word) → RowsFields rows l.words rest → rows_next at l ≡ Ok (rows_at at rows, left_of l rest)
unfolding rows_next
rows_again at l rows rest a =
    let b = a.4 in
    let w = b.4 in
    let h = w.4 in
    let d = h.4 in
    let at_a = number_again 0 most_number kinds.Range l rows.start_x a.1 (a.0, a.2, a.3) (omega arith) in
    let at_b = number_again 0 most_number kinds.Range (left_of l a.1) rows.start_y b.1 (b.0, b.2, b.3) (omega arith) in
    let at_s = sizes_again (left_of l b.1) (rows.length, rows.height) h.1 (w.0, w.1, w.2, w.3, (h.0, h.1, h.2, h.3, refl)) in
    let at_d = number_again 1 (2 ^ 16) kinds.Limit (left_of l h.1) rows.repeat rest (d.0, d.2 ∙ ap (λ (ws : List Word). d.0 ∷ ws) d.4, d.3) (omega arith) in
    rw (at_a, at_b, at_s, at_d) refl

-- ---- a die's technology

known_ok : (place : Option ℕ) (at : ℕ) (l : Left) (tech : TechId) (r : Left) → known_tech place at l ≡ Ok (tech, r) → (place ≡ Some tech.0) × (l ≡ r)
known_ok None at l tech r e = absurd cc
known_ok (Some number) at l tech r e =
    let same = ok_is {A = TechId × Left} (record { 0 = number }, l) (tech, r) e in
    (ap (λ (p : TechId × Left). Some p.0.0) same, ap (λ (p : TechId × Left). p.1) same)

abbrev name_of_tech : TechText → List ℕ
name_of_tech tech = tech.name

pub tech_ok : (techs : List TechText) (l : Left) (tech : TechId) (r : Left) → tech_name_next (tech_name_list techs) l ≡ Ok (tech, r) → NamesTech techs tech.0 l.words r.words × (r.bytes ≡ l.bytes)
unfolding tech_name_next
tech_ok techs l tech r e =
    let n = bind_ok (name_next l) _ _ e in
    let named = name_ok l n.0.0 n.0.1 n.1 in
    let known = known_ok (place_of n.0.0.text (tech_name_list techs)) n.0.0.at n.0.1 tech r n.2 in
    let place = place_is name_of_tech n.0.0.text techs tech.0 known.0 in
    subst (λ (left : Left). NamesTech techs tech.0 l.words left.words × (left.bytes ≡ l.bytes)) known.1
    ((place.0, place.1, subst (λ (name : List ℕ). Named name l.words n.0.1.words) (sym place.2) named.0), named.1)

pub tech_again : (techs : List TechText) (l : Left) (number : ℕ) (rest : List Word) → AreNew [] (tech_name_list techs) → NamesTech techs number l.words rest
    → tech_name_next (tech_name_list techs) l ≡ Ok (record { 0 = number }, left_of l rest)
unfolding tech_name_next
tech_again techs l number rest new t =
    let n = name_again t.0.name l rest t.2 in
    let place : place_of t.0.name (tech_name_list techs) ≡ Some number = place_again name_of_tech [] techs number t.0 new t.1 ∙ ap Some (omega arith) in
    rw (n, t.2.2, place) refl

-- ---- the sections that were read stay read

abbrev pub Kept : {A : Type 0} → Option A → Option A → Type 0
Kept None after = Unit {0}
Kept (Some x) after = after ≡ Some x

kept_refl : {A : Type 0} (o : Option A) → Kept o o
kept_refl None = tt
kept_refl (Some x) = refl

kept_then : {A : Type 0} (a b c : Option A) → Kept a b → Kept b c → Kept a c
kept_then None b c p q = tt
kept_then {A} (Some x) b c p q = subst (λ (o : Option A). Kept o c → c ≡ Some x) (sym p) (λ (h : c ≡ Some x). h) q

kept_none : {A : Type 0} (a b : Option A) → is_some a ≡ false → Kept a b
kept_none None b e = tt
kept_none (Some x) b e = absurd cc

-- what was read goes on being read
pub kept_is : {A : Type 0} (a b : Option A) (d : A) → is_some a ≡ true → Kept a b → unwrap_or a d ≡ unwrap_or b d
kept_is None b d e k = absurd cc
kept_is (Some x) b d e k = sym (ap (λ o. unwrap_or o d) k)

pub record Keeps (a b : Found) : Type 0 where
  pub frame : Kept a.frame b.frame
  pub top_percent : Kept a.top.percent b.top.percent
  pub bottom_percent : Kept a.bottom.percent b.bottom.percent
  pub top_rows : Kept a.top.rows b.top.rows
  pub bottom_rows : Kept a.bottom.rows b.bottom.rows
  pub top_tech : Kept a.top.tech b.top.tech
  pub bottom_tech : Kept a.bottom.tech b.bottom.tech
  pub size : Kept a.size b.size
  pub spacing : Kept a.spacing b.spacing
  pub cost : Kept a.cost b.cost

pub keeps_refl : (a : Found) → Keeps a a
keeps_refl a = record {
  frame = kept_refl a.frame;
  top_percent = kept_refl a.top.percent;
  bottom_percent = kept_refl a.bottom.percent;
  top_rows = kept_refl a.top.rows;
  bottom_rows = kept_refl a.bottom.rows;
  top_tech = kept_refl a.top.tech;
  bottom_tech = kept_refl a.bottom.tech;
  size = kept_refl a.size;
  spacing = kept_refl a.spacing;
  cost = kept_refl a.cost;
}

pub keeps_then : (a b c : Found) → Keeps a b → Keeps b c → Keeps a c
keeps_then a b c p q = record {
  frame = kept_then a.frame b.frame c.frame p.frame q.frame;
  top_percent = kept_then a.top.percent b.top.percent c.top.percent p.top_percent q.top_percent;
  bottom_percent = kept_then a.bottom.percent b.bottom.percent c.bottom.percent p.bottom_percent q.bottom_percent;
  top_rows = kept_then a.top.rows b.top.rows c.top.rows p.top_rows q.top_rows;
  bottom_rows = kept_then a.bottom.rows b.bottom.rows c.bottom.rows p.bottom_rows q.bottom_rows;
  top_tech = kept_then a.top.tech b.top.tech c.top.tech p.top_tech q.top_tech;
  bottom_tech = kept_then a.bottom.tech b.bottom.tech c.bottom.tech p.bottom_tech q.bottom_tech;
  size = kept_then a.size b.size c.size p.size q.size;
  spacing = kept_then a.spacing b.spacing c.spacing p.spacing q.spacing;
  cost = kept_then a.cost b.cost c.cost p.cost q.cost;
}

-- ---- one section

-- one number as a list of numbers
number_as_list : (least most : ℕ) (above : Kind) (l : Left) (n : ℕ) (r : Left) → number_next least most above l ≡ Ok (n, r) → Numbers (ranged least most n ∷ []) l.words r.words × (r.bytes ≡ l.bytes)
number_as_list least most above l n r e =
    let o = number_ok least most above l n r e in
    ((o.0.0, r.words, o.0.1, o.0.2, refl), o.1)

-- a section's fields were read
pub record FieldsTaken (techs : List TechText) (section : Section) (found : Found) (l : Left) (f : Found) (r : Left) : Type 0 where
  pub set : bits f ≡ with_bit (bits found) (section_number section)
  pub keeps : Keeps found f
  pub says : HasFields techs (setup_of f) section l.words r.words
  pub same : r.bytes ≡ l.bytes

pub fields_ok : (techs : List TechText) (section : Section) (at : ℕ) (found : Found) (l : Left) (f : Found) (r : Left) → has_section found section ≡ false
    → fields_next (tech_name_list techs) section at found l ≡ Ok (f, r) → FieldsTaken techs section found l f r
unfolding fields_next
fields_ok techs DieSize at found l f r new e =
    let t = bind_ok (frame_next l) _ _ e in
    let taken = frame_ok l t.0.0 t.0.1 t.1 in
    let read : ◌≡◌ {A = Found × Left} (record found { frame = Some t.0.0 }, t.0.1) (f, r) = cc in
    subst (λ (p : Found × Left). FieldsTaken techs DieSize found l p.0 p.1) read (record {
      set = refl;
      keeps = record {
        frame = kept_none found.frame (Some t.0.0) new;
        top_percent = kept_refl found.top.percent;
        bottom_percent = kept_refl found.bottom.percent;
        top_rows = kept_refl found.top.rows;
        bottom_rows = kept_refl found.bottom.rows;
        top_tech = kept_refl found.top.tech;
        bottom_tech = kept_refl found.bottom.tech;
        size = kept_refl found.size;
        spacing = kept_refl found.spacing;
        cost = kept_refl found.cost;
      };
      says = taken.0;
      same = taken.1;
    })
fields_ok techs (MaxUtil Top) at found l f r new e =
    let t = bind_ok (number_next 0 100 kinds.Range l) _ _ e in
    let taken = number_as_list 0 100 kinds.Range l t.0.0 t.0.1 t.1 in
    let read : ◌≡◌ {A = Found × Left} (set_die found Top (record found.top { percent = Some t.0.0 }), t.0.1) (f, r) = cc in
    subst (λ (p : Found × Left). FieldsTaken techs (MaxUtil Top) found l p.0 p.1) read (record {
      set = refl;
      keeps = record {
        frame = kept_refl found.frame;
        top_percent = kept_none found.top.percent (Some t.0.0) new;
        bottom_percent = kept_refl found.bottom.percent;
        top_rows = kept_refl found.top.rows;
        bottom_rows = kept_refl found.bottom.rows;
        top_tech = kept_refl found.top.tech;
        bottom_tech = kept_refl found.bottom.tech;
        size = kept_refl found.size;
        spacing = kept_refl found.spacing;
        cost = kept_refl found.cost;
      };
      says = taken.0;
      same = taken.1;
    })
fields_ok techs (Rows Top) at found l f r new e =
    let t = bind_ok (rows_next at l) _ _ e in
    let taken = rows_ok at l t.0.0 t.0.1 t.1 in
    let read : ◌≡◌ {A = Found × Left} (set_die found Top (record found.top { rows = Some t.0.0 }), t.0.1) (f, r) = cc in
    subst (λ (p : Found × Left). FieldsTaken techs (Rows Top) found l p.0 p.1) read (record {
      set = refl;
      keeps = record {
        frame = kept_refl found.frame;
        top_percent = kept_refl found.top.percent;
        bottom_percent = kept_refl found.bottom.percent;
        top_rows = kept_none found.top.rows (Some t.0.0) new;
        bottom_rows = kept_refl found.bottom.rows;
        top_tech = kept_refl found.top.tech;
        bottom_tech = kept_refl found.bottom.tech;
        size = kept_refl found.size;
        spacing = kept_refl found.spacing;
        cost = kept_refl found.cost;
      };
      says = taken.0;
      same = taken.1;
    })
fields_ok techs (Tech Top) at found l f r new e =
    let t = bind_ok (tech_name_next (tech_name_list techs) l) _ _ e in
    let taken = tech_ok techs l t.0.0 t.0.1 t.1 in
    let read : ◌≡◌ {A = Found × Left} (set_die found Top (record found.top { tech = Some t.0.0 }), t.0.1) (f, r) = cc in
    subst (λ (p : Found × Left). FieldsTaken techs (Tech Top) found l p.0 p.1) read (record {
      set = refl;
      keeps = record {
        frame = kept_refl found.frame;
        top_percent = kept_refl found.top.percent;
        bottom_percent = kept_refl found.bottom.percent;
        top_rows = kept_refl found.top.rows;
        bottom_rows = kept_refl found.bottom.rows;
        top_tech = kept_none found.top.tech (Some t.0.0) new;
        bottom_tech = kept_refl found.bottom.tech;
        size = kept_refl found.size;
        spacing = kept_refl found.spacing;
        cost = kept_refl found.cost;
      };
      says = taken.0;
      same = taken.1;
    })
fields_ok techs (MaxUtil Bottom) at found l f r new e =
    let t = bind_ok (number_next 0 100 kinds.Range l) _ _ e in
    let taken = number_as_list 0 100 kinds.Range l t.0.0 t.0.1 t.1 in
    let read : ◌≡◌ {A = Found × Left} (set_die found Bottom (record found.bottom { percent = Some t.0.0 }), t.0.1) (f, r) = cc in
    subst (λ (p : Found × Left). FieldsTaken techs (MaxUtil Bottom) found l p.0 p.1) read (record {
      set = refl;
      keeps = record {
        frame = kept_refl found.frame;
        top_percent = kept_refl found.top.percent;
        bottom_percent = kept_none found.bottom.percent (Some t.0.0) new;
        top_rows = kept_refl found.top.rows;
        bottom_rows = kept_refl found.bottom.rows;
        top_tech = kept_refl found.top.tech;
        bottom_tech = kept_refl found.bottom.tech;
        size = kept_refl found.size;
        spacing = kept_refl found.spacing;
        cost = kept_refl found.cost;
      };
      says = taken.0;
      same = taken.1;
    })
fields_ok techs (Rows Bottom) at found l f r new e =
    let t = bind_ok (rows_next at l) _ _ e in
    let taken = rows_ok at l t.0.0 t.0.1 t.1 in
    let read : ◌≡◌ {A = Found × Left} (set_die found Bottom (record found.bottom { rows = Some t.0.0 }), t.0.1) (f, r) = cc in
    subst (λ (p : Found × Left). FieldsTaken techs (Rows Bottom) found l p.0 p.1) read (record {
      set = refl;
      keeps = record {
        frame = kept_refl found.frame;
        top_percent = kept_refl found.top.percent;
        bottom_percent = kept_refl found.bottom.percent;
        top_rows = kept_refl found.top.rows;
        bottom_rows = kept_none found.bottom.rows (Some t.0.0) new;
        top_tech = kept_refl found.top.tech;
        bottom_tech = kept_refl found.bottom.tech;
        size = kept_refl found.size;
        spacing = kept_refl found.spacing;
        cost = kept_refl found.cost;
      };
      says = taken.0;
      same = taken.1;
    })
fields_ok techs (Tech Bottom) at found l f r new e =
    let t = bind_ok (tech_name_next (tech_name_list techs) l) _ _ e in
    let taken = tech_ok techs l t.0.0 t.0.1 t.1 in
    let read : ◌≡◌ {A = Found × Left} (set_die found Bottom (record found.bottom { tech = Some t.0.0 }), t.0.1) (f, r) = cc in
    subst (λ (p : Found × Left). FieldsTaken techs (Tech Bottom) found l p.0 p.1) read (record {
      set = refl;
      keeps = record {
        frame = kept_refl found.frame;
        top_percent = kept_refl found.top.percent;
        bottom_percent = kept_refl found.bottom.percent;
        top_rows = kept_refl found.top.rows;
        bottom_rows = kept_refl found.bottom.rows;
        top_tech = kept_refl found.top.tech;
        bottom_tech = kept_none found.bottom.tech (Some t.0.0) new;
        size = kept_refl found.size;
        spacing = kept_refl found.spacing;
        cost = kept_refl found.cost;
      };
      says = taken.0;
      same = taken.1;
    })
fields_ok techs TerminalSize at found l f r new e =
    let t = bind_ok (sizes_next l) _ _ e in
    let taken = sizes_ok l t.0.0 t.0.1 t.1 in
    let read : ◌≡◌ {A = Found × Left} (record found { size = Some t.0.0 }, t.0.1) (f, r) = cc in
    subst (λ (p : Found × Left). FieldsTaken techs TerminalSize found l p.0 p.1) read (record {
      set = refl;
      keeps = record {
        frame = kept_refl found.frame;
        top_percent = kept_refl found.top.percent;
        bottom_percent = kept_refl found.bottom.percent;
        top_rows = kept_refl found.top.rows;
        bottom_rows = kept_refl found.bottom.rows;
        top_tech = kept_refl found.top.tech;
        bottom_tech = kept_refl found.bottom.tech;
        size = kept_none found.size (Some t.0.0) new;
        spacing = kept_refl found.spacing;
        cost = kept_refl found.cost;
      };
      says = taken.0;
      same = taken.1;
    })
fields_ok techs TerminalSpacing at found l f r new e =
    let t = bind_ok (number_next 0 most_number kinds.Range l) _ _ e in
    let taken = number_as_list 0 most_number kinds.Range l t.0.0 t.0.1 t.1 in
    let read : ◌≡◌ {A = Found × Left} (record found { spacing = Some t.0.0 }, t.0.1) (f, r) = cc in
    subst (λ (p : Found × Left). FieldsTaken techs TerminalSpacing found l p.0 p.1) read (record {
      set = refl;
      keeps = record {
        frame = kept_refl found.frame;
        top_percent = kept_refl found.top.percent;
        bottom_percent = kept_refl found.bottom.percent;
        top_rows = kept_refl found.top.rows;
        bottom_rows = kept_refl found.bottom.rows;
        top_tech = kept_refl found.top.tech;
        bottom_tech = kept_refl found.bottom.tech;
        size = kept_refl found.size;
        spacing = kept_none found.spacing (Some t.0.0) new;
        cost = kept_refl found.cost;
      };
      says = taken.0;
      same = taken.1;
    })
fields_ok techs TerminalCost at found l f r new e =
    let t = bind_ok (number_next 0 most_number kinds.Range l) _ _ e in
    let taken = number_as_list 0 most_number kinds.Range l t.0.0 t.0.1 t.1 in
    let read : ◌≡◌ {A = Found × Left} (record found { cost = Some t.0.0 }, t.0.1) (f, r) = cc in
    subst (λ (p : Found × Left). FieldsTaken techs TerminalCost found l p.0 p.1) read (record {
      set = refl;
      keeps = record {
        frame = kept_refl found.frame;
        top_percent = kept_refl found.top.percent;
        bottom_percent = kept_refl found.bottom.percent;
        top_rows = kept_refl found.top.rows;
        bottom_rows = kept_refl found.bottom.rows;
        top_tech = kept_refl found.top.tech;
        bottom_tech = kept_refl found.bottom.tech;
        size = kept_refl found.size;
        spacing = kept_refl found.spacing;
        cost = kept_none found.cost (Some t.0.0) new;
      };
      says = taken.0;
      same = taken.1;
    })
