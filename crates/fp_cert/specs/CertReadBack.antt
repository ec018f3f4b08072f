-- What the certificate of a run of the problem says is read as that run.
use Rattle.std.proofs.Common.{◌≡◌, ℕ, zero, suc, ◌+◌, ◌-◌, ◌^◌, ◌<◌, ◌≤◌, Bool, true, false, cond, List, [], ◌∷◌, ◌++◌, length, flat_map, refl, sym, ap, subst, ◌∙◌, arith, append_assoc, length-append, inl, inr}
use Rattle.std.specs.Prelude.{All, codes, decimal, ℤ, pos, negsuc, nat_abs, slice_index, ◌==◌}
use Rattle.std.specs.Fmt.{signed_decimal}
use Rattle.std.proofs.lemmas.Bool.{eqb-true, eqb-false}
use Rattle.std.proofs.lemmas.Int.{ints}
use Rattle.std.proofs.lemmas.List.{append-nil}
use Rattle.std.proofs.lemmas.List.Sums.{sum_by-append, sum_by-cons}
use Rattle.fp_base.specs.declared.ids.CellId.{CellId}
use Rattle.fp_base.specs.declared.ids.Die.{Die}
use Rattle.fp_base.specs.declared.ids.Die.TheVariants.{Top, Bottom}
use Rattle.fp_text.specs.Words.{is_blank, Word, words_from}
use Rattle.fp_text.specs.WordsLaws.{words-one}
use Rattle.fp_text.specs.Numbers.{value_from, signed_of, Spells}
use Rattle.fp_text.specs.NumbersLaws.{IsSolid, is_solid, solid-tested, decimal-solid, decimal-spells, signed-decimal}
use Rattle.fp_text.specs.Items.{Each}
use Rattle.fp_tech.specs.Plan.{segments}
use Rattle.fp_tech.specs.PlanLaws.{few_segments}
use Rattle.fp_netlist.specs.Netlist.{Netlist, IsSound}
use Rattle.fp_place.specs.Drawing.{IsCoordinate}
use Rattle.fp_cert.specs.declared.shown.CellShown.{CellShown}
use Rattle.fp_cert.specs.declared.shown.CutShown.{CutShown}
use Rattle.fp_cert.specs.declared.shown.Ending.{Ending}
use Rattle.fp_cert.specs.declared.shown.Ending.TheVariants.{Start, Better, NotBetter, NoRow}
use Rattle.fp_cert.specs.Shown.{ShownRow, ShownTrial, ShownRun}
use Rattle.fp_cert.specs.CertText.{number_line, cell_line, row_lines, die_word, die_lines, cut_line, trial_lines, top_line, top_lines, ending_line, shown_lines, trial_text, trials_text, version_lines, cert_text}
use Rattle.fp_cert.specs.OfProblem.{most_shown, most_lines, IsTargetAt, IsCellOf, IsRowOf, IsCutOf, cells_in, IsPlacedTrialOf, IsRowlessTrialOf, IsEndedTrialOf, IsTrialOf, IsRunOf}
use Rattle.fp_cert.specs.CertGrammar.{most_number, most_target, Keyword, Number, Below, Coordinate, TargetAt, IsNumberLine, IsCellLine, IsRowLines, IsDieLines, IsCutLine, IsListed, AreLines, IsTopLine, AreTops, IsEnding, AreShown, IsTrialText, IsVersion, ReadsCert}
use Rattle.fp_cert.specs.CertRunLaws.{run_is}

-- ---- pieces of a text

-- wherever the piece stands, its words say this
pub record Says (stands : List Word → List Word → Type 0) (piece : List ℕ) : Type 0 where
  pub said : (more : List ℕ) (at : ℕ) → (to : ℕ) × stands (words_from at (piece ++ more)) (words_from to more)

-- one behind the other
abbrev pub Then : (List Word → List Word → Type 0) → (List Word → List Word → Type 0) → List Word → List Word → Type 0
Then first second words rest = (mid : List Word) × first words mid × second mid rest

pub then_says : {first second : List Word → List Word → Type 0} {a b : List ℕ} → Says first a → Says second b → Says (Then first second) (a ++ b)
then_says {first = first} {second = second} {a = a} {b = b} one other = record {
  said = λ more at.
      let front = one.said (b ++ more) at in
      let back = other.said more front.0 in
      (back.0, subst (λ (text : List ℕ). Then first second (words_from at text) (words_from back.0 more)) (sym (append_assoc a b more)) (words_from front.0 (b ++ more), front.1, back.1));
}

pub says_so : {old new : List Word → List Word → Type 0} {a : List ℕ} → Says old a → ((u v : List Word) → old u v → new u v) → Says new a
says_so one change = record { said = λ more at. let is = one.said more at in (is.0, change _ _ is.1) }

-- items one behind the other
each_says : {A : Type 0} (fact : A → Type 0) (stands : A → List Word → List Word → Type 0) (lines : A → List ℕ) → ((x : A) → fact x → Says (stands x) (lines x))
    → (before xs : List A) → All fact xs → Says (Each (λ earlier. stands) before xs) (flat_map lines xs)
each_says fact stands lines one before [] all = record { said = λ more at. (at, refl) }
each_says fact stands lines one before (x ∷ xs) all =
    says_so (then_says (one x (all 0 x (omega arith))) (each_says fact stands lines one (before ++ x ∷ []) xs (λ k d lt. all (suc k) d (omega arith)))) (λ u v s. s)

-- ---- a line of words

-- words one behind the other, and a line feed
unfoldable line_from : List ℕ → List (List ℕ) → List ℕ
line_from so_far [] = so_far ++ codes "\n"
line_from so_far (text ∷ texts) = line_from (so_far ++ (codes " " ++ text)) texts

-- what stands behind the first word, up to more
behind : List (List ℕ) → List ℕ → List ℕ
behind [] more = 10 ∷ more
behind (text ∷ texts) more = 32 ∷ (text ++ behind texts more)

line_is : (so_far : List ℕ) (texts : List (List ℕ)) (more : List ℕ) → line_from so_far texts ++ more ≡ so_far ++ behind texts more
unfolding line_from behind
line_is so_far [] more = append_assoc so_far (codes "\n") more
line_is so_far (text ∷ texts) more = line_is (so_far ++ (32 ∷ text)) texts more ∙ append_assoc so_far (32 ∷ text) (behind texts more)

-- the words are these texts
abbrev Spelled : List ℕ → List (List ℕ) → List Word → List Word → Type 0
Spelled text [] words rest = Keyword text words rest
Spelled text (next ∷ texts) words rest = (mid : List Word) × Keyword text words mid × Spelled next texts mid rest

abbrev AreSolid : List (List ℕ) → Type 0
AreSolid [] = Unit {0}
AreSolid (text ∷ texts) = IsSolid text × AreSolid texts

spelled : (text : List ℕ) (texts : List (List ℕ)) → IsSolid text → AreSolid texts → (more : List ℕ) (at : ℕ)
    → (to : ℕ) × Spelled text texts (words_from at (text ++ behind texts more)) (words_from to more)
unfolding behind
spelled text [] solid all more at = (at + length text + 1, (record { at = at; text = text }, words-one text more 10 at solid.some solid.no_blank refl, refl))
spelled text (next ∷ texts) solid all more at =
    let later = spelled next texts all.0 all.1 more (at + length text + 1) in (
      later.0,
      (
        words_from (at + length text + 1) (next ++ behind texts more),
        (record { at = at; text = text }, words-one text (next ++ behind texts more) 32 at solid.some solid.no_blank refl, refl),
        later.1,
      ),
    )

line_says : (text : List ℕ) (texts : List (List ℕ)) → IsSolid text → AreSolid texts → Says (Spelled text texts) (line_from text texts)
line_says text texts solid all = record {
  said = λ more at.
      let is = spelled text texts solid all more at in
      (is.0, subst (λ (bytes : List ℕ). Spelled text texts (words_from at bytes) (words_from is.0 more)) (sym (line_is text texts more)) is.1);
}

-- ---- what a word tells

told_number : (least most n : ℕ) → least ≤ n → n ≤ most → n < 2 ^ 64 → (words rest : List Word) → Keyword (decimal n) words rest → Number least most n words rest
told_number least most n low high fits words rest k = (k.0, k.1, subst (λ (text : List ℕ). Spells least most text n) (sym k.2) (decimal-spells least most n low high fits))

told_below : (count n : ℕ) → count ≤ 2 ^ 30 → n < count → (words rest : List Word) → Keyword (decimal n) words rest → Below count n words rest
told_below count n few within words rest k = (told_number 0 most_number n (omega arith) (omega arith) (omega arith) words rest k, within)

told_coordinate : (at : ℤ) → IsCoordinate at → (words rest : List Word) → Keyword (signed_decimal at) words rest → Coordinate at words rest
told_coordinate (pos n) is words rest k =
    let most : n ≤ 2 ^ 30 = omega (arith, ints, is.most) in
    (n, refl, told_number 0 most_number n (omega arith) (omega arith) (omega arith) words rest k)
told_coordinate (negsuc n) is words rest k = absurd (omega (arith, ints, is.least))

target_small : (at : ℤ) → IsTargetAt at → nat_abs at ≤ 2 ^ 32
target_small (pos n) is = omega (arith, ints, is.most)
target_small (negsuc n) is = omega (arith, ints, is.least)

told_target : (at : ℤ) → IsTargetAt at → (words rest : List Word) → Keyword (signed_decimal at) words rest → TargetAt at words rest
told_target at is words rest k =
    (k.0, k.1, ap (signed_of most_target) k.2 ∙ signed-decimal most_target at (target_small at is) (omega (arith, target_small at is)))

signed_solid : (at : ℤ) → nat_abs at ≤ 2 ^ 32 → IsSolid (signed_decimal at)
signed_solid (pos n) few = decimal-solid n (omega (arith, few))
signed_solid (negsuc n) few =
    let digits = decimal-solid (suc n) (omega (arith, few)) in
    record { some = omega arith; no_blank = no_blank digits }
  where
    no_blank : IsSolid (decimal (suc n)) → (i : ℕ) → i < length (45 ∷ decimal (suc n)) → is_blank (slice_index (45 ∷ decimal (suc n)) i) ≡ false
    no_blank digits zero lt = refl
    no_blank digits (suc i) lt = digits.no_blank i (omega arith)

coordinate_solid : (at : ℤ) → IsCoordinate at → IsSolid (signed_decimal at)
coordinate_solid (pos n) is = decimal-solid n (omega (arith, ints, is.most))
coordinate_solid (negsuc n) is = absurd (omega (arith, ints, is.least))

-- ---- lines

number_line_says : (keyword : List ℕ) (least most n : ℕ) → is_solid keyword ≡ true → least ≤ n → n ≤ most → n < 2 ^ 64 → Says (IsNumberLine keyword least most n) (number_line keyword n)
unfolding line_from
number_line_says keyword least most n solid low high fits =
    says_so (line_says keyword (decimal n ∷ []) (solid-tested keyword solid) (decimal-solid n fits, tt))
    (λ u v s. record { after_keyword = s.0; begins = s.1; number = told_number least most n low high fits s.0 v s.2 })

cell_says : (p : Netlist) → length p.cells ≤ 2 ^ 18 → (cell : CellShown) → IsCellOf p cell → Says (IsCellLine p cell) (cell_line cell)
unfolding line_from
cell_says p few cell is =
    let within : cell.cell.0 < length p.cells = is.within in
    let dual : cell.dual ≤ 2 ^ 60 = is.dual in
    let solid_x = coordinate_solid cell.x is.x in
    let solid_target_x = signed_solid cell.target.x (target_small cell.target.x is.target_x) in
    let solid_target_y = signed_solid cell.target.y (target_small cell.target.y is.target_y) in
    says_so
    (line_says (codes "Cell") (decimal cell.cell.0 ∷ signed_decimal cell.x ∷ signed_decimal cell.target.x ∷ signed_decimal cell.target.y ∷ decimal cell.dual ∷ [])
    (solid-tested (codes "Cell") refl) (decimal-solid cell.cell.0 (omega arith), (solid_x, (solid_target_x, (solid_target_y, (decimal-solid cell.dual (omega arith), tt))))))
    (λ u v s. record {
      after_keyword = s.0;
      after_cell = s.2.0;
      after_x = s.2.2.0;
      after_target_x = s.2.2.2.0;
      after_target_y = s.2.2.2.2.0;
      begins = s.1;
      cell = told_below (length p.cells) cell.cell.0 (omega arith) within s.0 s.2.0 s.2.1;
      x = told_coordinate cell.x is.x s.2.0 s.2.2.0 s.2.2.1;
      target_x = told_target cell.target.x is.target_x s.2.2.0 s.2.2.2.0 s.2.2.2.1;
      target_y = told_target cell.target.y is.target_y s.2.2.2.0 s.2.2.2.2.0 s.2.2.2.2.1;
      dual = told_number 0 most_shown cell.dual (omega arith) dual (omega arith) s.2.2.2.2.0 v s.2.2.2.2.2;
    })

cut_says : (p : Netlist) (slots : ℕ) → length p.nets ≤ 2 ^ 18 → slots ≤ 2 ^ 30 → (cut : CutShown) → IsCutOf p slots cut → Says (IsCutLine p slots cut) (cut_line cut)
unfolding line_from
cut_says p slots few few_slots cut is =
    let net : cut.net.0 < length p.nets = is.net in
    let slot : cut.slot.0 < slots = is.slot in
    let price : cut.price ≤ 2 ^ 60 = is.price in
    says_so
    (line_says (codes "Cut") (decimal cut.net.0 ∷ decimal cut.slot.0 ∷ decimal cut.price ∷ []) (solid-tested (codes "Cut") refl)
    (decimal-solid cut.net.0 (omega arith), (decimal-solid cut.slot.0 (omega arith), (decimal-solid cut.price (omega arith), tt))))
    (λ u v s. record {
      after_keyword = s.0;
      after_net = s.2.0;
      after_slot = s.2.2.0;
      begins = s.1;
      net = told_below (length p.nets) cut.net.0 (omega arith) net s.0 s.2.0 s.2.1;
      slot = told_below slots cut.slot.0 few_slots slot s.2.0 s.2.2.0 s.2.2.1;
      price = told_number 0 most_shown cut.price (omega arith) price (omega arith) s.2.2.0 v s.2.2.2;
    })

top_says : (p : Netlist) → length p.cells ≤ 2 ^ 18 → (cell : CellId) → cell.0 < length p.cells → Says (IsTopLine p cell) (top_line cell)
unfolding line_from
top_says p few cell within =
    says_so (line_says (codes "Cell") (decimal cell.0 ∷ []) (solid-tested (codes "Cell") refl) (decimal-solid cell.0 (omega arith), tt))
    (λ u v s. record { after_keyword = s.0; begins = s.1; cell = told_below (length p.cells) cell.0 (omega arith) within s.0 v s.2 })

listed_says : {A : Type 0} (keyword : List ℕ) → is_solid keyword ≡ true → (fact : A → Type 0) (stands : A → List Word → List Word → Type 0) (lines : A → List ℕ)
    → ((x : A) → fact x → Says (stands x) (lines x)) → (xs : List A) → length xs ≤ most_lines → All fact xs
    → Says (IsListed keyword stands xs) (number_line keyword (length xs) ++ flat_map lines xs)
listed_says keyword solid fact stands lines one xs few all =
    says_so (then_says (number_line_says keyword 0 most_lines (length xs) solid (omega arith) few (omega (arith, few))) (each_says fact stands lines one [] xs all))
    (λ u v s. record { after_count = s.0; count = s.1; lines = s.2 })

-- ---- segments

row_says : (p : Netlist) → length p.cells ≤ 2 ^ 18 → (taken : ℕ) (row : ShownRow) → IsRowOf p row → length row.cells ≤ most_lines - taken
    → Says (IsRowLines p taken row) (row_lines row)
unfolding line_from
row_says p few taken row is room =
    let first : row.first ≤ 2 ^ 60 = is.first in
    let head = line_says (codes "Segment") (decimal (length row.cells) ∷ decimal row.first ∷ []) (solid-tested (codes "Segment") refl)
    (decimal-solid (length row.cells) (omega arith), (decimal-solid row.first (omega arith), tt)) in
    says_so (then_says head (each_says (IsCellOf p) (IsCellLine p) cell_line (cell_says p few) [] row.cells is.cells))
    (λ u v s. record {
      after_count = s.1.2.0;
      after_first = s.0;
      count = record { after_keyword = s.1.0; begins = s.1.1; number = told_number 0 (most_lines - taken) (length row.cells) (omega arith) room (omega arith) s.1.0 s.1.2.0 s.1.2.1 };
      dual = told_number 0 most_shown row.first (omega arith) first (omega arith) s.1.2.0 s.0 s.1.2.2;
      lines = s.2;
    })

rows_say : (p : Netlist) → length p.cells ≤ 2 ^ 18 → (taken : ℕ) (before rows : List ShownRow) → All (IsRowOf p) rows → taken + cells_in (before ++ rows) ≤ most_lines
    → Says (Each (λ earlier. IsRowLines p (taken + cells_in earlier)) before rows) (flat_map row_lines rows)
rows_say p few taken before [] all room = record { said = λ more at. (at, refl) }
rows_say p few taken before (row ∷ rows) all room =
    let parts : cells_in (before ++ row ∷ rows) ≡ cells_in before + (length row.cells + cells_in rows) =
    sum_by-append (λ (shown : ShownRow). length shown.cells) before (row ∷ rows) ∙ ap (λ (n : ℕ). cells_in before + n) (sum_by-cons (λ (shown : ShownRow). length shown.cells) row rows) in
    let later = subst (λ (all : List ShownRow). taken + cells_in all ≤ most_lines) (sym (append_assoc before (row ∷ []) rows)) room in
    says_so
    (then_says (row_says p few (taken + cells_in before) row (all 0 row (omega arith)) (omega (arith, parts, room)))
    (rows_say p few taken (before ++ row ∷ []) rows (λ k d lt. all (suc k) d (omega arith)) later))
    (λ u v s. s)

solid_word : (die : Die) → is_solid (die_word die) ≡ true
solid_word Top = refl
solid_word Bottom = refl

die_says : (p : Netlist) → IsSound p → (die : Die) (taken : ℕ) (rows : List ShownRow) → length rows ≡ length (segments p.plan die) → All (IsRowOf p) rows
    → taken + cells_in rows ≤ most_lines → Says (IsDieLines p die taken rows) (die_lines die rows)
die_says p sound die taken rows many all room =
    let few = few_segments p.plan sound.plan die in
    says_so
    (then_says
    (number_line_says (die_word die) (length (segments p.plan die)) (length (segments p.plan die)) (length rows) (solid_word die) (omega (arith, many)) (omega (arith, many)) (omega (arith, many, few)))
    (rows_say p sound.few_cells taken [] rows all room))
    (λ u v s. record { after_count = s.0; count = s.1; lines = s.2 })

-- ---- a trial

pub lines_say : (p : Netlist) (slots : ℕ) → IsSound p → slots ≤ 2 ^ 30 → (trial : ShownTrial) → IsPlacedTrialOf p slots trial → Says (AreLines p slots trial) (trial_lines trial)
lines_say p slots sound few_slots trial is =
    let few : cells_in trial.top + cells_in trial.bottom ≤ most_lines = is.few_cells in
    let score : trial.score ≤ 2 ^ 60 = is.score in
    let top = die_says p sound Top 0 trial.top (is.segments_are Top) (is.rows Top) (omega (arith, few)) in
    let bottom = die_says p sound Bottom (cells_in trial.top) trial.bottom (is.segments_are Bottom) (is.rows Bottom) few in
    let cuts = listed_says (codes "Terminals") refl (IsCutOf p slots) (IsCutLine p slots) cut_line (cut_says p slots sound.few_nets few_slots) trial.cuts is.few_cuts is.cuts in
    let scored = number_line_says (codes "Score") 0 most_shown trial.score refl (omega arith) score (omega (arith, score)) in
    says_so (then_says (then_says (then_says top bottom) cuts) scored)
    (λ u v s. record {
      after_top = s.1.1.0;
      after_bottom = s.1.0;
      after_cuts = s.0;
      tops = s.1.1.1;
      bottoms = s.1.1.2;
      terminals = s.1.2;
      scored = s.2;
      no_tops = is.no_tops;
    })

tops_say : (p : Netlist) → IsSound p → (cell : ℕ) (trial : ShownTrial) → IsRowlessTrialOf p cell trial → Says (AreTops p trial) (top_lines trial.top_cells)
tops_say p sound cell trial is =
    says_so (listed_says (codes "TopCells") refl (λ (top : CellId). top.0 < length p.cells) (IsTopLine p) top_line (top_says p sound.few_cells) trial.top_cells is.few_tops is.tops)
    (λ u v s. record { tops = s; no_top = is.no_top; no_bottom = is.no_bottom; no_cuts = is.no_cuts; no_score = is.no_score })

-- `Trial`, a number and one more word
plain_says : (number : ℕ) → number ≤ 9 → (word : List ℕ) → is_solid word ≡ true
    → Says (Then (IsNumberLine (codes "Trial") number number number) (Keyword word)) (codes "Trial" ++ (codes " " ++ decimal number) ++ (codes " " ++ word) ++ codes "\n")
unfolding line_from
plain_says number few word solid =
    says_so (line_says (codes "Trial") (decimal number ∷ word ∷ []) (solid-tested (codes "Trial") refl) (decimal-solid number (omega arith), (solid-tested word solid, tt)))
    (λ u v s. (s.2.0, record { after_keyword = s.0; begins = s.1; number = told_number number number number (omega arith) (omega arith) (omega arith) s.0 s.2.0 s.2.1 }, s.2.2))

rowless_says : (p : Netlist) → length p.cells ≤ 2 ^ 18 → (number : ℕ) → number ≤ 9 → (cell : CellId) → cell.0 < length p.cells
    → Says (Then (IsNumberLine (codes "Trial") number number number) (IsEnding p (NoRow cell))) (ending_line number (NoRow cell))
unfolding line_from
rowless_says p few_cells number few cell within =
    says_so
    (line_says (codes "Trial") (decimal number ∷ codes "norow" ∷ decimal cell.0 ∷ []) (solid-tested (codes "Trial") refl)
    (decimal-solid number (omega arith), (solid-tested (codes "norow") refl, (decimal-solid cell.0 (omega arith), tt))))
    (λ u v s. (
      s.2.0,
      record { after_keyword = s.0; begins = s.1; number = told_number number number number (omega arith) (omega arith) (omega arith) s.0 s.2.0 s.2.1 },
      (s.2.2.0, s.2.2.1, told_below (length p.cells) cell.0 (omega arith) within s.2.2.0 v s.2.2.2),
    ))

ending_says : (p : Netlist) → length p.cells ≤ 2 ^ 18 → (slots number : ℕ) → number ≤ 9 → (trial : ShownTrial) (ending : Ending) → IsEndedTrialOf p slots trial ending
    → Says (Then (IsNumberLine (codes "Trial") number number number) (IsEnding p ending)) (ending_line number ending)
ending_says p few_cells slots number few trial Start is = as_line (codes "start") (plain_says number few (codes "start") refl)
  where
    as_line : (word : List ℕ) → Says (Then (IsNumberLine (codes "Trial") number number number) (Keyword word)) (codes "Trial" ++ (codes " " ++ decimal number) ++ (codes " " ++ word) ++ codes "\n")
        → Says (Then (IsNumberLine (codes "Trial") number number number) (Keyword word)) (codes "Trial" ++ (codes " " ++ decimal number) ++ (codes " " ++ word ++ codes "\n"))
    as_line word = subst (Says (Then (IsNumberLine (codes "Trial") number number number) (Keyword word))) (append_assoc (codes "Trial" ++ (codes " " ++ decimal number)) (codes " " ++ word) (codes "\n"))
ending_says p few_cells slots number few trial Better is = subst (Says (Then (IsNumberLine (codes "Trial") number number number) (Keyword (codes "better"))))
    (append_assoc (codes "Trial" ++ (codes " " ++ decimal number)) (codes " better") (codes "\n")) (plain_says number few (codes "better") refl)
ending_says p few_cells slots number few trial NotBetter is = subst (Says (Then (IsNumberLine (codes "Trial") number number number) (Keyword (codes "kept"))))
    (append_assoc (codes "Trial" ++ (codes " " ++ decimal number)) (codes " kept") (codes "\n")) (plain_says number few (codes "kept") refl)
ending_says p few_cells slots number few trial (NoRow cell) is = rowless_says p few_cells number few cell is.within

shown_say : (p : Netlist) (slots : ℕ) → IsSound p → slots ≤ 2 ^ 30 → (trial : ShownTrial) (ending : Ending) → IsEndedTrialOf p slots trial ending
    → Says (AreShown p slots ending trial) (shown_lines ending trial)
shown_say p slots sound few_slots trial Start is = lines_say p slots sound few_slots trial is
shown_say p slots sound few_slots trial Better is = lines_say p slots sound few_slots trial is
shown_say p slots sound few_slots trial NotBetter is = lines_say p slots sound few_slots trial is
shown_say p slots sound few_slots trial (NoRow cell) is = tops_say p sound cell.0 trial is

trial_says : (p : Netlist) (slots : ℕ) → IsSound p → slots ≤ 2 ^ 30 → (number : ℕ) → number ≤ 9 → (trial : ShownTrial) → IsTrialOf p slots trial
    → Says (IsTrialText p slots number trial) (trial_text number trial)
trial_says p slots sound few_slots number few trial is =
    says_so (then_says (ending_says p sound.few_cells slots number few trial trial.ending is) (shown_say p slots sound few_slots trial trial.ending is))
    (λ u v s. record { after_number = s.1.0; after_ending = s.0; numbered = s.1.1; ended = s.1.2; shown = s.2 })

-- ---- the whole text

trials_say : (p : Netlist) (slots : ℕ) → IsSound p → slots ≤ 2 ^ 30 → (before trials : List ShownTrial) → All (IsTrialOf p slots) trials → length before + length trials ≤ 9
    → Says (Each (λ earlier. IsTrialText p slots (length earlier)) before trials) (trials_text (length before) trials)
unfolding trials_text
trials_say p slots sound few_slots before [] all few = record { said = λ more at. (at, refl) }
trials_say p slots sound few_slots before (trial ∷ trials) all few =
    let number : length (before ++ trial ∷ []) ≡ length before + 1 = length-append before (trial ∷ []) in
    let later = trials_say p slots sound few_slots (before ++ trial ∷ []) trials (λ k d lt. all (suc k) d (omega arith)) (omega (arith, number)) in
    says_so
    (then_says (trial_says p slots sound few_slots (length before) (omega arith) trial (all 0 trial (omega arith)))
    (subst (λ (n : ℕ). Says (Each (λ earlier. IsTrialText p slots (length earlier)) (before ++ trial ∷ []) trials) (trials_text n trials)) number later))
    (λ u v s. s)

version_line_says : (version : List ℕ) (n : ℕ) → is_solid version ≡ true → Spells n n version n
    → Says (IsNumberLine (codes "FaceplaceCert") n n n) (codes "FaceplaceCert" ++ (codes " " ++ version) ++ codes "\n")
unfolding line_from
version_line_says version n solid spells =
    says_so (line_says (codes "FaceplaceCert") (version ∷ []) (solid-tested (codes "FaceplaceCert") refl) (solid-tested version solid, tt))
    (λ u v s. record { after_keyword = s.0; begins = s.1; number = (s.2.0, s.2.1, subst (λ (text : List ℕ). Spells n n text n) (sym s.2.2) spells) })

one_spelled : Spells 1 1 (codes "1") 1
unfolding value_from
one_spelled = record { digits = refl; value = refl; at_least = omega arith; at_most = omega arith }

two_spelled : Spells 2 2 (codes "2") 2
unfolding value_from
two_spelled = record { digits = refl; value = refl; at_least = omega arith; at_most = omega arith }

version_says : (cost : ℕ) → cost ≤ 2 ^ 30 → Says (IsVersion cost) (version_lines cost)
version_says cost small = by (cost == 0) refl
  where
    by : (b : Bool) → (cost == 0) ≡ b → Says (IsVersion cost) (cond b (codes "FaceplaceCert 1\n") (codes "FaceplaceCert 2\n" ++ number_line (codes "Cost") cost))
    by true is = says_so (version_line_says (codes "1") 1 refl one_spelled) (λ u v s. inl (eqb-true cost 0 is, s))
    by false is =
        let some : 1 ≤ cost = omega (arith, eqb-false cost 0 is) in
        says_so (then_says (version_line_says (codes "2") 2 refl two_spelled) (number_line_says (codes "Cost") 1 most_number cost refl some small (omega (arith, small)))) (λ u v s. inr s)

no_words : (place : ℕ) → words_from place [] ≡ []
unfolding words_from
no_words place = refl

-- the text of a run of the problem says that run
pub says_run : (p : Netlist) (slots : ℕ) → IsSound p → slots ≤ 2 ^ 30 → (run : ShownRun) → IsRunOf p slots run → ReadsCert p slots (cert_text run) run
says_run p slots sound few_slots run is =
    let limit : run.limit ≤ 8 = is.small_limit in
    let few : length run.trials ≤ 9 = is.few in
    let answer : run.answer ≤ 8 = is.answer in
    let version = version_says run.cost is.cost in
    let limited = number_line_says (codes "Limit") 1 8 run.limit refl is.some_limit is.small_limit (omega (arith, limit)) in
    let count = number_line_says (codes "Trials") 2 9 (length run.trials) refl is.some is.few (omega (arith, few)) in
    let trials = trials_say p slots sound few_slots [] run.trials is.trials (omega (arith, few)) in
    let answered = number_line_says (codes "Answer") 0 8 run.answer refl (omega arith) is.answer (omega (arith, answer)) in
    let s = (then_says (then_says (then_says (then_says version limited) count) trials) answered).said [] 0 in
    whole s.0 (append-nil (cert_text run)) (no_words s.0) s.1
  where
    whole : {text : List ℕ} (to : ℕ) → text ≡ cert_text run → words_from to [] ≡ [] → Then (Then (Then (Then (IsVersion run.cost) (IsNumberLine (codes "Limit") 1 8 run.limit))
        (IsNumberLine (codes "Trials") 2 9 (length run.trials))) (Each (λ before. IsTrialText p slots (length before)) [] run.trials)) (IsNumberLine (codes "Answer") 0 8 run.answer) (words_from 0 text) (words_from to [])
        → ReadsCert p slots (cert_text run) run
    whole to same none s = subst (λ (bytes : List ℕ). ReadsCert p slots bytes run) same (record {
      after_version = s.1.1.1.0;
      after_limit = s.1.1.0;
      after_count = s.1.0;
      after_trials = s.0;
      version = s.1.1.1.1;
      limited = s.1.1.1.2;
      count = s.1.1.2;
      each = s.1.2;
      answered = subst (λ (ws : List Word). IsNumberLine (codes "Answer") 0 8 run.answer s.0 ws) none s.2;
    })

-- what is read may be written plainly: the text of a run that was read says the same run
pub says_again : (p : Netlist) (slots : ℕ) → IsSound p → slots ≤ 2 ^ 30 → (bytes : List ℕ) (run : ShownRun) → ReadsCert p slots bytes run → ReadsCert p slots (cert_text run) run
says_again p slots sound few_slots bytes run reads = says_run p slots sound few_slots run (run_is p slots bytes run reads)
