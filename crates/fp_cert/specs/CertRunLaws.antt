-- What a certificate file says is a run of the problem.
use Rattle.std.proofs.Common.{◌≡◌, ℕ, ◌+◌, ◌-◌, ◌^◌, ◌<◌, ◌≤◌, Bool, true, false, cond, List, [], ◌∷◌, ◌++◌, length, Result, Ok, Err, refl, sym, subst, arith, append_assoc, inl, inr}
use Rattle.std.specs.Prelude.{All, ℤ, pos, neg_ℤ, ◌==◌}
use Rattle.std.proofs.lemmas.Int.{ints}
use Rattle.std.proofs.lemmas.List.{append-nil}
use Rattle.std.proofs.lemmas.List.Elements.{All-nil, All-cons}
use Rattle.std.proofs.lemmas.List.Sums.{sum_by_push}
use Rattle.fp_base.specs.declared.ids.CellId.{CellId}
use Rattle.fp_base.specs.declared.ids.Die.{Die}
use Rattle.fp_base.specs.declared.ids.Die.TheVariants.{Top, Bottom}
use Rattle.fp_text.specs.Words.{Word}
use Rattle.fp_text.specs.Numbers.{number_of, above_zero, below_zero, signed_of}
use Rattle.fp_text.specs.Items.{Each}
use Rattle.fp_text.specs.declared.numbers.NumberFault.{NumberFault}
use Rattle.fp_tech.specs.Plan.{segments}
use Rattle.fp_netlist.specs.Netlist.{Netlist}
use Rattle.fp_place.specs.Drawing.{IsCoordinate}
use Rattle.fp_cert.specs.declared.shown.CellShown.{CellShown}
use Rattle.fp_cert.specs.declared.shown.CutShown.{CutShown}
use Rattle.fp_cert.specs.declared.shown.Ending.{Ending}
use Rattle.fp_cert.specs.declared.shown.Ending.TheVariants.{Start, Better, NotBetter, NoRow}
use Rattle.fp_cert.specs.Shown.{ShownRow, ShownTrial, ShownRun, rows_of}
use Rattle.fp_cert.specs.OfProblem.{most_lines, IsTargetAt, IsCellOf, IsRowOf, IsCutOf, cells_in, IsPlacedTrialOf, IsRowlessTrialOf, IsEndedTrialOf, IsTrialOf, IsRunOf}
use Rattle.fp_cert.specs.CertGrammar.{most_target, Coordinate, IsCellLine, IsRowLines, IsDieLines, IsCutLine, AreLines, IsTopLine, AreTops, IsEnding, AreShown, IsTrialText, IsVersion, ReadsCert}
use Rattle.fp_cert.specs.CertTokensLaws.{spelled_ok}

-- a fact of each item that stands in words
pub each_all : {A : Type 0} (fact : A → Type 0) (stands : List A → A → List Word → List Word → Type 0)
    → ((before : List A) (x : A) (words rest : List Word) → stands before x words rest → fact x)
    → (before xs : List A) (words rest : List Word) → Each stands before xs words rest → All fact xs
each_all fact stands one before [] words rest each = All-nil fact
each_all fact stands one before (x ∷ xs) words rest each =
    All-cons fact x xs (one before x words each.0 each.1) (each_all fact stands one (before ++ x ∷ []) xs each.0 rest each.2)

-- ---- coordinates

coordinate_is : (at : ℤ) (words rest : List Word) → Coordinate at words rest → IsCoordinate at
coordinate_is at words rest s =
    let is : at ≡ pos s.0 = s.1 in
    let most : s.0 ≤ 2 ^ 30 = s.2.2.at_most in
    record { least = omega (arith, ints, is); most = omega (arith, ints, is, most) }

whole_is : (a b : ℤ) → ◌≡◌ {A = Result ℤ NumberFault} (Ok a) (Ok b) → a ≡ b
whole_is a b e = cc

positive_is : (most : ℕ) (number : Result ℕ NumberFault) (at : ℤ) → above_zero number ≡ Ok at → (n : ℕ) × (number ≡ Ok n) × (at ≡ pos n)
positive_is most (Ok n) at e = (n, refl, sym (whole_is (pos n) at e))
positive_is most (Err f) at e = absurd cc

negative_is : (most : ℕ) (number : Result ℕ NumberFault) (at : ℤ) → below_zero number ≡ Ok at → (n : ℕ) × (number ≡ Ok n) × (at ≡ neg_ℤ (pos n))
negative_is most (Ok n) at e = (n, refl, sym (whole_is (neg_ℤ (pos n)) at e))
negative_is most (Err f) at e = absurd cc

signed_is : (text : List ℕ) (at : ℤ) → signed_of most_target text ≡ Ok at → IsTargetAt at
signed_is [] at e = absurd cc
signed_is (byte ∷ digits) at e = by (byte == 45) e
  where
    by : (b : Bool) → cond b (below_zero (number_of most_target digits)) (above_zero (number_of most_target (byte ∷ digits))) ≡ Ok at → IsTargetAt at
    by true e =
        let n = negative_is most_target (number_of most_target digits) at e in
        let is : at ≡ neg_ℤ (pos n.0) = n.2 in
        let most : n.0 ≤ 2 ^ 32 = (spelled_ok most_target digits n.0 n.1).at_most in
        record { least = omega (arith, ints, is, most); most = omega (arith, ints, is, most) }
    by false e =
        let n = positive_is most_target (number_of most_target (byte ∷ digits)) at e in
        let is : at ≡ pos n.0 = n.2 in
        let most : n.0 ≤ 2 ^ 32 = (spelled_ok most_target (byte ∷ digits) n.0 n.1).at_most in
        record { least = omega (arith, ints, is, most); most = omega (arith, ints, is, most) }

-- ---- lines

cell_is : (p : Netlist) (line : CellShown) (words rest : List Word) → IsCellLine p line words rest → IsCellOf p line
cell_is p line words rest s = record {
  within = s.cell.1;
  x = coordinate_is line.x s.after_cell s.after_x s.x;
  target_x = signed_is s.target_x.0.text line.target.x s.target_x.2;
  target_y = signed_is s.target_y.0.text line.target.y s.target_y.2;
  dual = s.dual.2.at_most;
}

row_is : (p : Netlist) (taken : ℕ) (row : ShownRow) (words rest : List Word) → IsRowLines p taken row words rest → IsRowOf p row
row_is p taken row words rest s = record {
  first = s.dual.2.at_most;
  cells = each_all (IsCellOf p) (λ before. IsCellLine p) (λ before. cell_is p) [] row.cells s.after_first rest s.lines;
}

rows_are : (p : Netlist) (die : Die) (taken : ℕ) (rows : List ShownRow) (words rest : List Word) → IsDieLines p die taken rows words rest → All (IsRowOf p) rows
rows_are p die taken rows words rest s =
    each_all (IsRowOf p) (λ before. IsRowLines p (taken + cells_in before)) (λ before. row_is p (taken + cells_in before)) [] rows s.after_count rest s.lines

as_many : (p : Netlist) (die : Die) (taken : ℕ) (rows : List ShownRow) (words rest : List Word) → IsDieLines p die taken rows words rest → length rows ≡ length (segments p.plan die)
as_many p die taken rows words rest s =
    let least : length (segments p.plan die) ≤ length rows = s.count.number.2.at_least in
    let most : length rows ≤ length (segments p.plan die) = s.count.number.2.at_most in
    omega arith

-- the cells of segments are few with those before them
rows_few : (p : Netlist) (taken : ℕ) (before rows : List ShownRow) (words rest : List Word) → Each (λ earlier. IsRowLines p (taken + cells_in earlier)) before rows words rest
    → taken + cells_in before ≤ most_lines → taken + cells_in (before ++ rows) ≤ most_lines
rows_few p taken before [] words rest each few = subst (λ (all : List ShownRow). taken + cells_in all ≤ most_lines) (sym (append-nil before)) few
rows_few p taken before (row ∷ rows) words rest each few =
    let most : length row.cells ≤ most_lines - (taken + cells_in before) = each.1.count.number.2.at_most in
    let more : taken + cells_in (before ++ row ∷ []) ≤ most_lines = omega (arith, few, most, sum_by_push (λ (shown : ShownRow). length shown.cells) before row) in
    subst (λ (all : List ShownRow). taken + cells_in all ≤ most_lines) (append_assoc before (row ∷ []) rows) (rows_few p taken (before ++ row ∷ []) rows each.0 rest each.2 more)

die_few : (p : Netlist) (die : Die) (taken : ℕ) (rows : List ShownRow) (words rest : List Word) → IsDieLines p die taken rows words rest → taken ≤ most_lines
    → taken + cells_in rows ≤ most_lines
die_few p die taken rows words rest s few = rows_few p taken [] rows s.after_count rest s.lines none
  where
    none : taken + cells_in [] ≤ most_lines
    none = omega (arith, few)

cut_is : (p : Netlist) (slots : ℕ) (line : CutShown) (words rest : List Word) → IsCutLine p slots line words rest → IsCutOf p slots line
cut_is p slots line words rest s = record { net = s.net.1; slot = s.slot.1; price = s.price.2.at_most }

-- ---- a trial

pub placed_is : (p : Netlist) (slots : ℕ) (trial : ShownTrial) (words rest : List Word) → AreLines p slots trial words rest → IsPlacedTrialOf p slots trial
placed_is p slots trial words rest s = record {
  segments_are = many;
  rows = rows;
  few_cells = die_few p Bottom (cells_in trial.top) trial.bottom s.after_top s.after_bottom s.bottoms (omega (arith, die_few p Top 0 trial.top words s.after_top s.tops (omega arith)));
  cuts = each_all (IsCutOf p slots) (λ before. IsCutLine p slots) (λ before. cut_is p slots) [] trial.cuts s.terminals.after_count s.after_cuts s.terminals.lines;
  few_cuts = s.terminals.count.number.2.at_most;
  score = s.scored.number.2.at_most;
  no_tops = s.no_tops;
}
  where
    many : (die : Die) → length (rows_of trial die) ≡ length (segments p.plan die)
    many Top = as_many p Top 0 trial.top words s.after_top s.tops
    many Bottom = as_many p Bottom (cells_in trial.top) trial.bottom s.after_top s.after_bottom s.bottoms

    rows : (die : Die) → All (IsRowOf p) (rows_of trial die)
    rows Top = rows_are p Top 0 trial.top words s.after_top s.tops
    rows Bottom = rows_are p Bottom (cells_in trial.top) trial.bottom s.after_top s.after_bottom s.bottoms

rowless_is : (p : Netlist) (cell : ℕ) (trial : ShownTrial) (words rest : List Word) → cell < length p.cells → AreTops p trial words rest → IsRowlessTrialOf p cell trial
rowless_is p cell trial words rest within s = record {
  within = within;
  tops = each_all (λ (top : CellId). top.0 < length p.cells) (λ before. IsTopLine p) (λ before top us vs line. line.cell.1) [] trial.top_cells s.tops.after_count rest s.tops.lines;
  few_tops = s.tops.count.number.2.at_most;
  no_top = s.no_top;
  no_bottom = s.no_bottom;
  no_cuts = s.no_cuts;
  no_score = s.no_score;
}

-- lines of a trial that found a row for each cell
pub ended_is : (p : Netlist) (slots : ℕ) (trial : ShownTrial) (ending : Ending) (words after rest : List Word) → IsEnding p ending words after → AreShown p slots ending trial after rest
    → IsEndedTrialOf p slots trial ending
ended_is p slots trial Start words after rest ended s = placed_is p slots trial after rest s
ended_is p slots trial Better words after rest ended s = placed_is p slots trial after rest s
ended_is p slots trial NotBetter words after rest ended s = placed_is p slots trial after rest s
ended_is p slots trial (NoRow cell) words after rest ended s = rowless_is p cell.0 trial after rest ended.2.1 s

trial_is : (p : Netlist) (slots number : ℕ) (trial : ShownTrial) (words rest : List Word) → IsTrialText p slots number trial words rest → IsTrialOf p slots trial
trial_is p slots number trial words rest s = ended_is p slots trial trial.ending s.after_number s.after_ending rest s.ended s.shown

-- ---- the whole file

small_cost : (cost : ℕ) (words rest : List Word) → IsVersion cost words rest → cost ≤ 2 ^ 30
small_cost cost words rest (inl s) = omega (arith, s.0)
small_cost cost words rest (inr s) = s.2.number.2.at_most

pub run_is : (p : Netlist) (slots : ℕ) (bytes : List ℕ) (run : ShownRun) → ReadsCert p slots bytes run → IsRunOf p slots run
run_is p slots bytes run s = record {
  some_limit = s.limited.number.2.at_least;
  small_limit = s.limited.number.2.at_most;
  cost = small_cost run.cost _ s.after_version s.version;
  some = s.count.number.2.at_least;
  few = s.count.number.2.at_most;
  trials = each_all (IsTrialOf p slots) (λ before. IsTrialText p slots (length before)) (λ before. trial_is p slots (length before)) [] run.trials s.after_count s.after_trials s.each;
  answer = s.answered.number.2.at_most;
}
