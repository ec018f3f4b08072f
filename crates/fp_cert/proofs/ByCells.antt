-- The lines that are written by cell: each cell that a line names gets the line that every one of it is.
use Rattle.std.proofs.Common.{◌≡◌, ℕ, zero, suc, ◌<◌, Bool, true, false, List, [], ◌∷◌, length, take, set, get_or, slice_get, Some, refl, sym, ap, subst, ◌∙◌, arith}
use Rattle.std.specs.Prelude.{nat_eq, All}
use Rattle.std.proofs.lemmas.Bool.Decides.{nat_tests}
use Rattle.std.proofs.lemmas.List.{length-set, get_or-set_same, get_or-set_other}
use Rattle.std.proofs.lemmas.List.FromFn.{fill_by_all}
use Rattle.std.proofs.lemmas.Option.{same_Some, slice_get-get_or}
use Rattle.fp_base.specs.declared.ids.CellId.{CellId}
use Rattle.fp_netlist.specs.Netlist.{Netlist}
use Rattle.fp_place.specs.Placed.{StandOnce}
use Rattle.fp_cert.specs.declared.shown.CellShown.{CellShown}
use Rattle.fp_cert.specs.Standing.{no_line, line_by, stand_of, lines_shown, lanes_shown}
use Rattle.fp_cert.specs.StandingLaws.{entry_shown, line_of, stand_there}
use Rattle.fp_cert.specs.Shown.{ShownRow, ShownTrial, rows_of}
use Rattle.fp_base.specs.declared.ids.Die.{Die}
use Rattle.fp_base.specs.declared.ids.Die.TheVariants.{Top, Bottom}
use Rattle.fp_cert.specs.ByCell.{with_lines, with_row_lines}

pub long : (cells : List CellShown) (xs : List CellShown) → length (with_lines xs cells) ≡ length xs
long [] xs = refl
long (line ∷ cells) xs = long cells (set xs line.cell.0 line) ∙ length-set xs line.cell.0 line

pub rows_long : (rows : List ShownRow) (xs : List CellShown) → length (with_row_lines xs rows) ≡ length xs
rows_long [] xs = refl
rows_long (row ∷ rows) xs = rows_long rows (with_lines xs row.cells) ∙ long row.cells xs

-- each line of a row says what a function gives at its cell
abbrev pub Say : (ℕ → CellShown) → List CellShown → Type 0
Say goal cells = (rank : ℕ) (line : CellShown) → slice_get cells rank ≡ Some line → line ≡ goal line.cell.0

abbrev pub RowsSay : (ℕ → CellShown) → List ShownRow → Type 0
RowsSay goal rows = (number : ℕ) (row : ShownRow) → slice_get rows number ≡ Some row → Say goal row.cells

-- the line of a cell is the function's
abbrev IsGoal : (ℕ → CellShown) → ℕ → List CellShown → Type 0
IsGoal goal cell xs = get_or xs cell no_line ≡ goal cell

-- such a write keeps a right line
kept_by_one : (goal : ℕ → CellShown) (cell : ℕ) (line : CellShown) (xs : List CellShown) → line ≡ goal line.cell.0 → IsGoal goal cell xs → cell < length xs
    → IsGoal goal cell (set xs line.cell.0 line)
kept_by_one goal cell line xs says is below = by (nat_eq cell line.cell.0) refl
  where
    by : (b : Bool) → nat_eq cell line.cell.0 ≡ b → IsGoal goal cell (set xs line.cell.0 line)
    by true same =
        let number : cell ≡ line.cell.0 = grind (arith, nat_tests) in
        ap (λ k. get_or (set xs line.cell.0 line) k no_line) number ∙ get_or-set_same xs line.cell.0 line no_line (omega (arith, number, below)) ∙ says ∙ ap goal (sym number)
    by false differ = get_or-set_other xs line.cell.0 cell line no_line (λ same. let no : false ≡ true = sym differ ∙ grind (arith, nat_tests) in cc) ∙ is

kept : (goal : ℕ → CellShown) (cell : ℕ) (cells : List CellShown) (xs : List CellShown) → Say goal cells → IsGoal goal cell xs → cell < length xs → IsGoal goal cell (with_lines xs cells)
kept goal cell [] xs say is below = is
kept goal cell (line ∷ cells) xs say is below =
    kept goal cell cells (set xs line.cell.0 line) (λ rank later at. say (suc rank) later at) (kept_by_one goal cell line xs (say 0 line refl) is below)
    (omega (arith, below, length-set xs line.cell.0 line))

rows_kept : (goal : ℕ → CellShown) (cell : ℕ) (rows : List ShownRow) (xs : List CellShown) → RowsSay goal rows → IsGoal goal cell xs → cell < length xs → IsGoal goal cell (with_row_lines xs rows)
rows_kept goal cell [] xs say is below = is
rows_kept goal cell (row ∷ rows) xs say is below =
    rows_kept goal cell rows (with_lines xs row.cells) (λ number later at. say (suc number) later at) (kept goal cell row.cells xs (say 0 row refl) is below)
    (omega (arith, below, long row.cells xs))

-- a cell that a line names gets its line
made : (goal : ℕ → CellShown) (cell : ℕ) (cells : List CellShown) (xs : List CellShown) → Say goal cells → cell < length xs
    → (rank : ℕ) (line : CellShown) → slice_get cells rank ≡ Some line → line.cell.0 ≡ cell → IsGoal goal cell (with_lines xs cells)
made goal cell [] xs say below rank line at is = absurd cc
made goal cell (first ∷ cells) xs say below zero line at is =
    let same : first ≡ line = same_Some first line at in
    let number : first.cell.0 ≡ cell = ap (λ (l : CellShown). l.cell.0) same ∙ is in
    let here : IsGoal goal cell (set xs first.cell.0 first) =
    ap (λ k. get_or (set xs first.cell.0 first) k no_line) (sym number) ∙ get_or-set_same xs first.cell.0 first no_line (omega (arith, number, below)) ∙ say 0 first refl ∙ ap goal number in
    kept goal cell cells (set xs first.cell.0 first) (λ rank later at. say (suc rank) later at) here (omega (arith, below, length-set xs first.cell.0 first))
made goal cell (first ∷ cells) xs say below (suc rank) line at is =
    made goal cell cells (set xs first.cell.0 first) (λ r later there. say (suc r) later there) (omega (arith, below, length-set xs first.cell.0 first)) rank line at is

pub rows_made : (goal : ℕ → CellShown) (cell : ℕ) (rows : List ShownRow) (xs : List CellShown) → RowsSay goal rows → cell < length xs
    → (number rank : ℕ) (row : ShownRow) (line : CellShown) → slice_get rows number ≡ Some row → slice_get row.cells rank ≡ Some line → line.cell.0 ≡ cell
    → IsGoal goal cell (with_row_lines xs rows)
rows_made goal cell [] xs say below number rank row line there at is = absurd cc
rows_made goal cell (first ∷ rows) xs say below zero rank row line there at is =
    let same : first ≡ row = same_Some first row there in
    let here = made goal cell first.cells xs (say 0 first refl) below rank line (ap (λ (r : ShownRow). slice_get r.cells rank) same ∙ at) is in
    rows_kept goal cell rows (with_lines xs first.cells) (λ k later at. say (suc k) later at) here (omega (arith, below, long first.cells xs))
rows_made goal cell (first ∷ rows) xs say below (suc number) rank row line there at is =
    rows_made goal cell rows (with_lines xs first.cells) (λ k later at. say (suc k) later at) (omega (arith, below, long first.cells xs)) number rank row line there at is

-- the lines of a row name cells that the lines written so far have
pub row_within : (rows : List ShownRow) (xs held : List CellShown) (number k : ℕ) (row : ShownRow)
    → All (λ (r : ShownRow). All (λ (line : CellShown). line.cell.0 < length xs) r.cells) rows → held ≡ with_row_lines xs (take k rows) → number < length rows → row ≡ get_or rows number row
    → All (λ (line : CellShown). line.cell.0 < length held) row.cells
row_within rows xs held number k row within is below there =
    let many : length xs ≡ length held = sym (ap length is ∙ rows_long (take k rows) xs) in
    let own : All (λ (line : CellShown). line.cell.0 < length xs) row.cells =
    subst (λ (r : ShownRow). All (λ (line : CellShown). line.cell.0 < length xs) r.cells) (sym there) (within number row below) in
    subst (λ n. All (λ (line : CellShown). line.cell.0 < n) row.cells) many own

-- ---- the lines of a trial

abbrev pub with_trial_lines : List CellShown → ShownTrial → List CellShown
with_trial_lines xs trial = with_row_lines (with_row_lines xs (rows_of trial Top)) (rows_of trial Bottom)

pub trial_long : (trial : ShownTrial) (xs : List CellShown) → length (with_trial_lines xs trial) ≡ length xs
trial_long trial xs = rows_long trial.bottom (with_row_lines xs trial.top) ∙ rows_long trial.top xs

-- a cell that a line of a die names gets its line
pub trial_made : (goal : ℕ → CellShown) (cell : ℕ) (trial : ShownTrial) (xs : List CellShown) → ((die : Die) → RowsSay goal (rows_of trial die)) → cell < length xs
    → (die : Die) (number rank : ℕ) (row : ShownRow) (line : CellShown) → slice_get (rows_of trial die) number ≡ Some row → slice_get row.cells rank ≡ Some line → line.cell.0 ≡ cell
    → IsGoal goal cell (with_trial_lines xs trial)
trial_made goal cell trial xs say below Top number rank row line there at is =
    rows_kept goal cell trial.bottom (with_row_lines xs trial.top) (say Bottom) (rows_made goal cell trial.top xs (say Top) below number rank row line there at is) (omega (arith, below, rows_long trial.top xs))
trial_made goal cell trial xs say below Bottom number rank row line there at is =
    rows_made goal cell trial.bottom (with_row_lines xs trial.top) (say Bottom) (omega (arith, below, rows_long trial.top xs)) number rank row line there at is

-- each line of rows names one of so many cells
abbrev pub AreWithin : ℕ → List ShownRow → Type 0
AreWithin count rows = All (λ (row : ShownRow). All (λ (line : CellShown). line.cell.0 < count) row.cells) rows

pub within_again : (count many : ℕ) (rows others : List ShownRow) → count ≡ many → others ≡ rows → AreWithin count rows → AreWithin many others
within_again count many rows others same are within = subst (λ n. AreWithin n others) same (subst (AreWithin count) (sym are) within)

-- ---- a trial in which each cell stands once

-- a cell's line
abbrev shown_at : ShownTrial → ℕ → CellShown
shown_at trial cell = line_by (stand_of trial cell)

says_its_line : (trial : ShownTrial) (cells : ℕ) → StandOnce cells (lanes_shown trial Top) (lanes_shown trial Bottom) → (die : Die) → RowsSay (shown_at trial) (rows_of trial die)
says_its_line trial cells once die = λ number row there rank line at. sym (ap line_by (stand_there trial cells once die number rank row line there at))

pub lines_within : (cells : ℕ) (trial : ShownTrial) → StandOnce cells (lanes_shown trial Top) (lanes_shown trial Bottom) → (die : Die) → AreWithin cells (rows_of trial die)
lines_within cells trial once die = λ number r inside rank l below.
    let row : ShownRow = get_or (rows_of trial die) number r in
    let line : CellShown = get_or row.cells rank l in
    once.within die number rank line.cell
    (entry_shown trial die number rank row line (slice_get-get_or (rows_of trial die) number r inside) (slice_get-get_or row.cells rank l below))

-- the lines that are written are those that it shows
pub lines_are : (p : Netlist) (trial : ShownTrial) (xs : List CellShown) → StandOnce (length p.cells) (lanes_shown trial Top) (lanes_shown trial Bottom) → length xs ≡ length p.cells
    → with_trial_lines xs trial ≡ lines_shown p trial
unfolding lines_shown
lines_are p trial xs once many =
    fill_by_all (shown_at trial) (with_trial_lines xs trial) (length p.cells) no_line (trial_long trial xs ∙ many) (λ cell below.
    let there = once.there cell below in
    let line = line_of trial there.0 there.1 there.2 (record { 0 = cell }) there.3 in
    trial_made (shown_at trial) cell trial xs (says_its_line trial (length p.cells) once) (omega (arith, below, many)) there.0 there.1 there.2 line.row line.shown line.there line.at
    (ap (λ (c : CellId). c.0) line.cell_is))
