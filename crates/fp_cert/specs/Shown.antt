-- A run of trials as plain lists, and what each adding call makes of it.
use Rattle.std.specs.Prelude.{ℕ, List, [], ◌∷◌, ◌++◌}
use Rattle.fp_base.specs.declared.ids.CellId.{CellId}
use Rattle.fp_base.specs.declared.ids.Die.{Die}
use Rattle.fp_base.specs.declared.ids.Die.TheVariants.{Top, Bottom}
use Rattle.fp_cert.specs.declared.shown.CellShown.{CellShown}
use Rattle.fp_cert.specs.declared.shown.CutShown.{CutShown}
use Rattle.fp_cert.specs.declared.shown.Ending.{Ending}

-- a segment: the dual before its first cell, and its cells, each with the dual behind it
pub record ShownRow : Type 0 where
  pub first : ℕ
  pub cells : List CellShown

-- a trial: its segments by die, its cut nets, its score, and the cells of the top die where it found no row
pub record ShownTrial : Type 0 where
  pub ending : Ending
  pub top : List ShownRow
  pub bottom : List ShownRow
  pub cuts : List CutShown
  pub score : ℕ
  pub top_cells : List CellId

pub record ShownRun : Type 0 where
  pub limit : ℕ
  pub cost : ℕ
  pub trials : List ShownTrial
  pub answer : ℕ

abbrev pub rows_of : ShownTrial → Die → List ShownRow
rows_of trial Top = trial.top
rows_of trial Bottom = trial.bottom

abbrev pub trial_without : Ending → ℕ → ShownTrial
trial_without ending score = record { ending = ending; top = []; bottom = []; cuts = []; score = score; top_cells = [] }

abbrev pub run_without : ℕ → ℕ → ShownRun
run_without limit cost = record { limit = limit; cost = cost; trials = []; answer = 0 }

-- each with one more of its elements, behind the others
abbrev pub with_cell : ShownRow → CellShown → ShownRow
with_cell row cell = record row { cells = row.cells ++ cell ∷ [] }

abbrev pub with_row : ShownTrial → Die → ShownRow → ShownTrial
with_row trial Top row = record trial { top = trial.top ++ row ∷ [] }
with_row trial Bottom row = record trial { bottom = trial.bottom ++ row ∷ [] }

abbrev pub with_cut : ShownTrial → CutShown → ShownTrial
with_cut trial cut = record trial { cuts = trial.cuts ++ cut ∷ [] }

abbrev pub with_top : ShownTrial → CellId → ShownTrial
with_top trial cell = record trial { top_cells = trial.top_cells ++ cell ∷ [] }

abbrev pub with_trial : ShownRun → ShownTrial → ShownRun
with_trial run trial = record run { trials = run.trials ++ trial ∷ [] }
