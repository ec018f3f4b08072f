-- Reading into a row, a trial or a run: what is read is added to it.
use Rattle.std.specs.Prelude.{◌≡◌, List, ◌++◌, Result, Ok, Err}
use Rattle.fp_base.specs.declared.ids.CellId.{CellId}
use Rattle.fp_base.specs.declared.ids.Die.{Die}
use Rattle.fp_base.specs.declared.ids.Die.TheVariants.{Top, Bottom}
use Rattle.fp_text.specs.Reading.{Left, Read, Fault, GivesFault}
use Rattle.fp_text.specs.declared.fault.TextFault.{TextFault}
use Rattle.fp_cert.specs.declared.shown.CellShown.{CellShown}
use Rattle.fp_cert.specs.declared.shown.CutShown.{CutShown}
use Rattle.fp_cert.specs.Shown.{ShownRow, ShownTrial, ShownRun}

-- each with more of its elements, behind the others
abbrev pub with_cells : ShownRow → List CellShown → ShownRow
with_cells row cells = record row { cells = row.cells ++ cells }

abbrev pub with_rows : Die → ShownTrial → List ShownRow → ShownTrial
with_rows Top trial rows = record trial { top = trial.top ++ rows }
with_rows Bottom trial rows = record trial { bottom = trial.bottom ++ rows }

abbrev pub with_cuts : ShownTrial → List CutShown → ShownTrial
with_cuts trial cuts = record trial { cuts = trial.cuts ++ cuts }

abbrev pub with_tops : ShownTrial → List CellId → ShownTrial
with_tops trial cells = record trial { top_cells = trial.top_cells ++ cells }

abbrev pub with_trials : ShownRun → List ShownTrial → ShownRun
with_trials run trials = record run { trials = run.trials ++ trials }

-- what was read is added to the old value by `grow`, unless there was a fault or memory ran out; what was answered is this of it
abbrev pub GrowsTo : {V A U : Type 0} → (V → A → V) → (A → U → Type 0) → Result U TextFault → V → V → Left → Read A → Type 0
GrowsTo {A = A} grow answers (Ok u) old new left read = (item : A) × (read ≡ Ok (item, left)) × (new ≡ grow old item) × answers item u
GrowsTo grow answers (Err e) old new left read = GivesFault e read

-- the same where nothing is answered
abbrev pub Grows : {V A U : Type 0} → (V → A → V) → Result U TextFault → V → V → Left → Read A → Type 0
Grows {A = A} grow (Ok u) old new left read = (item : A) × (read ≡ Ok (item, left)) × (new ≡ grow old item)
Grows grow (Err e) old new left read = GivesFault e read

-- what a reader made of a value is what is read
abbrev pub Becomes : {V U : Type 0} → Result U TextFault → V → Left → Read V → Type 0
Becomes (Ok done) new left read = read ≡ Ok (new, left)
Becomes (Err e) new left read = GivesFault e read

-- the same at the end of a file
abbrev pub Finishes : {V U : Type 0} → Result U TextFault → V → Result V Fault → Type 0
Finishes (Ok done) new read = read ≡ Ok new
Finishes (Err e) new read = GivesFault e read
