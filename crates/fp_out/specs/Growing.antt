-- Reading into a drawing: the lines that are read are added to it.
use Rattle.std.specs.Prelude.{◌≡◌, List, ◌++◌, Result, Ok, Err}
use Rattle.fp_base.specs.declared.ids.Die.{Die}
use Rattle.fp_base.specs.declared.ids.Die.TheVariants.{Top, Bottom}
use Rattle.fp_text.specs.Reading.{Left, Read, Fault, GivesFault}
use Rattle.fp_text.specs.declared.fault.TextFault.{TextFault}
use Rattle.fp_place.specs.declared.drawn.DrawnCell.{DrawnCell}
use Rattle.fp_place.specs.declared.drawn.DrawnTerminal.{DrawnTerminal}
use Rattle.fp_place.specs.Drawing.{Drawing}

-- a drawing with more lines behind those of a die, or behind the terminals
abbrev pub with_cells : Die → Drawing → List DrawnCell → Drawing
with_cells Top drawing lines = record drawing { top = drawing.top ++ lines }
with_cells Bottom drawing lines = record drawing { bottom = drawing.bottom ++ lines }

abbrev pub with_terminals : Drawing → List DrawnTerminal → Drawing
with_terminals drawing lines = record drawing { terminals = drawing.terminals ++ lines }

-- what was read is added to the old value by `grow`, unless there was a fault or memory ran out
abbrev pub Grows : {V A U : Type 0} → (V → A → V) → Result U TextFault → V → V → Left → Read A → Type 0
Grows {A = A} grow (Ok u) old new left read = (item : A) × (read ≡ Ok (item, left)) × (new ≡ grow old item)
Grows grow (Err e) old new left read = GivesFault e read

-- what a reader made of a drawing is what is read
abbrev pub Draws : {U : Type 0} → Result U TextFault → Drawing → Result Drawing Fault → Type 0
Draws (Ok done) new read = read ≡ Ok new
Draws (Err e) new read = GivesFault e read
