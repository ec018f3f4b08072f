use Rattle.std.proofs.Common.{◌≡◌, ◌+◌, drop}
use Rattle.fp_base.specs.declared.ids.Die.{Die}
use Rattle.fp_place.specs.Areas.{area_from, area_on}
use Rattle.fp_place.specs.Held.{held_on}
use Rattle.fp_part.proofs.areas.caps_of.Given as goal

abbrev pub invariant-loop-cell : goal.invariant-loop-cell
invariant-loop-cell l = (die : Die) → held_on l.caps die + area_from l.problem die l.cell (drop l.cell l.dies) ≡ area_on l.problem die l.dies
