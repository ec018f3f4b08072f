use Rattle.std.proofs.Common.{◌≡◌, ◌≤◌, ◌+◌, ◌*◌, ◌^◌, drop}
use Rattle.fp_place.specs.Areas.{area_from, area_on}
use Rattle.fp_place.specs.Places.{dies_of}
use Rattle.fp_place.proofs.percents.area_on.Given as goal

abbrev pub invariant-loop-cell : goal.invariant-loop-cell
invariant-loop-cell l =
    (l.taken + area_from l.problem l.die l.cell (drop l.cell (dies_of l.places)) ≡ area_on l.problem l.die (dies_of l.places)) × (l.taken ≤ l.cell * 2 ^ 60)
