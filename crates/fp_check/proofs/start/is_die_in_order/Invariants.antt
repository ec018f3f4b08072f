use Rattle.std.proofs.Common.{◌≡◌, ℕ, ◌<◌, List, slice_get, Some, ◌+ℤ◌}
use Rattle.fp_base.specs.declared.ids.CellId.{CellId}
use Rattle.fp_tech.specs.declared.dies.Segment.{Segment}
use Rattle.fp_tech.specs.Plan.{segments}
use Rattle.fp_place.specs.Placed.{lanes_of, places_of, StandBetween}
use Rattle.fp_check.proofs.start.is_die_in_order.Given as goal

abbrev pub invariant-loop-number : goal.invariant-loop-number
invariant-loop-number l = (k : ℕ) → k < l.number → (segment : Segment) (lane : List CellId)
    → slice_get (segments l.problem.plan l.die) k ≡ Some segment → slice_get (lanes_of l.placement l.die) k ≡ Some lane
    → StandBetween l.problem l.die (places_of l.placement) segment.start (segment.start +ℤ segment.length) lane
