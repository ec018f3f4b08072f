use Rattle.std.proofs.Common.{◌-◌, ◌≤◌, ◌^◌}
use Rattle.fp_tech.specs.Slots.{slot_count, slot_limit, grid_with, IsLeast}
use Rattle.fp_tech.proofs.grid.least_stride.Given as goal

abbrev pub invariant-loop-low : goal.invariant-loop-low
invariant-loop-low l = record {
  some : 1 ≤ l.low;
  ordered : l.low ≤ l.high;
  small : l.high ≤ 2 ^ 21;
  few : slot_count (grid_with l.frame l.terminal l.high) ≤ slot_limit;
  least : IsLeast l.frame l.terminal l.low;
}

abbrev pub decreases-loop-low : goal.decreases-loop-low
decreases-loop-low l = l.high - l.low
