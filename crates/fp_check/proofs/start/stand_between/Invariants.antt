use Rattle.std.proofs.Common.{◌↔◌, ◌^◌, drop, pos, ◌+ℤ◌, ◌≤ℤ◌}
use Rattle.fp_place.specs.Placed.{places_of, StandBetween}
use Rattle.fp_check.proofs.start.stand_between.Given as goal

abbrev pub invariant-loop-cell : goal.invariant-loop-cell
invariant-loop-cell l = record {
  low : pos 0 ≤ℤ l.from;
  high : l.from ≤ℤ pos (2 ^ 31);
  rest : StandBetween l.problem l.die (places_of l.placement) l.segment.start (l.segment.start +ℤ l.segment.length) l.lane
      ↔ StandBetween l.problem l.die (places_of l.placement) l.from (l.segment.start +ℤ l.segment.length) (drop l.cell-index l.lane);
}
