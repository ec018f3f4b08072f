use Rattle.std.proofs.Common.{◌≡◌, ℕ, ◌<◌, length, All}
use Rattle.fp_place.specs.Placed.{places_of}
use Rattle.fp_score.specs.Pick.{point_at}
use Rattle.fp_score.specs.Target.{IsTarget}
use Rattle.fp_coarse.specs.Targets.{IsNearTarget}
use Rattle.fp_coarse.proofs.median_targets.targets_by.Given as goal

abbrev pub invariant-loop-cell : goal.invariant-loop-cell
invariant-loop-cell l = record {
  many : length l.targets.items ≡ l.cell;
  each : (cell : ℕ) → cell < length l.targets.items → IsTarget l.problem (places_of l.base) l.dies cell (point_at l.targets.items cell);
  near : All IsNearTarget l.targets.items;
}
