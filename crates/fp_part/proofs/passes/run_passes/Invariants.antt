use Rattle.std.proofs.Common.{◌≡◌}
use Rattle.fp_place.specs.Settled.{settled}
use Rattle.fp_part.specs.Partitions.{IsBegun}
use Rattle.fp_part.proofs.passes.run_passes.Given as goal

abbrev pub invariant-loop-partition : goal.invariant-loop-partition
invariant-loop-partition l = record {
  begun : IsBegun l.problem l.partition;
  same : settled l.problem l.partition.gains.dies ≡ settled l.problem l.fn.partition.gains.dies;
}

abbrev pub decreases-loop-partition : goal.decreases-loop-partition
decreases-loop-partition l = l.partition.cut
