use Rattle.std.proofs.Common.{◌-◌, length}
use Rattle.fp_part.specs.Partitions.{IsOnWay}
use Rattle.fp_part.proofs.partition.Partition.run.Given as goal

abbrev pub invariant-loop : goal.invariant-loop
invariant-loop l = IsOnWay l.problem l.fn.self.gains.dies (length l.problem.cells - l.counter) l.self
