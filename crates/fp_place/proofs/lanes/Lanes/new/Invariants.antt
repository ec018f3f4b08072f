use Rattle.std.proofs.Common.{◌≡◌, [], replicate}
use Rattle.fp_place.proofs.lanes.Lanes.new.Given as goal

abbrev pub invariant-loop : goal.invariant-loop
invariant-loop g l = l.lanes.items ≡ replicate l.counter []
