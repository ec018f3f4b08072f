use Rattle.std.proofs.Common.{◌≡◌, ◌≤◌}
use Rattle.fp_place.specs.Cut.{cut_below}
use Rattle.fp_place.proofs.cut_nets.cut.Given as goal

abbrev pub invariant-loop-net : goal.invariant-loop-net
invariant-loop-net l = (l.count ≡ cut_below l.problem l.dies l.net) × (l.count ≤ l.net)
