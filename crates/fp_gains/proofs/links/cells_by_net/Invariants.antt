use Rattle.std.proofs.Common.{◌≡◌, ℕ, ◌+◌, ◌<◌, length}
use Rattle.fp_gains.specs.Lists.{list_at}
use Rattle.fp_gains.specs.Links.{cells_of_net}
use Rattle.fp_gains.proofs.links.cells_by_net.Given as goal

abbrev pub invariant-loop-net : goal.invariant-loop-net
invariant-loop-net l = record {
  many : length l.lists ≡ l.net;
  each : (net : ℕ) → net < l.net → list_at l.lists net ≡ cells_of_net l.problem net;
  room : l.found.room ≡ length l.problem.cells;
  mark : l.found.mark ≡ l.net + 1;
}
