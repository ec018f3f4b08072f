use Rattle.std.proofs.Common.{◌≡◌, ◌≤◌, length}
use Rattle.fp_out.proofs.Lists.{terminals_below}
use Rattle.fp_out.proofs.counts.terminals.Given as goal

abbrev pub invariant-loop-net : goal.invariant-loop-net
invariant-loop-net l = record {
  counted : l.count ≡ length (terminals_below l.net l.placement.terminals);
  few : l.count ≤ l.net;
}
