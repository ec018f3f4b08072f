use Rattle.std.proofs.Common.{◌≡◌, ◌≤◌, length}
use Rattle.fp_out.proofs.Lists.{lines_below}
use Rattle.fp_out.proofs.counts.cells_on.Given as goal

abbrev pub invariant-loop-cell : goal.invariant-loop-cell
invariant-loop-cell l = record {
  counted : l.count ≡ length (lines_below l.die l.cell l.placement);
  few : l.count ≤ l.cell;
}
