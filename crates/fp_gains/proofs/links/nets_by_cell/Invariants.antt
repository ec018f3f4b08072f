use Rattle.std.proofs.Common.{◌≡◌, ℕ, ◌+◌, ◌<◌, length}
use Rattle.fp_gains.specs.Lists.{list_at}
use Rattle.fp_gains.specs.Links.{nets_of_cell}
use Rattle.fp_gains.proofs.links.nets_by_cell.Given as goal

abbrev pub invariant-loop-cell : goal.invariant-loop-cell
invariant-loop-cell l = record {
  many : length l.lists ≡ l.cell;
  each : (cell : ℕ) → cell < l.cell → list_at l.lists cell ≡ nets_of_cell l.problem cell;
  room : l.found.room ≡ length l.problem.nets;
  mark : l.found.mark ≡ l.cell + 1;
}
