use Rattle.std.proofs.Common.{◌≡◌, length, map, take, replicate, false, Some}
use Rattle.fp_base.specs.declared.ids.CellId.{CellId}
use Rattle.fp_check.specs.Marks.{marked}
use Rattle.fp_check.proofs.listing.are_apart.Given as goal

abbrev pub invariant-loop-cell : goal.invariant-loop-cell
invariant-loop-cell l = marked (replicate (length l.problem.cells) false) (map (λ (cell : CellId). cell.0) (take l.cell-index l.cells)) ≡ Some l.seen.items
