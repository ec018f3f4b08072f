use Rattle.std.proofs.Common.{◌≡◌, take, Some}
use Rattle.fp_check.specs.Marks.{marked, cells_in}
use Rattle.fp_check.proofs.listing.mark_cells.Given as goal

abbrev pub invariant-loop-line : goal.invariant-loop-line
invariant-loop-line l = marked l.fn.seen.items (cells_in (take l.line-index l.lines)) ≡ Some l.seen.items
