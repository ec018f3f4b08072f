use Rattle.std.proofs.Common.{◌≡◌, take, Some}
use Rattle.fp_check.specs.Marks.{marked, cells_in_rows}
use Rattle.fp_check.proofs.listing.mark_rows.Given as goal

abbrev pub invariant-loop-row : goal.invariant-loop-row
invariant-loop-row l = marked l.fn.seen.items (cells_in_rows (take l.row-index l.rows)) ≡ Some l.seen.items
