use Rattle.std.proofs.Common.{◌≡◌, ◌++◌, [], map, set, get_or, take}
use Rattle.fp_cert.specs.declared.shown.CellShown.{CellShown}
use Rattle.fp_check.proofs.views.fill_lane.Given as goal

abbrev pub invariant-loop-cell : goal.invariant-loop-cell
invariant-loop-cell g l = l.lanes ≡ set l.fn.lanes l.segment (get_or l.fn.lanes l.segment [] ++ map (λ (cell : CellShown). cell.cell) (take l.cell-index l.cells))
