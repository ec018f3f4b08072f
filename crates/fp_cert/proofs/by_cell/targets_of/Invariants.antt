use Rattle.std.proofs.Common.{◌≡◌, map, take}
use Rattle.fp_cert.specs.declared.shown.CellShown.{CellShown}
use Rattle.fp_cert.proofs.by_cell.targets_of.Given as goal

abbrev pub invariant-loop-line : goal.invariant-loop-line
invariant-loop-line l = l.targets.items ≡ map (λ (line : CellShown). line.target) (take l.line-index l.line-items)
