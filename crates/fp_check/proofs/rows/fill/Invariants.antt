use Rattle.std.proofs.Common.{◌≡◌, ◌∷◌, map, take}
use Rattle.fp_cert.specs.Trials.{row_cell}
use Rattle.fp_check.proofs.rows.fill.Given as goal

abbrev pub invariant-loop-line : goal.invariant-loop-line
invariant-loop-line l = record {
  cells : l.scratch.cells.items ≡ map (row_cell l.problem l.die) (take l.line-index l.lines);
  xs : l.scratch.xs.items ≡ map (λ line. line.x) (take l.line-index l.lines);
  duals : l.scratch.duals.items ≡ l.row.first ∷ map (λ line. line.dual) (take l.line-index l.lines);
}
