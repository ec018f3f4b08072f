use Rattle.std.proofs.Common.{arith}
use Rattle.fp_abacus.proofs.Mixed.{one_mixed, mixed_row}
use Rattle.fp_abacus.proofs.tests.mixed.Goals as goal

pub loop-i-preserved : goal.loop-i-preserved
loop-i-preserved c =
    let made = c.mixed_cell.ensures in
    rw c.in_ok-push.ensures.items (one_mixed c.loop-i.cells.items c.mixed_cell.result c.loop-i.i made.cell made.light made.narrow c.loop-i.invariant)

pub returns-clause-row : goal.returns-clause-row
returns-clause-row c = mixed_row c.loop-i.cells.items c.loop-i.i (omega arith) c.loop-i.invariant
