use Rattle.std.proofs.Common.{length, take, ap, arith}
use Rattle.fp_check.proofs.Viewing.{length-with_tops}
use Rattle.fp_check.proofs.views.lift.Goals as goal

pub index_mut-requires : goal.index_mut-requires
index_mut-requires c =
    let inside = c.requires c.loop-cell.cell-index (record { 0 = 0 }) c.loop-cell-test.true in
    omega (arith, inside, ap length c.loop-cell.invariant, length-with_tops c.args.dies.now.items (take c.loop-cell.cell-index c.args.cells.now), c.loop-cell.dies.ok.0)
