use Rattle.std.proofs.Common.{arith}
use Rattle.fp_place.specs.HeldLaws.{room_below, more_held, all_held}
use Rattle.fp_part.proofs.areas.caps_of.Goals as goal

pub add-requires-clause-room : goal.add-requires-clause-room
add-requires-clause-room c =
    room_below c.args.problem.now c.args.dies.now c.loop-cell.caps c.loop-cell.cell c.requires c.loop-cell.invariant (omega (arith, c.requires.cells))

pub loop-cell-preserved : goal.loop-cell-preserved
loop-cell-preserved c =
    more_held c.args.problem.now c.args.dies.now c.loop-cell.caps c.add.new.self c.loop-cell.cell c.loop-cell.invariant (omega (arith, c.requires.cells)) c.add.ensures

pub returns : goal.returns
returns c = all_held c.args.problem.now c.args.dies.now c.loop-cell.caps c.loop-cell.cell c.loop-cell.invariant (omega (arith, c.requires.cells))
