use Rattle.std.proofs.Common.{arith}
use Rattle.fp_place.proofs.SeenLemmas.{noted_here, noted_past}
use Rattle.fp_place.proofs.seen.note.Goals as goal

pub returns-then-number-len : goal.returns-then-number-len
returns-then-number-len c =
    noted_here c.args.seen.now.items c.args.number c.args.at c.index.result.now c.again-again.result (omega arith) c.index.ensures c.again-again.ensures

pub returns-else-number-len : goal.returns-else-number-len
returns-else-number-len c = noted_past c.args.seen.now.items c.args.number c.args.at (omega arith)
