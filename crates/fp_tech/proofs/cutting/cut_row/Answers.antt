use Rattle.std.proofs.Common.{◌≡◌, ◌+◌, ◌*◌, arith}
use Rattle.std.proofs.lemmas.Result.{on_ok_weaker}
use Rattle.fp_tech.specs.Rows.{base_of}
use Rattle.fp_tech.proofs.SweepLemmas.{row_done}
use Rattle.fp_tech.proofs.cutting.cut_row.Goals as goal

pub returns : goal.returns
returns c =
    let low : c.from.result + c.from-2.result * c.from-3.result ≡ base_of c.args.spec c.args.row = cc in
    on_ok_weaker c.push_piece-2.result
    (λ added. row_done c.args.spec c.args.row (c.from.result + c.from-2.result * c.from-3.result) (c.args.spec.start_x + c.args.spec.length) c.loop-block.at c.loop-block.block-index c.args.own.now
    c.args.segments.now.items c.loop-block.segments.items _ c.requires.own c.requires.by_left low (omega arith) (omega arith) c.loop-block.invariant added)
    c.push_piece-2.ensures
