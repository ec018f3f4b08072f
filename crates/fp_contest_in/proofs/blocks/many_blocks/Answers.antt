use Rattle.std.proofs.Common.{[]}
use Rattle.std.proofs.lemmas.Result.{err_from_is_err_and}
use Rattle.fp_text.specs.Reading.{many_next}
use Rattle.fp_contest_in.specs.Growing.{block_item}
use Rattle.fp_contest_in.proofs.BlockLoop.{blocks_more, blocks_fault, blocks_all}
use Rattle.fp_contest_in.proofs.blocks.many_blocks.Goals as goal

pub returns-in_err-block-clause-gives : goal.returns-in_err-block-clause-gives
returns-in_err-block-clause-gives c =
    let p = err_from_is_err_and c.from_residual-in_err-block.result c.from_residual-in_err-block.ensures.1 in
    rw (p.1, p.2) (blocks_fault c.in_err-block.field-0.0 c.args.count c.loop.counter c.loop.blocks.items c.loop.tokens
    (many_next block_item c.args.count [] c.args.tokens.now) c.loop-test.true c.in_err-block.ensures.gives c.loop.invariant)

pub loop-preserved : goal.loop-preserved
loop-preserved c =
    blocks_more c.args.count c.loop.counter c.loop.blocks.items c.push.new.self.items c.in_ok-block.block c.loop.tokens c.block.new.tokens
    (many_next block_item c.args.count [] c.args.tokens.now) c.loop-test.true c.in_ok-block.ensures.gives c.in_ok-block.ensures.range c.in_ok-push.ensures.items c.loop.invariant

pub returns-clause-gives : goal.returns-clause-gives
returns-clause-gives c =
    blocks_all c.args.count c.loop.counter c.loop.blocks.items c.loop.tokens (many_next block_item c.args.count [] c.args.tokens.now) c.loop-test.false c.loop.invariant
