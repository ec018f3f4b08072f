use Rattle.std.proofs.Common.{[]}
use Rattle.fp_text.specs.Reading.{many_next}
use Rattle.fp_contest_in.specs.Growing.{block_item}
use Rattle.fp_contest_in.proofs.BlockLoop.{BlocksSoFar}
use Rattle.fp_contest_in.proofs.blocks.many_blocks.Given as goal

abbrev pub invariant-loop : goal.invariant-loop
invariant-loop l = BlocksSoFar l.count l.counter l.blocks.items l.tokens (many_next block_item l.count [] l.initial.tokens)
