use Rattle.std.proofs.Common.{arith}
use Rattle.std.proofs.lemmas.Bool.{false≢true}
use Rattle.fp_place.proofs.CloseLemmas.{missed_more, missed_all}
use Rattle.fp_place.proofs.close.meets_any.Goals as goal

pub loop-near-preserved : goal.loop-near-preserved
loop-near-preserved c =
    missed_more c.args.terminal c.args.net c.args.centre c.args.entries.now _ c.loop-near.near c.loop-near.invariant (c.meets_in_row.ensures.missed c.if-meets_in_row.false)

pub returns : goal.returns
returns c = (
  λ yes. absurd (false≢true yes),
  λ any. absurd (missed_all c.args.terminal c.args.net c.args.centre c.args.entries.now c.requires.terminal c.requires.centre c.requires.entries
      (λ number from below. c.loop-near.invariant number from (omega (arith, c.row_of-row.ensures.value))) any),
)
