use Rattle.std.proofs.Common.{arith}
use Rattle.fp_match.proofs.Tree.{turn_grown, scanned_none}
use Rattle.fp_match.proofs.Steps.{least_bound, swept_step, stripe_grown, swept_end}
use Rattle.fp_match.proofs.scan.scan_stripes.Goals as goal

pub overflow_add-limit : goal.overflow_add-limit
overflow_add-limit g c =
    omega (
      arith,
      c.requires.tree.level_most,
      least_bound _ _ _ _ _ _ _ c.rows-limits.ensures.limits c.requires.matched c.requires.tree c.requires.turn _ c.requires.some c.requires.row_in,
    )

pub loop-stripe-init : goal.loop-stripe-init
loop-stripe-init g c = (scanned_none _ _ _ _ _ _ c.requires.tree, c.requires.first, c.requires.runs)

pub scan_stripe-requires-clause-turn : goal.scan_stripe-requires-clause-turn
scan_stripe-requires-clause-turn g c = turn_grown _ _ _ _ _ _ c.loop-stripe.invariant.0.grown c.requires.turn

pub loop-stripe-preserved : goal.loop-stripe-preserved
loop-stripe-preserved g c = (
  swept_step _ _ _ _ _ _ _ _ _ _ c.loop-stripe.invariant.0 (c.near_stripes-near.ensures.inside _ c.loop-stripe-test.true) c.scan_stripe.ensures.scanned,
  stripe_grown _ _ _ _ _ _ _ _ c.scan_stripe.ensures.scanned.grown c.loop-stripe.invariant.1,
  c.scan_stripe.ensures.runs,
)

pub returns-clause-scanned : goal.returns-clause-scanned
returns-clause-scanned g c =
    swept_end _ _ _ _ _ _ _ _ _ _ _ _ c.requires.turn c.near_stripes-near.ensures.near
    (omega (arith, c.requires.turn.depth_is, c.requires.tree.level_after)) (omega arith) c.loop-stripe.invariant.0
