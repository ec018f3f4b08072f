use Rattle.std.proofs.Common.{◌+◌, ◌≤◌, arith}
use Rattle.fp_match.proofs.Steps.{least_bound, floor_bound, floor_far}
use Rattle.fp_match.proofs.scan.scan_stripe.Goals as goal

pub overflow_add-labels : goal.overflow_add-labels
overflow_add-labels g c =
    omega (
      arith,
      c.requires.tree.level_most,
      least_bound _ _ _ _ _ _ _ c.rows-limits.ensures.limits c.requires.matched c.requires.tree c.requires.turn _ c.requires.stripe_in c.requires.row_in,
    )

pub overflow_add-turn : goal.overflow_add-turn
overflow_add-turn g c =
    omega (
      arith,
      floor_bound _ _ _ _ _ _ _ _ _ _ c.rows-limits.ensures.limits c.requires.tree c.requires.turn c.requires.row_in
          (omega (arith, c.stripe-width.ensures.positive, c.stripe-width.ensures.value)) c.requires.stripe_in c.floor.ensures,
    )

pub returns-then-labels-turn-clause-scanned : goal.returns-then-labels-turn-clause-scanned
returns-then-labels-turn-clause-scanned g c =
    let over : c.args.labels.now.level + c.args.turn.least ≤ c.args.turn.depth + c.floor.result = omega (arith, c.if-labels-turn.true) in
    floor_far _ _ _ _ _ _ _ _ _ c.requires.tree c.requires.turn c.floor.ensures over
