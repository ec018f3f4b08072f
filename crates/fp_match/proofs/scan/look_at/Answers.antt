use Rattle.std.proofs.Common.{arith}
use Rattle.fp_match.proofs.Steps.{least_bound, value_low, value_offer, value_far}
use Rattle.fp_match.proofs.Runs.{held_or_unused, runs_grown}
use Rattle.fp_match.proofs.scan.look_at.Goals as goal

pub overflow_add-labels : goal.overflow_add-labels
overflow_add-labels g c =
    omega (
      arith,
      c.requires.tree.level_most,
      least_bound _ _ _ _ _ _ _ c.rows-limits.ensures.limits c.requires.matched c.requires.tree c.requires.turn _ c.requires.column_in c.requires.row_in,
    )

pub returns-then-value-labels-clause-offered : goal.returns-then-value-labels-clause-offered
returns-then-value-labels-clause-offered g c =
    value_far _ _ _ _ _ _ _ _ _ c.requires.tree c.requires.turn c.requires.fits c.requires.column_in c.cost.ensures c.index.ensures c.if-value-labels.true

pub overflow_sub-value : goal.overflow_sub-value
overflow_sub-value g c =
    value_low _ _ _ _ _ _ _ _ _ c.requires.matched c.requires.tree c.requires.turn c.requires.fits c.requires.column_in c.cost.ensures c.index.ensures

pub offer-requires-clause-offer : goal.offer-requires-clause-offer
offer-requires-clause-offer g c =
    value_offer _ _ _ _ _ _ _ _ _ c.requires.matched c.requires.tree c.requires.turn c.requires.fits c.requires.column_in
    (omega (arith, c.requires.row_in, c.rows-limits.ensures.limits.most_rows)) c.cost.ensures c.index.ensures c.if-value-labels.false

pub close-requires-clause-held : goal.close-requires-clause-held
close-requires-clause-held g c = held_or_unused _ _ _ _ _ c.requires.matched c.requires.column_in

pub close-requires-clause-runs : goal.close-requires-clause-runs
close-requires-clause-runs g c = runs_grown _ _ _ _ _ c.offer.ensures.grown c.requires.runs
