use Rattle.fp_match.proofs.Assigned.{growing_taken, growing_smaller, growing_prices, growing_end}
use Rattle.fp_match.proofs.Runs.{runs_taken}
use Rattle.fp_match.proofs.assign.grow.Goals as goal

pub scan_row-requires-in-loop-row-clause-tree : goal.scan_row-requires-in-loop-row-clause-tree
scan_row-requires-in-loop-row-clause-tree g c =
    growing_taken _ _ _ _ _ _ _ c.loop-row.invariant.0 (c.if-not-take_nearest.ensures.taken)

pub loop-row-smaller : goal.loop-row-smaller
loop-row-smaller g c =
    growing_smaller _ _ _ _ _ _ _ _ c.loop-row.invariant.0 (c.if-not-take_nearest.ensures.taken) c.scan_row-in-loop-row.ensures.scanned

pub scan_row-requires-in-loop-row-clause-runs : goal.scan_row-requires-in-loop-row-clause-runs
scan_row-requires-in-loop-row-clause-runs g c =
    runs_taken _ _ _ _ _ _ _ c.loop-row.invariant.0.tree (c.if-not-take_nearest.ensures.taken) c.loop-row.invariant.1

pub take_nearest-requires-clause-held : goal.take_nearest-requires-clause-held
take_nearest-requires-clause-held g c = growing_prices _ _ _ _ _ _ c.requires.matched c.requires.fits c.loop-row.invariant.0

pub returns-then-not-take_nearest-clause-grown : goal.returns-then-not-take_nearest-clause-grown
returns-then-not-take_nearest-clause-grown g c =
    rw (c.if-not-take_nearest.ensures.stays) (growing_end _ _ _ _ _ _ c.loop-row.invariant.0 (c.if-not-take_nearest.ensures.none))
