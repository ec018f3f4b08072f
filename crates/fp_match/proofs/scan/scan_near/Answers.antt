use Rattle.std.proofs.Common.{arith}
use Rattle.fp_match.proofs.Steps.{least_bound, near_scanned}
use Rattle.fp_match.proofs.scan.scan_near.Goals as goal

pub overflow_add-limit : goal.overflow_add-limit
overflow_add-limit g c =
    omega (
      arith,
      c.requires.tree.level_most,
      least_bound _ _ _ _ _ _ _ c.rows-limits.ensures.limits c.requires.matched c.requires.tree c.requires.turn _ c.requires.stripe_in c.requires.row_in,
    )

pub returns-clause-scanned : goal.returns-clause-scanned
returns-clause-scanned g c =
    near_scanned _ _ _ _ _ _ _ _ _ _ _ _ c.requires.turn c.near_columns-near.ensures.near
    (omega (arith, c.requires.turn.depth_is, c.requires.tree.level_after)) c.scan_columns.ensures.scanned
