use Rattle.std.proofs.Common.{arith}
use Rattle.fp_match.proofs.Steps.{turn_start, held_bound, turn_held}
use Rattle.fp_match.proofs.scan.turn_of.Goals as goal

pub returns-then-current-row : goal.returns-then-current-row
returns-then-current-row g c = turn_start _ _ _ _ _ _ _ c.requires.tree c.index-current.ensures c.index-depth.ensures c.if-current-row.true

pub overflow_add-least : goal.overflow_add-least
overflow_add-least g c =
    omega (
      arith,
      held_bound _ _ _ _ _ _ _ _ _ _ c.rows-limits.ensures.limits c.requires.tree c.requires.matched c.requires.fits c.requires.row_in
          c.index-current.ensures c.if-current-row.false c.index-column.ensures c.cost.ensures c.index.ensures,
    )

pub returns : goal.returns
returns g c =
    turn_held _ _ _ _ _ _ _ _ _ _ c.requires.tree c.requires.matched c.requires.fits c.index-current.ensures c.index-depth.ensures
    c.if-current-row.false c.index-column.ensures c.cost.ensures c.index.ensures
