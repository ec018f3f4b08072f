use Rattle.std.proofs.Common.{arith}
use Rattle.fp_match.proofs.Tree.{scanned_none, scanned_step, turn_grown}
use Rattle.fp_match.proofs.Runs.{scanned_closed}
use Rattle.fp_match.proofs.scan.scan_columns.Goals as goal

pub loop-column-init : goal.loop-column-init
loop-column-init g c = (
  scanned_closed _ _ _ _ _ _ _ _ _ _ c.requires.matched c.requires.turn (omega (arith, c.open_from-column.ensures.within, c.requires.to_in))
      (scanned_none _ _ _ _ _ _ c.requires.tree) c.open_from-column.ensures.closed,
  c.open_from-column.ensures.runs,
  c.open_from-column.ensures.within,
)

pub look_at-requires-clause-turn : goal.look_at-requires-clause-turn
look_at-requires-clause-turn g c = turn_grown _ _ _ _ _ _ c.loop-column.invariant.0.grown c.requires.turn

pub loop-column-preserved : goal.loop-column-preserved
loop-column-preserved g c =
    let step = scanned_step _ _ _ _ _ _ _ _ _ c.loop-column.invariant.0 c.look_at.ensures.offered in (
      scanned_closed _ _ _ _ _ _ _ _ _ _ c.requires.matched (turn_grown _ _ _ _ _ _ step.grown c.requires.turn)
          (omega (arith, c.open_from-column-in-loop-column.ensures.within, c.requires.to_in)) step c.open_from-column-in-loop-column.ensures.closed,
      c.open_from-column-in-loop-column.ensures.runs,
      c.open_from-column-in-loop-column.ensures.within,
    )
