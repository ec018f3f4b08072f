use Rattle.fp_check.proofs.Viewing.{all_filled}
use Rattle.fp_check.proofs.views.fill_lanes.Goals as goal

pub returns : goal.returns
returns g c = all_filled c.args.rows.now c.loop-number.number c.loop-number.lanes c.loop-number.invariant c.loop-number-test.false
