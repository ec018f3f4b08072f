use Rattle.fp_cert.specs.Standing.{no_line}
use Rattle.fp_check.proofs.Viewing.{lane_more}
use Rattle.fp_check.proofs.views.fill_lane.Goals as goal

pub loop-cell-preserved : goal.loop-cell-preserved
loop-cell-preserved g c =
    lane_more c.args.lanes.now c.loop-cell.lanes c.push.new.self c.args.segment c.new.result c.args.cells.now c.loop-cell.cell-index no_line c.requires c.loop-cell-test.true c.new.ensures
    c.loop-cell.invariant c.in_ok-push.ensures
