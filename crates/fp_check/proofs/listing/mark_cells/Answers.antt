use Rattle.std.proofs.Common.{◌+◌, take, sym}
use Rattle.fp_cert.specs.Standing.{no_line}
use Rattle.fp_check.specs.Marks.{cells_in}
use Rattle.fp_check.proofs.Marking.{none_marked, go_on, stop_here, line_more, lines_none}
use Rattle.fp_check.proofs.listing.mark_cells.Goals as goal

pub loop-line-init : goal.loop-line-init
loop-line-init c = none_marked c.args.seen.now.items

pub returns-then-not-mark : goal.returns-then-not-mark
returns-then-not-mark c =
    let more = line_more c.args.lines.now c.loop-line.line-index no_line c.loop-line-test.true in
    sym (lines_none c.args.seen.now.items c.args.lines.now (c.loop-line.line-index + 1)
    (stop_here c.args.seen.now.items c.loop-line.seen.items c.mark.new.seen.items (cells_in (take c.loop-line.line-index c.args.lines.now)) _ _ c.mark.result c.loop-line.invariant more c.mark.ensures
    c.if-not-mark.true))

pub loop-line-preserved : goal.loop-line-preserved
loop-line-preserved c =
    let more = line_more c.args.lines.now c.loop-line.line-index no_line c.loop-line-test.true in
    go_on c.args.seen.now.items c.loop-line.seen.items c.mark.new.seen.items (cells_in (take c.loop-line.line-index c.args.lines.now)) _ _ c.mark.result c.loop-line.invariant more c.mark.ensures
    c.if-not-mark.false
