use Rattle.std.proofs.Common.{sym}
use Rattle.fp_check.proofs.Standings.{top_stops, both_marked}
use Rattle.fp_check.proofs.listing.mark_both.Goals as goal

pub returns-then-not-mark_rows : goal.returns-then-not-mark_rows
returns-then-not-mark_rows c =
    sym (top_stops c.args.trial.now c.args.seen.now.items c.mark_rows.new.seen.items c.rows.result.now c.mark_rows.result c.rows.ensures c.mark_rows.ensures c.if-not-mark_rows.true)

pub returns : goal.returns
returns c =
    both_marked c.args.trial.now c.args.seen.now.items c.mark_rows.new.seen.items c.mark_rows-2.new.seen.items c.rows.result.now c.rows-2.result.now c.mark_rows.result c.mark_rows-2.result c.rows.ensures
    c.rows-2.ensures c.mark_rows.ensures c.if-not-mark_rows.false c.mark_rows-2.ensures
