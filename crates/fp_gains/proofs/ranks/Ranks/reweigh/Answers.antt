use Rattle.std.proofs.Common.{◌+◌, ◌-◌, arith}
use Rattle.fp_gains.proofs.RankLemmas.{key_read, reweighed_more, follow_more}
use Rattle.fp_gains.proofs.ranks.Ranks.reweigh.Goals as goal

pub overflow_add-key : goal.overflow_add-key
overflow_add-key c =
    let key = key_read c.args.dies.now c.args.cells.now c.args.before c.args.after c.args.self.now.keys.items c.loop-cell.self.keys.items c.loop-cell.cell-index c.index.result.now
    c.loop-cell.invariant.keys c.requires.once c.requires.within c.requires.range c.requires.shown.all_cells c.loop-cell-test.true c.index.ensures in
    omega (arith, key.high, c.share.ensures.small)

pub overflow_sub-key : goal.overflow_sub-key
overflow_sub-key c =
    let key = key_read c.args.dies.now c.args.cells.now c.args.before c.args.after c.args.self.now.keys.items c.loop-cell.self.keys.items c.loop-cell.cell-index c.index.result.now
    c.loop-cell.invariant.keys c.requires.once c.requires.within c.requires.range c.requires.shown.all_cells c.loop-cell-test.true c.index.ensures in
    omega (arith, key.low, c.share-in-loop-cell.ensures.small)

pub loop-cell-preserved : goal.loop-cell-preserved
loop-cell-preserved c =
    let key = key_read c.args.dies.now c.args.cells.now c.args.before c.args.after c.args.self.now.keys.items c.loop-cell.self.keys.items c.loop-cell.cell-index c.index.result.now
    c.loop-cell.invariant.keys c.requires.once c.requires.within c.requires.range c.requires.shown.all_cells c.loop-cell-test.true c.index.ensures in
    record {
      keys = reweighed_more c.args.dies.now c.args.cells.now c.args.before c.args.after c.args.self.now.keys.items c.loop-cell.self.keys.items c.change.new.self.keys.items c.loop-cell.cell-index
          (c.index.result.now + c.share.result - c.share-in-loop-cell.result) c.loop-cell.invariant.keys c.requires.once c.loop-cell-test.true (c.requires.within c.loop-cell.cell-index 0 c.loop-cell-test.true)
          c.loop-cell.invariant.shown.all_cells (omega (arith, key.is, key.low, c.share.ensures.share, c.share-in-loop-cell.ensures.share, c.share-in-loop-cell.ensures.small)) c.change.ensures.keys;
      shown = c.change.ensures.shown;
      follow = follow_more c.args.self.now c.loop-cell.self c.change.new.self c.loop-cell.invariant.follow c.change.ensures.follow;
    }
