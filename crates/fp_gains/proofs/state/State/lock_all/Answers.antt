use Rattle.std.proofs.Common.{◌∙◌, ap, set, true, arith}
use Rattle.fp_gains.proofs.StateLemmas.{locks_more, lies_more}
use Rattle.fp_gains.proofs.state.State.lock_all.Goals as goal

pub loop-cell-preserved : goal.loop-cell-preserved
loop-cell-preserved c = record {
  shown = c.lock.ensures.shown;
  locked =
      c.lock.ensures.locked
      ∙ ap (λ locked. set locked c.loop-cell.cell true) c.loop-cell.invariant.locked
      ∙ locks_more true c.args.self.now.locked.items c.loop-cell.cell (omega (arith, c.requires.shown.all_locks, c.len-cell-end.ensures, c.args.self.now.dies.ok.0));
  lies = lies_more _ c.loop-cell.self c.lock.new.self c.loop-cell.invariant.lies c.lock.ensures.lies;
}
