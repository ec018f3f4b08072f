use Rattle.std.proofs.Common.{sym, ◌∙◌, arith}
use Rattle.fp_coarse.proofs.Stretches.{behind_later, before_earlier}
use Rattle.fp_coarse.proofs.nearest.first_behind.Goals as goal

pub loop-low-preserved-then-is_behind : goal.loop-low-preserved-then-is_behind
loop-low-preserved-then-is_behind c = record {
  order = c.probe-number.ensures.from;
  within = omega (arith, c.probe-number.ensures.below, c.loop-low.invariant.within);
  before = c.loop-low.invariant.before;
  behind = λ number from below. behind_later c.args.segments.now c.args.place c.probe-number.result number c.requires.segments from below
      (sym c.is_behind.ensures ∙ c.if-is_behind.true);
}

pub loop-low-preserved : goal.loop-low-preserved
loop-low-preserved c = record {
  order = omega (arith, c.probe-number.ensures.below);
  within = c.loop-low.invariant.within;
  before = λ number below. before_earlier c.args.segments.now c.args.place number c.probe-number.result c.requires.segments (omega (arith, below))
      (omega (arith, c.probe-number.ensures.below, c.loop-low.invariant.within)) (sym c.is_behind.ensures ∙ c.if-is_behind.false);
  behind = c.loop-low.invariant.behind;
}
