use Rattle.std.proofs.Common.{rules, arith}
use Rattle.fp_tech.proofs.GridLemmas.{least_more, few_at_widest}
use Rattle.fp_tech.proofs.grid.least_stride.Goals as goal

pub loop-low-init : goal.loop-low-init
loop-low-init c = record {
  some = omega arith;
  ordered = omega arith;
  small = omega arith;
  few = few_at_widest c.args.frame c.args.terminal c.requires.frame c.requires.terminal;
  least = λ lesser some less. absurd (omega arith);
}

pub loop-low-preserved : goal.loop-low-preserved
loop-low-preserved c = record {
  some = omega arith;
  ordered = omega arith;
  small = omega arith;
  few = c.loop-low.invariant.few;
  least = least_more c.args.frame c.args.terminal _ c.requires.terminal (search rules);
}
