use Rattle.std.proofs.Common.{◌<◌, sym, ◌∙◌, arith}
use Rattle.fp_part.specs.SettledLaws.{settled_uncut}
use Rattle.fp_part.proofs.PassLemmas.{IsPassed, no_more, passes_on, last_pass}
use Rattle.fp_part.proofs.passes.run_passes.Goals as goal
use Rattle.fp_part.proofs.passes.run_passes.Goals.{Else-partition-before}

passed : (c : Else-partition-before) → IsPassed c.args.problem.now c.loop-partition.partition.gains.dies c.pass.new.self.gains.dies c.loop-partition.partition.cut c.pass.new.self.cut
passed c = record {
  before_is = c.loop-partition.invariant.begun.ready.cut_is;
  now_is = c.in_ok-pass.ensures.begun.ready.cut_is;
  next_is = c.in_ok-pass.ensures.dies;
}

lowers : (c : Else-partition-before) → c.pass.new.self.cut < c.loop-partition.partition.cut
lowers c =
    omega (arith, c.if-partition-before.false, no_more c.args.problem.now c.loop-partition.partition.gains.dies c.pass.new.self.gains.dies c.loop-partition.partition.cut c.pass.new.self.cut (passed c))

pub loop-partition-smaller : goal.loop-partition-smaller
loop-partition-smaller c = lowers c

pub loop-partition-preserved : goal.loop-partition-preserved
loop-partition-preserved c = record {
  begun = c.in_ok-pass.ensures.begun;
  same = passes_on c.args.problem.now c.loop-partition.partition.gains.dies c.pass.new.self.gains.dies c.loop-partition.partition.cut c.pass.new.self.cut (passed c) (lowers c)
      ∙ c.loop-partition.invariant.same;
}

pub returns-after-loop-partition : goal.returns-after-loop-partition
returns-after-loop-partition c =
    let p = c.args.problem.now in let partition = c.loop-partition.partition in
    sym (settled_uncut p partition.gains.dies (omega (arith, c.loop-partition-test.false, c.loop-partition.invariant.begun.ready.cut_is))) ∙ c.loop-partition.invariant.same

pub returns-then-partition-before : goal.returns-then-partition-before
returns-then-partition-before c =
    last_pass c.args.problem.now c.loop-partition.partition.gains.dies c.pass.new.self.gains.dies c.loop-partition.partition.cut c.pass.new.self.cut
    (record {
      before_is = c.loop-partition.invariant.begun.ready.cut_is;
      now_is = c.in_ok-pass.ensures.begun.ready.cut_is;
      next_is = c.in_ok-pass.ensures.dies;
    }) c.if-partition-before.true
    ∙ c.loop-partition.invariant.same
