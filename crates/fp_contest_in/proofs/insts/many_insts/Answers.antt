use Rattle.std.proofs.Common.{[], arith}
use Rattle.std.proofs.lemmas.Result.{err_from_is_err_and}
use Rattle.fp_text.specs.Reading.{many_next}
use Rattle.fp_contest_in.specs.Text.{with_inst_text}
use Rattle.fp_contest_in.specs.Growing.{inst_item}
use Rattle.fp_contest_in.proofs.Growth.{counted_none, counted_all}
use Rattle.fp_contest_in.proofs.ProblemLoops.{insts_room, insts_more, insts_fault}
use Rattle.fp_contest_in.proofs.insts.many_insts.Goals as goal

pub loop-init : goal.loop-init
loop-init c = counted_none with_inst_text (inst_item c.args.builder.now.plan) c.args.count c.args.builder.now c.args.tokens.now

pub next_inst-requires : goal.next_inst-requires
next_inst-requires c =
    omega (
      arith,
      insts_room c.args.count c.loop.counter c.args.builder.now c.loop.builder c.loop.tokens
          (many_next (inst_item c.args.builder.now.plan) c.args.count [] c.args.tokens.now) c.requires.none c.loop.invariant,
    )

pub returns-in_err-next_inst : goal.returns-in_err-next_inst
returns-in_err-next_inst c =
    let p = err_from_is_err_and c.from_residual.result c.from_residual.ensures.1 in
    rw (p.1, p.2) (insts_fault c.in_err-next_inst.field-0.0 c.args.count c.loop.counter c.args.builder.now c.loop.builder c.loop.tokens
    (many_next (inst_item c.args.builder.now.plan) c.args.count [] c.args.tokens.now) c.loop-test.true c.requires.none c.loop.invariant c.in_err-next_inst.ensures)

pub loop-preserved : goal.loop-preserved
loop-preserved c =
    insts_more c.args.count c.loop.counter c.args.builder.now c.loop.builder c.next_inst.new.builder c.loop.tokens c.next_inst.new.tokens
    (many_next (inst_item c.args.builder.now.plan) c.args.count [] c.args.tokens.now) c.loop-test.true c.requires.none c.loop.invariant c.in_ok-next_inst.ensures

pub returns : goal.returns
returns c = (
  c.loop.invariant.items,
  counted_all with_inst_text (inst_item c.args.builder.now.plan) c.args.count c.loop.counter c.args.builder.now c.loop.builder c.loop.tokens
      (many_next (inst_item c.args.builder.now.plan) c.args.count [] c.args.tokens.now) c.loop-test.false c.loop.invariant,
  c.loop.invariant.grown.value,
)
