use Rattle.std.proofs.Common.{[], arith}
use Rattle.std.proofs.lemmas.Result.{err_from_is_err_and}
use Rattle.fp_text.specs.Reading.{many_next}
use Rattle.fp_contest_in.specs.Text.{with_net_text}
use Rattle.fp_contest_in.specs.Growing.{net_item}
use Rattle.fp_contest_in.proofs.Growth.{counted_none, counted_all}
use Rattle.fp_contest_in.proofs.ProblemLoops.{nets_room, nets_more, nets_fault}
use Rattle.fp_contest_in.proofs.nets.many_nets.Goals as goal

pub loop-init : goal.loop-init
loop-init c = counted_none with_net_text (net_item c.args.builder.now) c.args.count c.args.builder.now c.args.tokens.now

pub next_net-requires : goal.next_net-requires
next_net-requires c =
    omega (
      arith,
      nets_room c.args.count c.loop.counter c.args.builder.now c.loop.builder c.loop.tokens
          (many_next (net_item c.args.builder.now) c.args.count [] c.args.tokens.now) c.requires.none c.loop.invariant,
    )

pub returns-in_err-next_net : goal.returns-in_err-next_net
returns-in_err-next_net c =
    let p = err_from_is_err_and c.from_residual.result c.from_residual.ensures.1 in
    rw (p.1, p.2) (nets_fault c.in_err-next_net.field-0.0 c.args.count c.loop.counter c.args.builder.now c.loop.builder c.loop.tokens
    (many_next (net_item c.args.builder.now) c.args.count [] c.args.tokens.now) c.loop-test.true c.requires.none c.requires.no_conns c.loop.invariant c.in_err-next_net.ensures)

pub loop-preserved : goal.loop-preserved
loop-preserved c =
    nets_more c.args.count c.loop.counter c.args.builder.now c.loop.builder c.next_net.new.builder c.loop.tokens c.next_net.new.tokens
    (many_next (net_item c.args.builder.now) c.args.count [] c.args.tokens.now) c.loop-test.true c.requires.none c.requires.no_conns c.loop.invariant c.in_ok-next_net.ensures

pub returns : goal.returns
returns c = (
  c.loop.invariant.items,
  counted_all with_net_text (net_item c.args.builder.now) c.args.count c.loop.counter c.args.builder.now c.loop.builder c.loop.tokens
      (many_next (net_item c.args.builder.now) c.args.count [] c.args.tokens.now) c.loop-test.false c.loop.invariant,
  c.loop.invariant.grown.value,
)
