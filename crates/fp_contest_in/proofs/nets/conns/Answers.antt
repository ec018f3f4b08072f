use Rattle.std.proofs.Common.{ℕ, List, [], length, ap, arith}
use Rattle.std.proofs.lemmas.Result.{err_from_is_err_and}
use Rattle.fp_text.specs.Reading.{many_next}
use Rattle.fp_contest_in.specs.Text.{with_conn_text}
use Rattle.fp_contest_in.specs.Growing.{conn_item}
use Rattle.fp_contest_in.proofs.Growth.{counted_none, counted_all}
use Rattle.fp_contest_in.proofs.ProblemLoops.{conns_room, conns_nets, conns_more, conns_fault}
use Rattle.fp_contest_in.proofs.nets.conns.Goals as goal

pub loop-init : goal.loop-init
loop-init c = counted_none (with_conn_text c.args.net.0) (conn_item c.args.builder.now) c.args.count c.args.builder.now c.args.tokens.now

pub next_conn-requires-clause-net : goal.next_conn-requires-clause-net
next_conn-requires-clause-net c =
    omega (
      arith,
      c.requires.net,
      ap (λ (names : List (List ℕ)). length names) (conns_nets c.args.net.0 c.args.count c.loop.counter c.args.builder.now c.loop.builder c.loop.tokens
          (many_next (conn_item c.args.builder.now) c.args.count [] c.args.tokens.now) c.loop.invariant),
    )

pub next_conn-requires-clause-room : goal.next_conn-requires-clause-room
next_conn-requires-clause-room c =
    omega (
      arith,
      c.requires.room,
      conns_room c.args.net.0 c.args.count c.loop.counter c.args.builder.now c.loop.builder c.loop.tokens
          (many_next (conn_item c.args.builder.now) c.args.count [] c.args.tokens.now) c.loop.invariant,
    )

pub returns-in_err-next_conn : goal.returns-in_err-next_conn
returns-in_err-next_conn c =
    let p = err_from_is_err_and c.from_residual.result c.from_residual.ensures.1 in
    rw (p.1, p.2) (conns_fault c.in_err-next_conn.field-0.0 c.args.net.0 c.args.count c.loop.counter c.args.builder.now c.loop.builder c.loop.tokens
    (many_next (conn_item c.args.builder.now) c.args.count [] c.args.tokens.now) c.loop-test.true c.loop.invariant c.in_err-next_conn.ensures)

pub loop-preserved : goal.loop-preserved
loop-preserved c =
    conns_more c.args.net.0 c.args.count c.loop.counter c.args.builder.now c.loop.builder c.next_conn.new.builder c.loop.tokens c.next_conn.new.tokens
    (many_next (conn_item c.args.builder.now) c.args.count [] c.args.tokens.now) c.loop-test.true c.loop.invariant c.in_ok-next_conn.ensures

pub returns : goal.returns
returns c = (
  c.loop.invariant.items,
  counted_all (with_conn_text c.args.net.0) (conn_item c.args.builder.now) c.args.count c.loop.counter c.args.builder.now c.loop.builder c.loop.tokens
      (many_next (conn_item c.args.builder.now) c.args.count [] c.args.tokens.now) c.loop-test.false c.loop.invariant,
  c.loop.invariant.grown.value,
)
