use Rattle.std.proofs.Common.{[]}
use Rattle.std.proofs.lemmas.Result.{err_from_is_err_and}
use Rattle.fp_text.specs.Reading.{many_next}
use Rattle.fp_out.specs.OutReading.{terminal_next}
use Rattle.fp_out.specs.Growing.{with_terminals}
use Rattle.fp_out.proofs.LinesRead.{centres_none, centres_more, so_far_fault, so_far_all}
use Rattle.fp_out.proofs.reader.many_terminals.Goals as goal

pub loop-init : goal.loop-init
loop-init c = centres_none (terminal_next c.args.problem.now) c.args.count c.args.drawn.now c.args.tokens.now

pub returns-in_err-add_terminal : goal.returns-in_err-add_terminal
returns-in_err-add_terminal c =
    let p = err_from_is_err_and c.from_residual.result c.from_residual.ensures.1 in
    rw (p.1, p.2) (so_far_fault c.in_err-add_terminal.field-0.0 with_terminals (terminal_next c.args.problem.now) c.args.count c.loop.counter c.args.drawn.now c.loop.drawn c.loop.tokens
    (many_next (λ before. terminal_next c.args.problem.now) c.args.count [] c.args.tokens.now) c.loop-test.true c.loop.invariant c.in_err-add_terminal.ensures)

pub loop-preserved : goal.loop-preserved
loop-preserved c =
    centres_more (terminal_next c.args.problem.now) c.args.count c.loop.counter c.args.drawn.now c.loop.drawn c.add_terminal.new.drawn c.loop.tokens c.add_terminal.new.tokens
    (many_next (λ before. terminal_next c.args.problem.now) c.args.count [] c.args.tokens.now) c.loop-test.true c.loop.invariant c.in_ok-add_terminal.ensures

pub returns : goal.returns
returns c = (
  c.loop.invariant.items,
  so_far_all with_terminals (terminal_next c.args.problem.now) c.args.count c.loop.counter c.args.drawn.now c.loop.drawn c.loop.tokens
      (many_next (λ before. terminal_next c.args.problem.now) c.args.count [] c.args.tokens.now) c.loop-test.false c.loop.invariant,
  c.loop.invariant.value,
)
