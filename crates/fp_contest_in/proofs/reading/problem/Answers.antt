use Rattle.std.proofs.Common.{◌∙◌}
use Rattle.std.proofs.lemmas.Result.{err_from_is_err_and}
use Rattle.fp_contest_in.proofs.Problems.{front_fails, netlist_fails, all_read}
use Rattle.fp_contest_in.proofs.reading.problem.Goals as goal

pub returns-in_err-dies : goal.returns-in_err-dies
returns-in_err-dies c =
    let p = err_from_is_err_and c.from_residual.result c.from_residual.ensures.1 in
    rw (p.1, p.2) (front_fails c.in_err-dies.field-0.0 c.args.tokens.now c.in_err-dies.ensures)

pub returns-in_err-netlist : goal.returns-in_err-netlist
returns-in_err-netlist c =
    let p = err_from_is_err_and c.from_residual-in_err-netlist.result c.from_residual-in_err-netlist.ensures.1 in
    rw (p.1, p.2) (netlist_fails c.in_err-netlist.field-0.0 c.args.tokens.now c.front.new.tokens c.in_ok-dies.dies c.new-builder.result c.in_ok-dies.ensures c.new-builder.ensures c.in_err-netlist.ensures)

pub returns-in-Ok : goal.returns-in-Ok
returns-in-Ok c =
    let all = all_read c.args.tokens.now c.front.new.tokens c.in_ok-dies.dies c.new-builder.result c.netlist.new.builder c.in_ok-dies.ensures c.new-builder.ensures c.in_ok-netlist.ensures in
    (all.0, all.1, c.in-Ok.ensures ∙ all.2)
