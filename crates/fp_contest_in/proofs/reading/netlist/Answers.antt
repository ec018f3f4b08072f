use Rattle.std.proofs.lemmas.Result.{err_from_is_err_and}
use Rattle.fp_contest_in.proofs.Problems.{nothing_there, still_none, insts_fail, nets_fail, netlist_done}
use Rattle.fp_contest_in.proofs.reading.netlist.Goals as goal

pub insts-requires : goal.insts-requires
insts-requires c = (nothing_there c.args.builder.now c.requires).0

pub returns-in_err-insts : goal.returns-in_err-insts
returns-in_err-insts c =
    let p = err_from_is_err_and c.from_residual.result c.from_residual.ensures.1 in
    rw (p.1, p.2) (insts_fail c.in_err-insts.field-0.0 c.args.builder.now.plan c.args.tokens.now c.in_err-insts.ensures)

pub nets-requires-clause-none : goal.nets-requires-clause-none
nets-requires-clause-none c = (still_none c.args.builder.now c.insts.new.builder c.args.tokens.now c.insts.new.tokens c.requires c.in_ok-insts.ensures).0

pub nets-requires-clause-no_conns : goal.nets-requires-clause-no_conns
nets-requires-clause-no_conns c = (still_none c.args.builder.now c.insts.new.builder c.args.tokens.now c.insts.new.tokens c.requires c.in_ok-insts.ensures).1

pub returns-in_err-nets : goal.returns-in_err-nets
returns-in_err-nets c =
    let p = err_from_is_err_and c.from_residual-in_err-nets.result c.from_residual-in_err-nets.ensures.1 in
    rw (p.1, p.2) (nets_fail c.in_err-nets.field-0.0 c.args.builder.now c.insts.new.builder c.args.tokens.now c.insts.new.tokens c.requires c.in_ok-insts.ensures c.in_err-nets.ensures)

pub returns : goal.returns
returns c =
    netlist_done c.end.result c.args.builder.now c.insts.new.builder c.nets.new.builder c.args.tokens.now c.insts.new.tokens c.nets.new.tokens c.end.new.self
    c.requires c.in_ok-insts.ensures c.in_ok-nets.ensures c.end.ensures.ends
