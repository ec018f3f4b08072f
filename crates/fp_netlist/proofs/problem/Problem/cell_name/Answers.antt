use Rattle.std.proofs.Common.{◌∙◌, ap, sym, slice_get, arith}
use Rattle.fp_netlist.proofs.NetlistLemmas.{seen}
use Rattle.fp_netlist.proofs.problem.Problem.cell_name.Goals as goal

pub name-requires : goal.name-requires
name-requires c =
    let s = seen _ _ _ _ _ _ c.self.invariant.kept c.self.view_is in
    omega (arith, s.as_many, s.many, c.requires)

pub returns : goal.returns
returns c =
    let s = seen _ _ _ _ _ _ c.self.invariant.kept c.self.view_is in
    ap (λ ns. slice_get ns c.args.cell.0) (sym s.names_are) ∙ c.name.ensures
