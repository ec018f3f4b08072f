use Rattle.std.proofs.Common.{◌∙◌, ap, length, arith}
use Rattle.fp_netlist.proofs.NetlistLemmas.{seen, net_members}
use Rattle.fp_netlist.proofs.problem.Problem.conns_of_net.Goals as goal

pub group-requires-clause-there : goal.group-requires-clause-there
group-requires-clause-there c =
    let s = seen _ _ _ _ _ _ c.self.invariant.kept c.self.view_is in
    omega (arith, c.self.invariant.by_net.many, ap length s.nets_are, c.requires)

pub group-requires-clause-rises : goal.group-requires-clause-rises
group-requires-clause-rises c =
    let s = seen _ _ _ _ _ _ c.self.invariant.kept c.self.view_is in
    c.self.invariant.by_net.rises c.args.net.0 (omega (arith, ap length s.nets_are, c.requires))

pub group-requires-clause-within : goal.group-requires-clause-within
group-requires-clause-within c =
    let s = seen _ _ _ _ _ _ c.self.invariant.kept c.self.view_is in
    c.self.invariant.by_net.within c.args.net.0 (omega (arith, ap length s.nets_are, c.requires))

pub returns : goal.returns
returns c =
    let s = seen _ _ _ _ _ _ c.self.invariant.kept c.self.view_is in
    c.group.ensures ∙ c.self.invariant.by_net.at c.args.net.0 (omega (arith, ap length s.nets_are, c.requires)) ∙ net_members c.self.inside.conns.items c.args.self.now c.args.net.0 s.conns_are
