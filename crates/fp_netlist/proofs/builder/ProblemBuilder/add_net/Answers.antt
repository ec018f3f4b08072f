use Rattle.std.proofs.Common.{ap, length, arith}
use Rattle.fp_netlist.proofs.NetlistLemmas.{IsSeen, seen, net_added, name_new}
use Rattle.fp_netlist.proofs.builder.ProblemBuilder.add_net.Goals as goal

pub invariant_of-self-2 : goal.invariant_of-self-2
invariant_of-self-2 c =
    let s : IsSeen c.self.inside.dies c.self.inside.cell_names c.self.inside.cells.items c.self.inside.net_names c.self.inside.conns.items c.args.self.now = seen _ _ _ _ _ _ c.self.invariant c.self.view_is in
    let new = name_new c.self.inside.net_names c.add.new.self c.args.self.now.nets c.args.name.now c.in_ok-add.field-0 s.nets_are c.in_ok-add.ensures.new c.in_ok-add.ensures.ok c.if-not-branch.false in
    (net_added c.self.inside.dies c.self.inside.cell_names c.self.inside.cells.items c.self.inside.net_names c.add.new.self c.self.inside.conns.items c.args.self.now c.args.name.now
    c.self.invariant c.self.view_is (omega (arith, c.len-count.ensures, c.if-count-ge-CELLS.false, ap length s.nets_are)) new.0 new.1).kept
