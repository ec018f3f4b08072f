use Rattle.std.proofs.Common.{arith}
use Rattle.fp_netlist.proofs.NetlistLemmas.{seen, size_seen}
use Rattle.fp_netlist.proofs.problem.Problem.size.Goals as goal

pub index-requires : goal.index-requires
index-requires c =
    let s = seen _ _ _ _ _ _ c.self.invariant.kept c.self.view_is in
    omega (arith, s.many, c.requires, c.self.inside.cells.ok.0)

pub returns-clause-width : goal.returns-clause-width
returns-clause-width c =
    let s = seen _ _ _ _ _ _ c.self.invariant.kept c.self.view_is in
    (size_seen c.self.inside.dies c.self.inside.cell_names c.self.inside.cells.items c.self.inside.net_names c.self.inside.conns.items c.args.self.now s c.args.cell.0 c.args.die c.index.result.now c.size.result c.requires c.index.ensures c.size.ensures).width_is

pub returns-clause-height : goal.returns-clause-height
returns-clause-height c =
    let s = seen _ _ _ _ _ _ c.self.invariant.kept c.self.view_is in
    (size_seen c.self.inside.dies c.self.inside.cell_names c.self.inside.cells.items c.self.inside.net_names c.self.inside.conns.items c.args.self.now s c.args.cell.0 c.args.die c.index.result.now c.size.result c.requires c.index.ensures c.size.ensures).height_is

pub returns-clause-widths : goal.returns-clause-widths
returns-clause-widths c =
    let s = seen _ _ _ _ _ _ c.self.invariant.kept c.self.view_is in
    (size_seen c.self.inside.dies c.self.inside.cell_names c.self.inside.cells.items c.self.inside.net_names c.self.inside.conns.items c.args.self.now s c.args.cell.0 c.args.die c.index.result.now c.size.result c.requires c.index.ensures c.size.ensures).widths

pub returns-clause-heights : goal.returns-clause-heights
returns-clause-heights c =
    let s = seen _ _ _ _ _ _ c.self.invariant.kept c.self.view_is in
    (size_seen c.self.inside.dies c.self.inside.cell_names c.self.inside.cells.items c.self.inside.net_names c.self.inside.conns.items c.args.self.now s c.args.cell.0 c.args.die c.index.result.now c.size.result c.requires c.index.ensures c.size.ensures).heights
