use Rattle.std.proofs.Common.{◌∙◌, ap, sym, Some}
use Rattle.std.specs.Option.{option_map}
use Rattle.fp_netlist.specs.Points.{offset}
use Rattle.fp_netlist.proofs.NetlistLemmas.{seen, offset_seen, conn_at}
use Rattle.fp_netlist.proofs.problem.Problem.offset.Goals as goal

pub returns-clause-offset : goal.returns-clause-offset
returns-clause-offset c =
    let s = seen _ _ _ _ _ _ c.self.invariant.kept c.self.view_is in
    ap (option_map (λ conn. offset c.args.self.now conn c.args.die))
    (conn_at c.self.inside.conns.items c.args.self.now.conns c.args.conn.0 c.index.result.now s.conns_are c.requires c.index.ensures)
    ∙ ap Some
    ((offset_seen c.self.inside.dies c.self.inside.cell_names c.self.inside.cells.items c.self.inside.net_names c.self.inside.conns.items c.args.self.now s c.args.conn.0 c.args.die c.index.result.now c.offset.result c.requires c.index.ensures c.offset.ensures).is
    ∙ sym c.point.ensures.point)

pub returns-clause-x : goal.returns-clause-x
returns-clause-x c =
    let s = seen _ _ _ _ _ _ c.self.invariant.kept c.self.view_is in
    c.point.ensures.x
    (offset_seen c.self.inside.dies c.self.inside.cell_names c.self.inside.cells.items c.self.inside.net_names c.self.inside.conns.items c.args.self.now s c.args.conn.0 c.args.die c.index.result.now c.offset.result c.requires c.index.ensures c.offset.ensures).x

pub returns-clause-y : goal.returns-clause-y
returns-clause-y c =
    let s = seen _ _ _ _ _ _ c.self.invariant.kept c.self.view_is in
    c.point.ensures.y
    (offset_seen c.self.inside.dies c.self.inside.cell_names c.self.inside.cells.items c.self.inside.net_names c.self.inside.conns.items c.args.self.now s c.args.conn.0 c.args.die c.index.result.now c.offset.result c.requires c.index.ensures c.offset.ensures).y
