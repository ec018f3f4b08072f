use Rattle.fp_netlist.proofs.NetlistLemmas.{seen, conn_at, conn_in_range}
use Rattle.fp_netlist.proofs.problem.Problem.conn.Goals as goal

pub returns-clause-within : goal.returns-clause-within
returns-clause-within c =
    let s = seen _ _ _ _ _ _ c.self.invariant.kept c.self.view_is in
    conn_in_range c.args.self.now c.args.conn.0 c.index.result.now.conn s.sound (conn_at c.self.inside.conns.items c.args.self.now.conns c.args.conn.0 c.index.result.now s.conns_are c.requires c.index.ensures)

pub returns-clause-conn : goal.returns-clause-conn
returns-clause-conn c =
    let s = seen _ _ _ _ _ _ c.self.invariant.kept c.self.view_is in
    conn_at c.self.inside.conns.items c.args.self.now.conns c.args.conn.0 c.index.result.now s.conns_are c.requires c.index.ensures
