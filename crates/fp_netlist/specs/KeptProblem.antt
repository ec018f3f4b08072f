-- How a problem is kept: as its builder keeps it, with the connections in groups by their cells and by their nets.
use Rattle.std.specs.Prelude.{ℕ, List, length, map}
use Rattle.fp_netlist.specs.declared.kept.KeptConn.{KeptConn}
use Rattle.fp_netlist.specs.declared.problem.Problem.TheInside.{Inside}
use Rattle.fp_netlist.specs.KeptGroups.{AreGroups}
use Rattle.fp_netlist.specs.KeptNetlist.{IsKept}

abbrev pub cell_keys : List KeptConn → List ℕ
cell_keys conns = map (λ kept. kept.conn.cell.0) conns

abbrev pub net_keys : List KeptConn → List ℕ
net_keys conns = map (λ kept. kept.conn.net.0) conns

pub record IsKeptProblem (p : Inside) : Type 0 where
  pub kept : IsKept p.dies p.cell_names p.cells.items p.net_names p.conns.items
  pub by_cell : AreGroups p.by_cell.starts.items p.by_cell.members.items (cell_keys p.conns.items) (length p.cells.items)
  pub by_net : AreGroups p.by_net.starts.items p.by_net.members.items (net_keys p.conns.items) (length p.net_names)
