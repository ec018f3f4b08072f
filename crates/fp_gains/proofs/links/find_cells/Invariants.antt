use Rattle.std.proofs.Common.{drop}
use Rattle.fp_gains.specs.Links.{cells_of_net}
use Rattle.fp_gains.proofs.LinkLemmas.{IsFinding}
use Rattle.fp_gains.proofs.links.find_cells.Given as goal

abbrev pub invariant-loop-conn : goal.invariant-loop-conn
invariant-loop-conn l = IsFinding (λ conn. conn.cell.0) l.problem l.fn.found (cells_of_net l.problem l.fn.net.0) (drop l.conn-index l.conn-items) l.found
