use Rattle.std.proofs.Common.{drop}
use Rattle.fp_gains.specs.Links.{nets_of_cell}
use Rattle.fp_gains.proofs.LinkLemmas.{IsFinding}
use Rattle.fp_gains.proofs.links.find_nets.Given as goal

abbrev pub invariant-loop-conn : goal.invariant-loop-conn
invariant-loop-conn l = IsFinding (λ conn. conn.net.0) l.problem l.fn.found (nets_of_cell l.problem l.fn.cell.0) (drop l.conn-index l.conn-items) l.found
