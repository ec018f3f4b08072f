use Rattle.std.proofs.Common.{arith}
use Rattle.fp_netlist.proofs.NetlistLemmas.{seen}
use Rattle.fp_netlist.proofs.builder.ProblemBuilder.cells.Goals as goal

pub overflow_cast-result : goal.overflow_cast-result
overflow_cast-result c =
    let s = seen _ _ _ _ _ _ c.self.invariant c.self.view_is in
    omega (arith, s.few, c.len.ensures, c.self.inside.cells.ok.0)

pub returns-clause-count : goal.returns-clause-count
returns-clause-count c =
    let s = seen _ _ _ _ _ _ c.self.invariant c.self.view_is in
    omega (arith, c.len.ensures, s.many, c.self.inside.cells.ok.0)
