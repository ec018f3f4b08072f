use Rattle.std.proofs.Common.{◌≡◌, arith}
use Rattle.fp_netlist.specs.Netlist.{lib_of}
use Rattle.fp_netlist.specs.NetlistLaws.{lib_of_small}
use Rattle.fp_netlist.proofs.NetlistLemmas.{seen, lib_read}
use Rattle.fp_netlist.proofs.problem.Problem.lib_of.Goals as goal

pub index-requires : goal.index-requires
index-requires c =
    let s = seen _ _ _ _ _ _ c.self.invariant.kept c.self.view_is in
    omega (arith, s.many, c.requires, c.self.inside.cells.ok.0)

pub returns-clause-lib : goal.returns-clause-lib
returns-clause-lib c =
    let s = seen _ _ _ _ _ _ c.self.invariant.kept c.self.view_is in
    lib_read c.self.inside.cells.items c.args.self.now c.args.cell.0 c.index.result.now s.lib s.many c.requires c.index.ensures

pub returns-clause-small : goal.returns-clause-small
returns-clause-small c =
    let s = seen _ _ _ _ _ _ c.self.invariant.kept c.self.view_is in
    let is : (c.index.result.now).lib.0 ≡ lib_of c.args.self.now c.args.cell.0 = lib_read c.self.inside.cells.items c.args.self.now c.args.cell.0 c.index.result.now s.lib s.many c.requires c.index.ensures in
    omega (arith, lib_of_small c.args.self.now c.args.cell.0 s.sound c.requires, is)
