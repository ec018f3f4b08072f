use Rattle.std.proofs.Common.{◌+ℤ◌, FitsSigned, w64, arith}
use Rattle.std.proofs.lemmas.Int.{ints, to_z-of_z}
use Rattle.fp_abacus.specs.Stacks.{IsMoment}
use Rattle.fp_abacus.proofs.stack.Cluster.joined.Goals as goal

pub new-requires : goal.new-requires
new-requires c =
    let f = c.requires.first in
    let s = c.requires.second in
    let w = c.requires.weight in
    let a : FitsSigned w64 c.args.self.weight = omega (arith, ints) in
    let b : FitsSigned w64 c.args.behind.weight = omega (arith, ints) in
    let d : FitsSigned w64 c.args.self.moment = omega (arith, ints) in
    let e : FitsSigned w64 c.args.behind.moment = omega (arith, ints) in
    let g : FitsSigned w64 (c.args.self.weight +ℤ c.args.behind.weight) = omega (arith, ints) in
    let h : FitsSigned w64 (c.args.self.moment +ℤ c.args.behind.moment) = omega (arith, ints) in
    let made : IsMoment (c.args.self.weight +ℤ c.args.behind.weight) (c.args.self.moment +ℤ c.args.behind.moment) = record { some = omega (arith, ints); light = w; low = omega (arith, ints); high = omega (arith, ints) } in
    simp to_z-of_z made

pub returns : goal.returns
returns c =
    let f = c.requires.first in
    let s = c.requires.second in
    let w = c.requires.weight in
    let a : FitsSigned w64 c.args.self.weight = omega (arith, ints) in
    let b : FitsSigned w64 c.args.behind.weight = omega (arith, ints) in
    let d : FitsSigned w64 c.args.self.moment = omega (arith, ints) in
    let e : FitsSigned w64 c.args.behind.moment = omega (arith, ints) in
    let g : FitsSigned w64 (c.args.self.weight +ℤ c.args.behind.weight) = omega (arith, ints) in
    let h : FitsSigned w64 (c.args.self.moment +ℤ c.args.behind.moment) = omega (arith, ints) in
    simp to_z-of_z at c.new.ensures
