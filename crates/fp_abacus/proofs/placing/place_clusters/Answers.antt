use Rattle.std.proofs.Common.{◌≡◌, pos, ◌+ℤ◌, ◌-ℤ◌, FitsSigned, w64, to_z, get_or, arith, rules}
use Rattle.std.proofs.lemmas.Int.{ints, to_z-of_z}
use Rattle.fp_rows.specs.Squares.{width_of}
use Rattle.fp_rows.specs.Runs.{span}
use Rattle.fp_abacus.specs.declared.stack.Cluster.{Cluster}
use Rattle.fp_abacus.specs.Stacks.{clamped}
use Rattle.fp_abacus.proofs.Packing.{IsNext, next_cluster, placing_end}
use Rattle.fp_abacus.proofs.placing.place_clusters.Goals as goal
use Rattle.fp_abacus.proofs.placing.place_clusters.Goals.{After-clamp-level}

abbrev no_cluster : Cluster
no_cluster = record { cells = 0; weight = pos 0; moment = pos 0; level = pos 0 }

level : (c : After-clamp-level) → c.clamp-level.result ≡ clamped c.args.lo c.args.top (get_or c.args.clusters.now c.loop-cluster.cluster-index no_cluster).level
unfolding clamped
level c =
    let a : FitsSigned w64 c.args.lo = search rules in
    let b : FitsSigned w64 c.args.top = search rules in
    let e : FitsSigned w64 (get_or c.args.clusters.now c.loop-cluster.cluster-index no_cluster).level = search rules in
    simp to_z-of_z at c.clamp-level.ensures.value

next : (c : After-clamp-level) → IsNext c.args.cells.now c.args.clusters.now c.args.lo c.args.top c.loop-cluster.xs c.loop-cluster.cluster-index c.loop-cluster.placed (to_z w64 c.loop-cluster.before-bits) (get_or c.args.clusters.now c.loop-cluster.cluster-index no_cluster).cells c.clamp-level.result
next c =
    let a : FitsSigned w64 c.args.lo = search rules in
    let b : FitsSigned w64 c.args.top = search rules in
    let here = simp to_z-of_z at c.loop-cluster.invariant in
    rw (level c) (next_cluster c.args.cells.now c.args.clusters.now c.args.lo c.args.top c.loop-cluster.xs c.loop-cluster.cluster-index c.loop-cluster.placed (to_z w64 c.loop-cluster.before-bits) no_cluster c.requires.start c.requires.ordered c.loop-cluster-test.true here)

pub overflow_add-level : goal.overflow_add-level
overflow_add-level c =
    let n = next (goal.at.overflow_add-level c).After-clamp-level in
    let f : FitsSigned w64 c.clamp-level.result = search rules in
    simp to_z-of_z (omega (arith, ints, n.from, n.to, n.wide, c.requires.finish))

pub pack-requires-clause-cells : goal.pack-requires-clause-cells
pack-requires-clause-cells c = let n = next (goal.at.pack-requires-clause-cells c).After-clamp-level in rw n.slice n.each

pub pack-requires-clause-from : goal.pack-requires-clause-from
pack-requires-clause-from c =
    let n = next (goal.at.pack-requires-clause-from c).After-clamp-level in
    omega (arith, ints, n.from, n.to, n.wide, c.requires.finish)

pub pack-requires-clause-to : goal.pack-requires-clause-to
pack-requires-clause-to c =
    let n = next (goal.at.pack-requires-clause-to c).After-clamp-level in
    rw n.slice (omega (arith, ints, n.from, n.to, n.wide, c.requires.finish))

pub overflow_sub-before : goal.overflow_sub-before
overflow_sub-before c =
    let n = next (goal.at.overflow_sub-before c).After-clamp-level in
    let f : FitsSigned w64 c.clamp-level.result = search rules in
    let g : FitsSigned w64 c.pack.result = search rules in
    let h : FitsSigned w64 (c.clamp-level.result +ℤ to_z w64 c.loop-cluster.before-bits) = omega (arith, ints, n.from, n.to, n.wide, c.requires.finish) in
    let end = rw n.slice at (simp to_z-of_z at c.pack.ensures.end) in
    let level = c.clamp-level.ensures.upper_bound in
    simp to_z-of_z (omega (arith, ints, n.from, n.to, n.wide, c.requires.finish, end))

pub loop-cluster-preserved : goal.loop-cluster-preserved
loop-cluster-preserved c =
    let n = next (goal.at.loop-cluster-preserved c).After-clamp-level in
    let a : FitsSigned w64 c.args.lo = search rules in
    let b : FitsSigned w64 c.args.top = search rules in
    let f : FitsSigned w64 c.clamp-level.result = search rules in
    let g : FitsSigned w64 c.pack.result = search rules in
    let h : FitsSigned w64 (c.clamp-level.result +ℤ to_z w64 c.loop-cluster.before-bits) = omega (arith, ints, n.from, n.to, n.wide, c.requires.finish) in
    let end = rw n.slice at (simp to_z-of_z at c.pack.ensures.end) in
    let e : c.pack.result -ℤ c.clamp-level.result ≡ to_z w64 c.loop-cluster.before-bits +ℤ span width_of n.run = omega (arith, ints, end) in
    let level = c.clamp-level.ensures.upper_bound in
    let i : FitsSigned w64 (c.pack.result -ℤ c.clamp-level.result) = omega (arith, ints, n.from, n.to, n.wide, c.requires.finish) in
    let placed = rw n.slice at (simp to_z-of_z at c.pack.ensures.placed) in
    simp to_z-of_z (rw e (n.step c.pack.new.xs (rw n.size at placed)))

pub returns : goal.returns
returns c =
    let a : FitsSigned w64 c.args.lo = search rules in
    let b : FitsSigned w64 c.args.top = search rules in
    let here = simp to_z-of_z at c.loop-cluster.invariant in
    placing_end c.args.cells.now c.args.clusters.now c.args.lo c.args.top c.loop-cluster.xs c.loop-cluster.cluster-index c.loop-cluster.placed (to_z w64 c.loop-cluster.before-bits) (omega arith) (omega arith) (omega arith) here
