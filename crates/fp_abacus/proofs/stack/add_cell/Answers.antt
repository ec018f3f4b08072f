use Rattle.std.proofs.Common.{◌<◌, ◌+◌, ◌^◌, ◌∷◌, pos, ◌-ℤ◌, ◌≤ℤ◌, ◌<ℤ◌, FitsSigned, w64, length, drop, get_or, arith, rules}
use Rattle.std.proofs.lemmas.Int.{ints, to_z-of_z}
use Rattle.std.proofs.lemmas.List.{length-drop}
use Rattle.std.proofs.lemmas.List.Elements.{recursion_from_All}
use Rattle.std.specs.List.{AllByRecursion}
use Rattle.fp_rows.specs.declared.RowCell.{RowCell}
use Rattle.fp_rows.specs.Squares.{IsCell, total_weight}
use Rattle.fp_rows.specs.Lists.{drop-at, each_behind}
use Rattle.fp_rows.specs.Weights.{weight_at, weight_behind}
use Rattle.fp_abacus.specs.declared.stack.Cluster.{Cluster}
use Rattle.fp_abacus.specs.Stacks.{IsFront, IsUnder}
use Rattle.fp_abacus.proofs.Levels.{moment_of_one}
use Rattle.fp_abacus.proofs.Adding.{Behind, CanJoin, can_join, adding_one, adding_next, added_last, set_front}
use Rattle.fp_abacus.proofs.stack.add_cell.Goals as goal
use Rattle.fp_abacus.proofs.stack.add_cell.Goals.{In-loop-next, then-loop-next-test+else-work-next, else-loop-next-test}

abbrev no_cell : RowCell
no_cell = record { width = pos 0; target = pos 0; weight = pos 0 }

abbrev no_cluster : Cluster
no_cluster = record { cells = 0; weight = pos 0; moment = pos 0; level = pos 0 }

pub of-added-requires-clause-weight : goal.of-added-requires-clause-weight
of-added-requires-clause-weight c = weight_at c.args.cells.now c.args.i no_cell c.requires.cells (omega arith)

pub loop-next-init : goal.loop-next-init
loop-next-init c =
    let lt : c.args.i < length c.args.cells.now = omega arith in
    let cell = c.requires.cells.each c.args.i no_cell lt in
    let w = weight_at c.args.cells.now c.args.i no_cell c.requires.cells lt in
    let fits : FitsSigned w64 c.args.before = search rules in
    let made = simp to_z-of_z at c.of-added.ensures in
    let one = get_or c.args.cells.now c.args.i no_cell in
    let moment = moment_of_one one.weight (one.target -ℤ c.args.before) cell.weight_from w (omega (arith, ints, cell.target_from)) (omega (arith, ints, cell.target_to)) in
    simp to_z-of_z (record {
      low = c.requires.behind;
      high = omega arith;
      front = adding_one c.args.before (drop c.args.i c.args.cells.now) one (drop (c.args.i + 1) c.args.cells.now) c.of-added.result (drop c.args.first c.args.work.now) (drop-at c.args.cells.now c.args.i no_cell lt) moment made c.requires.clusters;
    })

each : (c : In-loop-next) → AllByRecursion IsCell (drop c.args.i c.args.cells.now)
each c = each_behind IsCell c.args.cells.now c.args.i (recursion_from_All IsCell c.args.cells.now c.requires.cells.each)

light : (c : In-loop-next) → total_weight (drop c.args.i c.args.cells.now) ≤ℤ pos (2 ^ 22)
light c = let all = weight_behind c.args.cells.now c.args.i (recursion_from_All IsCell c.args.cells.now c.requires.cells.each) in omega (arith, ints, c.requires.cells.weight)

front : (c : In-loop-next) → c.loop-next.next < length c.args.work.now → IsFront c.args.before (drop c.args.i c.args.cells.now) c.loop-next.added (Behind (get_or c.args.work.now c.loop-next.next no_cluster ∷ drop (c.loop-next.next + 1) c.args.work.now))
front c lt =
    let fits : FitsSigned w64 c.args.before = search rules in
    rw (drop-at c.args.work.now c.loop-next.next no_cluster lt) at (simp to_z-of_z at c.loop-next.invariant.front)

can : (c : In-loop-next) → c.loop-next.next < length c.args.work.now → CanJoin (drop c.args.i c.args.cells.now) c.loop-next.added (get_or c.args.work.now c.loop-next.next no_cluster)
can c lt = can_join c.args.before (drop c.args.i c.args.cells.now) c.loop-next.added (get_or c.args.work.now c.loop-next.next no_cluster) (drop (c.loop-next.next + 1) c.args.work.now) (each c) (light c) (front c lt)

pub joined-added-requires-clause-cells : goal.joined-added-requires-clause-cells
joined-added-requires-clause-cells c =
    let h = can (goal.at.joined-added-requires-clause-cells c).In-loop-next c.loop-next-test.true in
    omega (arith, h.count, length-drop c.args.i c.args.cells.now)

pub joined-added-requires-clause-weight : goal.joined-added-requires-clause-weight
joined-added-requires-clause-weight c = (can (goal.at.joined-added-requires-clause-weight c).In-loop-next c.loop-next-test.true).weight

pub loop-next-preserved : goal.loop-next-preserved
loop-next-preserved c =
    let d = (goal.at.loop-next-preserved c).In-loop-next in
    let fits : FitsSigned w64 c.args.before = search rules in
    let lower : (get_or c.args.work.now c.loop-next.next no_cluster).level <ℤ c.loop-next.added.level = omega (arith, ints) in
    simp to_z-of_z (record {
      low = omega (arith, c.loop-next.invariant.low);
      high = omega arith;
      front = adding_next c.args.before (drop c.args.i c.args.cells.now) c.loop-next.added (get_or c.args.work.now c.loop-next.next no_cluster) c.joined-added.result (drop (c.loop-next.next + 1) c.args.work.now) (each d) (light d) (front d c.loop-next-test.true) lower c.joined-added.ensures;
    })

pub returns-clause-clusters : goal.returns-clause-clusters
returns-clause-clusters c =
    let fits : FitsSigned w64 c.args.before = search rules in
    let at = simp to_z-of_z at c.loop-next.invariant.front in
    let cut = set_front c.args.work.now c.loop-next.next c.loop-next.added (omega (arith, c.loop-next.invariant.low)) c.loop-next.invariant.high in
    let last : IsUnder c.loop-next.added.level (drop c.loop-next.next c.args.work.now) = elim c.loop-next-test.branch [
      | then-loop-next-test+else-work-next w ↦ added_last c.loop-next.added.level c.args.work.now c.loop-next.next no_cluster c.loop-next.invariant.high (λ lt. omega (arith, ints))
      | else-loop-next-test w ↦ added_last c.loop-next.added.level c.args.work.now c.loop-next.next no_cluster c.loop-next.invariant.high (λ lt. absurd (omega arith))
    ] in
    rw cut (at, last)
