use Rattle.std.proofs.Common.{◌<◌, ◌+◌, pos, ◌+ℤ◌, FitsSigned, w64, to_z, length, get_or, set, arith, rules}
use Rattle.std.proofs.lemmas.Int.{ints, to_z-of_z}
use Rattle.std.proofs.lemmas.List.Elements.{All-from_recursion}
use Rattle.fp_rows.specs.declared.RowCell.{RowCell}
use Rattle.fp_rows.specs.Squares.{IsCell, width_of}
use Rattle.fp_rows.specs.RunsLaws.{IsPacking, packing_next, packing_most}
use Rattle.fp_abacus.proofs.placing.pack.Goals as goal
use Rattle.fp_abacus.proofs.placing.pack.Goals.{In-loop-i}

abbrev no_cell : RowCell
no_cell = record { width = pos 0; target = pos 0; weight = pos 0 }

next : (c : In-loop-i) → c.loop-i.i < length c.args.run.now → IsPacking width_of c.args.run.now c.args.position c.args.xs.now (set c.loop-i.xs (c.args.start + c.loop-i.i) (to_z w64 c.loop-i.end-bits)) c.args.start (c.loop-i.i + 1) (to_z w64 c.loop-i.end-bits +ℤ (get_or c.args.run.now c.loop-i.i no_cell).width)
next c lt =
    let fits : FitsSigned w64 c.args.position = search rules in
    let here = simp to_z-of_z at c.loop-i.invariant in
    packing_next width_of c.args.run.now c.args.position c.args.xs.now c.loop-i.xs c.args.start c.loop-i.i (to_z w64 c.loop-i.end-bits) no_cell lt (omega arith) here

width : (c : In-loop-i) → c.loop-i.i < length c.args.run.now → FitsSigned w64 (get_or c.args.run.now c.loop-i.i no_cell).width
width c lt =
    let cell = All-from_recursion IsCell c.args.run.now c.requires.cells c.loop-i.i no_cell lt in
    omega (arith, ints, cell.width_from, cell.width_to)

fits : (c : In-loop-i) → c.loop-i.i < length c.args.run.now → FitsSigned w64 (to_z w64 c.loop-i.end-bits +ℤ (get_or c.args.run.now c.loop-i.i no_cell).width)
fits c lt =
    let n = next c lt in
    let most = packing_most width_of c.args.run.now c.args.position c.args.xs.now _ c.args.start _ _ n in
    omega (arith, ints, n.low, c.requires.to)

pub overflow_add-end-in-loop-i : goal.overflow_add-end-in-loop-i
overflow_add-end-in-loop-i c =
    let d = (goal.at.overflow_add-end-in-loop-i c).In-loop-i in
    let w = width d c.loop-i-test.true in
    simp to_z-of_z (fits d c.loop-i-test.true)

pub loop-i-preserved : goal.loop-i-preserved
loop-i-preserved c =
    let d = (goal.at.loop-i-preserved c).In-loop-i in
    let w = width d c.loop-i-test.true in
    let f = fits d c.loop-i-test.true in
    let p : FitsSigned w64 c.args.position = search rules in
    simp to_z-of_z (next d c.loop-i-test.true)
