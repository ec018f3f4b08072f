use Rattle.std.proofs.Common.{◌≡◌, ◌∙◌, pos, FitsSigned, arith, rules}
use Rattle.std.proofs.lemmas.Int.{ints, to_z-of_z}
use Rattle.fp_rows.specs.LeastDuals.{above}
use Rattle.fp_absrow.proofs.Cells.{raised}
use Rattle.fp_absrow.proofs.duals.above.Goals as goal
use Rattle.fp_absrow.proofs.duals.above.Goals.{After-max}
use mir.Syntax.{w128}

value : (c : After-max) → c.max.result ≡ pos (above c.args.number)
value c =
    let fits : FitsSigned w128 c.args.number = search rules in
    let most = simp to_z-of_z at c.max.ensures.value in
    most ∙ raised c.args.number

pub overflow_cast-result : goal.overflow_cast-result
overflow_cast-result c =
    let v = value (goal.at.overflow_cast-result c).After-max in
    let fits : FitsSigned w128 (pos (above c.args.number)) = (let a = c.requires in omega (arith, ints)) in
    rw v (simp to_z-of_z (tt, (let a = c.requires in omega arith)))

pub returns : goal.returns
returns c =
    let v = value (goal.at.returns c).After-max in
    let fits : FitsSigned w128 (pos (above c.args.number)) = (let a = c.requires in omega (arith, ints)) in
    rw v (simp to_z-of_z)
