use Rattle.std.proofs.Common.{FitsSigned, w64, rules}
use Rattle.std.proofs.lemmas.Int.{to_z-of_z}
use Rattle.fp_netlist.specs.Points.{width}
use Rattle.fp_place.proofs.StandingLemmas.{stands_iff}
use Rattle.fp_place.proofs.standing.stands_in.Goals as goal

pub returns-then-lies_in : goal.returns-then-lies_in
returns-then-lies_in c =
    let x_fits : FitsSigned w64 c.place.inside.x = search rules in
    let y_fits : FitsSigned w64 c.place.inside.y = search rules in
    let wide_fits : FitsSigned w64 c.width-width.result = search rules in
    let lies = simp to_z-of_z at c.lies_in.ensures in
    let level = simp to_z-of_z at c.is_level.ensures in
    stands_iff c.args.segment (width c.args.problem.now c.args.cell.0) _ c.args.place c.width-width.result c.lies_in.result _ c.place.view_is c.width-width.ensures.width lies c.if-lies_in.true level
