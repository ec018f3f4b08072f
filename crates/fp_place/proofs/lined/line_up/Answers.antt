use Rattle.std.proofs.Common.{sym, subst}
use Rattle.fp_place.specs.LaneOrder.{AreByX}
use Rattle.fp_place.proofs.LinClear.{lined_up, first_told}
use Rattle.fp_place.proofs.LinRank.{are_ranked}
use Rattle.fp_place.proofs.lined.line_up.Goals as goal

pub first_overlap-requires-clause-ranked : goal.first_overlap-requires-clause-ranked
first_overlap-requires-clause-ranked c =
    are_ranked c.args.problem.now c.args.places.now c.args.numbers.now c.as_slice.result.now c.in_ok-lined.lined.top c.in_ok-lined.lined.bottom
    (record { many = c.requires.places; on_segments = c.requires.on_segments; sorted = subst (AreByX c.args.places.now) (sym c.as_slice.ensures.value) c.in_ok-order.ensures; hold = c.in_ok-lined.ensures })

pub returns-in-Some : goal.returns-in-Some
returns-in-Some c = first_told c.args.problem.now c.args.places.now c.args.numbers.now c.in-Some.cell c.in-Some.ensures

pub returns : goal.returns
returns c =
    lined_up c.args.problem.now c.args.places.now c.args.numbers.now c.as_slice.result.now c.in_ok-lined.lined c.cells-cells.ensures.sound
    (record { many = c.requires.places; on_segments = c.requires.on_segments; sorted = subst (AreByX c.args.places.now) (sym c.as_slice.ensures.value) c.in_ok-order.ensures; hold = c.in_ok-lined.ensures })
    c.in-None.ensures
