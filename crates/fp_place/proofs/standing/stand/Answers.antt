use Rattle.fp_place.proofs.StandingLemmas.{found_many, first_broken, second_broken, third_broken, all_standing}
use Rattle.fp_place.proofs.FaultLemmas.{handed}
use Rattle.fp_place.proofs.standing.stand.Goals as goal

pub returns-in_err-places : goal.returns-in_err-places
returns-in_err-places c = handed c.from_residual.result _ _ c.in_err-places.field-0.0 c.from_residual.ensures.1 (first_broken c.args.problem.now c.args.drawn.now _ c.in_err-places.ensures)

pub find_segments-requires : goal.find_segments-requires
find_segments-requires c = found_many c.args.problem.now c.args.drawn.now _ c.in_ok-places.places.items c.deref.ensures.value c.in_ok-places.ensures

pub returns-in_err-numbers : goal.returns-in_err-numbers
returns-in_err-numbers c =
    handed c.from_residual-in_err-numbers.result _ _ c.in_err-numbers.field-0.0 c.from_residual-in_err-numbers.ensures.1
    (second_broken c.args.problem.now c.args.drawn.now c.deref.result.now c.in_ok-places.places.items _ c.deref.ensures.value c.in_ok-places.ensures c.in_err-numbers.ensures)

pub check_heights-requires : goal.check_heights-requires
check_heights-requires c = found_many c.args.problem.now c.args.drawn.now _ c.in_ok-places.places.items c.deref-2.ensures.value c.in_ok-places.ensures

pub returns-in_err-check_heights : goal.returns-in_err-check_heights
returns-in_err-check_heights c =
    handed c.from_residual-in_err-check_heights.result _ _ c.in_err-check_heights.field-0.0 c.from_residual-in_err-check_heights.ensures.1
    (third_broken c.args.problem.now c.args.drawn.now c.deref.result.now c.deref-2.result.now c.in_ok-places.places.items c.in_ok-numbers.numbers.items _ c.deref.ensures.value c.deref-2.ensures.value
    c.in_ok-places.ensures c.in_ok-numbers.ensures c.in_err-check_heights.ensures)

pub returns : goal.returns
returns c =
    all_standing c.args.problem.now c.args.drawn.now c.deref.result.now c.deref-2.result.now c.in_ok-places.places.items c.in_ok-numbers.numbers.items c.deref.ensures.value c.deref-2.ensures.value
    c.in_ok-places.ensures c.in_ok-numbers.ensures c.in_ok-check_heights.ensures
