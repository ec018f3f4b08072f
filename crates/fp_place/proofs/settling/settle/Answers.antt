use Rattle.fp_place.proofs.FaultLemmas.{handed}
use Rattle.fp_place.proofs.SettlingLemmas.{fourth_broken, fifth_broken, sixth_broken, sixth_done}
use Rattle.fp_place.proofs.settling.settle.Goals as goal

pub returns-in_err-lined : goal.returns-in_err-lined
returns-in_err-lined c =
    handed c.from_residual.result _ _ c.in_err-lined.field-0.0 c.from_residual.ensures.1 (fourth_broken c.args.problem.now c.args.places.now _ c.in_err-lined.ensures)

pub returns-in_err-check_percent : goal.returns-in_err-check_percent
returns-in_err-check_percent c =
    handed c.from_residual-in_err-check_percent.result _ _ c.in_err-check_percent.field-0.0 c.from_residual-in_err-check_percent.ensures.1
    (fifth_broken c.args.problem.now c.args.places.now c.args.numbers.now c.in_ok-lined.lined _ c.in_ok-lined.ensures c.in_err-check_percent.ensures)

pub returns-in_err-check_percent-2 : goal.returns-in_err-check_percent-2
returns-in_err-check_percent-2 c =
    handed c.from_residual-in_err-check_percent-2.result _ _ c.in_err-check_percent-2.field-0.0 c.from_residual-in_err-check_percent-2.ensures.1
    (sixth_broken c.args.problem.now c.args.places.now c.args.numbers.now c.in_ok-lined.lined _ c.in_ok-lined.ensures c.in_ok-check_percent.ensures c.in_err-check_percent-2.ensures)

pub returns : goal.returns
returns c = sixth_done c.args.problem.now c.args.places.now c.args.numbers.now c.in_ok-lined.lined c.in_ok-lined.ensures c.in_ok-check_percent.ensures c.in_ok-check_percent-2.ensures
