use Rattle.fp_place.proofs.SettlingLemmas.{first_overlap}
use Rattle.fp_place.proofs.settling.check_clear.Goals as goal

pub returns-in-Err : goal.returns-in-Err
returns-in-Err c = first_overlap c.args.problem.now c.args.places.now c.args.numbers.now c.in_ok-lined.field-0 c.in-Err.cell c.in-Err.is c.in_ok-lined.ensures
