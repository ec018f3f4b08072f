use Rattle.fp_check.proofs.Standings.{listed_either}
use Rattle.fp_check.proofs.listing.trial_lists_once.Goals as goal

pub returns-in_default : goal.returns-in_default
returns-in_default c = listed_either c.args.problem.now c.args.trial.now c.ending.result c.stand_once.result c.ending.ensures c.in_default.not-NoRow c.stand_once.ensures
