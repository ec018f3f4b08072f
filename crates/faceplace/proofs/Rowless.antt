-- The cells that the trials of a run of a problem name are the problem's.
use Rattle.std.proofs.Common.{ℕ, subst}
use Rattle.std.proofs.lemmas.Option.{slice_get_within, get_or_from_slice_get}
use Rattle.fp_netlist.specs.Netlist.{Netlist}
use Rattle.fp_cert.specs.declared.shown.Ending.{Ending}
use Rattle.fp_cert.specs.declared.shown.Ending.TheVariants.{Start, Better, NotBetter, NoRow}
use Rattle.fp_cert.specs.OfProblem.{IsEndedTrialOf, IsTrialOf, IsRunOf}
use Rattle.fp_cert.specs.Shown.{ShownTrial, ShownRun}
use Rattle.faceplace.specs.TrialCells.{IsEndingOf, AreTrialsOf}

ended_of : (p : Netlist) (slots : ℕ) (trial : ShownTrial) (ending : Ending) → IsEndedTrialOf p slots trial ending → IsEndingOf p ending
ended_of p slots trial Start is = tt
ended_of p slots trial Better is = tt
ended_of p slots trial NotBetter is = tt
ended_of p slots trial (NoRow cell) is = is.within

pub trials_of : (p : Netlist) (slots : ℕ) (run : ShownRun) → IsRunOf p slots run → AreTrialsOf p run.trials
trials_of p slots run is = λ number trial at.
    ended_of p slots trial trial.ending
    (subst (IsTrialOf p slots) (get_or_from_slice_get run.trials number trial trial at) (is.trials number trial (slice_get_within run.trials number trial at)))
