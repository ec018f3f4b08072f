use Rattle.std.proofs.Common.{sym, ◌∙◌}
use Rattle.std.proofs.lemmas.Bool.{false≢true}
use Rattle.fp_place.proofs.CloseLemmas.{met_not_apart, not_met_apart}
use Rattle.fp_place.proofs.close.is_close.Goals as goal

pub returns-in-Some-clause-close : goal.returns-in-Some-clause-close
returns-in-Some-clause-close c =
    λ yes. met_not_apart c.args.terminal c.args.centres.now c.args.entries.now c.args.net c.in-Some.centre c.requires.entries c.in-Some.is (c.meets_any.ensures.0 yes)

pub returns-in-Some-clause-apart : goal.returns-in-Some-clause-apart
returns-in-Some-clause-apart c =
    λ no. not_met_apart c.args.terminal c.args.centres.now c.args.entries.now c.args.net c.in-Some.centre c.requires.entries c.in-Some.is
    (λ any. false≢true (sym no ∙ c.meets_any.ensures.1 any))
