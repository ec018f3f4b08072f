use Rattle.std.proofs.Common.{sym, ◌∙◌, arith}
use Rattle.std.proofs.lemmas.Bool.{false≢true}
use Rattle.fp_place.specs.Buckets.{IsTooClose}
use Rattle.fp_place.proofs.CloseLemmas.{met_in_part, missed_in_part}
use Rattle.fp_place.proofs.close.meets_in_row.Goals as goal

pub returns-clause-met : goal.returns-clause-met
returns-clause-met c =
    λ yes. met_in_part (IsTooClose c.args.terminal c.args.net c.args.centre) c.args.entries.now c.run.result.now c.run.ensures.within (c.meets_one_of.ensures.0 yes)

pub returns-clause-missed : goal.returns-clause-missed
returns-clause-missed c =
    λ no. missed_in_part c.args.terminal c.args.net c.args.centre c.args.entries.now c.run.result.now c.args.row
    (λ entry there near. c.run.ensures.all entry there (omega (arith, near.low, c.column_of-column.ensures.value)) (omega (arith, near.high, c.column_of-column.ensures.value)))
    (λ any. false≢true (sym no ∙ c.meets_one_of.ensures.1 any))
