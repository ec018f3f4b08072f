use Rattle.std.proofs.Common.{ℕ, subst}
use Rattle.std.specs.Prelude.{◌≡◌, IfOk}
use Rattle.fp_cert.specs.OfProblem.{IsTrialOf}
use Rattle.fp_cert.specs.CertGrammar.{AreLines}
use Rattle.fp_cert.proofs.TrialRead.{slots_of, lines_in_grammar, lines_of_problem}
use Rattle.fp_cert.proofs.lines_reader.read_lines.Goals as goal

pub returns-clause-reads : goal.returns-clause-reads
returns-clause-reads c = λ grid is.
    let slots = slots_of c.args.problem.now.plan c.dies.result.now c.of.result grid c.slots-slots.result c.dies.ensures c.of.ensures.grid c.slots-slots.ensures.count is in
    subst (λ (n : ℕ). IfOk c.placed_trial.result (λ trial. AreLines c.args.problem.now n trial c.args.tokens.now.words c.placed_trial.new.tokens.words × (trial.ending ≡ c.args.ending))) slots
    (lines_in_grammar c.args.problem.now c.slots-slots.result c.args.ending c.args.tokens.now c.placed_trial.new.tokens c.placed_trial.result c.placed_trial.ensures)

pub returns-clause-of_problem : goal.returns-clause-of_problem
returns-clause-of_problem c = λ grid is.
    let slots = slots_of c.args.problem.now.plan c.dies.result.now c.of.result grid c.slots-slots.result c.dies.ensures c.of.ensures.grid c.slots-slots.ensures.count is in
    subst (λ (n : ℕ). IfOk c.placed_trial.result (λ trial. IsTrialOf c.args.problem.now n trial)) slots
    (lines_of_problem c.args.problem.now c.slots-slots.result c.args.ending c.args.tokens.now c.placed_trial.new.tokens c.placed_trial.result c.requires c.placed_trial.ensures)
