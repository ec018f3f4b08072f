use Rattle.std.proofs.Common.{subst}
use Rattle.fp_contest_in.specs.Statements.{problem_next, GivesProblem}
use Rattle.fp_contest_in.proofs.Problems.{gives_reads, gives_only}
use Rattle.fp_contest_in.specs.PrintableLaws.{printed}
use Rattle.fp_contest_in.proofs.ReadsBack.{gives_printable}
use Rattle.fp_contest_in.proofs.NamesRead.{gives_names}
use Rattle.fp_contest_in.specs.ReadsLaws.{reads_agree, reads_once}
use Rattle.fp_contest_in.proofs.reading.read_problem.Goals as goal

pub returns-clause-reads : goal.returns-clause-reads
returns-clause-reads c = gives_reads c.args.bytes.now c.problem.result (subst (λ l. GivesProblem c.problem.result (problem_next l)) c.new-tokens.ensures.whole c.problem.ensures)

pub returns-clause-only : goal.returns-clause-only
returns-clause-only c = λ text reads. gives_only c.args.bytes.now c.problem.result text reads (subst (λ l. GivesProblem c.problem.result (problem_next l)) c.new-tokens.ensures.whole c.problem.ensures)

pub returns-clause-gives : goal.returns-clause-gives
returns-clause-gives c = subst (λ l. GivesProblem c.problem.result (problem_next l)) c.new-tokens.ensures.whole c.problem.ensures

pub returns-clause-once : goal.returns-clause-once
returns-clause-once c = λ a b. reads_once c.args.bytes.now a b

pub returns-clause-agree : goal.returns-clause-agree
returns-clause-agree c = reads_agree c.args.bytes.now

pub returns-clause-names : goal.returns-clause-names
returns-clause-names c = gives_names c.args.bytes.now c.problem.result (subst (λ l. GivesProblem c.problem.result (problem_next l)) c.new-tokens.ensures.whole c.problem.ensures)

pub returns-clause-printable : goal.returns-clause-printable
returns-clause-printable c =
    gives_printable c.args.bytes.now c.problem.result (gives_reads c.args.bytes.now c.problem.result (subst (λ l. GivesProblem c.problem.result (problem_next l)) c.new-tokens.ensures.whole c.problem.ensures))

pub returns-clause-printed : goal.returns-clause-printed
returns-clause-printed c = λ text is. printed text is
