use Rattle.std.proofs.Common.{ℕ, subst, arith}
use Rattle.std.specs.Prelude.{IfOk}
use Rattle.fp_tech.specs.Slots.{slot_count}
use Rattle.fp_cert.specs.OfProblem.{IsRunOf}
use Rattle.fp_cert.specs.CertGrammar.{ReadsCert}
use Rattle.fp_cert.specs.CertReading.{cert_of, GivesRun}
use Rattle.fp_cert.specs.CertReadingLaws.{reads_exactly, one_run}
use Rattle.fp_cert.specs.CertLengthLaws.{cert_short}
use Rattle.fp_cert.proofs.TrialRead.{slots_of, gives_of_problem, gives_reads, gives_only, gives_back}
use Rattle.fp_cert.proofs.reader.read_cert.Goals as goal

pub returns-clause-of_problem : goal.returns-clause-of_problem
returns-clause-of_problem c = λ grid is.
    let slots = slots_of c.args.problem.now.plan c.dies.result.now c.of.result grid c.slots-slots.result c.dies.ensures c.of.ensures.grid c.slots-slots.ensures.count is in
    subst (λ (n : ℕ). IfOk c.whole_run.result (λ run. IsRunOf c.args.problem.now n run)) slots
    (gives_of_problem c.args.problem.now c.slots-slots.result c.args.bytes.now c.whole_run.result c.whole_run.ensures)

pub returns-clause-reads : goal.returns-clause-reads
returns-clause-reads c = λ grid is.
    let slots = slots_of c.args.problem.now.plan c.dies.result.now c.of.result grid c.slots-slots.result c.dies.ensures c.of.ensures.grid c.slots-slots.ensures.count is in
    subst (λ (n : ℕ). IfOk c.whole_run.result (λ run. ReadsCert c.args.problem.now n c.args.bytes.now run)) slots
    (gives_reads c.args.problem.now c.slots-slots.result c.args.bytes.now c.whole_run.result c.whole_run.ensures)

pub returns-clause-only : goal.returns-clause-only
returns-clause-only c = λ grid is run reads.
    let slots = slots_of c.args.problem.now.plan c.dies.result.now c.of.result grid c.slots-slots.result c.dies.ensures c.of.ensures.grid c.slots-slots.ensures.count is in
    gives_only c.args.problem.now (slot_count grid) c.cells-cells.ensures.sound c.args.bytes.now c.whole_run.result run reads
    (subst (λ (n : ℕ). GivesRun c.whole_run.result (cert_of c.args.problem.now n c.args.bytes.now)) slots c.whole_run.ensures)

pub returns-clause-agree : goal.returns-clause-agree
returns-clause-agree c = λ grid is. reads_exactly c.args.problem.now (slot_count grid) c.cells-cells.ensures.sound c.args.bytes.now

pub returns-clause-unique : goal.returns-clause-unique
returns-clause-unique c = λ grid is. one_run c.args.problem.now (slot_count grid) c.cells-cells.ensures.sound c.args.bytes.now

pub returns-clause-gives : goal.returns-clause-gives
returns-clause-gives c = λ grid is.
    let slots = slots_of c.args.problem.now.plan c.dies.result.now c.of.result grid c.slots-slots.result c.dies.ensures c.of.ensures.grid c.slots-slots.ensures.count is in
    subst (λ (n : ℕ). GivesRun c.whole_run.result (cert_of c.args.problem.now n c.args.bytes.now)) slots c.whole_run.ensures

pub returns-clause-back : goal.returns-clause-back
returns-clause-back c = λ grid is run of_problem same.
    let slots = slots_of c.args.problem.now.plan c.dies.result.now c.of.result grid c.slots-slots.result c.dies.ensures c.of.ensures.grid c.slots-slots.ensures.count is in
    gives_back c.args.problem.now (slot_count grid) c.cells-cells.ensures.sound (omega (arith, is.few)) c.args.bytes.now c.whole_run.result run of_problem same
    (subst (λ (n : ℕ). GivesRun c.whole_run.result (cert_of c.args.problem.now n c.args.bytes.now)) slots c.whole_run.ensures)

pub returns-clause-short : goal.returns-clause-short
returns-clause-short c = λ grid is run of_problem. omega (arith, cert_short c.args.problem.now (slot_count grid) c.cells-cells.ensures.sound (omega (arith, is.few)) run of_problem)
