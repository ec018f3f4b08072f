use Rattle.std.proofs.Common.{Ok, Err, subst}
use Rattle.std.proofs.lemmas.Result.{err_from_is_err_and}
use Rattle.fp_text.specs.Reading.{Left, GivesFault}
use Rattle.fp_out.specs.OutReading.{drawing_next, GivesDrawing}
use Rattle.fp_out.specs.OutReadingLaws.{reads_exactly, one_drawing}
use Rattle.fp_out.proofs.DrawingRead.{gives_reads, gives_only, gives_back}
use Rattle.fp_out.proofs.reader.read_out.Goals as goal

pub returns-in_err-drawing-clause-only : goal.returns-in_err-drawing-clause-only
returns-in_err-drawing-clause-only c = λ drawn reads.
    let p = err_from_is_err_and c.from_residual.result c.from_residual.ensures.1 in
    let fails = subst (λ (l : Left). GivesFault c.in_err-drawing.field-0.0 (drawing_next c.args.problem.now l)) c.new-tokens.ensures.whole c.in_err-drawing.ensures in
    rw (p.1, p.2) (gives_only c.args.problem.now c.cells-cells.ensures.sound c.args.bytes.now (Err c.in_err-drawing.field-0.0) drawn reads fails)

pub returns-clause-reads : goal.returns-clause-reads
returns-clause-reads c =
    gives_reads c.args.problem.now c.args.bytes.now (Ok c.drawing.new.drawn)
    (subst (λ (l : Left). GivesDrawing (Ok c.drawing.new.drawn) (drawing_next c.args.problem.now l)) c.new-tokens.ensures.whole c.in_ok-drawing.ensures)

pub returns-clause-only : goal.returns-clause-only
returns-clause-only c = λ drawn reads.
    gives_only c.args.problem.now c.cells-cells.ensures.sound c.args.bytes.now (Ok c.drawing.new.drawn) drawn reads
    (subst (λ (l : Left). GivesDrawing (Ok c.drawing.new.drawn) (drawing_next c.args.problem.now l)) c.new-tokens.ensures.whole c.in_ok-drawing.ensures)

pub returns-in_err-drawing-clause-back : goal.returns-in_err-drawing-clause-back
returns-in_err-drawing-clause-back c = λ placed of_problem cells nets same.
    let p = err_from_is_err_and c.from_residual.result c.from_residual.ensures.1 in
    let fails = subst (λ (l : Left). GivesFault c.in_err-drawing.field-0.0 (drawing_next c.args.problem.now l)) c.new-tokens.ensures.whole c.in_err-drawing.ensures in
    rw (p.1, p.2) (gives_back c.args.problem.now c.cells-cells.ensures.sound c.args.bytes.now (Err c.in_err-drawing.field-0.0) placed of_problem cells nets same fails)

pub returns-clause-back : goal.returns-clause-back
returns-clause-back c = λ placed of_problem cells nets same.
    gives_back c.args.problem.now c.cells-cells.ensures.sound c.args.bytes.now (Ok c.drawing.new.drawn) placed of_problem cells nets same
    (subst (λ (l : Left). GivesDrawing (Ok c.drawing.new.drawn) (drawing_next c.args.problem.now l)) c.new-tokens.ensures.whole c.in_ok-drawing.ensures)

pub returns-in_err-drawing-clause-unique : goal.returns-in_err-drawing-clause-unique
returns-in_err-drawing-clause-unique c = one_drawing c.args.problem.now c.cells-cells.ensures.sound c.args.bytes.now

pub returns-clause-unique : goal.returns-clause-unique
returns-clause-unique c = one_drawing c.args.problem.now c.cells-cells.ensures.sound c.args.bytes.now

pub returns-in_err-drawing-clause-agree : goal.returns-in_err-drawing-clause-agree
returns-in_err-drawing-clause-agree c = reads_exactly c.args.problem.now c.cells-cells.ensures.sound c.args.bytes.now

pub returns-clause-agree : goal.returns-clause-agree
returns-clause-agree c = reads_exactly c.args.problem.now c.cells-cells.ensures.sound c.args.bytes.now
