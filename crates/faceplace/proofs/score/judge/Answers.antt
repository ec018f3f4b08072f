use Rattle.std.proofs.Common.{◌∙◌, subst, inl}
use Rattle.fp_place.specs.declared.judge.Judged.TheVariants as judged
use Rattle.fp_place.specs.Breaks.{Judges}
use Rattle.fp_place.specs.BreaksLaws.{legal_terminals}
use Rattle.faceplace.specs.declared.status.Status.TheVariants as statuses
use Rattle.faceplace.specs.Status.{code_of, Refuses}
use Rattle.faceplace.proofs.Endings.{tells_refuses}
use Rattle.faceplace.proofs.Scores.{scored_as_drawn}
use Rattle.faceplace.proofs.score.judge.Goals as goal

pub score-requires-clause-terminals : goal.score-requires-clause-terminals
score-requires-clause-terminals g c =
    let judges : Judges c.args.problem.now c.args.drawn.now (judged.Legal c.in-Ok-Legal.placement) = rw c.in-Ok-Legal.field-0-is at c.in-Ok-Legal.ensures.judges in
    λ net below. legal_terminals c.args.problem.now c.args.drawn.now c.in-Ok-Legal.placement judges net below

pub returns-in-Ok : goal.returns-in-Ok
returns-in-Ok g c =
    let judges : Judges c.args.problem.now c.args.drawn.now (judged.Legal c.in-Ok-Legal.placement) = rw c.in-Ok-Legal.field-0-is at c.in-Ok-Legal.ensures.judges in
    inl (record {
      legal = judges.0;
      total = c.score.result;
      scored = scored_as_drawn c.args.problem.now c.args.drawn.now c.in-Ok-Legal.placement c.score.result judges.1 judges.2 c.score.ensures.score;
      tells = subst (λ report. Refuses report 0 (code_of c.tell.result) (g.S.Sink.written c.args.out.now) (g.S.Sink.written c.tell.new.out) (g.S.Sink.faults c.args.out.now) (g.S.Sink.faults c.tell.new.out))
          (c.as_bytes.ensures.value ∙ c.in-Ok.ensures) (tells_refuses c.as_bytes.result.now statuses.Done c.tell.result _ _ _ _ c.tell.ensures.tells);
    })
