use Rattle.std.proofs.Common.{◌≡◌, false, true, get_or, slice_get, Option, Some, None, sym, ap, subst, ◌∙◌, arith}
use Rattle.std.specs.Prelude.{◌↔◌, IfSome, IsTrue}
use Rattle.std.proofs.lemmas.Option.{same_Some, slice_get-get_or}
use Rattle.std.proofs.lemmas.Result.{IfOk-weaker}
use Rattle.fp_check.specs.declared.views.Layout.{Layout}
use Rattle.fp_check.specs.declared.views.View.{View}
use Rattle.fp_check.specs.Conditions.{Draws}
use Rattle.fp_check.specs.Starting.{IsAnswerFor, DrawsView}
use Rattle.fp_check.proofs.checking.draws_answer.Goals as goal
use Rattle.fp_check.proofs.checking.draws_answer.Goals.{In-Some, In-None}

at_some : (c : In-Some) → slice_get c.args.views.now c.args.run.now.answer ≡ Some (get_or c.args.views.now c.answer.result c.index-views-answer.result)
at_some c =
    ap (slice_get c.args.views.now) (sym c.answer.ensures)
    ∙ slice_get-get_or c.args.views.now c.answer.result c.index-views-answer.result (omega (arith, c.requires.within, c.answer.ensures))

right : (c : In-Some) → IsAnswerFor c.args.problem.now c.args.drawn.now c.in-Some.layout
right c =
    subst (λ (o : Option Layout). IfSome o (IsAnswerFor c.args.problem.now c.args.drawn.now)) c.in-Some.is
    (c.requires.right (get_or c.args.views.now c.answer.result c.index-views-answer.result) (at_some c))

pub draws-requires-clause-of_problem : goal.draws-requires-clause-of_problem
draws-requires-clause-of_problem c = (right (goal.at.draws-requires-clause-of_problem c).In-Some).of_problem

pub draws-requires-clause-legal : goal.draws-requires-clause-legal
draws-requires-clause-legal c = (right (goal.at.draws-requires-clause-legal c).In-Some).legal

pub draws-requires-clause-on_cuts : goal.draws-requires-clause-on_cuts
draws-requires-clause-on_cuts c = (right (goal.at.draws-requires-clause-on_cuts c).In-Some).on_cuts

pub returns-in-Some : goal.returns-in-Some
returns-in-Some c =
    IfOk-weaker c.draws.result (λ b. IsTrue b ↔ Draws c.args.problem.now c.args.drawn.now c.in-Some.layout.placement) _
    (λ b told view at. subst (λ (o : Option Layout). IsTrue b ↔ DrawsView c.args.problem.now c.args.drawn.now o)
    (sym (ap (λ (v : View). v.layout) (same_Some view (get_or c.args.views.now c.answer.result c.index-views-answer.result) (sym at ∙ at_some (goal.at.returns-in-Some c).In-Some)) ∙ c.in-Some.is)) told)
    c.draws.ensures

pub returns-in-None : goal.returns-in-None
returns-in-None c = λ view at.
    let there : slice_get c.args.views.now c.args.run.now.answer ≡ Some (get_or c.args.views.now c.answer.result c.index-views-answer.result) =
    ap (slice_get c.args.views.now) (sym c.answer.ensures)
    ∙ slice_get-get_or c.args.views.now c.answer.result c.index-views-answer.result (omega (arith, c.requires.within, c.answer.ensures)) in
    let none : view.layout ≡ None = ap (λ (v : View). v.layout) (same_Some view (get_or c.args.views.now c.answer.result c.index-views-answer.result) (sym at ∙ there)) ∙ c.in-None.is in
    subst (λ (o : Option Layout). IsTrue false ↔ DrawsView c.args.problem.now c.args.drawn.now o) (sym none) (λ no. absurd (let is : false ≡ true = no in cc), λ drawn. absurd drawn)
