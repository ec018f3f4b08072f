use Rattle.std.proofs.Common.{◌≡◌, ◌∙◌, ◌<◌, ◌≤◌, length, slice_get, Some, refl, ap, sym, arith}
use Rattle.std.proofs.lemmas.Bool.{false≢true}
use Rattle.std.proofs.lemmas.Option.{slice_get_read}
use Rattle.fp_cert.specs.Standing.{dies_shown}
use Rattle.fp_place.specs.Settled.{settled}
use Rattle.fp_check.specs.declared.views.View.{View}
use Rattle.fp_check.proofs.Nexts.{of_read, of_views, one_view_more, last_is}
use Rattle.fp_check.proofs.Settling.{settles, kept_by}
use Rattle.fp_check.proofs.dies.are_settled.Goals as goal

pub returns-then-not-are_same : goal.returns-then-not-are_same
returns-then-not-are_same c =
    let p = c.args.problem.now in
    let run = c.args.run.now in
    let views = c.args.views.now in
    let many : length views ≡ length run.trials = c.requires.views.1.many in
    let first : slice_get views 0 ≡ Some c.index-views-0.result = slice_get_read views (length views) 0 c.index-views-0.result refl (omega (arith, c.requires.some)) c.index-views-0.is in
    let kept : c.in_ok-settled.settled.items ≡ settled p c.index-views-0.result.dies.items =
    c.in_ok-settled.ensures.settled ∙ ap (settled p) (c.deref.ensures.value ∙ ap (λ (v : View). v.dies.items) (sym c.index-views-0.is)) in
    let below : c.loop-number.number < length views = omega (arith, c.loop-number-test.true, ap length c.trials-number-end.ensures, many) in
    let there : slice_get views c.loop-number.number ≡ Some c.index-views-number.result = slice_get_read views (length views) c.loop-number.number c.index-views-number.result refl below c.index-views-number.is in
    let dies : c.deref-in-loop-number.result.now ≡ c.index-views-number.result.dies.items = c.deref-in-loop-number.ensures.value ∙ ap (λ (v : View). v.dies.items) (sym c.index-views-number.is) in (
      λ no. absurd (false≢true no),
      λ all.
          let each = of_views p c.requires.views.0 run views c.requires.views.1 (λ base view. view.dies.items ≡ settled p base.dies.items)
          (λ base trial. dies_shown p trial ≡ settled p (dies_shown p base))
          (λ base trial one two shows tells is. tells.dies_are ∙ is ∙ ap (settled p) (sym shows.dies_are)) all in
          let same = kept_by p views c.index-views-0.result c.in_ok-settled.settled.items first kept each c.loop-number.number c.index-views-number.result c.loop-number.auto.number there in
          absurd (false≢true (sym c.if-not-are_same.true ∙ c.are_same.ensures.1 (dies ∙ same ∙ sym c.deref-in-loop-number-2.ensures.value))),
    )

pub loop-number-preserved : goal.loop-number-preserved
loop-number-preserved c =
    let dies : c.deref-in-loop-number.result.now ≡ c.index-views-number.result.dies.items = c.deref-in-loop-number.ensures.value ∙ ap (λ (v : View). v.dies.items) (sym c.index-views-number.is) in
    one_view_more c.args.views.now c.loop-number.number (λ base view. view.dies.items ≡ c.in_ok-settled.settled.items) c.loop-number.invariant (λ number base view next first second.
    let same = last_is c.args.views.now number c.loop-number.number view c.index-views-number.result next second c.index-views-number.is in
    ap (λ (v : View). v.dies.items) (sym same) ∙ sym dies ∙ c.are_same.ensures.0 c.if-not-are_same.false ∙ c.deref-in-loop-number-2.ensures.value)

pub returns : goal.returns
returns c =
    let p = c.args.problem.now in
    let run = c.args.run.now in
    let views = c.args.views.now in
    let first : slice_get views 0 ≡ Some c.index-views-0.result = slice_get_read views (length views) 0 c.index-views-0.result refl (omega (arith, c.requires.some)) c.index-views-0.is in
    let kept : c.in_ok-settled.settled.items ≡ settled p c.index-views-0.result.dies.items =
    c.in_ok-settled.ensures.settled ∙ ap (settled p) (c.deref.ensures.value ∙ ap (λ (v : View). v.dies.items) (sym c.index-views-0.is)) in
    let all : length run.trials ≤ c.loop-number.number = omega (arith, c.loop-number-test.false, ap length c.trials-number-end.ensures) in (
      λ _. of_read p c.requires.views.0 run views c.requires.views.1 (λ base view. view.dies.items ≡ settled p base.dies.items)
          (λ base trial. dies_shown p trial ≡ settled p (dies_shown p base))
          (λ base trial one two shows tells is. sym tells.dies_are ∙ is ∙ ap (settled p) shows.dies_are) c.loop-number.number all
          (settles p views c.loop-number.number c.index-views-0.result c.in_ok-settled.settled.items first kept c.loop-number.invariant),
      λ _. refl,
    )
