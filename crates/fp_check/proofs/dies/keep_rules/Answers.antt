use Rattle.std.proofs.Common.{◌≡◌, ◌∙◌, ◌<◌, ◌≤◌, length, refl, ap, sym, subst, arith}
use Rattle.std.proofs.lemmas.Bool.{false≢true}
use Rattle.fp_cert.specs.Standing.{dies_shown}
use Rattle.fp_place.specs.Settled.{KeepRules}
use Rattle.fp_check.specs.declared.views.View.{View}
use Rattle.fp_check.proofs.Nexts.{many_dies, of_read, step_at, one_view_more, last_is}
use Rattle.fp_check.proofs.dies.keep_rules.Goals as goal

pub keeps_rules-requires : goal.keeps_rules-requires
keeps_rules-requires c =
    let below : c.loop-number.number < length c.args.run.now.trials = omega (arith, c.loop-number-test.true, ap length c.trials-number-end.ensures) in
    many_dies c.args.problem.now c.requires.0 c.args.run.now c.args.views.now c.requires.1 c.loop-number.number c.index-views-number.result c.deref.result.now below c.index-views-number.is c.deref.ensures.value

pub returns-then-not-keeps_rules : goal.returns-then-not-keeps_rules
returns-then-not-keeps_rules c =
    let p = c.args.problem.now in
    let below : c.loop-number.number < length c.args.run.now.trials = omega (arith, c.loop-number-test.true, ap length c.trials-number-end.ensures) in
    let dies : c.deref.result.now ≡ c.index-views-number.result.dies.items = c.deref.ensures.value ∙ ap (λ (v : View). v.dies.items) (sym c.index-views-number.is) in (
      λ no. absurd (false≢true no),
      λ all.
          let keeps = step_at p c.requires.0 c.args.run.now c.args.views.now c.requires.1 (λ base view. KeepRules p view.dies.items) (λ base trial. KeepRules p (dies_shown p trial))
          (λ base trial first second one two rules. subst (KeepRules p) (sym two.dies_are) rules) all c.loop-number.number c.index-views-number.result c.index-views-number.result c.loop-number.auto.number below
          c.index-views-number.is in
          absurd (false≢true (sym c.if-not-keeps_rules.true ∙ c.keeps_rules.ensures.1 (subst (KeepRules p) (sym dies) keeps))),
    )

pub loop-number-preserved : goal.loop-number-preserved
loop-number-preserved c =
    let p = c.args.problem.now in
    let dies : c.deref.result.now ≡ c.index-views-number.result.dies.items = c.deref.ensures.value ∙ ap (λ (v : View). v.dies.items) (sym c.index-views-number.is) in
    one_view_more c.args.views.now c.loop-number.number (λ base view. KeepRules p view.dies.items) c.loop-number.invariant (λ number base view next first second.
    let same = last_is c.args.views.now number c.loop-number.number view c.index-views-number.result next second c.index-views-number.is in
    subst (λ (v : View). KeepRules p v.dies.items) same (subst (KeepRules p) dies (c.keeps_rules.ensures.0 c.if-not-keeps_rules.false)))

pub returns : goal.returns
returns c =
    let p = c.args.problem.now in
    let all : length c.args.run.now.trials ≤ c.loop-number.number = omega (arith, c.loop-number-test.false, ap length c.trials-number-end.ensures) in (
      λ _. of_read p c.requires.0 c.args.run.now c.args.views.now c.requires.1 (λ base view. KeepRules p view.dies.items) (λ base trial. KeepRules p (dies_shown p trial))
          (λ base trial first second one two rules. subst (KeepRules p) two.dies_are rules) c.loop-number.number all c.loop-number.invariant,
      λ _. refl,
    )
