use Rattle.std.proofs.Common.{◌≡◌, ◌∙◌, ◌-◌, ◌<◌, ◌≤◌, length, refl, ap, sym, arith}
use Rattle.std.proofs.lemmas.Bool.{false≢true}
use Rattle.fp_cert.specs.Standing.{dies_shown}
use Rattle.fp_place.specs.Cut.{cut}
use Rattle.fp_check.specs.declared.views.View.{View}
use Rattle.fp_check.proofs.Nexts.{many_dies, of_read, step_at, one_view_more, last_is, base_is}
use Rattle.fp_check.proofs.dies.cut_no_more.Goals as goal

pub cut-requires : goal.cut-requires
cut-requires c =
    let below : c.loop-number.number < length c.args.run.now.trials = omega (arith, c.loop-number-test.true, ap length c.trials-number-end.ensures) in
    many_dies c.args.problem.now c.requires.0 c.args.run.now c.args.views.now c.requires.1 c.loop-number.number c.index-views-number.result c.deref.result.now below c.index-views-number.is c.deref.ensures.value

pub cut-requires-in-loop-number : goal.cut-requires-in-loop-number
cut-requires-in-loop-number c =
    let below : c.loop-number.number - 1 < length c.args.run.now.trials = omega (arith, c.loop-number-test.true, ap length c.trials-number-end.ensures) in
    many_dies c.args.problem.now c.requires.0 c.args.run.now c.args.views.now c.requires.1 (c.loop-number.number - 1) c.index-views-number-in-loop-number.result c.deref-in-loop-number.result.now below
    c.index-views-number-in-loop-number.is c.deref-in-loop-number.ensures.value

pub returns-then-cut : goal.returns-then-cut
returns-then-cut c =
    let p = c.args.problem.now in
    let below : c.loop-number.number < length c.args.run.now.trials = omega (arith, c.loop-number-test.true, ap length c.trials-number-end.ensures) in
    let dies : c.deref.result.now ≡ c.index-views-number.result.dies.items = c.deref.ensures.value ∙ ap (λ (v : View). v.dies.items) (sym c.index-views-number.is) in (
      λ no. absurd (false≢true no),
      λ all.
          let no_more = step_at p c.requires.0 c.args.run.now c.args.views.now c.requires.1 (λ base view. cut p view.dies.items ≤ cut p base.dies.items)
          (λ base trial. cut p (dies_shown p trial) ≤ cut p (dies_shown p base))
          (λ base trial first second one two fewer. omega (arith, fewer, ap (cut p) one.dies_are, ap (cut p) two.dies_are)) all c.loop-number.number c.index-views-number.result
          c.index-views-number-in-loop-number.result c.loop-number.auto.number below c.index-views-number.is in
          absurd (omega (
            arith,
            no_more,
            ap (cut p) dies,
            ap (cut p) c.deref-in-loop-number.ensures.value,
            c.if-cut.true,
            c.cut.ensures.count,
            c.cut-in-loop-number.ensures.count,
          )),
    )

pub loop-number-preserved : goal.loop-number-preserved
loop-number-preserved c =
    let p = c.args.problem.now in
    let dies : c.deref.result.now ≡ c.index-views-number.result.dies.items = c.deref.ensures.value ∙ ap (λ (v : View). v.dies.items) (sym c.index-views-number.is) in
    one_view_more c.args.views.now c.loop-number.number (λ base view. cut p view.dies.items ≤ cut p base.dies.items) c.loop-number.invariant (λ number base view next first second.
    let same = last_is c.args.views.now number c.loop-number.number view c.index-views-number.result next second c.index-views-number.is in
    let before = base_is c.args.views.now number c.loop-number.number base c.index-views-number-in-loop-number.result next first in
    omega (
      arith,
      ap (λ (v : View). cut p v.dies.items) same,
      ap (λ (v : View). cut p v.dies.items) before,
      ap (cut p) dies,
      ap (cut p) c.deref-in-loop-number.ensures.value,
      c.if-cut.false,
      c.cut.ensures.count,
      c.cut-in-loop-number.ensures.count,
    ))

pub returns : goal.returns
returns c =
    let p = c.args.problem.now in
    let all : length c.args.run.now.trials ≤ c.loop-number.number = omega (arith, c.loop-number-test.false, ap length c.trials-number-end.ensures) in (
      λ _. of_read p c.requires.0 c.args.run.now c.args.views.now c.requires.1 (λ base view. cut p view.dies.items ≤ cut p base.dies.items)
          (λ base trial. cut p (dies_shown p trial) ≤ cut p (dies_shown p base))
          (λ base trial first second one two fewer. omega (arith, fewer, ap (cut p) one.dies_are, ap (cut p) two.dies_are)) c.loop-number.number all c.loop-number.invariant,
      λ _. refl,
    )
