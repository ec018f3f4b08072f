use Rattle.std.proofs.Common.{◌≡◌, ◌<◌, true, false, length, IsTrue, sym, subst, ◌∙◌, ⊎_elim, ◌≢◌, refl, arith}
use Rattle.std.proofs.lemmas.Bool.{and_parts, cases_eq}
use Rattle.fp_place.specs.Areas.{fits, keeps}
use Rattle.fp_place.specs.Held.{has_room, held_on}
use Rattle.fp_place.specs.HeldLaws.{more_held, next_taken, still_kept, all_kept}
use Rattle.fp_place.specs.Places.{die_at}
use Rattle.fp_place.proofs.rules.keeps_rules.Goals as goal

pub returns-then-not-takes : goal.returns-then-not-takes
returns-then-not-takes c = (
  λ told. absurd (let nothing : false ≡ true = told in cc),
  λ rules.
      let within : c.loop-number.number < length c.args.dies.now = omega (arith, c.requires, c.loop-number-test.true, c.cells-number-end.ensures.count) in
      let taken = next_taken c.args.problem.now c.args.dies.now c.loop-number.caps c.loop-number.number rules c.loop-number.invariant.held within in
      sym c.if-not-takes.true ∙ c.takes.ensures ∙ taken,
)

pub loop-number-preserved : goal.loop-number-preserved
loop-number-preserved c =
    let p = c.args.problem.now in let dies = c.args.dies.now in let cell = c.loop-number.number in let held = c.loop-number.caps in
    let taken = and_parts (fits p cell (die_at dies cell)) (has_room p held cell (die_at dies cell)) (sym c.takes.ensures ∙ c.if-not-takes.false) in
    record {
      held = more_held p dies held c.add.new.self cell c.loop-number.invariant.held (omega (arith, c.requires, c.loop-number-test.true, c.cells-number-end.ensures.count)) c.add.ensures;
      fitting = λ k below. ⊎_elim
          (λ (same : k ≡ cell). subst (λ j. IsTrue (fits p j (die_at dies j))) (sym same) taken.0)
          (λ (apart : k ≢ cell). c.loop-number.invariant.fitting k (omega (arith, below, apart)))
          (cases_eq k cell);
      percents = λ die. subst (λ h. IsTrue (keeps p.plan die (held_on h die))) (sym c.add.ensures)
          (still_kept p held cell (die_at dies cell) die taken.1 (c.loop-number.invariant.percents die));
    }

pub returns : goal.returns
returns c = (
  λ told.
      all_kept c.args.problem.now c.args.dies.now c.loop-number.caps c.loop-number.number c.requires
      (omega (arith, c.requires, c.loop-number-test.false, c.cells-number-end.ensures.count))
      c.loop-number.invariant.held c.loop-number.invariant.fitting c.loop-number.invariant.percents,
  λ rules. refl,
)
