use Rattle.std.proofs.Common.{◌≡◌, ◌∙◌, refl, sym, subst, arith, inl, inr}
use Rattle.std.proofs.lemmas.Bool.{cases_eq}
use Rattle.fp_place.specs.Placed.{place_of, spot_at}
use Rattle.fp_check.proofs.Drawing.{places_alike, place_alike, spot_there}
use Rattle.fp_check.proofs.Scored.{never}
use Rattle.fp_check.proofs.answer.stand_alike.Goals as goal

pub returns-then-not-is_at_one_place : goal.returns-then-not-is_at_one_place
returns-then-not-is_at_one_place c =
    let first = spot_there c.args.first.now c.loop-number.number c.spot.result c.spot.ensures.spot in
    let second = spot_there c.args.second.now c.loop-number.number c.spot-in-loop-number.result c.spot-in-loop-number.ensures.spot in (
      never _,
      λ same. sym c.if-not-is_at_one_place.true ∙ c.is_at_one_place.ensures.1 (sym first ∙ place_alike c.args.first.now c.args.second.now c.loop-number.number same ∙ second),
    )

pub loop-number-preserved : goal.loop-number-preserved
loop-number-preserved c = λ cell below.
    let first = spot_there c.args.first.now c.loop-number.number c.spot.result c.spot.ensures.spot in
    let second = spot_there c.args.second.now c.loop-number.number c.spot-in-loop-number.result c.spot-in-loop-number.ensures.spot in
    elim (cases_eq cell c.loop-number.number) [
      | inl same ↦
          subst (λ k. place_of (spot_at c.args.first.now.spots k) ≡ place_of (spot_at c.args.second.now.spots k)) (sym same)
          (first ∙ c.is_at_one_place.ensures.0 c.if-not-is_at_one_place.false ∙ sym second)
      | inr other ↦ c.loop-number.invariant cell (omega (arith, below, other))
    ]

pub returns : goal.returns
returns c = (
  λ _. places_alike c.args.problem.now c.args.first.now c.args.second.now c.requires.first c.requires.second
      (λ cell below. c.loop-number.invariant cell (omega (arith, below, c.loop-number-test.false, c.cells-number-end.ensures.count))),
  λ _. refl,
)
