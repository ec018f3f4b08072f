use Rattle.std.proofs.Common.{◌≡◌, ◌+◌, Option, ◌+ℤ◌, refl, sym, ap, subst, ◌∙◌, arith, rules, FitsSigned}
use mir.Syntax.{w64}
use mir.Val.{to_z, of_z}
use Rattle.std.proofs.lemmas.Int.{ints, to_z-of_z}
use Rattle.fp_base.specs.declared.ids.CellId.{CellId}
use Rattle.fp_place.specs.Places.{Place}
use Rattle.fp_place.specs.LaneOverlaps.{IsFirst, IsAmong, Meets, StandsApart, cell_at}
use Rattle.fp_place.proofs.LinFill.{place_read}
use Rattle.fp_place.proofs.LinReach.{x_at, end_at, reach_more, meets_before, meets_next, stands_apart, first_met, first_not_met, less_told, not_less_told}
use Rattle.fp_place.proofs.overlap.first_in.Goals as goal
use Rattle.fp_place.proofs.overlap.first_in.Goals.{then-place-reach, then-place-reach-via-then-place-reach, then-place-reach-via-else-place-reach+then-is_next_before, else-place-reach+else-is_next_before}

-- where the cell begins and ends
x_read : (c : goal.After-max-reach) → c.place.inside.x ≡ x_at c.args.places.now c.args.lane.now c.loop-rank.rank
x_read c =
    let below = (c.requires.lane.cells c.loop-rank.rank c.loop-rank-test.true).within in
    sym (ap (λ (q : Place). q.x) (place_read c.args.places.now (cell_at c.args.lane.now c.loop-rank.rank).0 c.index-places-cell.result _ (omega (arith, below)) c.index-places-cell.is c.place.view_is))

end_read : (c : goal.After-max-reach)
    → to_z w64 (of_z w64 (to_z w64 (of_z w64 c.place.inside.x) +ℤ to_z w64 (of_z w64 c.width.result))) ≡ end_at c.args.problem.now c.args.places.now c.args.die c.args.lane.now c.loop-rank.rank
end_read c =
    let on = c.requires.lane.cells c.loop-rank.rank c.loop-rank-test.true in
    let least = on.least in
    let most = on.most in
    let wide = c.width.ensures.width in
    let some = c.width.ensures.range.0 in
    let few = c.width.ensures.range.1 in
    omega (arith, ints, x_read c, least, most, wide, some, few)

first_of : (c : goal.After-max-reach) → IsFirst (Meets c.args.problem.now c.args.places.now c.args.lane.now) (StandsApart c.args.problem.now c.args.places.now c.args.lane.now)
    (IsAmong c.args.lane.now (c.loop-rank.rank + 1)) c.if-place-reach.first
first_of c =
    let p = c.args.problem.now in
    let places = c.args.places.now in
    let die = c.args.die in
    let lane = c.args.lane.now in
    let rank = c.loop-rank.rank in
    let reach = to_z w64 c.loop-rank.reach-bits in
    let x_is = x_read c in
    let on = c.requires.lane.cells c.loop-rank.rank c.loop-rank-test.true in
    let least = on.least in
    let most = on.most in
    let First : Option CellId → Type 0 = λ o. IsFirst (Meets p places lane) (StandsApart p places lane) (IsAmong lane (rank + 1)) o in
    elim c.if-place-reach.branch [
      | then-place-reach w ↦ subst First (sym (w.first-is ∙ w.earlier-first.ensures))
          (first_met p places lane rank c.loop-rank.first (cell_at lane rank) c.loop-rank.invariant.first_is refl
          (elim w.then-place-reach.branch [
            | then-place-reach-via-then-place-reach w' ↦ let less = less_told (to_z w64 (of_z w64 c.place.inside.x)) reach w'.if-place-reach.true in
                meets_before p places die lane rank reach c.requires.lane c.loop-rank-test.true c.loop-rank.invariant.reach_is (omega (arith, ints, less, x_is, least, most))
            | then-place-reach-via-else-place-reach+then-is_next_before w' ↦ meets_next p places die lane rank _ c.requires.lane (end_read c) w'.if-is_next_before.ensures
          ]))
      | else-place-reach+else-is_next_before w ↦ let past = not_less_told (to_z w64 (of_z w64 c.place.inside.x)) reach w.if-place-reach.false in
          subst First (sym w.first-is)
          (first_not_met p places lane rank c.loop-rank.first c.loop-rank.invariant.first_is
          (stands_apart p places die lane rank reach _ c.requires.lane c.loop-rank-test.true c.loop-rank.invariant.reach_is (omega (arith, ints, past, x_is, least, most)) (end_read c) w.if-is_next_before.ensures))
    ]

pub loop-rank-preserved : goal.loop-rank-preserved
loop-rank-preserved c = record {
  first_is = first_of c;
  reach_is =
      let most = (c.requires.lane.cells c.loop-rank.rank c.loop-rank-test.true).most in
      let least = (c.requires.lane.cells c.loop-rank.rank c.loop-rank-test.true).least in
      let some = c.width.ensures.range.0 in
      let few = c.width.ensures.range.1 in
      let fits : FitsSigned w64 c.max-reach.result = search rules in
      reach_more c.args.problem.now c.args.places.now c.args.die c.args.lane.now c.loop-rank.rank (to_z w64 c.loop-rank.reach-bits) _ _ c.loop-rank.invariant.reach_is
      (end_read c) (omega (arith, ints, x_read c, least, most, some, few)) (to_z-of_z w64 c.max-reach.result fits ∙ c.max-reach.ensures.value);
}
