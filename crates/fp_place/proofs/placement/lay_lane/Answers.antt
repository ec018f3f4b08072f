use Rattle.std.proofs.Common.{get_or, arith, rules, refl, pos, FitsSigned, w64}
use Rattle.std.proofs.lemmas.Option.{slice_get-get_or}
use Rattle.std.proofs.lemmas.Int.{to_z-of_z}
use Rattle.fp_place.proofs.LayingLemmas.{no_cell, few_on_lane, lane_more}
use Rattle.fp_place.proofs.placement.lay_lane.Goals as goal

pub overflow_cast-spots : goal.overflow_cast-spots
overflow_cast-spots c = omega (arith, few_on_lane c.args.lane.now _ c.requires.within c.requires.apart)

pub loop-rank-preserved : goal.loop-rank-preserved
loop-rank-preserved c =
    let y_fits : FitsSigned w64 c.args.y = search rules in
    let x_fits : FitsSigned w64 (get_or c.args.xs.now (get_or c.args.lane.now c.loop-rank.rank no_cell).0 (pos 0)) = search rules in
    simp to_z-of_z (lane_more c.args.die c.args.segment c.args.y c.args.xs.now c.args.lane.now c.loop-rank.rank c.args.spots.now c.loop-rank.spots
    (get_or c.args.lane.now c.loop-rank.rank no_cell) _ (simp to_z-of_z at c.loop-rank.invariant) c.requires.apart
    (slice_get-get_or c.args.lane.now c.loop-rank.rank no_cell c.loop-rank-test.true) (omega (arith, c.requires.within c.loop-rank.rank no_cell c.loop-rank-test.true)) refl)
