-- Laws of cells that do not overlap.
use Rattle.std.specs.Prelude.{◌≡◌, ℕ, ◌<◌, ◌≤◌, List}
use Rattle.std.proofs.Common.{sym, ap, arith, inl, inr}
use Rattle.std.proofs.lemmas.Bool.{leb-true}
use Rattle.std.proofs.lemmas.Int.{ints}
use Rattle.fp_base.specs.declared.ids.Die.{Die}
use Rattle.fp_tech.specs.Plan.{spec_of, ComesBehind}
use Rattle.fp_tech.specs.PlanLaws.{segments_rise}
use Rattle.fp_netlist.specs.Netlist.{Netlist}
use Rattle.fp_netlist.specs.Points.{width, height}
use Rattle.fp_place.specs.Places.{Place, place_at}
use Rattle.fp_place.specs.Legal.{Overlap}
use Rattle.fp_place.specs.LaneOrder.{IsOnLane}

-- cells on two segments of a die do not overlap: the later one comes behind the other
pub segments_clear : (p : Netlist) (places : List Place) (die : Die) (low high a b : ℕ) → low < high → IsOnLane p places die low a → IsOnLane p places die high b
    → Overlap p places a b → ⊥
segments_clear p places die low high a b less here there over =
    by (segments_rise p.plan die low high here.segment there.segment less here.there there.there)
  where
    row_here : (place_at places a).y ≡ here.segment.y
    row_here = here.stands.row

    row_there : (place_at places b).y ≡ there.segment.y
    row_there = there.stands.row

    by : ComesBehind (spec_of p.plan die) here.segment there.segment → ⊥
    by (inl above) =
        let tall : height p a (place_at places a).die ≡ height p a die = ap (λ d. height p a d) here.die_is in
        let fit : height p a die ≤ (spec_of p.plan die).height = leb-true (height p a die) (spec_of p.plan die).height here.fitting in
        omega (arith, ints, above, tall, fit, row_here, row_there, over.high)
    by (inr right) =
        let wide : width p a (place_at places a).die ≡ width p a die = ap (λ d. width p a d) here.die_is in
        omega (arith, ints, right.1, wide, here.stands.ends, there.stands.starts, over.right)

pub overlap_swapped : (p : Netlist) (places : List Place) (a b : ℕ) → Overlap p places a b → Overlap p places b a
overlap_swapped p places a b over = record { same_die = sym over.same_die; left = over.right; right = over.left; low = over.high; high = over.low }
