-- Laws of bounding boxes, lengths and scores.
use Rattle.std.specs.Prelude.{◌≡◌, ℕ, zero, suc, ◌+◌, Bool, true, false, ◌&&◌, ◌||◌, cond, List, [], ◌∷◌, ◌++◌, map, filter, All, Option, Some, None, if◌then◌else◌, pos, ◌+ℤ◌, ◌≤ℤ◌}
use Rattle.std.specs.List.{AllByRecursion, list_any}
use Rattle.std.proofs.Common.{refl, sym, ap, ◌∙◌, arith}
use Rattle.std.proofs.Math.ListN.{get_or-map}
use Rattle.std.proofs.lemmas.Int.{ints, clamps}
use Rattle.std.proofs.lemmas.List.Elements.{recursion_from_All}
use Rattle.fp_base.specs.declared.ids.Die.{Die}
use Rattle.fp_base.specs.declared.ids.Die.TheVariants.{Top, Bottom}
use Rattle.fp_base.specs.declared.ids.Point.{Point}
use Rattle.fp_netlist.specs.Netlist.{Netlist, conns_of_net}
use Rattle.fp_netlist.specs.Points.{offset, moved}
use Rattle.fp_place.specs.Cut.{conn_at, is_on, is_cut}
use Rattle.fp_place.specs.Places.{Place, nowhere, place_at, dies_of, same_die}
use Rattle.fp_score.specs.declared.reach.Reach.{Reach}
use Rattle.fp_score.specs.Score.{reach_of, stretched, reach_with, half_perimeter, length_of, corner, point, pins_on, terminal_at, listed, points_on, net_length, cost_at, score_below}
use Rattle.fp_score.specs.Reaches.{joined, reach_after, half, IsNear, IsNearReach}

-- a bounding box stays in range with a point in range
pub stretched_near : (reach : Reach) (point : Point) → IsNearReach reach → IsNear point → IsNearReach (stretched reach point)
stretched_near reach point is near = record {
  left = omega (arith, ints, clamps);
  wide = omega (arith, ints, clamps);
  right = omega (arith, ints, clamps);
  low = omega (arith, ints, clamps);
  tall = omega (arith, ints, clamps);
  high = omega (arith, ints, clamps);
}

-- the bounding box after some points is that of the definition
pub after_with : (reach : Reach) (points : List Point) → reach_after (Some reach) points ≡ Some (reach_with reach points)
unfolding reach_after reach_with
after_with reach [] = refl
after_with reach (point ∷ points) = after_with (stretched reach point) points

-- the length of points is the half perimeter of their bounding box
pub length_by_reach : (points : List Point) → length_of points ≡ half (reach_after None points)
unfolding reach_after length_of
length_by_reach [] = refl
length_by_reach (point ∷ points) = ap half (sym (after_with (reach_of point) points))

-- the bounding box after two lists of points, one after the other
pub after_append : (reach : Option Reach) (first second : List Point) → reach_after reach (first ++ second) ≡ reach_after (reach_after reach first) second
unfolding reach_after
after_append reach [] second = refl
after_append reach (point ∷ first) second = after_append (Some (joined reach point)) first second

-- the score grows net by net, by the length of the net and what its terminal costs
pub score_none : (p : Netlist) (places : List Place) (terminals : List (Option Point)) → pos 0 ≡ score_below p places terminals 0
unfolding score_below
score_none p places terminals = refl

pub score_more : (p : Netlist) (places : List Place) (terminals : List (Option Point)) (net total length cost : ℕ) → pos total ≡ score_below p places terminals net
    → pos length ≡ net_length p places terminals net → cost ≡ cost_at p places net → pos (total + (length + cost)) ≡ score_below p places terminals (net + 1)
unfolding score_below
score_more p places terminals net total length cost so_far is costs =
    (λ i. so_far i +ℤ (is i +ℤ pos (costs i))) ∙ ap (score_below p places terminals) (let same : suc net ≡ net + 1 = omega arith in same)

-- a net is as long with any terminals that give it the same one
pub net_length_by : (p : Netlist) (places : List Place) (terminals centres : List (Option Point)) (net : ℕ) → terminal_at terminals net ≡ terminal_at centres net
    → net_length p places terminals net ≡ net_length p places centres net
net_length_by p places terminals centres net same =
    ap (λ t. length_of (pins_on p places Top net ++ (if is_cut p (dies_of places) net then listed t else []))
    +ℤ length_of (pins_on p places Bottom net ++ (if is_cut p (dies_of places) net then listed t else []))) same

-- points have a length of at least 0
with_tall : (reach : Reach) (points : List Point) → reach.left ≤ℤ reach.right → reach.low ≤ℤ reach.high → pos 0 ≤ℤ half_perimeter (reach_with reach points)
unfolding reach_with
with_tall reach [] wide tall = omega (arith, ints)
with_tall reach (point ∷ points) wide tall = with_tall (stretched reach point) points (omega (arith, ints, clamps)) (omega (arith, ints, clamps))

pub length_from_0 : (points : List Point) → pos 0 ≤ℤ length_of points
unfolding length_of
length_from_0 [] = omega (arith, ints)
length_from_0 (point ∷ points) = with_tall (reach_of point) points (omega (arith, ints)) (omega (arith, ints))

pub net_length_from_0 : (p : Netlist) (places : List Place) (terminals : List (Option Point)) (net : ℕ) → pos 0 ≤ℤ net_length p places terminals net
net_length_from_0 p places terminals net =
    omega (arith, ints, length_from_0 (points_on p places terminals Top net), length_from_0 (points_on p places terminals Bottom net))

pub score_below_from_0 : (p : Netlist) (places : List Place) (terminals : List (Option Point)) (nets : ℕ) → pos 0 ≤ℤ score_below p places terminals nets
unfolding score_below
score_below_from_0 p places terminals zero = omega (arith, ints)
score_below_from_0 p places terminals (suc net) = omega (arith, ints, score_below_from_0 p places terminals net, net_length_from_0 p places terminals net)

-- cells of these connections stand alike in two lists of places
abbrev pub StandAlike : Netlist → List Place → List Place → ℕ → Type 0
StandAlike p places others conn = place_at places (conn_at p conn).cell.0 ≡ place_at others (conn_at p conn).cell.0

same_on : (p : Netlist) (places others : List Place) (die : Die) (conn : ℕ) → StandAlike p places others conn → is_on p (dies_of places) die conn ≡ is_on p (dies_of others) die conn
same_on p places others die conn alike =
    ap (λ d. same_die d die) (get_or-map (λ (place : Place). place.die) places (conn_at p conn).cell.0 nowhere ∙ ap (λ (place : Place). place.die) alike
    ∙ sym (get_or-map (λ (place : Place). place.die) others (conn_at p conn).cell.0 nowhere))

same_touch : (p : Netlist) (places others : List Place) (die : Die) (conns : List ℕ) → AllByRecursion (StandAlike p places others) conns
    → list_any (is_on p (dies_of places) die) conns ≡ list_any (is_on p (dies_of others) die) conns
same_touch p places others die [] alike = refl
same_touch p places others die (conn ∷ conns) alike = λ i. same_on p places others die conn alike.0 i || same_touch p places others die conns alike.1 i

same_pins : (p : Netlist) (places others : List Place) (die : Die) (conns : List ℕ) → AllByRecursion (StandAlike p places others) conns
    → map (point p places) (filter (is_on p (dies_of places) die) conns) ≡ map (point p others) (filter (is_on p (dies_of others) die) conns)
same_pins p places others die [] alike = refl
same_pins p places others die (conn ∷ conns) alike =
    by (is_on p (dies_of places) die conn)
    ∙ (λ i. cond (same_on p places others die conn alike.0 i) (moved (corner (alike.0 i)) (offset p (conn_at p conn) (alike.0 i).die) ∷ same_pins p places others die conns alike.1 i) (same_pins p places others die conns alike.1 i))
    ∙ sym (by' (is_on p (dies_of others) die conn))
  where
    by : (b : Bool) → map (point p places) (cond b (conn ∷ filter (is_on p (dies_of places) die) conns) (filter (is_on p (dies_of places) die) conns))
        ≡ cond b (point p places conn ∷ map (point p places) (filter (is_on p (dies_of places) die) conns)) (map (point p places) (filter (is_on p (dies_of places) die) conns))
    by true = refl
    by false = refl

    by' : (b : Bool) → map (point p others) (cond b (conn ∷ filter (is_on p (dies_of others) die) conns) (filter (is_on p (dies_of others) die) conns))
        ≡ cond b (point p others conn ∷ map (point p others) (filter (is_on p (dies_of others) die) conns)) (map (point p others) (filter (is_on p (dies_of others) die) conns))
    by' true = refl
    by' false = refl

-- a net whose cells and terminal stand alike is as long
pub net_length_same : (p : Netlist) (places others : List Place) (terminals centres : List (Option Point)) (net : ℕ)
    → All (StandAlike p places others) (conns_of_net p net) → terminal_at terminals net ≡ terminal_at centres net
    → net_length p places terminals net ≡ net_length p others centres net
unfolding pins_on is_cut
net_length_same p places others terminals centres net alike same =
    let each = recursion_from_All (StandAlike p places others) (conns_of_net p net) alike in
    let top = same_touch p places others Top (conns_of_net p net) each in
    let bottom = same_touch p places others Bottom (conns_of_net p net) each in
    λ i. length_of (same_pins p places others Top (conns_of_net p net) each i ++ (if top i && bottom i then listed (same i) else []))
    +ℤ length_of (same_pins p places others Bottom (conns_of_net p net) each i ++ (if top i && bottom i then listed (same i) else []))

-- a net whose cells stand alike is cut in both, or in neither, and its terminal costs as much
pub cut_same : (p : Netlist) (places others : List Place) (net : ℕ) → All (StandAlike p places others) (conns_of_net p net) → is_cut p (dies_of places) net ≡ is_cut p (dies_of others) net
unfolding is_cut
cut_same p places others net alike =
    let each = recursion_from_All (StandAlike p places others) (conns_of_net p net) alike in
    λ i. same_touch p places others Top (conns_of_net p net) each i && same_touch p places others Bottom (conns_of_net p net) each i

pub cost_same : (p : Netlist) (places others : List Place) (net : ℕ) → All (StandAlike p places others) (conns_of_net p net) → cost_at p places net ≡ cost_at p others net
cost_same p places others net alike = ap (λ b. if b then p.plan.terminal.cost else 0) (cut_same p places others net alike)
