-- The pin of a connection, and the pins of a net one after the other.
use Rattle.std.proofs.Common.{◌≡◌, ℕ, ◌<◌, ◌^◌, Bool, true, false, cond, List, [], ◌∷◌, ◌++◌, if◌then◌else◌, is_some, map, filter, length, Option, Some, None, option_map, slice_get, pos, ◌+ℤ◌, ◌≤ℤ◌, IfSome, refl, sym, ap, subst, ◌∙◌, arith}
use Rattle.std.proofs.lemmas.Int.{ints}
use Rattle.std.proofs.lemmas.List.{append-nil}
use Rattle.std.proofs.lemmas.Option.{same_Some, slice_get_within, get_or_from_slice_get}
use Rattle.std.proofs.Math.ListN.{get_or-map}
use Rattle.fp_base.specs.declared.ids.Die.{Die}
use Rattle.fp_base.specs.declared.ids.Die.TheVariants.{Top, Bottom}
use Rattle.fp_base.specs.declared.ids.Point.{Point}
use Rattle.fp_netlist.specs.declared.problem.Conn.{Conn}
use Rattle.fp_netlist.specs.Netlist.{Netlist, conns_of_net}
use Rattle.fp_netlist.specs.Points.{offset, moved}
use Rattle.fp_place.specs.declared.placement.Spot.{Spot}
use Rattle.fp_place.specs.Places.{Place, place_at, nowhere, dies_of, same_die}
use Rattle.fp_place.specs.Placed.{Placed, no_spot, place_of, places_of, IsSpotOf, IsCentre, IsPlacementOf}
use Rattle.fp_place.specs.Cut.{no_conn, conn_at, is_on, is_cut}
use Rattle.fp_score.specs.declared.reaches.Reaches.{Reaches}
use Rattle.fp_score.specs.Score.{corner, point, pins_on, length_of, net_length, listed, terminal_at}
use Rattle.fp_score.specs.Reaches.{reach_after, reach_on, with_point, die_of, pins_of, pins_reached, none_reached, joined, half, with_terminal, IsNear}
use Rattle.fp_score.specs.ScoreLaws.{length_by_reach, after_append}
use Rattle.fp_score.specs.Terminals.{AreOnCuts}

-- a cell's place is that of its spot
pub place_is : (placed : Placed) (cell : ℕ) (spot : Spot) → slice_get placed.spots cell ≡ Some spot → place_at (places_of placed) cell ≡ place_of spot
place_is placed cell spot at = get_or-map place_of placed.spots cell no_spot ∙ ap place_of (get_or_from_slice_get placed.spots cell spot no_spot at)

-- a connection's die is that of its cell's spot
pub pin_die : (p : Netlist) (placed : Placed) (k : ℕ) (conn : Conn) (spot : Spot) → slice_get p.conns k ≡ Some conn → slice_get placed.spots conn.cell.0 ≡ Some spot
    → spot.die ≡ die_of p (places_of placed) k
pin_die p placed k conn spot at stands =
    let conn_is : conn_at p k ≡ conn = get_or_from_slice_get p.conns k conn no_conn at in
    sym (ap (λ (c : Conn). (place_at (places_of placed) c.cell.0).die) conn_is ∙ ap (λ (q : Place). q.die) (place_is placed conn.cell.0 spot stands))

-- a connection's pin, by its cell's spot
pub pin_point : (p : Netlist) (placed : Placed) (k : ℕ) (conn : Conn) (spot : Spot) (by : Point) → slice_get p.conns k ≡ Some conn → slice_get placed.spots conn.cell.0 ≡ Some spot
    → option_map (λ c. offset p c spot.die) (slice_get p.conns k) ≡ Some by → moved (record { x = spot.x; y = spot.y }) by ≡ point p (places_of placed) k
pin_point p placed k conn spot by at stands given =
    let conn_is : conn_at p k ≡ conn = get_or_from_slice_get p.conns k conn no_conn at in
    let some : Some (offset p conn spot.die) ≡ Some by = ap (option_map (λ (c : Conn). offset p c spot.die)) (sym at) ∙ given in
    let by_is : offset p conn spot.die ≡ by = same_Some (offset p conn spot.die) by some in
    sym (ap (λ (c : Conn). moved (corner (place_at (places_of placed) c.cell.0)) (offset p c (place_at (places_of placed) c.cell.0).die)) conn_is
    ∙ ap (λ (q : Place). moved (corner q) (offset p conn q.die)) (place_is placed conn.cell.0 spot stands)
    ∙ ap (moved (record { x = spot.x; y = spot.y })) by_is)

-- the spot of a cell is in range
spot_in : (p : Netlist) (placed : Placed) (cell : ℕ) (spot : Spot) → IsPlacementOf p placed → slice_get placed.spots cell ≡ Some spot → IsSpotOf p spot
spot_in p placed cell spot is at = subst (IsSpotOf p) (get_or_from_slice_get placed.spots cell spot no_spot at) (is.spots cell no_spot (slice_get_within placed.spots cell spot at))

pub pin_near : (p : Netlist) (placed : Placed) (cell : ℕ) (spot : Spot) (by : Point) → IsPlacementOf p placed → slice_get placed.spots cell ≡ Some spot
    → (pos 0 ≤ℤ by.x) × (by.x ≤ℤ pos (2 ^ 30)) → (pos 0 ≤ℤ by.y) × (by.y ≤ℤ pos (2 ^ 30)) → IsNear (moved (record { x = spot.x; y = spot.y }) by)
pin_near p placed cell spot by is at xs ys =
    let stands = spot_in p placed cell spot is at in
    record {
      left = omega (arith, ints, stands.x.least, xs.0);
      right = omega (arith, ints, stands.x.most, xs.1);
      low = omega (arith, ints, stands.y.least, ys.0);
      high = omega (arith, ints, stands.y.most, ys.1);
    }

-- one pin of a list, on a die
pins_first : (p : Netlist) (places : List Place) (die : Die) (k : ℕ) (ks : List ℕ)
    → pins_of p places die (k ∷ ks) ≡ cond (same_die (die_of p places k) die) (point p places k ∷ pins_of p places die ks) (pins_of p places die ks)
unfolding pins_of
pins_first p places die k ks =
    out (is_on p (dies_of places) die k)
    ∙ ap (λ d. cond (same_die d die) (point p places k ∷ pins_of p places die ks) (pins_of p places die ks)) (get_or-map (λ (place : Place). place.die) places (conn_at p k).cell.0 nowhere)
  where
    out : (b : Bool) → map (point p places) (cond b (k ∷ filter (is_on p (dies_of places) die) ks) (filter (is_on p (dies_of places) die) ks))
        ≡ cond b (point p places k ∷ map (point p places) (filter (is_on p (dies_of places) die) ks)) (map (point p places) (filter (is_on p (dies_of places) die) ks))
    out true = refl
    out false = refl

-- a pin that is added stands first in what is left
with_first : (reaches : Reaches) (d die : Die) (q : Point) (points : List Point)
    → reach_after (reach_on (with_point reaches d q) die) points ≡ reach_after (reach_on reaches die) (cond (same_die d die) (q ∷ points) points)
unfolding reach_after
with_first reaches Top Top q points = refl
with_first reaches Top Bottom q points = refl
with_first reaches Bottom Top q points = refl
with_first reaches Bottom Bottom q points = refl

-- the bounding boxes of the pins so far, stretched by those of the connections that are left, are those of all
pub record Walked (p : Netlist) (places : List Place) (net : ℕ) (left : List ℕ) (reaches : Reaches) : Type 0 where
  pub all : (die : Die) → reach_after (reach_on reaches die) (pins_of p places die left) ≡ reach_after None (pins_on p places die net)

pub walk_starts : (p : Netlist) (places : List Place) (net : ℕ) → Walked p places net (conns_of_net p net) none_reached
unfolding pins_of pins_on
walk_starts p places net = record { all = start }
  where
    start : (die : Die) → reach_after (reach_on none_reached die) (pins_of p places die (conns_of_net p net)) ≡ reach_after None (pins_on p places die net)
    start Top = refl
    start Bottom = refl

pub walk_on : (p : Netlist) (places : List Place) (net k : ℕ) (left : List ℕ) (reaches : Reaches) → Walked p places net (k ∷ left) reaches
    → Walked p places net left (with_point reaches (die_of p places k) (point p places k))
walk_on p places net k left reaches so_far = record {
  all = λ die. with_first reaches (die_of p places k) die (point p places k) (pins_of p places die left)
      ∙ ap (reach_after (reach_on reaches die)) (sym (pins_first p places die k left)) ∙ so_far.all die;
}

pub walk_ends : (p : Netlist) (places : List Place) (net : ℕ) (reaches : Reaches) → Walked p places net [] reaches → reaches ≡ pins_reached p places net
unfolding pins_of reach_after
walk_ends p places net reaches so_far = λ i. record { top = so_far.all Top i; bottom = so_far.all Bottom i }

-- a net's length from its bounding boxes, where exactly the cut nets have a terminal
pub length_is : (p : Netlist) (placed : Placed) (net : ℕ) (terminal : Option Point) (reaches : Reaches) → slice_get placed.terminals net ≡ Some terminal
    → net < length p.nets → AreOnCuts p (dies_of (places_of placed)) placed.terminals
    → reaches ≡ with_terminal (pins_reached p (places_of placed) net) terminal
    → half reaches.top +ℤ half reaches.bottom ≡ net_length p (places_of placed) placed.terminals net
unfolding reach_after
length_is p placed net terminal reaches at below on_cuts is =
    ap (λ (r : Reaches). half r.top +ℤ half r.bottom) is ∙ by terminal
    ∙ ap (λ (t : List Point). length_of (pins_on p places Top net ++ t) +ℤ length_of (pins_on p places Bottom net ++ t)) (added terminal there)
  where
    places : List Place
    places = places_of placed

    there : terminal_at placed.terminals net ≡ terminal
    there = get_or_from_slice_get placed.terminals net terminal None at

    one : (die : Die) (centre : Point) → half (Some (joined (reach_after None (pins_on p places die net)) centre)) ≡ length_of (pins_on p places die net ++ centre ∷ [])
    one die centre = sym (length_by_reach (pins_on p places die net ++ centre ∷ []) ∙ ap half (after_append None (pins_on p places die net) (centre ∷ [])))

    none : (die : Die) → half (reach_after None (pins_on p places die net)) ≡ length_of (pins_on p places die net ++ [])
    none die = sym (ap length_of (append-nil (pins_on p places die net)) ∙ length_by_reach (pins_on p places die net))

    by : (t : Option Point) → half (with_terminal (pins_reached p places net) t).top +ℤ half (with_terminal (pins_reached p places net) t).bottom
        ≡ length_of (pins_on p places Top net ++ listed t) +ℤ length_of (pins_on p places Bottom net ++ listed t)
    by None = λ i. none Top i +ℤ none Bottom i
    by (Some centre) = λ i. one Top centre i +ℤ one Bottom centre i

    listed_is : (t : Option Point) (b : Bool) → is_some t ≡ b → listed t ≡ (if b then listed t else [])
    listed_is None true e = refl
    listed_is None false e = refl
    listed_is (Some centre) true e = refl
    listed_is (Some centre) false e = absurd (let nothing : true ≡ false = e in cc)

    added : (t : Option Point) → terminal_at placed.terminals net ≡ t → listed t ≡ (if is_cut p (dies_of places) net then listed (terminal_at placed.terminals net) else [])
    added t e = sym (ap listed e) ∙ listed_is (terminal_at placed.terminals net) (is_cut p (dies_of places) net) (on_cuts net below)

-- a terminal is in range
pub terminal_near : (p : Netlist) (placed : Placed) (net : ℕ) (terminal : Option Point) → IsPlacementOf p placed → slice_get placed.terminals net ≡ Some terminal → IfSome terminal IsNear
terminal_near p placed net terminal is at =
    by terminal (subst (λ (t : Option Point). IfSome t IsCentre) (get_or_from_slice_get placed.terminals net terminal None at) (is.centres net None (slice_get_within placed.terminals net terminal at)))
  where
    by : (t : Option Point) → IfSome t IsCentre → IfSome t IsNear
    by None there = tt
    by (Some centre) there = record {
      left = there.x.least;
      right = omega (arith, ints, there.x.most);
      low = there.y.least;
      high = omega (arith, ints, there.y.most);
    }
