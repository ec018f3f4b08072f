-- Laws of targets: they are one list of points, and over a placement each lies in range.
use Rattle.std.specs.Prelude.{◌≡◌, ℕ, ◌<◌, ◌^◌, List, [], ◌∷◌, length, filter, All, ℤ, pos, ◌+ℤ◌, ◌-ℤ◌, ◌≤ℤ◌, ◌<ℤ◌}
use Rattle.std.specs.Int.{int_min, int_max}
use Rattle.std.proofs.Common.{sym, ap, ◌∙◌, arith}
use Rattle.std.proofs.Math.ListN.{get_or-map}
use Rattle.std.proofs.lemmas.Int.{ints, clamps, by_lt_z}
use Rattle.std.proofs.lemmas.List.{ext_get_or}
use Rattle.std.proofs.lemmas.List.Elements.{All-nil, All-cons, All-head, All-tail, All-weaker, All-map, All-filter}
use Rattle.fp_base.specs.declared.ids.Die.{Die}
use Rattle.fp_base.specs.declared.ids.Point.{Point}
use Rattle.fp_netlist.specs.Netlist.{Netlist, IsSound, IsConn, conns_of_cell, conns_of_net}
use Rattle.fp_netlist.specs.NetlistLaws.{pin_small, net_conns_within, cell_conns_within}
use Rattle.fp_netlist.specs.Points.{offset}
use Rattle.fp_place.specs.Places.{Place, place_at, die_at}
use Rattle.fp_place.specs.Placed.{Placed, no_spot, spot_at, place_of, places_of, IsSpotOf, IsPlacementOf}
use Rattle.fp_place.specs.Cut.{no_conn, conn_at}
use Rattle.fp_score.specs.declared.own.Axis.{Axis}
use Rattle.fp_score.specs.declared.own.Axis.TheVariants.{X, Y}
use Rattle.fp_score.specs.Pick.{point_at}
use Rattle.fp_score.specs.Score.{corner, point}
use Rattle.fp_score.specs.Target.{along, is_other, others_at, least_of, greatest_of, Pull, pull_of, pulls_of, pulls, own_of, IsLeastOwn, IsTargetOf, AreTargets}
use Rattle.fp_score.specs.TargetLaws.{one_target}
use Rattle.fp_coarse.specs.Medians.{at_most, breakpoints_of}
use Rattle.fp_coarse.specs.MedianLaws.{counted_yes, counted_no, at_most_first, at_most_none, own_turns, twice}
use Rattle.fp_coarse.specs.Nearest.{IsNearPoint}
use Rattle.fp_coarse.specs.Targets.{IsTargetPlace, IsNearTarget}

pub targets_once : (p : Netlist) (base : List Place) (dies : List Die) (targets others : List Point) → AreTargets p base dies targets → AreTargets p base dies others → targets ≡ others
targets_once p base dies targets others are also =
    ext_get_or (record { x = pos 0; y = pos 0 }) targets others (are.many ∙ sym also.many)
    (λ cell within. let below : cell < length p.cells = omega (arith, are.many) in
    one_target p base dies cell (point_at targets cell) (point_at others cell) (are.each cell below) (also.each cell below))

-- ---- the least place of least own length lies between the breakpoints

none_at_most : (numbers : List ℤ) (bound : ℤ) → All (λ number. bound <ℤ number) numbers → at_most numbers bound ≡ 0
none_at_most [] bound above = at_most_none bound
none_at_most (number ∷ numbers) bound above =
    omega (
      arith,
      at_most_first number numbers bound,
      counted_no number bound (All-head (λ number. bound <ℤ number) number numbers above),
      none_at_most numbers bound (All-tail (λ number. bound <ℤ number) number numbers above),
    )

all_at_most : (numbers : List ℤ) (bound : ℤ) → All (λ number. number ≤ℤ bound) numbers → at_most numbers bound ≡ length numbers
all_at_most [] bound below = at_most_none bound
all_at_most (number ∷ numbers) bound below =
    omega (
      arith,
      at_most_first number numbers bound,
      counted_yes number bound (All-head (λ number. number ≤ℤ bound) number numbers below),
      all_at_most numbers bound (All-tail (λ number. number ≤ℤ bound) number numbers below),
    )

least_from : (pulls : List Pull) (at low : ℤ) → IsLeastOwn pulls at → 0 < length pulls → All (λ number. low ≤ℤ number) (breakpoints_of pulls) → low ≤ℤ at
least_from pulls at low is some from = by_lt_z at low left (λ right. right)
  where
    left : at <ℤ low → low ≤ℤ at
    left less =
        let none = none_at_most (breakpoints_of pulls) at (λ k d within. let bound = from k d within in omega (arith, ints, bound, less)) in
        absurd (omega (arith, ints, own_turns pulls at, is.least (at +ℤ pos 1), none, some))

least_to : (pulls : List Pull) (at high : ℤ) → IsLeastOwn pulls at → 0 < length pulls → All (λ number. number ≤ℤ high) (breakpoints_of pulls) → at ≤ℤ high
least_to pulls at high is some to = by_lt_z high at right (λ left. left)
  where
    right : high <ℤ at → at ≤ℤ high
    right more =
        let all = all_at_most (breakpoints_of pulls) (at -ℤ pos 1) (λ k d within. let bound = to k d within in omega (arith, ints, bound, more)) in
        let same : own_of pulls ((at -ℤ pos 1) +ℤ pos 1) ≡ own_of pulls at = ap (own_of pulls) (omega (arith, ints)) in
        absurd (omega (arith, ints, own_turns pulls (at -ℤ pos 1), is.least (at -ℤ pos 1), all, twice pulls, same, some))

-- ---- the breakpoints over a placement lie in range

-- a pin lies from 0 to 2^31
abbrev IsPin : ℤ → Type 0
IsPin at = (pos 0 ≤ℤ at) × (at ≤ℤ pos (2 ^ 31))

least_in : (least : ℤ) (others : List ℤ) → IsPin least → All IsPin others → IsPin (least_of least others)
unfolding least_of
least_in least [] is all = is
least_in least (at ∷ others) is all =
    let here : IsPin at = All-head IsPin at others all in
    least_in (int_min least at) others (omega (arith, ints, clamps, is.0, here.0), omega (arith, ints, clamps, is.1, here.1)) (All-tail IsPin at others all)

greatest_in : (greatest : ℤ) (others : List ℤ) → IsPin greatest → All IsPin others → IsPin (greatest_of greatest others)
unfolding greatest_of
greatest_in greatest [] is all = is
greatest_in greatest (at ∷ others) is all =
    let here : IsPin at = All-head IsPin at others all in
    greatest_in (int_max greatest at) others (omega (arith, ints, clamps, is.0, here.0), omega (arith, ints, clamps, is.1, here.1)) (All-tail IsPin at others all)

-- an offset lies from 0 to 2^30
abbrev IsOffset : ℤ → Type 0
IsOffset by = (pos 0 ≤ℤ by) × (by ≤ℤ pos (2 ^ 30))

end_in : (end off : ℤ) → IsPin end → IsOffset off → IsTargetPlace (end -ℤ off)
end_in end off is by = (omega (arith, ints, is.0, by.1), omega (arith, ints, is.1, by.0))

pull_in : (others : List ℤ) (off : ℤ) (pulls : List Pull) → All IsPin others → IsOffset off → All IsTargetPlace (breakpoints_of pulls)
    → All IsTargetPlace (breakpoints_of (pull_of others off pulls))
unfolding breakpoints_of
pull_in [] off pulls all by rest = rest
pull_in (at ∷ others) off pulls all by rest =
    let here = All-head IsPin at others all in
    let low = end_in (least_of at others) off (least_in at others here (All-tail IsPin at others all)) by in
    let high = end_in (greatest_of at others) off (greatest_in at others here (All-tail IsPin at others all)) by in
    All-cons IsTargetPlace (least_of at others -ℤ off) ((greatest_of at others -ℤ off) ∷ breakpoints_of pulls) low
    (All-cons IsTargetPlace (greatest_of at others -ℤ off) (breakpoints_of pulls) high rest)

module _ (p : Netlist) (placed : Placed) (sound : IsSound p) (of_problem : IsPlacementOf p placed) where
  conn_in : (conn : ℕ) → conn < length p.conns → IsConn p (conn_at p conn)
  conn_in conn within = sound.conns conn no_conn within

  offset_in : (conn : ℕ) (die : Die) (axis : Axis) → conn < length p.conns → IsOffset (along axis (offset p (conn_at p conn) die))
  offset_in conn die X within = let small = pin_small p (conn_at p conn) die sound (conn_in conn within) in (omega (arith, ints), omega (arith, ints, small.0))
  offset_in conn die Y within = let small = pin_small p (conn_at p conn) die sound (conn_in conn within) in (omega (arith, ints), omega (arith, ints, small.1))

  spot_in : (cell : ℕ) → cell < length p.cells → IsSpotOf p (spot_at placed.spots cell)
  spot_in cell within = of_problem.spots cell no_spot (omega (arith, within, of_problem.cells))

  -- a cell's corner lies from 0 to 2^30
  corner_in : (cell : ℕ) (axis : Axis) → cell < length p.cells → IsOffset (along axis (corner (place_at (places_of placed) cell)))
  corner_in cell X within =
      let at = ap (λ (place : Place). place.x) (get_or-map place_of placed.spots cell no_spot) in
      let x = (spot_in cell within).x in
      (omega (arith, ints, at, x.least), omega (arith, ints, at, x.most))
  corner_in cell Y within =
      let at = ap (λ (place : Place). place.y) (get_or-map place_of placed.spots cell no_spot) in
      let y = (spot_in cell within).y in
      (omega (arith, ints, at, y.least), omega (arith, ints, at, y.most))

  pin_in : (conn : ℕ) (axis : Axis) → conn < length p.conns → IsPin (along axis (point p (places_of placed) conn))
  pin_in conn axis within = by axis (corner_in (conn_at p conn).cell.0 axis (conn_in conn within).cell) (offset_in conn (place_at (places_of placed) (conn_at p conn).cell.0).die axis within)
    where
      by : (axis : Axis) → IsOffset (along axis (corner (place_at (places_of placed) (conn_at p conn).cell.0)))
          → IsOffset (along axis (offset p (conn_at p conn) (place_at (places_of placed) (conn_at p conn).cell.0).die)) → IsPin (along axis (point p (places_of placed) conn))
      by X at off = (omega (arith, ints, at.0, off.0), omega (arith, ints, at.1, off.1))
      by Y at off = (omega (arith, ints, at.0, off.0), omega (arith, ints, at.1, off.1))

  others_in : (cell : ℕ) (axis : Axis) (net : ℕ) → All IsPin (others_at p (places_of placed) cell axis net)
  unfolding others_at
  others_in cell axis net =
      All-map IsPin (λ conn. along axis (point p (places_of placed) conn)) (filter (is_other p cell) (conns_of_net p net))
      (All-filter (is_other p cell) (λ conn. IsPin (along axis (point p (places_of placed) conn))) (conns_of_net p net)
      (All-weaker (λ conn. conn < length p.conns) (λ conn. IsPin (along axis (point p (places_of placed) conn))) (λ conn within. pin_in conn axis within)
      (conns_of_net p net) (net_conns_within p net)))

  pulls_in : (cell : ℕ) (die : Die) (axis : Axis) (conns : List ℕ) → All (λ conn. conn < length p.conns) conns
      → All IsTargetPlace (breakpoints_of (pulls_of p (places_of placed) cell die axis conns))
  unfolding pulls_of breakpoints_of
  pulls_in cell die axis [] all = All-nil IsTargetPlace
  pulls_in cell die axis (conn ∷ conns) all =
      pull_in (others_at p (places_of placed) cell axis (conn_at p conn).net.0) (along axis (offset p (conn_at p conn) die)) (pulls_of p (places_of placed) cell die axis conns)
      (others_in cell axis (conn_at p conn).net.0) (offset_in conn die axis (All-head (λ conn. conn < length p.conns) conn conns all))
      (pulls_in cell die axis conns (All-tail (λ conn. conn < length p.conns) conn conns all))

  breakpoints_in : (cell : ℕ) (die : Die) (axis : Axis) → All IsTargetPlace (breakpoints_of (pulls p (places_of placed) cell die axis))
  breakpoints_in cell die axis = pulls_in cell die axis (conns_of_cell p cell) (cell_conns_within p cell)

target_in : (pulls : List Pull) (stands at : ℤ) → IsTargetOf pulls stands at → IsOffset stands → All IsTargetPlace (breakpoints_of pulls) → IsTargetPlace at
target_in [] stands at is there all = (omega (arith, ints, is, there.0), omega (arith, ints, is, there.1))
target_in (pull ∷ pulls) stands at is there all = (
  least_from (pull ∷ pulls) at (pos 0 -ℤ pos (2 ^ 30)) is (omega arith) (λ k d within. (all k d within).0),
  least_to (pull ∷ pulls) at (pos (2 ^ 31)) is (omega arith) (λ k d within. (all k d within).1),
)

-- each target over a placement lies in range
pub target_near : (p : Netlist) (placed : Placed) (dies : List Die) (targets : List Point) → IsSound p → IsPlacementOf p placed → AreTargets p (places_of placed) dies targets
    → (cell : ℕ) → cell < length p.cells → IsNearTarget (point_at targets cell)
target_near p placed dies targets sound of_problem are cell within =
    let is = are.each cell within in
    let on : Axis → List Pull = pulls p (places_of placed) cell (die_at dies cell) in
    record {
      x = target_in (on X) (along X (corner (place_at (places_of placed) cell))) (point_at targets cell).x is.x (corner_in p placed sound of_problem cell X within)
          (breakpoints_in p placed sound of_problem cell (die_at dies cell) X);
      y = target_in (on Y) (along Y (corner (place_at (places_of placed) cell))) (point_at targets cell).y is.y (corner_in p placed sound of_problem cell Y within)
          (breakpoints_in p placed sound of_problem cell (die_at dies cell) Y);
    }

-- within what a pick asks of its targets
pub near_enough : (target : Point) → IsNearTarget target → IsNearPoint target
near_enough target is = record {
  x = record { low = omega (arith, ints, is.x.0); high = omega (arith, ints, is.x.1) };
  y = record { low = omega (arith, ints, is.y.0); high = omega (arith, ints, is.y.1) };
}

pub targets_near : (p : Netlist) (placed : Placed) (dies : List Die) (targets : List Point) → IsSound p → IsPlacementOf p placed → AreTargets p (places_of placed) dies targets
    → (cell : ℕ) → cell < length p.cells → IsNearPoint (point_at targets cell)
targets_near p placed dies targets sound of_problem are cell within = near_enough (point_at targets cell) (target_near p placed dies targets sound of_problem are cell within)
