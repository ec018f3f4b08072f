-- Laws of own lengths and of targets.
use Rattle.std.specs.Prelude.{◌≡◌, ℕ, Bool, true, false, cond, List, [], ◌∷◌, map, filter, Option, Some, ℤ, pos, ◌+ℤ◌}
use Rattle.std.specs.Int.{int_min, int_max}
use Rattle.std.proofs.Common.{refl, sym, ap, ◌∙◌, arith}
use Rattle.std.proofs.lemmas.Int.{ints}
use Rattle.fp_base.specs.declared.ids.Die.{Die}
use Rattle.fp_base.specs.declared.ids.Point.{Point}
use Rattle.fp_netlist.specs.Netlist.{Netlist, conns_of_net}
use Rattle.fp_netlist.specs.Points.{offset}
use Rattle.fp_place.specs.Places.{Place}
use Rattle.fp_place.specs.Cut.{conn_at}
use Rattle.fp_score.specs.declared.own.Axis.{Axis}
use Rattle.fp_score.specs.declared.own.Ends.{Ends}
use Rattle.fp_score.specs.Score.{point}
use Rattle.fp_score.specs.Ends.{ends_after, ends_of, length_to}
use Rattle.fp_score.specs.Target.{along, is_other, others_at, least_of, greatest_of, Pull, pull_of, pulls_of, own_of, IsTargetOf, IsTarget}

-- the pins of a cell's neighbours among these connections
unfoldable pub others_of : Netlist → List Place → ℕ → Axis → List ℕ → List ℤ
others_of p base cell axis conns = map (λ conn. along axis (point p base conn)) (filter (is_other p cell) conns)

pub others_all : (p : Netlist) (base : List Place) (cell : ℕ) (axis : Axis) (net : ℕ) → others_of p base cell axis (conns_of_net p net) ≡ others_at p base cell axis net
unfolding others_of others_at
others_all p base cell axis net = refl

pub others_first : (p : Netlist) (base : List Place) (cell : ℕ) (axis : Axis) (conn : ℕ) (conns : List ℕ)
    → others_of p base cell axis (conn ∷ conns) ≡ cond (is_other p cell conn) (along axis (point p base conn) ∷ others_of p base cell axis conns) (others_of p base cell axis conns)
unfolding others_of
others_first p base cell axis conn conns = out (is_other p cell conn)
  where
    at : ℕ → ℤ
    at conn = along axis (point p base conn)

    out : (b : Bool) → map (λ conn. along axis (point p base conn)) (cond b (conn ∷ filter (is_other p cell) conns) (filter (is_other p cell) conns))
        ≡ cond b (along axis (point p base conn) ∷ map (λ conn. along axis (point p base conn)) (filter (is_other p cell) conns)) (map (λ conn. along axis (point p base conn)) (filter (is_other p cell) conns))
    out true = refl
    out false = refl

-- the ends of places are the least and the greatest of them
pub ends_both : (low high : ℤ) (places : List ℤ) → ends_after (Some (record { low = low; high = high })) places ≡ Some (record { low = least_of low places; high = greatest_of high places })
unfolding ends_after least_of greatest_of
ends_both low high [] = refl
ends_both low high (at ∷ places) = ends_both (int_min low at) (int_max high at) places

pub ends_are : (at : ℤ) (places : List ℤ) → ends_of (at ∷ places) ≡ Some (record { low = least_of at places; high = greatest_of at places })
unfolding ends_after
ends_are at places = ends_both at at places

-- a pull is the length from its net's ends to its own pin
pub pull_adds : (others : List ℤ) (off : ℤ) (pulls : List Pull) (at : ℤ) → own_of (pull_of others off pulls) at ≡ length_to (ends_of others) (at +ℤ off) +ℤ own_of pulls at
unfolding own_of ends_after
pull_adds [] off pulls at = omega (arith, ints)
pull_adds (first ∷ others) off pulls at = ap (λ (ends : Option Ends). length_to ends (at +ℤ off) +ℤ own_of pulls at) (sym (ends_are first others))

-- the own length, connection by connection
pub own_none : (p : Netlist) (base : List Place) (cell : ℕ) (die : Die) (axis : Axis) (at : ℤ) → own_of (pulls_of p base cell die axis []) at ≡ pos 0
unfolding pulls_of own_of
own_none p base cell die axis at = refl

pub own_first : (p : Netlist) (base : List Place) (cell : ℕ) (die : Die) (axis : Axis) (conn : ℕ) (conns : List ℕ) (at : ℤ)
    → own_of (pulls_of p base cell die axis (conn ∷ conns)) at
    ≡ length_to (ends_of (others_at p base cell axis (conn_at p conn).net.0)) (at +ℤ along axis (offset p (conn_at p conn) die)) +ℤ own_of (pulls_of p base cell die axis conns) at
unfolding pulls_of
own_first p base cell die axis conn conns at =
    pull_adds (others_at p base cell axis (conn_at p conn).net.0) (along axis (offset p (conn_at p conn) die)) (pulls_of p base cell die axis conns) at

-- a target is one number
pub target_once : (pulls : List Pull) (stands at other : ℤ) → IsTargetOf pulls stands at → IsTargetOf pulls stands other → at ≡ other
target_once [] stands at other is also = is ∙ sym also
target_once (pull ∷ pulls) stands at other is also = omega (arith, ints, is.first other also.least, also.first at is.least)

pub one_target : (p : Netlist) (base : List Place) (dies : List Die) (cell : ℕ) (target other : Point) → IsTarget p base dies cell target → IsTarget p base dies cell other → target ≡ other
one_target p base dies cell target other is also = λ i. record { x = target_once _ _ target.x other.x is.x also.x i; y = target_once _ _ target.y other.y is.y also.y i }
