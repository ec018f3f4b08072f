-- The walks over the pins of a net's other cells, and over the connections of a cell.
use Rattle.std.proofs.Common.{◌≡◌, ℕ, ◌+◌, true, false, cond, List, [], ◌∷◌, Option, Some, None, ℤ, pos, ◌+ℤ◌, sym, ap, ◌∙◌, arith}
use Rattle.std.proofs.lemmas.Int.{ints}
use Rattle.fp_base.specs.declared.ids.Die.{Die}
use Rattle.fp_netlist.specs.Netlist.{Netlist, conns_of_cell, conns_of_net}
use Rattle.fp_netlist.specs.Points.{offset}
use Rattle.fp_place.specs.Places.{Place}
use Rattle.fp_place.specs.Cut.{conn_at}
use Rattle.fp_score.specs.declared.own.Axis.{Axis}
use Rattle.fp_score.specs.declared.own.Ends.{Ends}
use Rattle.fp_score.specs.Score.{point}
use Rattle.fp_score.specs.Ends.{widened, ends_after, ends_of, length_to}
use Rattle.fp_score.specs.Target.{along, is_other, others_at, pulls_of, own_of, own}
use Rattle.fp_score.specs.TargetLaws.{others_of, others_all, others_first, own_none, own_first}

-- the ends of the pins so far, with those of the connections that are left, are those of all
pub record Seen (p : Netlist) (base : List Place) (cell : ℕ) (axis : Axis) (net : ℕ) (left : List ℕ) (ends : Option Ends) : Type 0 where
  pub all : ends_after ends (others_of p base cell axis left) ≡ ends_of (others_at p base cell axis net)

pub seen_none : (p : Netlist) (base : List Place) (cell : ℕ) (axis : Axis) (net : ℕ) → Seen p base cell axis net (conns_of_net p net) None
seen_none p base cell axis net = record { all = ap ends_of (others_all p base cell axis net) }

pub seen_other : (p : Netlist) (base : List Place) (cell : ℕ) (axis : Axis) (net conn : ℕ) (left : List ℕ) (ends : Option Ends) → is_other p cell conn ≡ true
    → Seen p base cell axis net (conn ∷ left) ends → Seen p base cell axis net left (Some (widened ends (along axis (point p base conn))))
unfolding ends_after
seen_other p base cell axis net conn left ends other so_far = record {
  all = sym (ap (ends_after ends) (others_first p base cell axis conn left ∙ ap (λ b. cond b (along axis (point p base conn) ∷ others_of p base cell axis left) (others_of p base cell axis left)) other)) ∙ so_far.all;
}

pub seen_own : (p : Netlist) (base : List Place) (cell : ℕ) (axis : Axis) (net conn : ℕ) (left : List ℕ) (ends : Option Ends) → is_other p cell conn ≡ false
    → Seen p base cell axis net (conn ∷ left) ends → Seen p base cell axis net left ends
seen_own p base cell axis net conn left ends its_own so_far = record {
  all = sym (ap (ends_after ends) (others_first p base cell axis conn left ∙ ap (λ b. cond b (along axis (point p base conn) ∷ others_of p base cell axis left) (others_of p base cell axis left)) its_own)) ∙ so_far.all;
}

pub seen_all : (p : Netlist) (base : List Place) (cell : ℕ) (axis : Axis) (net : ℕ) (ends : Option Ends) → Seen p base cell axis net [] ends → ends ≡ ends_of (others_at p base cell axis net)
unfolding ends_after others_of
seen_all p base cell axis net ends so_far = so_far.all

-- the lengths so far, with those of the connections that are left, are the own length
pub record Added (p : Netlist) (base : List Place) (cell : ℕ) (die : Die) (axis : Axis) (at : ℤ) (left : List ℕ) (total : ℕ) : Type 0 where
  pub all : pos total +ℤ own_of (pulls_of p base cell die axis left) at ≡ own p base cell die axis at

pub added_none : (p : Netlist) (base : List Place) (cell : ℕ) (die : Die) (axis : Axis) (at : ℤ) → Added p base cell die axis at (conns_of_cell p cell) 0
added_none p base cell die axis at = record { all = omega (arith, ints) }

pub added_one : (p : Netlist) (base : List Place) (cell : ℕ) (die : Die) (axis : Axis) (at : ℤ) (conn : ℕ) (left : List ℕ) (total more : ℕ)
    → pos more ≡ length_to (ends_of (others_at p base cell axis (conn_at p conn).net.0)) (at +ℤ along axis (offset p (conn_at p conn) die))
    → Added p base cell die axis at (conn ∷ left) total → Added p base cell die axis at left (total + more)
added_one p base cell die axis at conn left total more is so_far = record {
  all = regroup total more (own_of (pulls_of p base cell die axis left) at)
      ∙ ap (λ z. pos total +ℤ z) (ap (λ z. z +ℤ own_of (pulls_of p base cell die axis left) at) is ∙ sym (own_first p base cell die axis conn left at)) ∙ so_far.all;
}
  where
    regroup : (a b : ℕ) (z : ℤ) → pos (a + b) +ℤ z ≡ pos a +ℤ (pos b +ℤ z)
    regroup a b z = omega (arith, ints)

pub added_all : (p : Netlist) (base : List Place) (cell : ℕ) (die : Die) (axis : Axis) (at : ℤ) (total : ℕ) → Added p base cell die axis at [] total → pos total ≡ own p base cell die axis at
added_all p base cell die axis at total so_far =
    let none = own_none p base cell die axis at in
    omega (arith, ints, none, so_far.all)
