-- What is kept of a net's pins, pin by pin, and the breakpoints that it gives, connection by connection.
use Rattle.std.proofs.Common.{◌≡◌, ℕ, zero, suc, ◌<◌, Bool, true, false, cond, List, [], ◌∷◌, ◌++◌, length, get_or, map, Option, Some, None, refl, sym, ap, ◌∙◌, ℤ, neg_ℤ, ◌-ℤ◌, append_assoc, arith}
use Rattle.std.specs.Int.{int_min, int_max}
use Rattle.std.proofs.lemmas.Int.{ints, clamps}
use Rattle.std.proofs.lemmas.List.{append-nil, map-id}
use Rattle.fp_base.specs.declared.ids.Die.{Die}
use Rattle.fp_netlist.specs.Netlist.{Netlist, conns_of_cell, conns_of_net}
use Rattle.fp_netlist.specs.Points.{offset}
use Rattle.fp_place.specs.Places.{Place}
use Rattle.fp_place.specs.Cut.{conn_at}
use Rattle.fp_score.specs.declared.own.Axis.{Axis}
use Rattle.fp_score.specs.declared.own.Ends.{Ends}
use Rattle.fp_score.specs.Score.{point}
use Rattle.fp_score.specs.Ends.{ends_after, ends_of}
use Rattle.fp_score.specs.Target.{along, is_other, others_at, least_of, greatest_of, Pull, pull_of, pulls_of, pulls}
use Rattle.fp_score.specs.TargetLaws.{others_of, others_all, others_first, ends_are}
use Rattle.fp_coarse.specs.declared.ends.Least.{Least}
use Rattle.fp_coarse.specs.declared.ends.NetEnds.{NetEnds}
use Rattle.fp_coarse.specs.EndsOfNets.{least_after, with_pin, kept_for, both_ends, ends_without, IsNetEnds}
use Rattle.fp_coarse.specs.Medians.{breakpoints_of}

-- the least of the pins so far, with those of the connections that are left, is that of all; each pin's place is turned, as to its
-- negative, or not
pub record IsKept (turn : ℤ → ℤ) (p : Netlist) (base : List Place) (axis : Axis) (net : ℕ) (left : List ℕ) (least : Option Least) : Type 0 where
  pub all : (cell : ℕ) → least_after (kept_for least cell) (map turn (others_of p base cell axis left)) ≡ least_after None (map turn (others_at p base cell axis net))

pub kept_none : (turn : ℤ → ℤ) (p : Netlist) (base : List Place) (axis : Axis) (net : ℕ) → IsKept turn p base axis net (conns_of_net p net) None
kept_none turn p base axis net = record { all = λ cell. ap (λ (others : List ℤ). least_after None (map turn others)) (others_all p base cell axis net) }

pin_first : (turn : ℤ → ℤ) (least : Option ℤ) (other : Bool) (at : ℤ) (others : List ℤ)
    → least_after (with_pin least other (turn at)) (map turn others) ≡ least_after least (map turn (cond other (at ∷ others) others))
unfolding least_after
pin_first turn least true at others = refl
pin_first turn least false at others = refl

pub kept_more : (turn : ℤ → ℤ) (p : Netlist) (base : List Place) (axis : Axis) (net conn : ℕ) (left : List ℕ) (least : Option Least) (more : Least)
    → ((cell : ℕ) → kept_for (Some more) cell ≡ with_pin (kept_for least cell) (is_other p cell conn) (turn (along axis (point p base conn))))
    → IsKept turn p base axis net (conn ∷ left) least → IsKept turn p base axis net left (Some more)
kept_more turn p base axis net conn left least more is so_far = record {
  all = λ cell. ap (λ (o : Option ℤ). least_after o (map turn (others_of p base cell axis left))) (is cell)
      ∙ pin_first turn (kept_for least cell) (is_other p cell conn) (along axis (point p base conn)) (others_of p base cell axis left)
      ∙ ap (λ (others : List ℤ). least_after (kept_for least cell) (map turn others)) (sym (others_first p base cell axis conn left))
      ∙ so_far.all cell;
}

pub kept_all : (p : Netlist) (base : List Place) (axis : Axis) (net : ℕ) (low high : Option Least) → IsKept (λ at. at) p base axis net [] low → IsKept neg_ℤ p base axis net [] high
    → IsNetEnds p base axis net (record { low = low; high = high })
unfolding least_after others_of
kept_all p base axis net low high lows highs = record {
  low = λ cell. lows.all cell ∙ ap (least_after None) (map-id (others_at p base cell axis net));
  high = λ cell. highs.all cell;
}

-- the ends of places by the least of them and of their negatives
least_is : (least : ℤ) (places : List ℤ) → least_after (Some least) places ≡ Some (least_of least places)
unfolding least_after least_of
least_is least [] = refl
least_is least (at ∷ places) = least_is (int_min least at) places

negatives : (at : ℤ) (places : List ℤ) → neg_ℤ (least_of (neg_ℤ at) (map neg_ℤ places)) ≡ greatest_of at places
unfolding least_of greatest_of
negatives at [] = omega (arith, ints)
negatives at (next ∷ places) =
    ap (λ least. neg_ℤ (least_of least (map neg_ℤ places))) (let same : int_min (neg_ℤ at) (neg_ℤ next) ≡ neg_ℤ (int_max at next) = omega (arith, ints, clamps) in same)
    ∙ negatives (int_max at next) places

ends_by_least : (places : List ℤ) → both_ends (least_after None places) (least_after None (map neg_ℤ places)) ≡ ends_of places
unfolding least_after ends_after
ends_by_least [] = refl
ends_by_least (at ∷ places) =
    (λ i. both_ends (least_is at places i) (least_is (neg_ℤ at) (map neg_ℤ places) i))
    ∙ ap (λ high. Some (record { low = least_of at places; high = high })) (negatives at places)
    ∙ sym (ends_are at places)

pub ends_without_cell : (p : Netlist) (base : List Place) (axis : Axis) (net cell : ℕ) (ends : NetEnds) → IsNetEnds p base axis net ends → ends_without ends cell ≡ ends_of (others_at p base cell axis net)
ends_without_cell p base axis net cell ends is = (λ i. both_ends (is.low cell i) (is.high cell i)) ∙ ends_by_least (others_at p base cell axis net)

-- the breakpoints of a connection, before those of others
abbrev pub with_ends : Option Ends → ℤ → List ℤ → List ℤ
with_ends None off points = points
with_ends (Some ends) off points = (ends.low -ℤ off) ∷ (ends.high -ℤ off) ∷ points

pull_first : (others : List ℤ) (off : ℤ) (pulls : List Pull) → breakpoints_of (pull_of others off pulls) ≡ with_ends (ends_of others) off (breakpoints_of pulls)
unfolding breakpoints_of ends_after
pull_first [] off pulls = refl
pull_first (at ∷ others) off pulls = ap (λ (ends : Option Ends). with_ends ends off (breakpoints_of pulls)) (sym (ends_are at others))

-- the breakpoints so far, with those of the connections that are left, are all
pub record ArePushed (p : Netlist) (base : List Place) (cell : ℕ) (die : Die) (axis : Axis) (left : List ℕ) (points : List ℤ) : Type 0 where
  pub all : points ++ breakpoints_of (pulls_of p base cell die axis left) ≡ breakpoints_of (pulls p base cell die axis)

pub pushed_none : (p : Netlist) (base : List Place) (cell : ℕ) (die : Die) (axis : Axis) → ArePushed p base cell die axis (conns_of_cell p cell) []
pushed_none p base cell die axis = record { all = refl }

next_points : (p : Netlist) (base : List Place) (cell : ℕ) (die : Die) (axis : Axis) (conn : ℕ) (left : List ℕ)
    → breakpoints_of (pulls_of p base cell die axis (conn ∷ left))
    ≡ with_ends (ends_of (others_at p base cell axis (conn_at p conn).net.0)) (along axis (offset p (conn_at p conn) die)) (breakpoints_of (pulls_of p base cell die axis left))
unfolding pulls_of
next_points p base cell die axis conn left =
    pull_first (others_at p base cell axis (conn_at p conn).net.0) (along axis (offset p (conn_at p conn) die)) (pulls_of p base cell die axis left)

pub pushed_same : (p : Netlist) (base : List Place) (cell : ℕ) (die : Die) (axis : Axis) (conn : ℕ) (left : List ℕ) (points : List ℤ)
    → ends_of (others_at p base cell axis (conn_at p conn).net.0) ≡ None → ArePushed p base cell die axis (conn ∷ left) points → ArePushed p base cell die axis left points
pushed_same p base cell die axis conn left points none so_far = record {
  all = sym (ap (λ (rest : List ℤ). points ++ rest) (next_points p base cell die axis conn left
      ∙ ap (λ (ends : Option Ends). with_ends ends (along axis (offset p (conn_at p conn) die)) (breakpoints_of (pulls_of p base cell die axis left))) none)) ∙ so_far.all;
}

pub pushed_both : (p : Netlist) (base : List Place) (cell : ℕ) (die : Die) (axis : Axis) (conn : ℕ) (left : List ℕ) (points more : List ℤ) (ends : Ends) (off : ℤ)
    → ends_of (others_at p base cell axis (conn_at p conn).net.0) ≡ Some ends → along axis (offset p (conn_at p conn) die) ≡ off
    → more ≡ (points ++ (ends.low -ℤ off) ∷ []) ++ (ends.high -ℤ off) ∷ []
    → ArePushed p base cell die axis (conn ∷ left) points → ArePushed p base cell die axis left more
pushed_both p base cell die axis conn left points more ends off some is both so_far = record {
  all = ap (λ (front : List ℤ). front ++ rest) both ∙ regroup points (ends.low -ℤ off) (ends.high -ℤ off) rest
      ∙ sym (ap (λ (behind : List ℤ). points ++ behind) (next_points p base cell die axis conn left ∙ (λ i. with_ends (some i) (is i) rest))) ∙ so_far.all;
}
  where
    rest : List ℤ
    rest = breakpoints_of (pulls_of p base cell die axis left)

    regroup : (front : List ℤ) (a b : ℤ) (behind : List ℤ) → ((front ++ a ∷ []) ++ b ∷ []) ++ behind ≡ front ++ a ∷ b ∷ behind
    regroup front a b behind = simp append_assoc

pub pushed_all : (p : Netlist) (base : List Place) (cell : ℕ) (die : Die) (axis : Axis) (points : List ℤ) → ArePushed p base cell die axis [] points → points ≡ breakpoints_of (pulls p base cell die axis)
unfolding pulls_of breakpoints_of
pushed_all p base cell die axis points so_far = sym (append-nil points) ∙ so_far.all

-- what holds of each place and what stands there holds after a push, where it holds of the last
pub each_pushed : {A : Type 0} (fact : ℕ → A → Type 0) (xs : List A) (x d : A) → ((k : ℕ) → k < length xs → fact k (get_or xs k d)) → fact (length xs) x
    → (k : ℕ) → k < length (xs ++ x ∷ []) → fact k (get_or (xs ++ x ∷ []) k d)
each_pushed fact [] x d each last zero lt = last
each_pushed fact [] x d each last (suc k) lt = absurd (omega (arith, lt))
each_pushed fact (y ∷ ys) x d each last zero lt = each 0 (omega arith)
each_pushed fact (y ∷ ys) x d each last (suc k) lt =
    each_pushed (λ j. fact (suc j)) ys x d (λ j below. each (suc j) (omega (arith, below))) last k (omega (arith, lt))
