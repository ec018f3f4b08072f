-- The hull of segments, and where rows begin.
use Rattle.std.specs.Prelude.{◌≡◌, ℕ, ◌+◌, ◌<◌, ◌≤◌, ◌^◌, true, false, List, length, get_or, IsTrue, ◌⊎◌, ℤ, pos, ◌+ℤ◌, ◌-ℤ◌, ◌≤ℤ◌, int_lt}
use Rattle.std.specs.Int.{int_min, int_max}
use Rattle.std.specs.List.Sorted.{IsPartitionedBy}
use Rattle.std.proofs.Common.{to_z, of_z, w64, sym, ap, subst, arith, inl, inr}
use Rattle.std.proofs.lemmas.Bool.{cases_lt}
use Rattle.std.proofs.lemmas.Int.{ints, to_z-of_z, fits_signed_from_abs}
use Rattle.std.proofs.lemmas.List.{get_or_default}
use Rattle.fp_base.specs.declared.ids.Point.{Point}
use Rattle.fp_tech.specs.declared.dies.Segment.{Segment}
use Rattle.fp_score.specs.FirstFit.{no_segment}
use Rattle.fp_score.specs.Pick.{distance_to}
use Rattle.fp_coarse.specs.declared.nearest.Hull.{Hull}
use Rattle.fp_coarse.specs.declared.nearest.Aim.{Aim}
use Rattle.fp_coarse.specs.Rooms.{has_free, AreRooms}
use Rattle.fp_coarse.specs.Nearest.{at, IsSegment, AreSegments, IsHullBelow, IsHull, AreFree, IsNearPoint, reach_to, CanSearch}

pub hull_more : (segments : List Segment) (count : ℕ) (hull new : Hull) → IsHullBelow segments count hull → IsSegment (at segments count)
    → new.low ≡ int_min hull.low (at segments count).start → new.high ≡ int_max hull.high ((at segments count).start +ℤ (at segments count).length)
    → IsHullBelow segments (count + 1) new
hull_more segments count hull new is here low_is high_is = record {
  low_least = low_least;
  low_most = omega (arith, ints, lower, is.low_most);
  high_least = omega (arith, ints, higher, is.high_least);
  high_most = high_most;
  from = λ number below. from number below (cases_lt number count);
  to = λ number below. to number below (cases_lt number count);
}
  where
    lower : new.low ≤ℤ hull.low
    lower = grind (arith, ints)

    lower_start : new.low ≤ℤ (at segments count).start
    lower_start = grind (arith, ints)

    low_least : pos 0 ≤ℤ new.low
    low_least = let least = is.low_least in let some = here.low in grind (arith, ints)

    higher : hull.high ≤ℤ new.high
    higher = grind (arith, ints)

    higher_end : ((at segments count).start +ℤ (at segments count).length) ≤ℤ new.high
    higher_end = grind (arith, ints)

    high_most : new.high ≤ℤ pos (2 ^ 31)
    high_most =
        let most = is.high_most in
        let ends : ((at segments count).start +ℤ (at segments count).length) ≤ℤ pos (2 ^ 31) = omega (arith, ints, here.high, here.long) in
        grind (arith, ints)

    from : (number : ℕ) → number < count + 1 → (number < count) ⊎ (count ≤ number) → new.low ≤ℤ (at segments number).start
    from number below (inl before) = omega (arith, ints, lower, is.from number before)
    from number below (inr last) = let same : count ≡ number = omega (arith, below, last) in subst (λ n. new.low ≤ℤ (at segments n).start) same lower_start

    to : (number : ℕ) → number < count + 1 → (number < count) ⊎ (count ≤ number) → ((at segments number).start +ℤ (at segments number).length) ≤ℤ new.high
    to number below (inl before) = omega (arith, ints, higher, is.to number before)
    to number below (inr last) = let same : count ≡ number = omega (arith, below, last) in
        subst (λ n. ((at segments n).start +ℤ (at segments n).length) ≤ℤ new.high) same higher_end

-- the rows below a height come first
pub rows_part : (segments : List Segment) (y : ℤ) → AreSegments segments → IsPartitionedBy (λ segment. int_lt segment.y y) segments
rows_part segments y are i j d le below less =
    let first : get_or segments i d ≡ at segments i = get_or_default segments i d no_segment (omega (arith, le, below)) in
    let second : get_or segments j d ≡ at segments j = get_or_default segments j d no_segment below in
    let up = are.rising i j le below in
    let here = ap (λ (s : Segment). s.y) first in
    let there = ap (λ (s : Segment). s.y) second in
    lower (get_or segments i d).y (get_or segments j d).y (omega (arith, ints, up, here, there)) less
  where
    lower : (a b : ℤ) → a ≤ℤ b → int_lt b y ≡ true → int_lt a y ≡ true
    lower a b le less = grind (arith, ints)

pub is_below : (a y : ℤ) → int_lt a y ≡ true → a ≤ℤ y
is_below a y e = grind (arith, ints)

pub is_above : (a y : ℤ) → int_lt a y ≡ false → y ≤ℤ a
is_above a y e = grind (arith, ints)

-- a place is no nearer to a part of an interval
nearer : (low high from to x : ℤ) → low ≤ℤ from → to ≤ℤ high → from ≤ℤ to → distance_to low high x ≤ distance_to from to x
nearer low high from to x one two three = grind (arith, ints)

-- what is searched for, as the hull says
pub can_aim : (segments : List Segment) (free most : List ℤ) (hull : Hull) (width : ℤ) (target : Point) (aim : Aim) → AreSegments segments → AreRooms free most
    → length free ≡ length segments → AreFree segments free → IsHull segments hull → pos 1 ≤ℤ width → width ≤ℤ pos (2 ^ 30) → IsNearPoint target
    → aim.width ≡ width → aim.target ≡ target → aim.side ≡ distance_to hull.low (hull.high -ℤ width) target.x → aim.side ≤ 2 ^ 34 → CanSearch segments free most aim
can_aim segments free most hull width target aim are rooms many fewer is some small near width_is target_is side_is side_small = record {
  segments_are = are;
  rooms = rooms;
  many = many;
  aim_is = record {
    some = omega (arith, ints, some, width_is);
    small = omega (arith, ints, small, width_is);
    target = subst IsNearPoint (sym target_is) near;
    side_small = side_small;
    side = λ number below room. by number below (subst (λ w. IsTrue (has_free free w number)) width_is room);
  };
}
  where
    by : (number : ℕ) → number < length segments → IsTrue (has_free free width number) → aim.side ≤ reach_to (at segments number) aim.width aim.target.x
    by number below room =
        let holds : width ≤ℤ get_or free number (pos 0) = grind (arith, ints) in
        let inside : (at segments number).start ≤ℤ (((at segments number).start +ℤ (at segments number).length) -ℤ width) =
        omega (arith, ints, holds, fewer.high number below) in
        let end : (((at segments number).start +ℤ (at segments number).length) -ℤ width) ≤ℤ (hull.high -ℤ width) = omega (arith, ints, is.to number below) in
        omega (
          arith,
          side_is,
          nearer hull.low (hull.high -ℤ width) (at segments number).start (((at segments number).start +ℤ (at segments number).length) -ℤ width) target.x
              (is.from number below) end inside,
          ap (λ w. reach_to (at segments number) w aim.target.x) width_is,
          ap (λ (p : Point). reach_to (at segments number) width p.x) target_is,
        )

-- a number of 64 bits is itself
pub width_same : (z : ℤ) → pos 1 ≤ℤ z → z ≤ℤ pos (2 ^ 30) → to_z w64 (of_z w64 z) ≡ z
width_same z low high = to_z-of_z w64 z (fits_signed_from_abs w64 z (omega (arith, ints, low, high)))
