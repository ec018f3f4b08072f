-- Segments of one row: which stand behind a place, and which is the nearest.
use Rattle.std.specs.Prelude.{◌≡◌, ℕ, ◌+◌, ◌-◌, ◌<◌, ◌≤◌, ◌^◌, ◌⊎◌, Bool, true, false, List, length, IsTrue, unsigned_abs, ℤ, pos, negsuc, ◌+ℤ◌, ◌-ℤ◌, ◌≤ℤ◌, ◌<ℤ◌}
use Rattle.std.proofs.Common.{to_z, of_z, w64, refl, sym, ap, subst, ◌∙◌, inl, inr, arith}
use Rattle.std.proofs.lemmas.Bool.{cases_lt}
use Rattle.std.proofs.lemmas.Int.{ints, by_lt_z, to_z-of_z, fits_signed_from_abs}
use Rattle.fp_base.specs.declared.ids.Point.{Point}
use Rattle.fp_tech.specs.declared.dies.Segment.{Segment}
use Rattle.fp_score.specs.Pick.{distance_to}
use Rattle.fp_coarse.specs.declared.nearest.Aim.{Aim}
use Rattle.fp_coarse.specs.Rooms.{has_free, AreShut}
use Rattle.fp_coarse.specs.Nearest.{at, cost_at, cost_of, AreSegments, IsNear, CanSearch, is_behind, IsFirstBehind, IsNearestOf}

-- a segment behind a place is on its row or higher, and on its row it starts behind it
behind_not_lower : (place : Point) (s : Segment) → is_behind place s ≡ true → place.y ≤ℤ s.y
behind_not_lower place s e = grind (arith, ints)

behind_starts : (place : Point) (s : Segment) → is_behind place s ≡ true → s.y ≤ℤ place.y → place.x <ℤ s.start
behind_starts place s e le = grind (arith, ints)

-- one that is not is on its row or lower, and on its row it starts at or before it
before_not_higher : (place : Point) (s : Segment) → is_behind place s ≡ false → s.y ≤ℤ place.y
before_not_higher place s e = grind (arith, ints)

before_starts : (place : Point) (s : Segment) → is_behind place s ≡ false → place.y ≤ℤ s.y → s.start ≤ℤ place.x
before_starts place s e le = grind (arith, ints)

is_higher : (place : Point) (s : Segment) → place.y <ℤ s.y → is_behind place s ≡ true
is_higher place s less = grind (arith, ints)

starts_behind : (place : Point) (s : Segment) → place.y ≤ℤ s.y → place.x <ℤ s.start → is_behind place s ≡ true
starts_behind place s le less = grind (arith, ints)

-- of two segments the later one starts behind the other, if they are of one row
later_start : (segments : List Segment) (i j : ℕ) → AreSegments segments → i ≤ j → j < length segments → (at segments j).y ≤ℤ (at segments i).y
    → (at segments i).start ≤ℤ (at segments j).start
later_start segments i j are le below lower = by (cases_lt i j)
  where
    by : ((i < j) ⊎ (j ≤ i)) → (at segments i).start ≤ℤ (at segments j).start
    by (inl less) =
        let same : (at segments i).y ≡ (at segments j).y = omega (arith, ints, lower, are.rising i j le below) in
        omega (arith, ints, are.apart i j less below same, (are.each i (omega (arith, less, below))).some)
    by (inr most) = let one : i ≡ j = omega (arith, le, most) in omega (arith, ints, ap (λ n. (at segments n).start) one)

-- what comes later than a segment behind a place is behind it too
pub behind_later : (segments : List Segment) (place : Point) (i j : ℕ) → AreSegments segments → i ≤ j → j < length segments
    → is_behind place (at segments i) ≡ true → is_behind place (at segments j) ≡ true
behind_later segments place i j are le below behind =
    by_lt_z place.y (at segments j).y (λ higher. is_higher place (at segments j) higher) (λ no_higher.
    let up = are.rising i j le below in
    let from = behind_not_lower place (at segments i) behind in
    let starts = behind_starts place (at segments i) behind (omega (arith, ints, up, no_higher)) in
    starts_behind place (at segments j) (omega (arith, ints, up, from))
    (omega (arith, ints, starts, later_start segments i j are le below (omega (arith, ints, no_higher, from)))))

pub before_earlier : (segments : List Segment) (place : Point) (i j : ℕ) → AreSegments segments → i ≤ j → j < length segments
    → is_behind place (at segments j) ≡ false → is_behind place (at segments i) ≡ false
before_earlier segments place i j are le below before = by (is_behind place (at segments i)) refl
  where
    by : (b : Bool) → is_behind place (at segments i) ≡ b → is_behind place (at segments i) ≡ false
    by true e = let nothing : true ≡ false = sym (behind_later segments place i j are le below e) ∙ before in absurd cc
    by false e = e

-- how far a place is from an interval
near_behind : (low high x : ℤ) → low ≤ℤ x → pos (distance_to low high x) ≤ℤ (x -ℤ low)
near_behind low high x one = grind (arith, ints)

far_behind : (low high start x : ℤ) → low <ℤ start → high <ℤ start → start ≤ℤ x → (x -ℤ start) <ℤ pos (distance_to low high x)
far_behind low high start x one two three = grind (arith, ints)

before : (low high x : ℤ) → x ≤ℤ low → pos (distance_to low high x) ≡ low -ℤ x
before low high x one = grind (arith, ints)

-- of two segments of a row that start at or before the target the later one is nearer
cost_before : (segments : List Segment) (aim : Aim) (i j : ℕ) → AreSegments segments → pos 1 ≤ℤ aim.width → i < j → j < length segments
    → (at segments i).y ≡ (at segments j).y → (at segments j).start ≤ℤ aim.target.x → cost_of segments aim j < cost_of segments aim i
unfolding cost_at
cost_before segments aim i j are some less below same starts =
    let a = at segments i in
    let b = at segments j in
    let apart = are.apart i j less below same in
    let long = (are.each i (omega (arith, less, below))).some in
    let near = near_behind b.start ((b.start +ℤ b.length) -ℤ aim.width) aim.target.x starts in
    let far = far_behind a.start ((a.start +ℤ a.length) -ℤ aim.width) b.start aim.target.x (omega (arith, ints, apart, long)) (omega (arith, ints, apart, some)) starts in
    let rise = ap (λ y. unsigned_abs (y -ℤ aim.target.y)) same in
    omega (arith, ints, near, far, rise)

-- and of two that start behind it the earlier one
cost_behind : (segments : List Segment) (aim : Aim) (i j : ℕ) → AreSegments segments → i < j → j < length segments
    → (at segments i).y ≡ (at segments j).y → aim.target.x <ℤ (at segments i).start → cost_of segments aim i < cost_of segments aim j
unfolding cost_at
cost_behind segments aim i j are less below same starts =
    let a = at segments i in
    let b = at segments j in
    let apart = are.apart i j less below same in
    let long = (are.each i (omega (arith, less, below))).some in
    let near = before a.start ((a.start +ℤ a.length) -ℤ aim.width) aim.target.x (omega (arith, ints, starts)) in
    let far = before b.start ((b.start +ℤ b.length) -ℤ aim.width) aim.target.x (omega (arith, ints, starts, apart, long)) in
    let rise = ap (λ y. unsigned_abs (y -ℤ aim.target.y)) same in
    omega (arith, ints, near, far, rise, apart, long)

-- a place of 64 bits is itself
pub row_same : (segments : List Segment) (number cut : ℕ) (x : ℤ) → AreSegments segments → number < length segments
    → IsFirstBehind segments (record { x = x; y = to_z w64 (of_z w64 (at segments number).y) }) cut → IsFirstBehind segments (record { x = x; y = (at segments number).y }) cut
row_same segments number cut x are within is =
    let here = are.each number within in
    subst (λ y. IsFirstBehind segments (record { x = x; y = y }) cut)
    (to_z-of_z w64 (at segments number).y (fits_signed_from_abs w64 (at segments number).y (omega (arith, ints, here.y_low, here.y_high)))) is

pub place_same : (segments : List Segment) (number cut : ℕ) (x : ℤ) → AreSegments segments → number < length segments → IsNear x
    → IsFirstBehind segments (record { x = to_z w64 (of_z w64 x); y = to_z w64 (of_z w64 (at segments number).y) }) cut
    → IsFirstBehind segments (record { x = x; y = (at segments number).y }) cut
place_same segments number cut x are within near is =
    subst (λ x. IsFirstBehind segments (record { x = x; y = (at segments number).y }) cut)
    (to_z-of_z w64 x (fits_signed_from_abs w64 x (omega (arith, ints, near.low, near.high))))
    (row_same segments number cut (to_z w64 (of_z w64 x)) are within is)

-- a segment with room is no segment without
open_not_shut : (free : List ℤ) (width : ℤ) (n : ℕ) → has_free free width n ≡ true → has_free free width n ≡ false → ⊥
open_not_shut free width n holds fails = let nothing : true ≡ false = sym holds ∙ fails in cc

-- a segment alone
pub alone : (segments : List Segment) (free : List ℤ) (aim : Aim) (number : ℕ) → has_free free aim.width number ≡ true
    → IsNearestOf segments free aim number (number + 1) number
alone segments free aim number open_is = record {
  from = omega arith;
  below = omega arith;
  passing = open_is;
  least = λ n from below pass. let same : number ≡ n = omega (arith, from, below) in omega (arith, ap (cost_of segments aim) same);
  first = λ n from below pass. absurd (omega (arith, from, below));
}

module _ (segments : List Segment) (free most : List ℤ) (aim : Aim) (number : ℕ) (can : CanSearch segments free most aim) (within : number < length segments)
    (open_is : has_free free aim.width number ≡ true) where
  abbrev row_at : ℤ → Point
  row_at x = record { x = x; y = (at segments number).y }

  -- upwards from a segment that starts at or before the target the last with room is not before it
  pub up_some : (cut last : ℕ) → (at segments number).start ≤ℤ aim.target.x → IsFirstBehind segments (row_at aim.target.x) cut
      → AreShut free aim.width last cut → number < last
  up_some cut last starts first_is shut = by (cases_lt number cut) (cases_lt number last)
    where
      by : (number < cut) ⊎ (cut ≤ number) → (number < last) ⊎ (last ≤ number) → number < last
      by within_cut (inl less) = less
      by (inl inside) (inr shut_is) = absurd (open_not_shut free aim.width number open_is (shut number shut_is inside))
      by (inr behind) (inr shut_is) = absurd (omega (
        arith,
        ints,
        behind_starts (row_at aim.target.x) (at segments number) (first_is.behind number behind within) (omega (arith, ints)),
        starts,
      ))

  -- and it is the nearest
  pub up_before : (cut last : ℕ) → (at segments number).start ≤ℤ aim.target.x → IsFirstBehind segments (row_at aim.target.x) cut → last ≤ cut
      → AreShut free aim.width last cut → (0 < last → IsTrue (has_free free aim.width (last - 1))) → IsNearestOf segments free aim number cut (last - 1)
  up_before cut last starts first_is le shut holds = record {
    from = omega (arith, some);
    below = omega (arith, le, some);
    passing = holds (omega (arith, some));
    least = λ n from below pass. least n from below pass (cases_lt n (last - 1));
    first = λ n from below pass. nearer n from below;
  }
    where
      some : number < last
      some = up_some cut last starts first_is shut

      in_row : (n : ℕ) → number ≤ n → n < cut → (at segments number).y ≡ (at segments n).y
      in_row n from below =
          omega (
            arith,
            ints,
            before_not_higher (row_at aim.target.x) (at segments n) (first_is.before n below),
            can.segments_are.rising number n from (omega (arith, below, first_is.within)),
          )

      nearer : (n : ℕ) → number ≤ n → n < last - 1 → cost_of segments aim (last - 1) < cost_of segments aim n
      nearer n from below =
          let there : last - 1 < cut = omega (arith, le, some) in
          let row = in_row (last - 1) (omega (arith, some)) there in
          cost_before segments aim n (last - 1) can.segments_are can.aim_is.some below (omega (arith, there, first_is.within))
          (sym (in_row n from (omega (arith, below, le))) ∙ row)
          (before_starts (row_at aim.target.x) (at segments (last - 1)) (first_is.before (last - 1) there) (omega (arith, ints, row)))

      least : (n : ℕ) → number ≤ n → n < cut → IsTrue (has_free free aim.width n) → (n < last - 1) ⊎ (last - 1 ≤ n) → cost_of segments aim (last - 1) ≤ cost_of segments aim n
      least n from below pass (inl less) = omega (arith, nearer n from less)
      least n from below pass (inr behind) = by (cases_lt n last)
        where
          by : (n < last) ⊎ (last ≤ n) → cost_of segments aim (last - 1) ≤ cost_of segments aim n
          by (inl here) = let same : last - 1 ≡ n = omega (arith, here, behind) in omega (arith, ap (cost_of segments aim) same)
          by (inr shut_is) = absurd (open_not_shut free aim.width n pass (shut n shut_is below))

  -- upwards from one that starts behind it
  pub up_behind : (cut : ℕ) → aim.target.x <ℤ (at segments number).start → IsFirstBehind segments (row_at (pos (2 ^ 30))) cut → IsNearestOf segments free aim number cut number
  up_behind cut starts first_is = record {
    from = omega arith;
    below = inside;
    passing = open_is;
    least = λ n from below pass. least n from below (cases_lt number n);
    first = λ n from below pass. absurd (omega (arith, from, below));
  }
    where
      inside : number < cut
      inside = by (cases_lt number cut)
        where
          by : (number < cut) ⊎ (cut ≤ number) → number < cut
          by (inl less) = less
          by (inr most_is) = absurd (omega (
            arith,
            ints,
            behind_starts (row_at (pos (2 ^ 30))) (at segments number) (first_is.behind number most_is within) (omega (arith, ints)),
            (can.segments_are.each number within).high,
          ))

      least : (n : ℕ) → number ≤ n → n < cut → (number < n) ⊎ (n ≤ number) → cost_of segments aim number ≤ cost_of segments aim n
      least n from below (inl less) =
          let there : n < length segments = omega (arith, below, first_is.within) in
          let row : (at segments number).y ≡ (at segments n).y =
          omega (arith, ints, before_not_higher (row_at (pos (2 ^ 30))) (at segments n) (first_is.before n below), can.segments_are.rising number n from there) in
          omega (arith, cost_behind segments aim number n can.segments_are less there row starts)
      least n from below (inr here) = let same : number ≡ n = omega (arith, here, from) in omega (arith, ap (cost_of segments aim) same)

  -- downwards from one that starts behind it
  pub down_behind : (cut next : ℕ) → aim.target.x <ℤ (at segments number).start → IsFirstBehind segments (row_at aim.target.x) cut → cut ≤ next
      → AreShut free aim.width cut next → (next < length segments → IsTrue (has_free free aim.width next)) → IsNearestOf segments free aim cut (number + 1) next
  down_behind cut next starts first_is le shut holds = record {
    from = le;
    below = omega (arith, some);
    passing = holds (omega (arith, some, within));
    least = λ n from below pass. least n from below pass (cases_lt next n);
    first = λ n from below pass. absurd (open_not_shut free aim.width n pass (shut n from below));
  }
    where
      inside : cut ≤ number
      inside = by (cases_lt number cut)
        where
          by : (number < cut) ⊎ (cut ≤ number) → cut ≤ number
          by (inl less) = absurd (omega (arith, ints, before_starts (row_at aim.target.x) (at segments number) (first_is.before number less) (omega (arith, ints)), starts))
          by (inr most_is) = most_is

      some : next ≤ number
      some = by (cases_lt number next)
        where
          by : (number < next) ⊎ (next ≤ number) → next ≤ number
          by (inl less) = absurd (open_not_shut free aim.width number open_is (shut number inside less))
          by (inr most_is) = most_is

      in_row : (n : ℕ) → cut ≤ n → n ≤ number → (at segments n).y ≡ (at segments number).y
      in_row n from below =
          omega (
            arith,
            ints,
            behind_not_lower (row_at aim.target.x) (at segments n) (first_is.behind n from (omega (arith, below, within))),
            can.segments_are.rising n number below within,
          )

      least : (n : ℕ) → cut ≤ n → n < number + 1 → IsTrue (has_free free aim.width n) → (next < n) ⊎ (n ≤ next) → cost_of segments aim next ≤ cost_of segments aim n
      least n from below pass (inl less) =
          let there : next < length segments = omega (arith, some, within) in
          let row = in_row next le some in
          let far = cost_behind segments aim next n can.segments_are less (omega (arith, below, within)) (row ∙ sym (in_row n from (omega (arith, below))))
          (behind_starts (row_at aim.target.x) (at segments next) (first_is.behind next le there) (omega (arith, ints, row))) in
          omega (arith, far)
      least n from below pass (inr before) = by (cases_lt n next)
        where
          by : (n < next) ⊎ (next ≤ n) → cost_of segments aim next ≤ cost_of segments aim n
          by (inl less) = absurd (open_not_shut free aim.width n pass (shut n from less))
          by (inr here) = let same : next ≡ n = omega (arith, here, before) in omega (arith, ap (cost_of segments aim) same)

  -- downwards from one that starts at or before it
  pub down_before : (cut : ℕ) → (at segments number).start ≤ℤ aim.target.x → IsFirstBehind segments (row_at (negsuc 0)) cut → IsNearestOf segments free aim cut (number + 1) number
  down_before cut starts first_is = record {
    from = inside;
    below = omega arith;
    passing = open_is;
    least = λ n from below pass. least n from below (cases_lt n number);
    first = λ n from below pass. nearer n from below;
  }
    where
      inside : cut ≤ number
      inside = by (cases_lt number cut)
        where
          by : (number < cut) ⊎ (cut ≤ number) → cut ≤ number
          by (inl less) = absurd (omega (
            arith,
            ints,
            before_starts (row_at (negsuc 0)) (at segments number) (first_is.before number less) (omega (arith, ints)),
            (can.segments_are.each number within).low,
          ))
          by (inr most_is) = most_is

      nearer : (n : ℕ) → cut ≤ n → n < number → cost_of segments aim number < cost_of segments aim n
      nearer n from less =
          let row : (at segments n).y ≡ (at segments number).y =
          omega (
            arith,
            ints,
            behind_not_lower (row_at (negsuc 0)) (at segments n) (first_is.behind n from (omega (arith, less, within))),
            can.segments_are.rising n number (omega (arith, less)) within,
          ) in
          cost_before segments aim n number can.segments_are can.aim_is.some less within row starts

      least : (n : ℕ) → cut ≤ n → n < number + 1 → (n < number) ⊎ (number ≤ n) → cost_of segments aim number ≤ cost_of segments aim n
      least n from below (inl less) = omega (arith, nearer n from less)
      least n from below (inr here) = let same : number ≡ n = omega (arith, here, below) in omega (arith, ap (cost_of segments aim) same)
