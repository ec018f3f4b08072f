-- The nearest of some numbers: one of least cost, the first among ties.
use Rattle.std.specs.Prelude.{◌≡◌, ℕ, ◌+◌, ◌<◌, ◌≤◌, ◌^◌, Bool, false, ◌&&◌, ◌||◌, nat_le, nat_lt, int_le, int_lt, if◌then◌else◌, List, length, get_or, Option, Some, None, IsTrue, unsigned_abs, ℤ, pos, ◌+ℤ◌, ◌-ℤ◌, ◌≤ℤ◌}
use Rattle.fp_base.specs.declared.ids.Point.{Point}
use Rattle.fp_tech.specs.declared.dies.Segment.{Segment}
use Rattle.fp_score.specs.FirstFit.{no_segment}
use Rattle.fp_score.specs.Pick.{distance_to}
use Rattle.fp_coarse.specs.declared.nearest.Found.{Found}
use Rattle.fp_coarse.specs.declared.nearest.Aim.{Aim}
use Rattle.fp_coarse.specs.declared.nearest.Hull.{Hull}
use Rattle.fp_coarse.specs.Rooms.{has_free, AreRooms}

-- of the numbers from `low` to below `high` that pass, this is the first of least cost
pub record IsLeast (passes : ℕ → Bool) (cost : ℕ → ℕ) (low high found : ℕ) : Type 0 where
  pub from : low ≤ found
  pub below : found < high
  pub passing : IsTrue (passes found)
  pub least : (other : ℕ) → low ≤ other → other < high → IsTrue (passes other) → cost found ≤ cost other
  pub first : (other : ℕ) → low ≤ other → other < found → IsTrue (passes other) → cost found < cost other

-- the first of least cost, or none where none passes
abbrev pub IsLeastOrNone : (ℕ → Bool) → (ℕ → ℕ) → ℕ → ℕ → Option ℕ → Type 0
IsLeastOrNone passes cost low high None = (other : ℕ) → low ≤ other → other < high → passes other ≡ false
IsLeastOrNone passes cost low high (Some found) = IsLeast passes cost low high found

-- the same, with its cost beside it
pub record IsFound (passes : ℕ → Bool) (cost : ℕ → ℕ) (low high : ℕ) (found : Found) : Type 0 where
  pub is : IsLeast passes cost low high found.segment
  pub cost_is : found.cost ≡ cost found.segment

abbrev pub IsBest : (ℕ → Bool) → (ℕ → ℕ) → ℕ → ℕ → Option Found → Type 0
IsBest passes cost low high None = (other : ℕ) → low ≤ other → other < high → passes other ≡ false
IsBest passes cost low high (Some found) = IsFound passes cost low high found

abbrev pub at : List Segment → ℕ → Segment
at segments number = get_or segments number no_segment

-- how far a place is from a segment's row in y, and from the nearest place on it for a width in x
abbrev pub rise_to : List Segment → Point → ℕ → ℕ
rise_to segments target number = unsigned_abs ((at segments number).y -ℤ target.y)

abbrev pub reach_to : Segment → ℤ → ℤ → ℕ
reach_to segment width x = distance_to segment.start ((segment.start +ℤ segment.length) -ℤ width) x

unfoldable pub cost_at : List Segment → ℤ → Point → ℕ → ℕ
cost_at segments width target number = rise_to segments target number + reach_to (at segments number) width target.x

abbrev pub cost_of : List Segment → Aim → ℕ → ℕ
cost_of segments aim number = cost_at segments aim.width aim.target number

-- free lengths are at most the segments'
pub record AreFree (segments : List Segment) (free : List ℤ) : Type 0 where
  pub low : (number : ℕ) → pos 0 ≤ℤ get_or free number (pos 0)
  pub high : (number : ℕ) → number < length segments → get_or free number (pos 0) ≤ℤ (at segments number).length

-- the coordinates and lengths of segments are in range
pub record IsSegment (segment : Segment) : Type 0 where
  pub y_low : pos 0 ≤ℤ segment.y
  pub y_high : segment.y ≤ℤ pos (2 ^ 47)
  pub low : pos 0 ≤ℤ segment.start
  pub high : segment.start ≤ℤ pos (2 ^ 30)
  pub some : pos 1 ≤ℤ segment.length
  pub long : segment.length ≤ℤ pos (2 ^ 30)

-- segments are numbered row by row upwards, and those of a row from the left, each behind the end of the one before
pub record AreSegments (segments : List Segment) : Type 0 where
  pub few : length segments ≤ 2 ^ 16
  pub each : (number : ℕ) → number < length segments → IsSegment (at segments number)
  pub rising : (i j : ℕ) → i ≤ j → j < length segments → (at segments i).y ≤ℤ (at segments j).y
  pub apart : (i j : ℕ) → i < j → j < length segments → (at segments i).y ≡ (at segments j).y
      → ((at segments i).start +ℤ (at segments i).length) ≤ℤ (at segments j).start

-- a segment stands on a higher row than a place, or on its row and starts behind it
abbrev pub is_behind : Point → Segment → Bool
is_behind place segment = int_lt place.y segment.y || (int_le place.y segment.y && int_lt place.x segment.start)

-- the first segment behind a place
pub record IsFirstBehind (segments : List Segment) (place : Point) (cut : ℕ) : Type 0 where
  pub within : cut ≤ length segments
  pub before : (number : ℕ) → number < cut → is_behind place (at segments number) ≡ false
  pub behind : (number : ℕ) → cut ≤ number → number < length segments → IsTrue (is_behind place (at segments number))

-- the hull of the segments below a number in x
pub record IsHullBelow (segments : List Segment) (count : ℕ) (hull : Hull) : Type 0 where
  pub low_least : pos 0 ≤ℤ hull.low
  pub low_most : hull.low ≤ℤ pos (2 ^ 30)
  pub high_least : pos 0 ≤ℤ hull.high
  pub high_most : hull.high ≤ℤ pos (2 ^ 31)
  pub from : (number : ℕ) → number < count → hull.low ≤ℤ (at segments number).start
  pub to : (number : ℕ) → number < count → ((at segments number).start +ℤ (at segments number).length) ≤ℤ hull.high

abbrev pub IsHull : List Segment → Hull → Type 0
IsHull segments hull = IsHullBelow segments (length segments) hull

-- a coordinate is within 2^32 of 0
pub record IsNear (z : ℤ) : Type 0 where
  pub low : (pos 0 -ℤ pos (2 ^ 32)) ≤ℤ z
  pub high : z ≤ℤ pos (2 ^ 32)

pub record IsNearPoint (point : Point) : Type 0 where
  pub x : IsNear point.x
  pub y : IsNear point.y

-- an aim is in range, and its segments with room are in x at least as far from its target as it says
pub record IsAim (segments : List Segment) (free : List ℤ) (aim : Aim) : Type 0 where
  pub some : pos 1 ≤ℤ aim.width
  pub small : aim.width ≤ℤ pos (2 ^ 30)
  pub target : IsNearPoint aim.target
  pub side_small : aim.side ≤ 2 ^ 34
  pub side : (number : ℕ) → number < length segments → IsTrue (has_free free aim.width number)
      → aim.side ≤ reach_to (at segments number) aim.width aim.target.x

-- what a search stands on
pub record CanSearch (segments : List Segment) (free most : List ℤ) (aim : Aim) : Type 0 where
  pub segments_are : AreSegments segments
  pub rooms : AreRooms free most
  pub many : length free ≡ length segments
  pub aim_is : IsAim segments free aim

-- the best of the segments from `low` to below `high`
abbrev pub IsBestOf : List Segment → List ℤ → Aim → ℕ → ℕ → Option Found → Type 0
IsBestOf segments free aim low high best = IsBest (has_free free aim.width) (cost_of segments aim) low high best

-- of the segments with room from `low` to below `high`, this is the nearest, the first among ties
abbrev pub IsNearestOf : List Segment → List ℤ → Aim → ℕ → ℕ → ℕ → Type 0
IsNearestOf segments free aim low high found = IsLeast (has_free free aim.width) (cost_of segments aim) low high found

-- no segment of a distance of at least this much in y can be better than the best, or as good
abbrev pub is_beaten : Option Found → ℕ → Bool
is_beaten None bound = false
is_beaten (Some best) bound = nat_le best.cost bound

abbrev pub is_passed : Option Found → ℕ → Bool
is_passed None bound = false
is_passed (Some best) bound = nat_lt best.cost bound

-- the better of the best so far and another: among ties the one so far, or the other
abbrev pub earlier : Option Found → Found → Found
earlier None other = other
earlier (Some best) other = if nat_lt other.cost best.cost then other else best

abbrev pub later : Option Found → Found → Found
later None other = other
later (Some best) other = if nat_le other.cost best.cost then other else best
