-- The free lengths of segments, and bounds of them by blocks of 64.
use Rattle.std.specs.Prelude.{◌≡◌, ℕ, ◌*◌, ◌/◌, ◌<◌, ◌≤◌, ◌^◌, Bool, false, int_le, List, length, map, get_or, set, ℤ, pos, ◌≤ℤ◌}
use Rattle.fp_tech.specs.declared.dies.Segment.{Segment}

abbrev pub lengths : List Segment → List ℤ
lengths segments = map (λ segment. segment.length) segments

-- the free length of a segment holds a width
abbrev pub has_free : List ℤ → ℤ → ℕ → Bool
has_free free width number = int_le width (get_or free number (pos 0))

-- each free length is at most the bound of its block
pub record AreRooms (free most : List ℤ) : Type 0 where
  pub few : length free ≤ 2 ^ 16
  pub many : length free ≤ 64 * length most
  pub above : (number : ℕ) → number < length free → get_or free number (pos 0) ≤ℤ get_or most (number / 64) (pos 0)

-- none of these segments has room for a width
abbrev pub AreShut : List ℤ → ℤ → ℕ → ℕ → Type 0
AreShut free width from to = (number : ℕ) → from ≤ number → number < to → has_free free width number ≡ false

-- a block has a new bound
pub record IsBounded (free : List ℤ) (block : ℕ) (most bounds : List ℤ) : Type 0 where
  pub bound : ℤ
  pub bounds_are : bounds ≡ set most block bound
  pub above : (number : ℕ) → number < length free → number / 64 ≡ block → get_or free number (pos 0) ≤ℤ bound
