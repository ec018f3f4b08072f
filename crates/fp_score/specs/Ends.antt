-- The ends of some places on an axis: the least and the greatest of them.
use Rattle.std.specs.Prelude.{List, [], ◌∷◌, Option, Some, None, ◌^◌, ℤ, pos, ◌-ℤ◌, ◌≤ℤ◌}
use Rattle.std.specs.Int.{int_min, int_max}
use Rattle.fp_score.specs.declared.own.Ends.{Ends}

-- the ends of some places and of one more
abbrev pub widened : Option Ends → ℤ → Ends
widened None at = record { low = at; high = at }
widened (Some ends) at = record { low = int_min ends.low at; high = int_max ends.high at }

-- the ends of some places and of these
unfoldable pub ends_after : Option Ends → List ℤ → Option Ends
ends_after ends [] = ends
ends_after ends (at ∷ others) = ends_after (Some (widened ends at)) others

-- the ends of a list of places, none where it is empty
abbrev pub ends_of : List ℤ → Option Ends
ends_of places = ends_after None places

-- the length from ends to one more pin
abbrev pub length_to : Option Ends → ℤ → ℤ
length_to None pin = pos 0
length_to (Some ends) pin = int_max ends.high pin -ℤ int_min ends.low pin

-- ends of places from 0 to 2^31
pub record AreNearEnds (ends : Ends) : Type 0 where
  pub least : pos 0 ≤ℤ ends.low
  pub wide : ends.low ≤ℤ ends.high
  pub most : ends.high ≤ℤ pos (2 ^ 31)
