-- What is kept of a net's pins so that their ends without the pins of any one cell are known at once.
use Rattle.std.specs.Prelude.{◌≡◌, ◌==◌, ℕ, ◌<◌, ◌^◌, Bool, true, false, if◌then◌else◌, List, [], ◌∷◌, length, map, get_or, Option, Some, None, IfSome, ℤ, pos, neg_ℤ, ◌-ℤ◌, ◌≤ℤ◌}
use Rattle.std.specs.Int.{int_min}
use Rattle.fp_netlist.specs.Netlist.{Netlist}
use Rattle.fp_place.specs.Places.{Place}
use Rattle.fp_score.specs.declared.own.Axis.{Axis}
use Rattle.fp_score.specs.declared.own.Ends.{Ends}
use Rattle.fp_score.specs.Target.{others_at}
use Rattle.fp_coarse.specs.declared.ends.Least.{Least}
use Rattle.fp_coarse.specs.declared.ends.NetEnds.{NetEnds}

abbrev pub lesser : Option ℤ → ℤ → ℤ
lesser None at = at
lesser (Some least) at = int_min least at

-- the least of these places, where there are any, and of one that was before them
unfoldable pub least_after : Option ℤ → List ℤ → Option ℤ
least_after least [] = least
least_after least (at ∷ places) = least_after (Some (lesser least at)) places

-- a pin counts where it is of another cell
abbrev pub with_pin : Option ℤ → Bool → ℤ → Option ℤ
with_pin least true at = Some (lesser least at)
with_pin least false at = least

-- the least without the pins of a cell
abbrev pub kept_for : Option Least → ℕ → Option ℤ
kept_for None cell = None
kept_for (Some least) cell = if least.cell.0 == cell then least.second else Some least.first

-- the second is not below the first
abbrev pub IsOrdered : Least → Type 0
IsOrdered least = IfSome least.second (λ second. least.first ≤ℤ second)

pub record IsWithin (from to : ℤ) (kept : Least) : Type 0 where
  pub least : from ≤ℤ kept.first
  pub most : kept.first ≤ℤ to
  pub second_least : IfSome kept.second (λ second. from ≤ℤ second)
  pub second_most : IfSome kept.second (λ second. second ≤ℤ to)

-- of places from 0 to 2^31 and of their negatives
pub record AreSmall (ends : NetEnds) : Type 0 where
  pub low : IfSome ends.low (IsWithin (pos 0) (pos (2 ^ 31)))
  pub high : IfSome ends.high (IsWithin (pos 0 -ℤ pos (2 ^ 31)) (pos 0))

-- ends from 0 to 2^31
pub record AreInRange (ends : Ends) : Type 0 where
  pub low_least : pos 0 ≤ℤ ends.low
  pub low_most : ends.low ≤ℤ pos (2 ^ 31)
  pub high_least : pos 0 ≤ℤ ends.high
  pub high_most : ends.high ≤ℤ pos (2 ^ 31)

abbrev pub both_ends : Option ℤ → Option ℤ → Option Ends
both_ends None high = None
both_ends (Some low) None = None
both_ends (Some low) (Some high) = Some (record { low = low; high = neg_ℤ high })

-- the ends without the pins of a cell
abbrev pub ends_without : NetEnds → ℕ → Option Ends
ends_without ends cell = both_ends (kept_for ends.low cell) (kept_for ends.high cell)

-- kept of a net: for each cell the least place of the other cells' pins, and the least negative
pub record IsNetEnds (p : Netlist) (base : List Place) (axis : Axis) (net : ℕ) (ends : NetEnds) : Type 0 where
  pub low : (cell : ℕ) → kept_for ends.low cell ≡ least_after None (others_at p base cell axis net)
  pub high : (cell : ℕ) → kept_for ends.high cell ≡ least_after None (map neg_ℤ (others_at p base cell axis net))

abbrev pub no_ends : NetEnds
no_ends = record { low = None; high = None }

-- kept of each net
pub record AreEndsOfNets (p : Netlist) (base : List Place) (axis : Axis) (nets : List NetEnds) : Type 0 where
  pub many : length nets ≡ length p.nets
  pub each : (net : ℕ) → net < length nets → IsNetEnds p base axis net (get_or nets net no_ends)
  pub small : (net : ℕ) → net < length nets → AreSmall (get_or nets net no_ends)
