-- The seed as the checker holds it, and a placement that stands as it does.
use Rattle.std.specs.Prelude.{◌≡◌, ℕ, ◌<◌, ◌≤◌, List, length, map, slice_get, Some, ◌+ℤ◌}
use Rattle.fp_base.specs.declared.ids.CellId.{CellId}
use Rattle.fp_base.specs.declared.ids.Die.{Die}
use Rattle.fp_base.specs.declared.ids.Point.{Point}
use Rattle.fp_tech.specs.declared.dies.Segment.{Segment}
use Rattle.fp_tech.specs.Plan.{segments}
use Rattle.fp_tech.specs.Slots.{Slots, slot_count}
use Rattle.fp_netlist.specs.Netlist.{Netlist}
use Rattle.fp_place.specs.Cut.{cut}
use Rattle.fp_place.specs.Places.{dies_of}
use Rattle.fp_place.specs.Placed.{Placed, spot_at, places_of, lanes_of, StandBetween, IsInOrder, IsPlacementOf}
use Rattle.fp_place.specs.Settled.{KeepRules}
use Rattle.fp_score.specs.FirstFit.{Seat, IsSeed}
use Rattle.fp_score.specs.Score.{corner}
use Rattle.fp_seed.specs.Seeded.{IsSeated}

-- the placement of a problem's seed
pub record IsSeedPlaced (p : Netlist) (grid : Slots) (placed : Placed) : Type 0 where
  pub first : Die
  pub seats : List Seat
  pub seed : IsSeed p (slot_count grid) first seats
  pub seated : IsSeated p grid seats placed
  pub of_problem : IsPlacementOf p placed
  pub rules : KeepRules p (dies_of (places_of placed))
  pub slots : cut p (dies_of (places_of placed)) ≤ slot_count grid

-- a cell of two placements is on one segment, at one x
pub record StandAlike (seed placed : Placed) (cell : ℕ) : Type 0 where
  pub die_is : (spot_at placed.spots cell).die ≡ (spot_at seed.spots cell).die
  pub segment_is : (spot_at placed.spots cell).segment ≡ (spot_at seed.spots cell).segment
  pub x_is : (spot_at placed.spots cell).x ≡ (spot_at seed.spots cell).x

-- a placement has the cells of the seed where they are, each with its own place as target
pub record StartsLike (p : Netlist) (seed placed : Placed) (targets : List Point) : Type 0 where
  pub alike : (cell : ℕ) → cell < length p.cells → StandAlike seed placed cell
  pub in_order : IsInOrder p placed
  pub targets_are : targets ≡ map corner (places_of placed)

-- on each segment of a die the cells stand in their order without overlap, within the segment
abbrev pub IsDieInOrder : Netlist → Placed → Die → Type 0
IsDieInOrder p placed die = (number : ℕ) (segment : Segment) (lane : List CellId)
    → slice_get (segments p.plan die) number ≡ Some segment → slice_get (lanes_of placed die) number ≡ Some lane
    → StandBetween p die (places_of placed) segment.start (segment.start +ℤ segment.length) lane
