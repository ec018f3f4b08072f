-- The segments of one die as cells are put on them: the length of each that is used, the first that may have room for each library
-- cell, and the cells on each.
use Rattle.std.specs.Prelude.{◌≡◌, ℕ, ◌<◌, ◌^◌, Bool, false, int_le, List, [], length, get_or, ℤ, pos, ◌+ℤ◌, ◌≤ℤ◌, Option, None, if◌then◌else◌, ◌&&◌}
use Rattle.fp_base.specs.declared.ids.Die.{Die}
use Rattle.fp_tech.specs.Plan.{segments}
use Rattle.fp_netlist.specs.Netlist.{Netlist, lib_of}
use Rattle.fp_netlist.specs.Points.{width}
use Rattle.fp_place.specs.Areas.{fits}
use Rattle.fp_place.specs.Held.{Held, has_room}
use Rattle.fp_place.specs.Placed.{LaneList}
use Rattle.fp_score.specs.FirstFit.{Seat, segment_at, sitters, used, first_from}

-- the free length of a segment holds a cell, where these lengths are used
unfoldable pub holds : Netlist → Die → List ℤ → ℕ → ℕ → Bool
holds p die used cell segment = int_le (get_or used segment (pos 0) +ℤ pos (width p cell die)) (segment_at p.plan die segment).length

-- what is kept at all times: the segments before the first that may have room have none
pub record IsReady (p : Netlist) (die : Die) (used : List ℤ) (first : List ℕ) (lanes : LaneList) : Type 0 where
  pub many : length used ≡ length (segments p.plan die)
  pub as_many : length lanes ≡ length (segments p.plan die)
  pub libs : length first ≡ 2 ^ 16
  pub low : (segment : ℕ) → pos 0 ≤ℤ get_or used segment (pos 0)
  pub high : (segment : ℕ) → get_or used segment (pos 0) ≤ℤ pos (2 ^ 30)
  pub passed : (cell : ℕ) → cell < length p.cells → (segment : ℕ) → segment < get_or first (lib_of p cell) 0 → holds p die used cell segment ≡ false

-- the lengths and the cells are those of these seats
pub record HoldsSeats (p : Netlist) (die : Die) (seats : List Seat) (lengths : List ℤ) (lanes : LaneList) : Type 0 where
  pub used_at : (segment : ℕ) → segment < length (segments p.plan die) → get_or lengths segment (pos 0) ≡ pos (used p die segment seats)
  pub lane_at : (segment : ℕ) → segment < length (segments p.plan die) → get_or lanes segment [] ≡ sitters die segment seats

-- the first segment that holds a cell, where the die takes it
unfoldable pub room_in : Netlist → Held → List ℤ → ℕ → Die → Option ℕ
room_in p held used cell die =
    if fits p cell die && has_room p held cell die then first_from (holds p die used cell) 0 (length (segments p.plan die)) else None
