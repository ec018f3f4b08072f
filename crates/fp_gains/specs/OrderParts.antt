-- How cells are put in order, and the places that cells and slots name.
use Rattle.std.specs.Prelude.{◌≡◌, ◌≢◌, ◌==◌, ℕ, if◌then◌else◌, ◌<◌, ◌≤◌, true, false, IsTrue, List, length, map, All, AllPairs, Contains, get_or, Option, Some, None}
use Rattle.std.specs.List.Sorted.{IsNonDecreasingBy}
use Rattle.fp_base.specs.declared.ids.CellId.{CellId}
use Rattle.fp_base.specs.declared.ids.Die.{Die}
use Rattle.fp_netlist.specs.Netlist.{Netlist}
use Rattle.fp_netlist.specs.Points.{area}
use Rattle.fp_place.specs.Areas.{fits}
use Rattle.fp_place.specs.Held.{Held, has_room}
use Rattle.fp_gains.specs.declared.tournament.Leader.{Leader}
use Rattle.fp_gains.specs.Contests.{leader_at, IsBehind}
use Rattle.fp_gains.specs.Ordered.{Ordered, is_in, key_of}

-- a leader's cell, and the key at a place
abbrev pub number_of : Leader → ℕ
number_of leader = leader.cell.0

abbrev pub key_in : List Leader → Option ℕ → ℕ
key_in leaves None = 0
key_in leaves (Some slot) = (leader_at leaves slot).key

-- a place as it is kept: the greatest number of 32 bits is none
abbrev pub place_of : ℕ → Option ℕ
place_of number = if number == 4294967295 then None else Some number

-- the first so many cells and their places name each other
pub record HoldPlaces (places : List (Option ℕ)) (cells : List ℕ) (count : ℕ) : Type 0 where
  pub found : (slot : ℕ) → slot < count → get_or places (get_or cells slot 0) None ≡ Some slot
  pub named : (cell slot : ℕ) → get_or places cell None ≡ Some slot → (slot < count) × (get_or cells slot 0 ≡ cell)

abbrev pub numbers : List CellId → List ℕ
numbers cells = map (λ cell. cell.0) cells

-- the places of all cells
pub record AreSlots (many : ℕ) (places : List (Option ℕ)) (cells : List CellId) (count : ℕ) : Type 0 where
  pub long : length places ≡ many
  pub hold : HoldPlaces places (numbers cells) count

-- what an order's parts say
abbrev pub order_as : Die → List (Option ℕ) → List Leader → Ordered
order_as die places leaves = record {
  die = die;
  cells = map number_of leaves;
  places = places;
  keys = map (key_in leaves) places;
}

-- an area and a cell
abbrev pub no_entry : ℕ × ℕ
no_entry = (0, 0)

abbrev pub cells_alone : List (ℕ × ℕ) → List CellId
cells_alone entries = map (λ entry. record { 0 = entry.1 }) entries

-- an entry of a cell below a bound that fits a die
pub record IsEntry (p : Netlist) (die : Die) (count : ℕ) (entry : ℕ × ℕ) : Type 0 where
  pub within : entry.1 < count
  pub fitting : IsTrue (fits p entry.1 die)
  pub area_is : entry.0 ≡ area p entry.1 die

-- the entries of the cells below a bound that fit a die
pub record AreAreas (p : Netlist) (die : Die) (count : ℕ) (entries : List (ℕ × ℕ)) : Type 0 where
  pub few : length entries ≤ count
  pub each : All (IsEntry p die count) entries
  pub there : (cell : ℕ) → cell < count → IsTrue (fits p cell die) → Contains (cells_alone entries) (record { 0 = cell })
  pub apart : AllPairs (λ a b. a.1 ≢ b.1) entries

abbrev pub AreApart : List CellId → Type 0
AreApart cells = AllPairs (λ a b. a.0 ≢ b.0) cells

-- the cells that fit a die, each once, in order of their area there
pub record AreByArea (p : Netlist) (die : Die) (cells : List CellId) : Type 0 where
  pub few : length cells ≤ length p.cells
  pub within : All (λ cell. cell.0 < length p.cells) cells
  pub fitting : All (λ cell. IsTrue (fits p cell.0 die)) cells
  pub there : (cell : ℕ) → cell < length p.cells → IsTrue (fits p cell die) → Contains cells (record { 0 = cell })
  pub apart : AreApart cells
  pub rising : IsNonDecreasingBy (λ cell. area p cell.0 die) cells

-- so many leaves have room on a die, and those behind have none
pub record IsRoomFor (p : Netlist) (held : Held) (die : Die) (leaves : List Leader) (count : ℕ) : Type 0 where
  pub within : count ≤ length leaves
  pub room : (slot : ℕ) → slot < count → has_room p held (leader_at leaves slot).cell.0 die ≡ true
  pub full : (slot : ℕ) → count ≤ slot → slot < length leaves → has_room p held (leader_at leaves slot).cell.0 die ≡ false

-- a cell of the order that has room
pub record IsRoomy (p : Netlist) (held : Held) (o : Ordered) (cell : ℕ) : Type 0 where
  pub within : cell < length p.cells
  pub inside : IsTrue (is_in o cell)
  pub room : IsTrue (has_room p held cell o.die)

-- the best cell with room, with its key
pub record IsBestRoomy (p : Netlist) (held : Held) (o : Ordered) (best : Leader) : Type 0 where
  pub roomy : IsRoomy p held o best.cell.0
  pub key : key_of o best.cell.0 ≡ best.key
  pub ahead : (cell : ℕ) → IsRoomy p held o cell → IsBehind (record { cell = record { 0 = cell }; key = key_of o cell }) best

abbrev pub IsBestWithRoom : Netlist → Held → Ordered → Option Leader → Type 0
IsBestWithRoom p held o None = (cell : ℕ) → IsRoomy p held o cell → ⊥
IsBestWithRoom p held o (Some best) = IsBestRoomy p held o best
