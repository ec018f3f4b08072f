-- The cells that fit a die, in order of their area there, with a key for each.
use Rattle.std.specs.Prelude.{◌≡◌, ℕ, ◌<◌, ◌≤◌, Bool, ◌&&◌, nat_lt, if◌then◌else◌, IsTrue, List, length, get_or, set, replicate, Option, Some, None, is_some}
use Rattle.fp_base.specs.declared.ids.Die.{Die}
use Rattle.fp_netlist.specs.Netlist.{Netlist}
use Rattle.fp_netlist.specs.Points.{area}
use Rattle.fp_place.specs.Areas.{fits}
use Rattle.fp_place.specs.Held.{Held, has_room}
use Rattle.fp_gains.specs.declared.tournament.Leader.{Leader}

-- The cells of the order by place, and by cell its place, where it is in the order, and its key, which is 0 where it is out. Every order
-- keeps cells and places that name each other.
pub record Ordered : Type 0 where
  pub die : Die
  pub cells : List ℕ
  pub places : List (Option ℕ)
  pub keys : List ℕ

-- whether a cell is in the order
abbrev pub is_in : Ordered → ℕ → Bool
is_in o cell = is_some (get_or o.places cell None)

abbrev pub key_of : Ordered → ℕ → ℕ
key_of o cell = get_or o.keys cell 0

-- the order after a cell's key is set
abbrev pub with_key : Ordered → ℕ → ℕ → Ordered
with_key o cell key = record o { keys = if is_in o cell then set o.keys cell key else o.keys }

-- the order after each cell that is in it is given its key of a list
pub record IsDealt (keys : List ℕ) (old new : Ordered) : Type 0 where
  pub die : new.die ≡ old.die
  pub cells : new.cells ≡ old.cells
  pub places : new.places ≡ old.places
  pub many : length new.keys ≡ length old.keys
  pub each : (cell : ℕ) → cell < length old.keys → key_of new cell ≡ (if is_in old cell then get_or keys cell 0 else 0)

-- an order of the cells of a problem that fit a die
pub record IsOrderOf (p : Netlist) (die : Die) (o : Ordered) : Type 0 where
  pub die_is : o.die ≡ die
  pub places : length o.places ≡ length p.cells
  pub keys : length o.keys ≡ length p.cells
  pub fitting : (cell : ℕ) → cell < length p.cells → is_in o cell ≡ fits p cell die
  pub rising : (low high : ℕ) → low ≤ high → high < length o.cells → area p (get_or o.cells low 0) die ≤ area p (get_or o.cells high 0) die

-- an order without keys
pub record IsNewOrder (p : Netlist) (die : Die) (o : Ordered) : Type 0 where
  pub order : IsOrderOf p die o
  pub zeros : o.keys ≡ replicate (length p.cells) 0

-- a cell that has a key, fits the die and has room there
abbrev pub is_open : Netlist → Held → Ordered → ℕ → Bool
is_open p held o cell = nat_lt 0 (key_of o cell) && (fits p cell o.die && has_room p held cell o.die)

-- the open cell of greatest key, the least among ties
pub record IsBestCell (p : Netlist) (held : Held) (o : Ordered) (best : Leader) : Type 0 where
  pub within : best.cell.0 < length p.cells
  pub opens : IsTrue (is_open p held o best.cell.0)
  pub key : key_of o best.cell.0 ≡ best.key
  pub greatest : (cell : ℕ) → cell < length p.cells → IsTrue (is_open p held o cell) → key_of o cell ≤ best.key
  pub first : (cell : ℕ) → cell < length p.cells → IsTrue (is_open p held o cell) → key_of o cell ≡ best.key → best.cell.0 ≤ cell

abbrev pub IsBestOf : Netlist → Held → Ordered → Option Leader → Type 0
IsBestOf p held o None = (cell : ℕ) → cell < length p.cells → IsTrue (is_open p held o cell) → ⊥
IsBestOf p held o (Some best) = IsBestCell p held o best
