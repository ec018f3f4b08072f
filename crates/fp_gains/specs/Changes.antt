-- How gains change, step by step.
use Rattle.std.specs.Prelude.{◌≡◌, ℕ, ◌+◌, ◌^◌, ◌<◌, ◌≤◌, true, if◌then◌else◌, List, length, get_or}
use Rattle.fp_base.specs.declared.ids.Die.{Die}
use Rattle.fp_place.specs.Places.{die_at}
use Rattle.fp_gains.specs.declared.sides.Sides.{Sides}
use Rattle.fp_gains.specs.declared.state.State.{State}
use Rattle.fp_gains.specs.Links.{holds}
use Rattle.fp_gains.specs.Sides.{no_sides, count_on, moved, share}
use Rattle.fp_gains.specs.Kept.{Follow}

-- far enough from the ends of their type for a share more or less
abbrev pub AreInRange : List ℕ → Type 0
AreInRange keys = (cell : ℕ) → cell < length keys → (2 ≤ get_or keys cell 0) × (get_or keys cell 0 ≤ 2 ^ 30)

-- what one net adds to a cell's key, where it is a member
abbrev pub part : List Die → List ℕ → Sides → ℕ → ℕ
part dies cells sides cell = if holds cells cell then share (die_at dies cell) sides else 0

-- the keys of a net's cells, by its numbers of cells before and after a change
pub record AreReweighed (dies : List Die) (cells : List ℕ) (before after : Sides) (old new : List ℕ) : Type 0 where
  pub many : length new ≡ length old
  pub each : (cell : ℕ) → cell < length dies → get_or new cell 0 + part dies cells before cell ≡ get_or old cell 0 + part dies cells after cell

-- each of the nets has a cell on the die
abbrev pub CanTurn : List ℕ → Die → List Sides → Type 0
CanTurn nets die sides = (net : ℕ) → holds nets net ≡ true → (0 < count_on (get_or sides net no_sides) die) × ((get_or sides net no_sides).top + (get_or sides net no_sides).bottom ≤ 2 ^ 22)

-- each of the nets has one of its cells moved from the die to the other
pub record AreTurned (nets : List ℕ) (die : Die) (old new : List Sides) : Type 0 where
  pub many : length new ≡ length old
  pub each : (net : ℕ) → net < length old → get_or new net no_sides ≡ (if holds nets net then moved (get_or old net no_sides) die else get_or old net no_sides)

-- cells stand where they stood, and as many are locked
pub record Stands (old new : State) : Type 0 where
  pub dies : new.dies ≡ old.dies
  pub locked : new.locked ≡ old.locked
  pub follow : Follow old.ranks new.ranks

-- all but the locks and what the orders show stays
pub record Lies (old new : State) : Type 0 where
  pub dies : new.dies ≡ old.dies
  pub sides : new.sides ≡ old.sides
  pub keys : new.ranks.keys.items ≡ old.ranks.keys.items
  pub follow : Follow old.ranks new.ranks
