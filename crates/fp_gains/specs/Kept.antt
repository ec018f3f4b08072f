-- How gains are kept: for each net its distribution, for each cell a key, which is its gain counted from `even`, and for each die an order
-- that shows the keys of the free cells which stand on the other die.
use Rattle.std.specs.Prelude.{◌≡◌, ◌≢◌, ℕ, ◌+◌, ◌^◌, ◌<◌, Bool, true, false, ◌&&◌, not, if◌then◌else◌, List, [], ◌∷◌, length, replicate, get_or}
use Rattle.fp_base.specs.declared.ids.Die.{Die}
use Rattle.fp_base.specs.declared.ids.Die.TheVariants.{Top, Bottom}
use Rattle.fp_netlist.specs.Netlist.{Netlist}
use Rattle.fp_place.specs.Places.{die_at, same_die}
use Rattle.fp_place.specs.Settled.{is_moved}
use Rattle.fp_gains.specs.declared.sides.Sides.{Sides}
use Rattle.fp_gains.specs.declared.ranks.Ranks.{Ranks}
use Rattle.fp_gains.specs.declared.state.State.{State}
use Rattle.fp_gains.specs.declared.gains.Gains.TheInside.{Inside}
use Rattle.fp_gains.specs.Lists.{list_at}
use Rattle.fp_gains.specs.Links.{holds, AreMembers, AreLinks}
use Rattle.fp_gains.specs.Sides.{no_sides, sides_of, share}
use Rattle.fp_gains.specs.Gained.{Gained}
use Rattle.fp_gains.specs.Ordered.{Ordered, is_in, key_of, IsOrderOf, IsNewOrder}

-- the key of gain 0
abbrev pub even : ℕ
even = 2 ^ 21 + 1

-- the shares of a cell's nets, and the number of these nets
unfoldable pub shares : Die → ℕ → List (List ℕ) → List Sides → ℕ
shares die cell [] sides = 0
shares die cell (cells ∷ others) [] = 0
shares die cell (cells ∷ others) (first ∷ sides) = (if holds cells cell then share die first else 0) + shares die cell others sides

unfoldable pub degree : ℕ → List (List ℕ) → ℕ
degree cell [] = 0
degree cell (cells ∷ others) = (if holds cells cell then 1 else 0) + degree cell others

-- the keys are those of the gains by these distributions
pub record AreWeighed (members : List (List ℕ)) (dies : List Die) (sides : List Sides) (keys : List ℕ) : Type 0 where
  pub all_cells : length keys ≡ length dies
  pub all_nets : length sides ≡ length members
  pub each : (cell : ℕ) → cell < length dies → get_or keys cell 0 + degree cell members ≡ even + shares (die_at dies cell) cell members sides

-- the distributions are those of the dies
abbrev pub AreCounted : List (List ℕ) → List Die → List Sides → Type 0
AreCounted members dies sides = (net : ℕ) → net < length members → get_or sides net no_sides ≡ sides_of dies (list_at members net)

-- a cell is free to move to a die
abbrev pub is_free : List Die → List Bool → Die → ℕ → Bool
is_free dies locked die cell = not (is_moved locked cell) && not (same_die (die_at dies cell) die)

-- the key of a cell that is free to move to a die, 0 for others
abbrev pub free_key : List Die → List Bool → List ℕ → Die → ℕ → ℕ
free_key dies locked keys die cell = if is_free dies locked die cell then get_or keys cell 0 else 0

-- an order shows a cell
abbrev pub Shows : List Die → List Bool → List ℕ → Die → Ordered → ℕ → Type 0
Shows dies locked keys die o cell = get_or o.keys cell 0 ≡ (if is_in o cell then free_key dies locked keys die cell else 0)

-- the orders show the keys of all cells, or of all but one
pub record AreShownBut (one : ℕ) (dies : List Die) (locked : List Bool) (r : Ranks) : Type 0 where
  pub all_cells : length r.keys.items ≡ length dies
  pub all_locks : length locked ≡ length dies
  pub all_top : length r.top.keys ≡ length dies
  pub all_bottom : length r.bottom.keys ≡ length dies
  pub all_listed : length r.listed.items ≡ length dies
  pub top : (cell : ℕ) → cell ≢ one → cell < length dies → Shows dies locked r.keys.items Top r.top cell
  pub bottom : (cell : ℕ) → cell ≢ one → cell < length dies → Shows dies locked r.keys.items Bottom r.bottom cell
  pub top_out : is_in r.top one ≡ false → get_or r.top.keys one 0 ≡ 0
  pub bottom_out : is_in r.bottom one ≡ false → get_or r.bottom.keys one 0 ≡ 0

pub record AreShown (dies : List Die) (locked : List Bool) (r : Ranks) : Type 0 where
  pub all_cells : length r.keys.items ≡ length dies
  pub all_locks : length locked ≡ length dies
  pub all_top : length r.top.keys ≡ length dies
  pub all_bottom : length r.bottom.keys ≡ length dies
  pub all_listed : length r.listed.items ≡ length dies
  pub top : (cell : ℕ) → cell < length dies → Shows dies locked r.keys.items Top r.top cell
  pub bottom : (cell : ℕ) → cell < length dies → Shows dies locked r.keys.items Bottom r.bottom cell

-- no order shows a cell; the order of a die does not show it
abbrev pub IsHiddenNear : Ranks → Die → ℕ → Type 0
IsHiddenNear r Top cell = key_of r.top cell ≡ 0
IsHiddenNear r Bottom cell = key_of r.bottom cell ≡ 0

pub record IsHidden (r : Ranks) (cell : ℕ) : Type 0 where
  pub top : key_of r.top cell ≡ 0
  pub bottom : key_of r.bottom cell ≡ 0

-- each cell has its place in all lists
pub record AreLong (dies : List Die) (locked : List Bool) (r : Ranks) : Type 0 where
  pub all_cells : length r.keys.items ≡ length dies
  pub all_locks : length locked ≡ length dies
  pub all_top : length r.top.keys ≡ length dies
  pub all_bottom : length r.bottom.keys ≡ length dies
  pub all_listed : length r.listed.items ≡ length dies

-- a list of the keys of the cells that are free to move to a die, 0 for others
pub record AreListed (dies : List Die) (locked : List Bool) (keys : List ℕ) (die : Die) (listed : List ℕ) : Type 0 where
  pub many : length listed ≡ length dies
  pub each : (cell : ℕ) → cell < length dies → get_or listed cell 0 ≡ free_key dies locked keys die cell

-- orders that are of every problem that others are of
pub record Follow (old new : Ranks) : Type 0 where
  pub top : (p : Netlist) → IsOrderOf p Top old.top → IsOrderOf p Top new.top
  pub bottom : (p : Netlist) → IsOrderOf p Bottom old.bottom → IsOrderOf p Bottom new.bottom

-- the keys are those of the distributions, and are shown
pub record IsRanked (members : List (List ℕ)) (s : State) : Type 0 where
  pub weighed : AreWeighed members s.dies.items s.sides.items s.ranks.keys.items
  pub shown : AreShown s.dies.items s.locked.items s.ranks

-- the state of a problem's cells where they stand, all locked, before the cells of a net are counted
pub record IsStart (p : Netlist) (dies : List Die) (s : State) : Type 0 where
  pub dies_are : s.dies.items ≡ dies
  pub locked : s.locked.items ≡ replicate (length dies) true
  pub sides : s.sides.items ≡ replicate (length p.nets) no_sides
  pub keys : s.ranks.keys.items ≡ replicate (length dies) even
  pub listed : length s.ranks.listed.items ≡ length dies
  pub top : IsNewOrder p Top s.ranks.top
  pub bottom : IsNewOrder p Bottom s.ranks.bottom

-- cells lie on these dies, all locked and shown nowhere, with no cell of so many nets counted
pub record IsLaid (dies : List Die) (nets : ℕ) (s : State) : Type 0 where
  pub dies_are : s.dies.items ≡ dies
  pub locked : s.locked.items ≡ replicate (length dies) true
  pub sides : s.sides.items ≡ replicate nets no_sides
  pub keys : s.ranks.keys.items ≡ replicate (length dies) even
  pub all_top : length s.ranks.top.keys ≡ length dies
  pub all_bottom : length s.ranks.bottom.keys ≡ length dies
  pub all_listed : length s.ranks.listed.items ≡ length dies
  pub top_none : (cell : ℕ) → cell < length dies → key_of s.ranks.top cell ≡ 0
  pub bottom_none : (cell : ℕ) → cell < length dies → key_of s.ranks.bottom cell ≡ 0

-- what gains keep
pub record IsKept (members nets : List (List ℕ)) (s : State) : Type 0 where
  pub members_are : AreMembers members (length s.dies.items)
  pub links : AreLinks members nets (length s.dies.items)
  pub ranked : IsRanked members s
  pub counted : AreCounted members s.dies.items s.sides.items

abbrev pub gained_of : List (List ℕ) → State → Gained
gained_of members s = record {
  dies = s.dies.items;
  locked = s.locked.items;
  members = members;
  top_order = s.ranks.top;
  bottom_order = s.ranks.bottom;
}

abbrev pub gained : Inside → Gained
gained g = gained_of g.members g.state

abbrev pub IsKeptGains : Inside → Type 0
IsKeptGains g = IsKept g.members g.nets g.state
