-- Fiduccia-Mattheyses gains: how many nets fewer are cut after a move of each cell to its other die.
use Rattle.std.specs.Prelude.{◌≡◌, ℕ, ◌<◌, Bool, ◌&&◌, not, List, length}
use Rattle.fp_base.specs.declared.ids.Die.{Die}
use Rattle.fp_base.specs.declared.ids.Die.TheVariants.{Top, Bottom}
use Rattle.fp_netlist.specs.Netlist.{Netlist}
use Rattle.fp_place.specs.Areas.{fits}
use Rattle.fp_place.specs.Held.{Held, has_room}
use Rattle.fp_place.specs.Settled.{far_die, is_moved}
use Rattle.fp_gains.specs.Lists.{list_at}
use Rattle.fp_gains.specs.Links.{cells_of_net}
use Rattle.fp_gains.specs.Ordered.{Ordered, IsOrderOf}

-- the dies that cells stand on, the cells that are locked there, the cells of each net, and the cells that fit each die in their order
pub record Gained : Type 0 where
  pub dies : List Die
  pub locked : List Bool
  pub members : List (List ℕ)
  pub top_order : Ordered
  pub bottom_order : Ordered

-- they are those of a problem's cells
pub record IsGainsOf (p : Netlist) (g : Gained) : Type 0 where
  pub cells : length g.dies ≡ length p.cells
  pub locks : length g.locked ≡ length p.cells
  pub nets : length g.members ≡ length p.nets
  pub each_net : (net : ℕ) → net < length p.nets → list_at g.members net ≡ cells_of_net p net
  pub top : IsOrderOf p Top g.top_order
  pub bottom : IsOrderOf p Bottom g.bottom_order

-- a cell may move: it is not locked, fits its other die and has room there
abbrev pub is_movable : Netlist → Held → Gained → ℕ → Bool
is_movable p held g cell = not (is_moved g.locked cell) && (fits p cell (far_die g.dies cell) && has_room p held cell (far_die g.dies cell))
