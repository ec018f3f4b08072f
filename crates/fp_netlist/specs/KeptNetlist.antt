-- How a problem is kept: with each cell its sizes on both dies, and with each connection its offsets.
use Rattle.std.specs.Prelude.{◌≡◌, ℕ, ◌≤◌, ◌^◌, List, [], ◌∷◌, length, map, All, Option, Some, option_map, option_and_then, slice_get, pos}
use Rattle.fp_base.specs.declared.ids.Die.{Die}
use Rattle.fp_base.specs.declared.ids.Die.TheVariants.{Top, Bottom}
use Rattle.fp_base.specs.declared.ids.CellId.{CellId}
use Rattle.fp_base.specs.declared.ids.NetId.{NetId}
use Rattle.fp_base.specs.declared.ids.Point.{Point}
use Rattle.fp_tech.specs.Book.{Lib, size_of, offset_of}
use Rattle.fp_tech.specs.Plan.{Plan}
use Rattle.fp_netlist.specs.declared.problem.Conn.{Conn}
use Rattle.fp_netlist.specs.declared.kept.KeptCell.{KeptCell}
use Rattle.fp_netlist.specs.declared.kept.KeptConn.{KeptConn}
use Rattle.fp_netlist.specs.Netlist.{Cell, Netlist, lib_for, pin_for, IsSound}
use Rattle.fp_netlist.specs.Points.{offset}

abbrev pub point_of : ℕ × ℕ → Point
point_of place = record { x = pos place.0; y = pos place.1 }

-- the cells of these names with these library cells
abbrev pub cells_of : List (List ℕ) → List KeptCell → List Cell
cells_of [] kept = []
cells_of (name ∷ names) [] = []
cells_of (name ∷ names) (cell ∷ cells) = record { name = name; lib = cell.lib.0 } ∷ cells_of names cells

abbrev pub netlist_of : Plan → List (List ℕ) → List KeptCell → List (List ℕ) → List KeptConn → Netlist
netlist_of plan names cells nets conns =
    record { plan = plan; cells = cells_of names cells; nets = nets; conns = map (λ kept. kept.conn) conns }

-- a size, width and height, is that of a library cell that is there
pub record IsSizeOf (lib : Option Lib) (size : ℕ × ℕ) : Type 0 where
  pub is : option_map size_of lib ≡ Some size
  pub some_width : 1 ≤ size.0
  pub width : size.0 ≤ 2 ^ 30
  pub some_height : 1 ≤ size.1
  pub height : size.1 ≤ 2 ^ 30

pub record IsKeptCell (plan : Plan) (kept : KeptCell) : Type 0 where
  pub top : IsSizeOf (lib_for plan kept.lib.0 Top) kept.top
  pub bottom : IsSizeOf (lib_for plan kept.lib.0 Bottom) kept.bottom

abbrev pub size_kept : KeptCell → Die → ℕ × ℕ
size_kept kept Top = kept.top
size_kept kept Bottom = kept.bottom

-- a pin's place in a library cell, and its offset there
pub record IsPinOf (plan : Plan) (lib : ℕ) (name : List ℕ) (die : Die) (place : ℕ) (at : ℕ × ℕ) : Type 0 where
  pub is : pin_for plan lib name die ≡ Some place
  pub point : option_map offset_of (option_and_then (λ l. slice_get l.pins place) (lib_for plan lib die)) ≡ Some (point_of at)
  pub x : at.0 ≤ 2 ^ 30
  pub y : at.1 ≤ 2 ^ 30

-- the connection of a pin of that name, with its offsets
pub record IsConnOf (plan : Plan) (lib : ℕ) (net : NetId) (cell : CellId) (name : List ℕ) (kept : KeptConn) : Type 0 where
  pub net_is : kept.conn.net ≡ net
  pub cell_is : kept.conn.cell ≡ cell
  pub top : IsPinOf plan lib name Top kept.conn.top_pin kept.top
  pub bottom : IsPinOf plan lib name Bottom kept.conn.bottom_pin kept.bottom

pub record IsOffsetOf (p : Netlist) (conn : Conn) (die : Die) (at : ℕ × ℕ) : Type 0 where
  pub is : offset p conn die ≡ point_of at
  pub x : at.0 ≤ 2 ^ 30
  pub y : at.1 ≤ 2 ^ 30

pub record IsKeptConn (p : Netlist) (kept : KeptConn) : Type 0 where
  pub top : IsOffsetOf p kept.conn Top kept.top
  pub bottom : IsOffsetOf p kept.conn Bottom kept.bottom

abbrev pub offset_kept : KeptConn → Die → ℕ × ℕ
offset_kept kept Top = kept.top
offset_kept kept Bottom = kept.bottom

-- what the kept lists are of their value
pub record IsKept (plan : Plan) (names : List (List ℕ)) (cells : List KeptCell) (nets : List (List ℕ)) (conns : List KeptConn) : Type 0 where
  pub as_many : length names ≡ length cells
  pub sound : IsSound (netlist_of plan names cells nets conns)
  pub sizes : All (IsKeptCell plan) cells
  pub offsets : All (IsKeptConn (netlist_of plan names cells nets conns)) conns
