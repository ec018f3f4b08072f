-- A problem as plain lists: the dies, the cells, the nets and the connections, each numbered from 0 in file order.
use Rattle.std.specs.Prelude.{◌≡◌, ℕ, ◌+◌, ◌<◌, ◌≤◌, ◌^◌, Bool, true, false, ◌||◌, ◌==◌, nat_le, if◌then◌else◌, List, [], ◌∷◌, ◌++◌, length, map, All, Option, is_some, is_none, option_and_then, option_map, unwrap_or, slice_get}
use Rattle.std.specs.List.{IsDistinct}
use Rattle.std.specs.Str.{bytes_eq}
use Rattle.fp_base.specs.declared.ids.Die.{Die}
use Rattle.fp_base.specs.declared.ids.Die.TheVariants.{Top, Bottom}
use Rattle.fp_tech.specs.declared.fault.BuildFault.{BuildFault}
use Rattle.fp_tech.specs.Book.{Lib, place_of, is_among, lib_in, pin_names, refusal, IsBook}
use Rattle.fp_tech.specs.Plan.{Plan, IsPlan, spec_of}
use Rattle.fp_netlist.specs.declared.problem.Conn.{Conn}

-- a cell: its name, and the number of its library cell
pub record Cell : Type 0 where
  pub name : List ℕ
  pub lib : ℕ

pub record Netlist : Type 0 where
  pub plan : Plan
  pub cells : List Cell
  pub nets : List (List ℕ)
  pub conns : List Conn

-- a problem without cells and nets
abbrev pub no_cells : Plan → Netlist
no_cells plan = record { plan = plan; cells = []; nets = []; conns = [] }

abbrev pub cell_names : Netlist → List (List ℕ)
cell_names p = map (λ cell. cell.name) p.cells

-- a library cell in the technology of a die, where it is there
abbrev pub lib_for : Plan → ℕ → Die → Option Lib
lib_for plan lib die = lib_in plan.book (spec_of plan die).tech.0 lib

abbrev pub lib_at : Netlist → ℕ → Die → Option Lib
lib_at p lib die = lib_for p.plan lib die

-- the number of a cell's library cell
abbrev pub lib_of : Netlist → ℕ → ℕ
lib_of p cell = unwrap_or (option_map (λ c. c.lib) (slice_get p.cells cell)) 0

-- the place of a pin's name in a library cell, in the technology of a die
abbrev pub pin_for : Plan → ℕ → List ℕ → Die → Option ℕ
pin_for plan lib pin die = option_and_then (λ l. place_of pin (pin_names l)) (lib_for plan lib die)

abbrev pub pin_place : Netlist → ℕ → List ℕ → Die → Option ℕ
pin_place p cell pin die = pin_for p.plan (lib_of p cell) pin die

-- why an adding call refuses
abbrev pub inst_refusal : Netlist → List ℕ → ℕ → Option BuildFault
inst_refusal p name lib = refusal (nat_le (2 ^ 18) (length p.cells)) (is_among name (cell_names p)) (is_none (lib_at p lib Top) || is_none (lib_at p lib Bottom))

abbrev pub net_refusal : Netlist → List ℕ → Option BuildFault
net_refusal p name = refusal (nat_le (2 ^ 18) (length p.nets)) (is_among name p.nets) false

abbrev pub connect_refusal : Netlist → ℕ → List ℕ → Option BuildFault
connect_refusal p cell pin = refusal (nat_le (2 ^ 21) (length p.conns)) false (is_none (pin_place p cell pin Top) || is_none (pin_place p cell pin Bottom))

-- what an adding call makes of a problem
abbrev pub with_inst : Netlist → List ℕ → ℕ → Netlist
with_inst p name lib = record p { cells = p.cells ++ record { name = name; lib = lib } ∷ [] }

abbrev pub with_net : Netlist → List ℕ → Netlist
with_net p name = record p { nets = p.nets ++ name ∷ [] }

-- the connection of a pin, by its number in each die's technology
abbrev pub conn_for : Netlist → ℕ → ℕ → List ℕ → Conn
conn_for p net cell pin = record {
  cell = record { 0 = cell };
  net = record { 0 = net };
  top_pin = unwrap_or (pin_place p cell pin Top) 0;
  bottom_pin = unwrap_or (pin_place p cell pin Bottom) 0;
}

abbrev pub with_conn : Netlist → ℕ → ℕ → List ℕ → Netlist
with_conn p net cell pin = record p { conns = p.conns ++ conn_for p net cell pin ∷ [] }

-- the places of a list that pass a test, counted from i
unfoldable pub ids_where : {A : Type 0} → (A → Bool) → ℕ → List A → List ℕ
ids_where test i [] = []
ids_where test i (x ∷ xs) = if test x then i ∷ ids_where test (i + 1) xs else ids_where test (i + 1) xs

-- the connections of a cell and of a net, each once, in file order; so each connection is once in its cell's list, once in its
-- net's, and nowhere else
unfoldable pub conns_of_cell : Netlist → ℕ → List ℕ
conns_of_cell p cell = ids_where (λ conn. conn.cell.0 == cell) 0 p.conns

unfoldable pub conns_of_net : Netlist → ℕ → List ℕ
conns_of_net p net = ids_where (λ conn. conn.net.0 == net) 0 p.conns

-- a cell's library cell is in the technologies of both dies
pub record IsCell (p : Netlist) (cell : Cell) : Type 0 where
  pub top : is_some (lib_at p cell.lib Top) ≡ true
  pub bottom : is_some (lib_at p cell.lib Bottom) ≡ true

-- a pin number is one of a cell's library cell in the technology of a die
abbrev pub pin_count : Netlist → ℕ → Die → ℕ
pin_count p cell die = unwrap_or (option_map (λ lib. length lib.pins) (lib_at p (lib_of p cell) die)) 0

-- a connection's numbers are in range
pub record IsConn (p : Netlist) (conn : Conn) : Type 0 where
  pub cell : conn.cell.0 < length p.cells
  pub net : conn.net.0 < length p.nets
  pub top_pin : conn.top_pin < pin_count p conn.cell.0 Top
  pub bottom_pin : conn.bottom_pin < pin_count p conn.cell.0 Bottom

-- what every problem keeps
pub record IsSound (p : Netlist) : Type 0 where
  pub plan : IsPlan p.plan
  pub book : IsBook p.plan.book
  pub few_cells : length p.cells ≤ 2 ^ 18
  pub few_nets : length p.nets ≤ 2 ^ 18
  pub few_conns : length p.conns ≤ 2 ^ 21
  pub cells_apart : IsDistinct bytes_eq (cell_names p)
  pub nets_apart : IsDistinct bytes_eq p.nets
  pub cells : All (IsCell p) p.cells
  pub conns : All (IsConn p) p.conns
