-- The nets that have cells on both dies.
use Rattle.std.specs.Prelude.{ℕ, zero, suc, ◌+◌, Bool, ◌&&◌, if◌then◌else◌, List, length, get_or}
use Rattle.std.specs.List.{list_any}
use Rattle.fp_base.specs.declared.ids.Die.{Die}
use Rattle.fp_base.specs.declared.ids.Die.TheVariants.{Top, Bottom}
use Rattle.fp_netlist.specs.declared.problem.Conn.{Conn}
use Rattle.fp_netlist.specs.Netlist.{Netlist, conns_of_net}
use Rattle.fp_place.specs.Places.{die_at, same_die}

-- the connection that stands for one that is not there
abbrev pub no_conn : Conn
no_conn = record { cell = record { 0 = 0 }; net = record { 0 = 0 }; top_pin = 0; bottom_pin = 0 }

abbrev pub conn_at : Netlist → ℕ → Conn
conn_at p conn = get_or p.conns conn no_conn

-- a connection's cell stands on the die
abbrev pub is_on : Netlist → List Die → Die → ℕ → Bool
is_on p dies die conn = same_die (die_at dies (conn_at p conn).cell.0) die

-- a net has a connection to a cell on the die
abbrev pub touches : Netlist → List Die → Die → ℕ → Bool
touches p dies die net = list_any (is_on p dies die) (conns_of_net p net)

-- a cut net has connections to cells on both dies
unfoldable pub is_cut : Netlist → List Die → ℕ → Bool
is_cut p dies net = touches p dies Top net && touches p dies Bottom net

-- how many of the first nets are cut
unfoldable pub cut_below : Netlist → List Die → ℕ → ℕ
cut_below p dies zero = 0
cut_below p dies (suc net) = cut_below p dies net + (if is_cut p dies net then 1 else 0)

-- how many nets are cut
abbrev pub cut : Netlist → List Die → ℕ
cut p dies = cut_below p dies (length p.nets)
