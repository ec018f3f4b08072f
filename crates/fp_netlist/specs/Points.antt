-- The sizes of cells and the places of pins, in the technology of a die.
use Rattle.std.specs.Prelude.{ℕ, ◌*◌, unwrap_or, slice_get, [], pos, ◌+ℤ◌}
use Rattle.fp_base.specs.declared.ids.Die.{Die}
use Rattle.fp_base.specs.declared.ids.Die.TheVariants.{Top, Bottom}
use Rattle.fp_base.specs.declared.ids.Point.{Point}
use Rattle.fp_tech.specs.Book.{Pin, Lib}
use Rattle.fp_netlist.specs.declared.problem.Conn.{Conn}
use Rattle.fp_netlist.specs.Netlist.{Netlist, lib_at, lib_of}

abbrev pub no_lib : Lib
no_lib = record { id = 0; width = 0; height = 0; pins = [] }

abbrev pub no_pin : Pin
no_pin = record { name = []; x = 0; y = 0 }

-- a cell's library cell in the technology of a die
unfoldable pub lib_on : Netlist → ℕ → Die → Lib
lib_on p cell die = unwrap_or (lib_at p (lib_of p cell) die) no_lib

abbrev pub width : Netlist → ℕ → Die → ℕ
width p cell die = (lib_on p cell die).width

abbrev pub height : Netlist → ℕ → Die → ℕ
height p cell die = (lib_on p cell die).height

abbrev pub area : Netlist → ℕ → Die → ℕ
area p cell die = width p cell die * height p cell die

abbrev pub pin_of : Conn → Die → ℕ
pin_of conn Top = conn.top_pin
pin_of conn Bottom = conn.bottom_pin

-- the pin of a connection in the technology of a die
unfoldable pub pin_on : Netlist → Conn → Die → Pin
pin_on p conn die = unwrap_or (slice_get (lib_on p conn.cell.0 die).pins (pin_of conn die)) no_pin

-- a pin's offset from its cell's lower left corner
abbrev pub offset : Netlist → Conn → Die → Point
offset p conn die = record { x = pos (pin_on p conn die).x; y = pos (pin_on p conn die).y }

-- a place, moved by an offset
abbrev pub moved : Point → Point → Point
moved place by = record { x = place.x +ℤ by.x; y = place.y +ℤ by.y }
