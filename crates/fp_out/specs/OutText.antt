-- The text of an output file: for each die the number of its cells and a line for each of them, then the number of terminals and a line
-- for each. Single spaces, plain decimal, and a line feed behind each line.
use Rattle.std.specs.Prelude.{ℕ, List, [], ◌++◌, length, get_or, codes, decimal, ℤ}
use Rattle.std.specs.List.{flat_map}
use Rattle.std.specs.Fmt.{signed_decimal}
use Rattle.fp_base.specs.declared.ids.Die.{Die}
use Rattle.fp_base.specs.declared.ids.Die.TheVariants.{Top, Bottom}
use Rattle.fp_base.specs.declared.ids.Point.{Point}
use Rattle.fp_netlist.specs.Netlist.{Netlist, cell_names}
use Rattle.fp_place.specs.declared.drawn.DrawnCell.{DrawnCell}
use Rattle.fp_place.specs.declared.drawn.DrawnTerminal.{DrawnTerminal}
use Rattle.fp_place.specs.Drawing.{Drawing}

-- a line of a word and a count
abbrev pub head_text : List ℕ → ℕ → List ℕ
head_text word count = word ++ codes " " ++ decimal count ++ codes "\n"

-- a coordinate behind a space
abbrev pub coordinate_text : ℤ → List ℕ
coordinate_text at = codes " " ++ signed_decimal at

-- a line of a word, a name and a point
abbrev pub line_text : List ℕ → List ℕ → Point → List ℕ
line_text word name at = word ++ codes " " ++ name ++ coordinate_text at.x ++ coordinate_text at.y ++ codes "\n"

-- the line of a cell, by its name, and that of a terminal, by its net's
abbrev pub inst_text : Netlist → DrawnCell → List ℕ
inst_text p cell = line_text (codes "Inst") (get_or (cell_names p) cell.cell.0 []) (record { x = cell.x; y = cell.y })

abbrev pub terminal_text : Netlist → DrawnTerminal → List ℕ
terminal_text p terminal = line_text (codes "Terminal") (get_or p.nets terminal.net.0 []) (record { x = terminal.x; y = terminal.y })

abbrev pub insts_text : Netlist → List DrawnCell → List ℕ
insts_text p cells = flat_map (inst_text p) cells

abbrev pub terminals_text : Netlist → List DrawnTerminal → List ℕ
terminals_text p terminals = flat_map (terminal_text p) terminals

abbrev pub die_word : Die → List ℕ
die_word Top = codes "TopDiePlacement"
die_word Bottom = codes "BottomDiePlacement"

-- the part of a die, and that of the terminals
abbrev pub die_part : Netlist → Die → List DrawnCell → List ℕ
die_part p die cells = head_text (die_word die) (length cells) ++ insts_text p cells

abbrev pub terminal_part : Netlist → List DrawnTerminal → List ℕ
terminal_part p terminals = head_text (codes "NumTerminals") (length terminals) ++ terminals_text p terminals

-- the whole text
abbrev pub out_text : Netlist → Drawing → List ℕ
out_text p drawing = die_part p Top drawing.top ++ die_part p Bottom drawing.bottom ++ terminal_part p drawing.terminals
