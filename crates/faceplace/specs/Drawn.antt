-- The score of a drawing.
use Rattle.std.specs.Prelude.{List, length, map, find, Option, ℤ}
use Rattle.std.specs.Option.{option_map}
use Rattle.std.specs.List.{range_with_len}
use Rattle.fp_base.specs.declared.ids.Point.{Point}
use Rattle.fp_netlist.specs.Netlist.{Netlist}
use Rattle.fp_place.specs.Drawing.{Drawing, is_net, centre_of, places_in}
use Rattle.fp_score.specs.Score.{score}

-- the terminal that is drawn for each net
abbrev pub drawn_terminals : Netlist → Drawing → List (Option Point)
drawn_terminals p drawing = map (λ net. option_map centre_of (find (is_net net) drawing.terminals)) (range_with_len 0 (length p.nets))

-- the score of a drawing
abbrev pub drawn_score : Netlist → Drawing → ℤ
drawn_score p drawing = score p (places_in drawing (length p.cells)) (drawn_terminals p drawing)
