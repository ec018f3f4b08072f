-- A drawn placement: the lines of an output file, which nothing was asked of yet.
use Rattle.std.specs.Prelude.{ℕ, ◌+◌, ◌^◌, ◌==◌, Bool, if◌then◌else◌, List, [], ◌∷◌, ◌++◌, map, find, Option, Some, None, All, ℤ, pos, ◌≤ℤ◌}
use Rattle.std.specs.List.{range_with_len}
use Rattle.fp_base.specs.declared.ids.Die.{Die}
use Rattle.fp_base.specs.declared.ids.Die.TheVariants.{Top, Bottom}
use Rattle.fp_base.specs.declared.ids.Point.{Point}
use Rattle.fp_place.specs.declared.drawn.DrawnCell.{DrawnCell}
use Rattle.fp_place.specs.declared.drawn.DrawnTerminal.{DrawnTerminal}
use Rattle.fp_place.specs.Places.{Place, nowhere, same_die}

pub record Drawing : Type 0 where
  pub top : List DrawnCell
  pub bottom : List DrawnCell
  pub terminals : List DrawnTerminal

abbrev pub empty : Drawing
empty = record { top = []; bottom = []; terminals = [] }

abbrev pub cells_on : Drawing → Die → List DrawnCell
cells_on drawing Top = drawing.top
cells_on drawing Bottom = drawing.bottom

abbrev pub is_cell : ℕ → DrawnCell → Bool
is_cell cell line = line.cell.0 == cell

abbrev pub is_net : ℕ → DrawnTerminal → Bool
is_net net line = line.net.0 == net

abbrev pub centre_of : DrawnTerminal → Point
centre_of line = record { x = line.x; y = line.y }

abbrev pub on_die : Die → DrawnCell → Place
on_die die line = record { die = die; x = line.x; y = line.y }

-- where a cell stands: by its first line, the top die's lines first
abbrev pub first_line : Option DrawnCell → Option DrawnCell → Place
first_line (Some line) other = on_die Top line
first_line None (Some line) = on_die Bottom line
first_line None None = nowhere

abbrev pub place_in : Drawing → ℕ → Place
place_in drawing cell = first_line (find (is_cell cell) drawing.top) (find (is_cell cell) drawing.bottom)

-- the places of so many cells
abbrev pub places_in : Drawing → ℕ → List Place
places_in drawing cells = map (place_in drawing) (range_with_len 0 cells)

-- a coordinate is from 0 to 2^30
pub record IsCoordinate (at : ℤ) : Type 0 where
  pub least : pos 0 ≤ℤ at
  pub most : at ≤ℤ pos (2 ^ 30)

abbrev pub IsCellInRange : DrawnCell → Type 0
IsCellInRange line = IsCoordinate line.x × IsCoordinate line.y

abbrev pub IsTerminalInRange : DrawnTerminal → Type 0
IsTerminalInRange line = IsCoordinate line.x × IsCoordinate line.y

-- all coordinates are in range
pub record IsInRange (drawing : Drawing) : Type 0 where
  pub top_cells : All IsCellInRange drawing.top
  pub bottom_cells : All IsCellInRange drawing.bottom
  pub centres : All IsTerminalInRange drawing.terminals

-- a drawing with one more line
abbrev pub with_cell : Drawing → Die → DrawnCell → Drawing
with_cell drawing Top line = record drawing { top = drawing.top ++ line ∷ [] }
with_cell drawing Bottom line = record drawing { bottom = drawing.bottom ++ line ∷ [] }

abbrev pub with_terminal : Drawing → DrawnTerminal → Drawing
with_terminal drawing line = record drawing { terminals = drawing.terminals ++ line ∷ [] }

-- the lines of a die's cells, in file order, where these are the places from a cell on
unfoldable pub lines_from : Die → ℕ → List Place → List DrawnCell
lines_from die cell [] = []
lines_from die cell (place ∷ places) =
    if same_die place.die die then record { cell = record { 0 = cell }; x = place.x; y = place.y } ∷ lines_from die (cell + 1) places
    else lines_from die (cell + 1) places

-- the lines of the terminals, in file order of their nets, from a net on
unfoldable pub terminals_from : ℕ → List (Option Point) → List DrawnTerminal
terminals_from net [] = []
terminals_from net (None ∷ others) = terminals_from (net + 1) others
terminals_from net (Some centre ∷ others) = record { net = record { 0 = net }; x = centre.x; y = centre.y } ∷ terminals_from (net + 1) others

-- the drawing of a place for each cell, and a terminal or none for each net
abbrev pub drawing_of : List Place → List (Option Point) → Drawing
drawing_of places terminals = record { top = lines_from Top 0 places; bottom = lines_from Bottom 0 places; terminals = terminals_from 0 terminals }
