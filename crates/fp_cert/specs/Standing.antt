-- Where a trial shows each cell: on which segment, at which rank, with what x, target and dual; and its terminals. All of it is read off the
-- trial's lists: where a cell is listed twice, its first line counts.
use Rattle.std.specs.Prelude.{ℕ, ◌+◌, Bool, ◌==◌, if◌then◌else◌, List, [], ◌∷◌, ◌++◌, length, map, find, Option, Some, None, pos}
use Rattle.std.specs.List.{range_with_len, list_any}
use Rattle.fp_base.specs.declared.ids.CellId.{CellId}
use Rattle.fp_base.specs.declared.ids.Die.{Die}
use Rattle.fp_base.specs.declared.ids.Die.TheVariants.{Top, Bottom}
use Rattle.fp_base.specs.declared.ids.Point.{Point}
use Rattle.fp_tech.specs.Plan.{Plan}
use Rattle.fp_tech.specs.Slots.{Slots, centre_of}
use Rattle.fp_netlist.specs.Netlist.{Netlist}
use Rattle.fp_place.specs.declared.placement.Spot.{Spot}
use Rattle.fp_place.specs.Places.{Place, dies_of}
use Rattle.fp_place.specs.Placed.{LaneList, Placed, no_spot, place_of}
use Rattle.fp_score.specs.FirstFit.{segment_at}
use Rattle.fp_cert.specs.declared.shown.CellShown.{CellShown}
use Rattle.fp_cert.specs.declared.shown.CutShown.{CutShown}
use Rattle.fp_cert.specs.Endings.{has_rows}
use Rattle.fp_cert.specs.Shown.{ShownRow, ShownTrial, rows_of}

-- a line of a cell, with the segment of a die that it is listed on, and its rank there
pub record Stand : Type 0 where
  pub die : Die
  pub segment : ℕ
  pub rank : ℕ
  pub shown : CellShown

-- the lines of a segment from a rank on
unfoldable pub stands_in : Die → ℕ → ℕ → List CellShown → List Stand
stands_in die segment rank [] = []
stands_in die segment rank (cell ∷ cells) = record { die = die; segment = segment; rank = rank; shown = cell } ∷ stands_in die segment (rank + 1) cells

-- the lines of a die's segments from a number on
unfoldable pub stands_on : Die → ℕ → List ShownRow → List Stand
stands_on die number [] = []
stands_on die number (row ∷ rows) = stands_in die number 0 row.cells ++ stands_on die (number + 1) rows

abbrev pub stands : ShownTrial → List Stand
stands trial = stands_on Top 0 trial.top ++ stands_on Bottom 0 trial.bottom

abbrev pub is_stand_of : ℕ → Stand → Bool
is_stand_of cell stand = stand.shown.cell.0 == cell

-- a cell's line
abbrev pub stand_of : ShownTrial → ℕ → Option Stand
stand_of trial cell = find (is_stand_of cell) (stands trial)

-- what stands for the line of a cell that is not listed
abbrev pub no_line : CellShown
no_line = record { cell = record { 0 = 0 }; x = pos 0; target = record { x = pos 0; y = pos 0 }; dual = 0 }

abbrev pub line_by : Option Stand → CellShown
line_by None = no_line
line_by (Some stand) = stand.shown

-- the lines of all cells
unfoldable pub lines_shown : Netlist → ShownTrial → List CellShown
lines_shown p trial = map (λ cell. line_by (stand_of trial cell)) (range_with_len 0 (length p.cells))

-- where a line puts its cell: at its x on its segment's row
abbrev pub spot_by : Plan → Option Stand → Spot
spot_by plan None = no_spot
spot_by plan (Some stand) = record {
  die = stand.die;
  segment = stand.segment;
  rank = stand.rank;
  x = stand.shown.x;
  y = (segment_at plan stand.die stand.segment).y;
}

abbrev pub target_by : Option Stand → Point
target_by None = record { x = pos 0; y = pos 0 }
target_by (Some stand) = stand.shown.target

-- the spots and the targets of all cells
unfoldable pub spots_shown : Netlist → ShownTrial → List Spot
spots_shown p trial = map (λ cell. spot_by p.plan (stand_of trial cell)) (range_with_len 0 (length p.cells))

unfoldable pub targets_shown : Netlist → ShownTrial → List Point
targets_shown p trial = map (λ cell. target_by (stand_of trial cell)) (range_with_len 0 (length p.cells))

abbrev pub places_shown : Netlist → ShownTrial → List Place
places_shown p trial = map place_of (spots_shown p trial)

-- the cells of each segment of a die
abbrev pub lane_shown : ShownRow → List CellId
lane_shown row = map (λ cell. cell.cell) row.cells

abbrev pub lanes_shown : ShownTrial → Die → LaneList
lanes_shown trial die = map lane_shown (rows_of trial die)

-- a net's terminal: in the slot of its line
abbrev pub terminal_by : Slots → Option CutShown → Option Point
terminal_by grid None = None
terminal_by grid (Some cut) = Some (centre_of grid cut.slot.0)

unfoldable pub terminals_shown : Netlist → Slots → ShownTrial → List (Option Point)
terminals_shown p grid trial = map (λ net. terminal_by grid (find (λ cut. cut.net.0 == net) trial.cuts)) (range_with_len 0 (length p.nets))

-- the placement that a trial shows
abbrev pub placed_shown : Netlist → Slots → ShownTrial → Placed
placed_shown p grid trial =
    record { spots = spots_shown p trial; top = lanes_shown trial Top; bottom = lanes_shown trial Bottom; terminals = terminals_shown p grid trial }

-- a cell's die where the cells of the top die are listed
abbrev pub listed_die : List CellId → ℕ → Die
listed_die cells cell = if list_any (λ top. top.0 == cell) cells then Top else Bottom

-- the dies of all cells
unfoldable pub dies_shown : Netlist → ShownTrial → List Die
dies_shown p trial =
    if has_rows trial.ending then dies_of (places_shown p trial) else map (listed_die trial.top_cells) (range_with_len 0 (length p.cells))
