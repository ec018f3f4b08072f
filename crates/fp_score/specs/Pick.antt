-- The choice of rows: the cells of each die go one after the other, widest first, each to the segment with room for it that is nearest
-- to its target; the cells of each segment then stand in order of their targets.
use Rattle.std.specs.Prelude.{ℕ, ◌+◌, Bool, nat_eq, int_le, unsigned_abs, if◌then◌else◌, List, [], ◌∷◌, ◌++◌, length, map, filter, get_or, Option, Some, None, Result, Ok, Err, ℤ, pos, ◌+ℤ◌, ◌-ℤ◌}
use Rattle.std.specs.List.{range_with_len, sum_by}
use Rattle.std.specs.Int.{int_min, int_max}
use Rattle.fp_base.specs.declared.ids.Die.{Die}
use Rattle.fp_base.specs.declared.ids.Die.TheVariants.{Top, Bottom}
use Rattle.fp_base.specs.declared.ids.Point.{Point}
use Rattle.fp_tech.specs.declared.dies.Segment.{Segment}
use Rattle.fp_tech.specs.Plan.{segments}
use Rattle.fp_netlist.specs.Netlist.{Netlist}
use Rattle.fp_netlist.specs.Points.{width}
use Rattle.fp_place.specs.Places.{die_at, same_die}
use Rattle.fp_place.specs.Placed.{LaneList}
use Rattle.fp_place.specs.Settled.{first_least}
use Rattle.fp_score.specs.FirstFit.{segment_at}

-- a number among others in order of a key, before those of an equal key
unfoldable pub put_by : (ℕ → ℤ) → ℕ → List ℕ → List ℕ
put_by key number [] = number ∷ []
put_by key number (first ∷ others) = if int_le (key number) (key first) then number ∷ first ∷ others else first ∷ put_by key number others

-- numbers in order of a key, and as they stand among equal keys
unfoldable pub sorted_by : (ℕ → ℤ) → List ℕ → List ℕ
sorted_by key [] = []
sorted_by key (number ∷ numbers) = put_by key number (sorted_by key numbers)

-- the cells of a die, in file order and widest first
abbrev pub cells_on : Netlist → List Die → Die → List ℕ
cells_on p dies die = filter (λ cell. same_die (die_at dies cell) die) (range_with_len 0 (length p.cells))

abbrev pub widest_first : Netlist → List Die → Die → List ℕ
widest_first p dies die = sorted_by (λ cell. pos 0 -ℤ pos (width p cell die)) (cells_on p dies die)

-- a cell and the segment that it took
pub record Taken : Type 0 where
  pub cell : ℕ
  pub segment : ℕ

-- the widths of the cells that took a segment
unfoldable pub taken_width : Netlist → Die → ℕ → List Taken → ℕ
taken_width p die segment taken = sum_by (λ t. if nat_eq t.segment segment then width p t.cell die else 0) taken

-- the free length of a segment is at least a cell's width
abbrev pub is_open : Netlist → Die → List Taken → ℕ → ℕ → Bool
is_open p die taken cell segment = int_le (pos (taken_width p die segment taken + width p cell die)) (segment_at p.plan die segment).length

abbrev pub point_at : List Point → ℕ → Point
point_at targets cell = get_or targets cell (record { x = pos 0; y = pos 0 })

-- how far a number is from an interval
abbrev pub distance_to : ℤ → ℤ → ℤ → ℕ
distance_to from to at = unsigned_abs (at -ℤ int_max from (int_min at to))

-- how far a cell of a width is moved from its target to a segment: in y to its row, in x to the nearest place on it
unfoldable pub reach_cost : Segment → ℕ → Point → ℕ
reach_cost segment width target = unsigned_abs (segment.y -ℤ target.y) + distance_to segment.start ((segment.start +ℤ segment.length) -ℤ pos width) target.x

-- of the open segments, one of least cost, the lowest among ties
unfoldable pub nearest_open : Netlist → Die → List Point → List Taken → ℕ → Option ℕ
nearest_open p die targets taken cell =
    first_least (is_open p die taken cell) (λ segment. reach_cost (segment_at p.plan die segment) (width p cell die) (point_at targets cell)) (length (segments p.plan die))

-- a segment, or the cell where there is none
abbrev pub or_no_row : ℕ → Option ℕ → (ℕ → Result (List Taken) ℕ) → Result (List Taken) ℕ
or_no_row cell None next = Err cell
or_no_row cell (Some segment) next = next segment

-- each of these cells takes a segment, after those that did; or the first that has none
unfoldable pub taken_by : Netlist → Die → List Point → List Taken → List ℕ → Result (List Taken) ℕ
taken_by p die targets taken [] = Ok taken
taken_by p die targets taken (cell ∷ cells) =
    or_no_row cell (nearest_open p die targets taken cell) (λ segment. taken_by p die targets (taken ++ record { cell = cell; segment = segment } ∷ []) cells)

-- what the cells of a die take
abbrev pub pick_on : Netlist → List Die → List Point → Die → Result (List Taken) ℕ
pick_on p dies targets die = taken_by p die targets [] (widest_first p dies die)

-- the cells that took a segment, in order of their targets in x, and in file order among equal targets
unfoldable pub in_order : List Point → List Taken → ℕ → List ℕ
in_order targets taken segment =
    sorted_by (λ cell. (point_at targets cell).x) (sorted_by (λ cell. pos cell) (map (λ t. t.cell) (filter (λ t. nat_eq t.segment segment) taken)))

-- the lanes of a die
unfoldable pub lanes_by : Netlist → Die → List Point → List Taken → LaneList
lanes_by p die targets taken =
    map (λ segment. map (λ cell. record { 0 = cell }) (in_order targets taken segment)) (range_with_len 0 (length (segments p.plan die)))

pub record Lined : Type 0 where
  pub top : LaneList
  pub bottom : LaneList

abbrev pub after_both : Netlist → List Point → Result (List Taken) ℕ → Result (List Taken) ℕ → Result Lined ℕ
after_both p targets (Err cell) other = Err cell
after_both p targets (Ok top) (Err cell) = Err cell
after_both p targets (Ok top) (Ok bottom) = Ok (record { top = lanes_by p Top targets top; bottom = lanes_by p Bottom targets bottom })

-- The pick: the lanes of both dies, or the first cell without an open segment, on the top die and else on the bottom die.
unfoldable pub picked : Netlist → List Die → List Point → Result Lined ℕ
picked p dies targets = after_both p targets (pick_on p dies targets Top) (pick_on p dies targets Bottom)
