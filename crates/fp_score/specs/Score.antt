-- The score: the half-perimeter wirelength of each net on each die, where a cut net's terminal is one more pin on each die, as the contest
-- counts it; and the cost of a terminal, which an input may state, once for each cut net.
use Rattle.std.specs.Prelude.{ℕ, zero, suc, if◌then◌else◌, List, [], ◌∷◌, ◌++◌, length, map, filter, get_or, Option, Some, None, ℤ, pos, ◌+ℤ◌, ◌-ℤ◌}
use Rattle.std.specs.Int.{int_min, int_max}
use Rattle.fp_base.specs.declared.ids.Die.{Die}
use Rattle.fp_base.specs.declared.ids.Die.TheVariants.{Top, Bottom}
use Rattle.fp_base.specs.declared.ids.Point.{Point}
use Rattle.fp_netlist.specs.Netlist.{Netlist, conns_of_net}
use Rattle.fp_netlist.specs.Points.{offset, moved}
use Rattle.fp_place.specs.Places.{Place, place_at, dies_of}
use Rattle.fp_place.specs.Cut.{conn_at, is_on, is_cut}
use Rattle.fp_score.specs.declared.reach.Reach.{Reach}

-- the bounding box of a point, and one that takes in a further point
abbrev pub reach_of : Point → Reach
reach_of point = record { left = point.x; right = point.x; low = point.y; high = point.y }

abbrev pub stretched : Reach → Point → Reach
stretched reach point = record {
  left = int_min reach.left point.x;
  right = int_max reach.right point.x;
  low = int_min reach.low point.y;
  high = int_max reach.high point.y;
}

unfoldable pub reach_with : Reach → List Point → Reach
reach_with reach [] = reach
reach_with reach (point ∷ points) = reach_with (stretched reach point) points

abbrev pub half_perimeter : Reach → ℤ
half_perimeter reach = (reach.right -ℤ reach.left) +ℤ (reach.high -ℤ reach.low)

-- the half perimeter of the points' bounding box; without points 0
unfoldable pub length_of : List Point → ℤ
length_of [] = pos 0
length_of (point ∷ points) = half_perimeter (reach_with (reach_of point) points)

abbrev pub corner : Place → Point
corner place = record { x = place.x; y = place.y }

-- where a connection's pin is: at its offset from its cell's lower left corner
abbrev pub point : Netlist → List Place → ℕ → Point
point p places conn =
    moved (corner (place_at places (conn_at p conn).cell.0)) (offset p (conn_at p conn) (place_at places (conn_at p conn).cell.0).die)

-- the pins of a net on a die
unfoldable pub pins_on : Netlist → List Place → Die → ℕ → List Point
pins_on p places die net = map (point p places) (filter (is_on p (dies_of places) die) (conns_of_net p net))

abbrev pub terminal_at : List (Option Point) → ℕ → Option Point
terminal_at terminals net = get_or terminals net None

abbrev pub listed : Option Point → List Point
listed None = []
listed (Some centre) = centre ∷ []

-- the points of a net on a die: its pins there, and its terminal too where it is cut
abbrev pub points_on : Netlist → List Place → List (Option Point) → Die → ℕ → List Point
points_on p places terminals die net = pins_on p places die net ++ (if is_cut p (dies_of places) net then listed (terminal_at terminals net) else [])

-- a net's length: its half-perimeter wirelength on both dies
abbrev pub net_length : Netlist → List Place → List (Option Point) → ℕ → ℤ
net_length p places terminals net = length_of (points_on p places terminals Top net) +ℤ length_of (points_on p places terminals Bottom net)

-- what a net's terminal costs: the stated cost, where the net is cut and so has one
abbrev pub cost_at : Netlist → List Place → ℕ → ℕ
cost_at p places net = if is_cut p (dies_of places) net then p.plan.terminal.cost else 0

-- the lengths and costs of the first nets, and of all
unfoldable pub score_below : Netlist → List Place → List (Option Point) → ℕ → ℤ
score_below p places terminals zero = pos 0
score_below p places terminals (suc net) = score_below p places terminals net +ℤ (net_length p places terminals net +ℤ pos (cost_at p places net))

abbrev pub score : Netlist → List Place → List (Option Point) → ℤ
score p places terminals = score_below p places terminals (length p.nets)
