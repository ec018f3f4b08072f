-- The bounding box of a net's points on each die, where there are any.
use Rattle.std.specs.Prelude.{ℕ, ◌^◌, List, [], ◌∷◌, map, filter, Option, Some, None, IfSome, ℤ, pos, ◌≤ℤ◌}
use Rattle.fp_base.specs.declared.ids.Die.{Die}
use Rattle.fp_base.specs.declared.ids.Die.TheVariants.{Top, Bottom}
use Rattle.fp_base.specs.declared.ids.Point.{Point}
use Rattle.fp_netlist.specs.Netlist.{Netlist}
use Rattle.fp_place.specs.Places.{Place, place_at, dies_of}
use Rattle.fp_place.specs.Cut.{conn_at, is_on}
use Rattle.fp_score.specs.declared.reach.Reach.{Reach}
use Rattle.fp_score.specs.declared.reaches.Reaches.{Reaches}
use Rattle.fp_score.specs.Score.{reach_of, stretched, half_perimeter, point, pins_on}

-- the bounding box with one point more
abbrev pub joined : Option Reach → Point → Reach
joined None point = reach_of point
joined (Some reach) point = stretched reach point

-- the bounding box that takes in these points too
unfoldable pub reach_after : Option Reach → List Point → Option Reach
reach_after reach [] = reach
reach_after reach (point ∷ points) = reach_after (Some (joined reach point)) points

-- the half perimeter, 0 where there are no points
abbrev pub half : Option Reach → ℤ
half None = pos 0
half (Some reach) = half_perimeter reach

abbrev pub none_reached : Reaches
none_reached = record { top = None; bottom = None }

abbrev pub reach_on : Reaches → Die → Option Reach
reach_on reaches Top = reaches.top
reach_on reaches Bottom = reaches.bottom

-- the bounding boxes with one point more on a die
abbrev pub with_point : Reaches → Die → Point → Reaches
with_point reaches Top point = record reaches { top = Some (joined reaches.top point) }
with_point reaches Bottom point = record reaches { bottom = Some (joined reaches.bottom point) }

-- the bounding boxes with a terminal, which is one point more on each die
abbrev pub with_terminal : Reaches → Option Point → Reaches
with_terminal reaches None = reaches
with_terminal reaches (Some centre) = with_point (with_point reaches Top centre) Bottom centre

-- the die of a connection's cell
abbrev pub die_of : Netlist → List Place → ℕ → Die
die_of p places conn = (place_at places (conn_at p conn).cell.0).die

-- the pins of these connections on a die
unfoldable pub pins_of : Netlist → List Place → Die → List ℕ → List Point
pins_of p places die conns = map (point p places) (filter (is_on p (dies_of places) die) conns)

-- the bounding boxes of a net's pins
abbrev pub pins_reached : Netlist → List Place → ℕ → Reaches
pins_reached p places net = record { top = reach_after None (pins_on p places Top net); bottom = reach_after None (pins_on p places Bottom net) }

-- a point is from 0 to 2^31 on each axis
pub record IsNear (point : Point) : Type 0 where
  pub left : pos 0 ≤ℤ point.x
  pub right : point.x ≤ℤ pos (2 ^ 31)
  pub low : pos 0 ≤ℤ point.y
  pub high : point.y ≤ℤ pos (2 ^ 31)

-- a bounding box is of such points
pub record IsNearReach (reach : Reach) : Type 0 where
  pub left : pos 0 ≤ℤ reach.left
  pub wide : reach.left ≤ℤ reach.right
  pub right : reach.right ≤ℤ pos (2 ^ 31)
  pub low : pos 0 ≤ℤ reach.low
  pub tall : reach.low ≤ℤ reach.high
  pub high : reach.high ≤ℤ pos (2 ^ 31)

pub record AreNear (reaches : Reaches) : Type 0 where
  pub top : IfSome reaches.top IsNearReach
  pub bottom : IfSome reaches.bottom IsNearReach
