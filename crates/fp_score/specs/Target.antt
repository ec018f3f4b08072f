-- Targets of cells: for a cell on a new die, where its own nets are shortest with all other cells as they stand in a base. On each axis a
-- target is the least whole number of least own length. Terminals do not count.
use Rattle.std.specs.Prelude.{◌≡◌, ℕ, ◌<◌, Bool, not, nat_eq, List, [], ◌∷◌, length, map, ℤ, pos, ◌+ℤ◌, ◌-ℤ◌, ◌≤ℤ◌, filter}
use Rattle.std.specs.Int.{int_min, int_max}
use Rattle.fp_base.specs.declared.ids.Die.{Die}
use Rattle.fp_base.specs.declared.ids.Point.{Point}
use Rattle.fp_netlist.specs.Netlist.{Netlist, conns_of_cell, conns_of_net}
use Rattle.fp_netlist.specs.Points.{offset}
use Rattle.fp_place.specs.Places.{Place, place_at, die_at}
use Rattle.fp_place.specs.Cut.{conn_at}
use Rattle.fp_score.specs.Pick.{point_at}
use Rattle.fp_score.specs.Score.{corner, point}
use Rattle.fp_score.specs.declared.own.Axis.{Axis}
use Rattle.fp_score.specs.declared.own.Axis.TheVariants.{X, Y}

abbrev pub along : Axis → Point → ℤ
along X point = point.x
along Y point = point.y

-- a connection is to another cell
abbrev pub is_other : Netlist → ℕ → ℕ → Bool
is_other p cell conn = not (nat_eq (conn_at p conn).cell.0 cell)

-- where the pins of a net's other cells are on an axis, as they stand in the base
unfoldable pub others_at : Netlist → List Place → ℕ → Axis → ℕ → List ℤ
others_at p base cell axis net = map (λ conn. along axis (point p base conn)) (filter (is_other p cell) (conns_of_net p net))

unfoldable pub least_of : ℤ → List ℤ → ℤ
least_of least [] = least
least_of least (at ∷ others) = least_of (int_min least at) others

unfoldable pub greatest_of : ℤ → List ℤ → ℤ
greatest_of greatest [] = greatest
greatest_of greatest (at ∷ others) = greatest_of (int_max greatest at) others

-- what a connection adds to its cell's own length: the ends of its net's other pins, and its own offset
pub record Pull : Type 0 where
  pub low : ℤ
  pub high : ℤ
  pub off : ℤ

-- a connection whose net has no other cell adds nothing
abbrev pub pull_of : List ℤ → ℤ → List Pull → List Pull
pull_of [] off pulls = pulls
pull_of (at ∷ others) off pulls = record { low = least_of at others; high = greatest_of at others; off = off } ∷ pulls

unfoldable pub pulls_of : Netlist → List Place → ℕ → Die → Axis → List ℕ → List Pull
pulls_of p base cell die axis [] = []
pulls_of p base cell die axis (conn ∷ conns) =
    pull_of (others_at p base cell axis (conn_at p conn).net.0) (along axis (offset p (conn_at p conn) die)) (pulls_of p base cell die axis conns)

-- what the connections of a cell add on an axis, with the cell on a die
abbrev pub pulls : Netlist → List Place → ℕ → Die → Axis → List Pull
pulls p base cell die axis = pulls_of p base cell die axis (conns_of_cell p cell)

-- the length of a connection's net, with the connection's cell at a place
abbrev pub pull_length : ℤ → Pull → ℤ
pull_length at pull = int_max pull.high (at +ℤ pull.off) -ℤ int_min pull.low (at +ℤ pull.off)

unfoldable pub own_of : List Pull → ℤ → ℤ
own_of [] at = pos 0
own_of (pull ∷ others) at = pull_length at pull +ℤ own_of others at

-- a cell's own length on an axis, with the cell on a die and at a place
abbrev pub own : Netlist → List Place → ℕ → Die → Axis → ℤ → ℤ
own p base cell die axis at = own_of (pulls p base cell die axis) at

-- the least whole number of least own length
pub record IsLeastOwn (pulls : List Pull) (at : ℤ) : Type 0 where
  pub least : (other : ℤ) → own_of pulls at ≤ℤ own_of pulls other
  pub first : (other : ℤ) → ((any : ℤ) → own_of pulls other ≤ℤ own_of pulls any) → at ≤ℤ other

-- without a connection that adds, the place in the base
abbrev pub IsTargetOf : List Pull → ℤ → ℤ → Type 0
IsTargetOf [] stands at = at ≡ stands
IsTargetOf (pull ∷ others) stands at = IsLeastOwn (pull ∷ others) at

-- a cell's target on an axis, where it stands on its die of the new ones
abbrev pub IsTargetOn : Netlist → List Place → List Die → ℕ → Axis → ℤ → Type 0
IsTargetOn p base dies cell axis at = IsTargetOf (pulls p base cell (die_at dies cell) axis) (along axis (corner (place_at base cell))) at

pub record IsTarget (p : Netlist) (base : List Place) (dies : List Die) (cell : ℕ) (target : Point) : Type 0 where
  pub x : IsTargetOn p base dies cell X target.x
  pub y : IsTargetOn p base dies cell Y target.y

-- a point for each cell, which is its target
pub record AreTargets (p : Netlist) (base : List Place) (dies : List Die) (targets : List Point) : Type 0 where
  pub many : length targets ≡ length p.cells
  pub each : (cell : ℕ) → cell < length p.cells → IsTarget p base dies cell (point_at targets cell)
