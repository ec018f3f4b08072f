-- The contest's rules of a legal placement, nine of them, each by its subject. Utilisation is that of the die's area, a terminal is
-- at its centre, and distances are between terminals and to the edges.
use Rattle.std.specs.Prelude.{◌≡◌, ◌≢◌, ℕ, ◌+◌, ◌<◌, if◌then◌else◌, length, All, IsTrue, slice_get, Some, pos, ◌+ℤ◌, ◌<ℤ◌, ◌≤ℤ◌, List}
use Rattle.std.specs.List.{count_by}
use Rattle.fp_base.specs.declared.ids.Die.{Die}
use Rattle.fp_base.specs.declared.ids.Die.TheVariants.{Top, Bottom}
use Rattle.fp_tech.specs.declared.dies.Segment.{Segment}
use Rattle.fp_tech.specs.Plan.{segments}
use Rattle.fp_tech.specs.Slots.{KeepsEdges, AreApart}
use Rattle.fp_netlist.specs.Netlist.{Netlist}
use Rattle.fp_netlist.specs.Points.{width, height}
use Rattle.fp_place.specs.Places.{Place, place_at, dies_of}
use Rattle.fp_place.specs.Areas.{fits, keeps, area_on}
use Rattle.fp_place.specs.Cut.{is_cut}
use Rattle.fp_place.specs.Drawing.{Drawing, is_cell, is_net, centre_of, places_in}

-- 1: a cell stands exactly once over both lists
abbrev pub StandsOnce : Drawing → ℕ → Type 0
StandsOnce drawing cell = count_by (is_cell cell) drawing.top + count_by (is_cell cell) drawing.bottom ≡ 1

-- 2: a cell stands on a segment of its die
pub record StandsIn (segment : Segment) (width : ℕ) (place : Place) : Type 0 where
  pub row : place.y ≡ segment.y
  pub starts : segment.start ≤ℤ place.x
  pub ends : (place.x +ℤ pos width) ≤ℤ (segment.start +ℤ segment.length)

pub record StandsOnSegment (p : Netlist) (places : List Place) (cell : ℕ) : Type 0 where
  pub number : ℕ
  pub segment : Segment
  pub there : slice_get (segments p.plan (place_at places cell).die) number ≡ Some segment
  pub stands : StandsIn segment (width p cell (place_at places cell).die) (place_at places cell)

-- 3: a cell is at most as high as its die's rows
abbrev pub FitsItsDie : Netlist → List Place → ℕ → Type 0
FitsItsDie p places cell = IsTrue (fits p cell (place_at places cell).die)

-- 4: two cells of one die overlap
pub record Overlap (p : Netlist) (places : List Place) (a b : ℕ) : Type 0 where
  pub same_die : (place_at places a).die ≡ (place_at places b).die
  pub left : (place_at places a).x <ℤ ((place_at places b).x +ℤ pos (width p b (place_at places b).die))
  pub right : (place_at places b).x <ℤ ((place_at places a).x +ℤ pos (width p a (place_at places a).die))
  pub low : (place_at places a).y <ℤ ((place_at places b).y +ℤ pos (height p b (place_at places b).die))
  pub high : (place_at places b).y <ℤ ((place_at places a).y +ℤ pos (height p a (place_at places a).die))

-- a cell overlaps no other
abbrev pub IsClear : Netlist → List Place → ℕ → Type 0
IsClear p places cell = (other : ℕ) → other < length p.cells → other ≢ cell → Overlap p places cell other → ⊥

-- 5 and 6: a die's cells keep its percent
abbrev pub KeepsPercent : Netlist → List Place → Die → Type 0
KeepsPercent p places die = IsTrue (keeps p.plan die (area_on p die (dies_of places)))

-- 7: a cut net has exactly one terminal, every other net none
abbrev pub HasItsTerminal : Netlist → Drawing → List Place → ℕ → Type 0
HasItsTerminal p drawing places net = count_by (is_net net) drawing.terminals ≡ (if is_cut p (dies_of places) net then 1 else 0)

-- 8: a net's terminals keep their distance from the edges
abbrev pub KeepsFromEdges : Netlist → Drawing → ℕ → Type 0
KeepsFromEdges p drawing net = All (λ line. line.net.0 ≡ net → KeepsEdges p.plan.frame p.plan.terminal (centre_of line)) drawing.terminals

-- 9: they are apart from those of other nets
abbrev pub KeepsFromOthers : Netlist → Drawing → ℕ → Type 0
KeepsFromOthers p drawing net = All (λ line. line.net.0 ≡ net
    → All (λ other. other.net.0 ≢ net → AreApart p.plan.terminal (centre_of line) (centre_of other)) drawing.terminals) drawing.terminals

-- all nine hold, each of all its subjects; a cell's place is that of its line
pub record IsLegalAt (p : Netlist) (drawing : Drawing) (places : List Place) : Type 0 where
  pub once : (cell : ℕ) → cell < length p.cells → StandsOnce drawing cell
  pub on_segments : (cell : ℕ) → cell < length p.cells → StandsOnSegment p places cell
  pub heights : (cell : ℕ) → cell < length p.cells → FitsItsDie p places cell
  pub clear : (cell : ℕ) → cell < length p.cells → IsClear p places cell
  pub top_percent : KeepsPercent p places Top
  pub bottom_percent : KeepsPercent p places Bottom
  pub terminals : (net : ℕ) → net < length p.nets → HasItsTerminal p drawing places net
  pub edges : (net : ℕ) → net < length p.nets → KeepsFromEdges p drawing net
  pub apart : (net : ℕ) → net < length p.nets → KeepsFromOthers p drawing net

abbrev pub IsLegal : Netlist → Drawing → Type 0
IsLegal p drawing = IsLegalAt p drawing (places_in drawing (length p.cells))
