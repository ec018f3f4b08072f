-- Where the cells of a drawing stand: their places, and the numbers of their segments.
use Rattle.std.specs.Prelude.{◌≡◌, ℕ, ◌<◌, Bool, true, ◌&&◌, ◌||◌, ◌⊎◌, int_lt, int_le, ◌+ℤ◌, ◌<ℤ◌, ◌≤ℤ◌, List, length, slice_get, get_or, Some, None, Option}
use Rattle.fp_base.specs.declared.ids.Die.TheVariants.{Top, Bottom}
use Rattle.fp_tech.specs.declared.dies.Segment.{Segment}
use Rattle.fp_tech.specs.Plan.{Plan, segments, IsPlan}
use Rattle.fp_netlist.specs.Netlist.{Netlist}
use Rattle.fp_netlist.specs.Points.{width}
use Rattle.fp_place.specs.declared.seen.Seen.{Seen}
use Rattle.fp_place.specs.declared.seen.Seen.TheVariants.{Never, Once, Often}
use Rattle.fp_place.specs.Places.{Place, place_at}
use Rattle.fp_place.specs.Drawing.{Drawing, places_in}
use Rattle.fp_place.specs.Legal.{StandsIn, StandsOnce}
use Rattle.fp_place.specs.Lining.{IsOnSegment}
use Rattle.fp_place.specs.FirstFaults.{HoldBelow}

-- the place of a cell that stands once over both dies' lines
abbrev pub place_once : Seen → Seen → Option Place
place_once (Once at) Never = Some (record { die = Top; x = at.x; y = at.y })
place_once Never (Once at) = Some (record { die = Bottom; x = at.x; y = at.y })
place_once Never Never = None
place_once (Once at) (Once other) = None
place_once (Once at) Often = None
place_once Never Often = None
place_once Often other = None

-- the cells' places, each of which stands once
pub record AreFound (drawing : Drawing) (cells : ℕ) (places : List Place) : Type 0 where
  pub places_are : places ≡ places_in drawing cells
  pub once : (cell : ℕ) → cell < cells → StandsOnce drawing cell

-- a segment starts at a place or before it: on a lower row, or on its row at its x or to the left of it
abbrev pub starts_by : Segment → Place → Bool
starts_by segment place = int_lt segment.y place.y || (int_le segment.y place.y && int_le segment.start place.x)

-- a segment lies below another, or on its row and ends before it
abbrev pub ComesBefore : Segment → Segment → Type 0
ComesBefore a b = (a.y <ℤ b.y) ⊎ ((a.y ≡ b.y) × (a.start ≤ℤ b.start) × ((a.start +ℤ a.length) <ℤ b.start))

-- segments rise by rows and then by x, and do not meet
pub record AreInOrder (list : List Segment) : Type 0 where
  pub rise : (j k : ℕ) (a b : Segment) → j < k → slice_get list j ≡ Some a → slice_get list k ≡ Some b → ComesBefore a b

-- the last segment that starts at a place or before it
pub record IsLast (list : List Segment) (place : Place) (number : ℕ) : Type 0 where
  pub within : number < length list
  pub started : (segment : Segment) → slice_get list number ≡ Some segment → starts_by segment place ≡ true
  pub last : (later : ℕ) (segment : Segment) → number < later → slice_get list later ≡ Some segment → starts_by segment place ≡ true → ⊥

abbrev pub FindsLast : List Segment → Place → Option ℕ → Type 0
FindsLast list place None = (number : ℕ) (segment : Segment) → slice_get list number ≡ Some segment → starts_by segment place ≡ true → ⊥
FindsLast list place (Some number) = IsLast list place number

-- a place of this width stands on the segment of this number, or on none
pub record StandsOn (plan : Plan) (place : Place) (width number : ℕ) : Type 0 where
  pub segment : Segment
  pub there : slice_get (segments plan place.die) number ≡ Some segment
  pub stands : StandsIn segment width place

abbrev pub FindsSegment : Plan → Place → ℕ → Option ℕ → Type 0
FindsSegment plan place width None = (number : ℕ) → StandsOn plan place width number → ⊥
FindsSegment plan place width (Some number) = StandsOn plan place width number

-- a cell stands on the segment of its number
abbrev pub IsInSegment : Netlist → List Place → List ℕ → ℕ → Type 0
IsInSegment p places numbers cell = StandsOn p.plan (place_at places cell) (width p cell (place_at places cell).die) (get_or numbers cell 0)

pub record AreInSegments (p : Netlist) (places : List Place) (numbers : List ℕ) : Type 0 where
  pub plan : IsPlan p.plan
  pub many : length numbers ≡ length p.cells
  pub in_segments : (cell : ℕ) → cell < length p.cells → IsInSegment p places numbers cell

-- the first three rules hold
pub record AreStanding (p : Netlist) (drawing : Drawing) (places : List Place) (numbers : List ℕ) : Type 0 where
  pub plan : IsPlan p.plan
  pub places_are : places ≡ places_in drawing (length p.cells)
  pub holds : HoldBelow p drawing places 4
  pub numbers_many : length numbers ≡ length p.cells
  pub on_segments : (cell : ℕ) → cell < length p.cells → IsOnSegment p places numbers cell
