-- Laws of the entries of lanes, and of the rows on which cells stand.
use Rattle.std.specs.Prelude.{◌≡◌, ℕ, ◌+◌, ◌*◌, ◌<◌, ◌≤◌, ◌^◌, true, ◌&&◌, nat_le, List, length, Option, None, Some, slice_get, ℤ, pos, ◌+ℤ◌, ◌≤ℤ◌}
use Rattle.std.specs.Option.{option_and_then}
use Rattle.std.proofs.Common.{refl, ap, arith}
use Rattle.std.proofs.lemmas.Bool.{and_parts, leb-true}
use Rattle.std.proofs.lemmas.Nat.{mul-le}
use Rattle.std.proofs.lemmas.Int.{ints}
use Rattle.std.proofs.lemmas.Option.{slice_get_within}
use Rattle.fp_base.specs.declared.ids.Die.{Die}
use Rattle.fp_base.specs.declared.ids.Die.TheVariants.{Top, Bottom}
use Rattle.fp_base.specs.declared.ids.CellId.{CellId}
use Rattle.fp_tech.specs.declared.dies.Segment.{Segment}
use Rattle.fp_tech.specs.declared.dies.DieSpec.{DieSpec}
use Rattle.fp_tech.specs.declared.dies.Frame.{Frame}
use Rattle.fp_tech.specs.Plan.{Plan, spec_of, rows_lie, segments, IsPlan, IsFreePiece}
use Rattle.fp_tech.specs.PlanLaws.{segment_on}
use Rattle.fp_place.specs.Drawing.{IsCoordinate}
use Rattle.fp_place.specs.Placed.{LaneList, entry_at}

-- a cell is that of a rank on a segment's lane
pub record IsEntry (lanes : LaneList) (segment rank : ℕ) (cell : CellId) : Type 0 where
  pub lane : List CellId
  pub there : slice_get lanes segment ≡ Some lane
  pub at : slice_get lane rank ≡ Some cell

pub entry_of : (lanes : LaneList) (segment rank : ℕ) (cell : CellId) → entry_at lanes segment rank ≡ Some cell → IsEntry lanes segment rank cell
unfolding entry_at
entry_of lanes segment rank cell is = by (slice_get lanes segment) refl is
  where
    by : (o : Option (List CellId)) → slice_get lanes segment ≡ o → option_and_then (λ lane. slice_get lane rank) o ≡ Some cell → IsEntry lanes segment rank cell
    by None there is = absurd (let nothing : None ≡ Some cell = is in cc)
    by (Some lane) there is = record { lane = lane; there = there; at = is }

-- the entries of a segment are those of its lane
pub entry_on : (lanes : LaneList) (segment rank : ℕ) (lane : List CellId) → slice_get lanes segment ≡ Some lane → entry_at lanes segment rank ≡ slice_get lane rank
unfolding entry_at
entry_on lanes segment rank lane there = ap (option_and_then (λ (lane : List CellId). slice_get lane rank)) there

-- an entry's segment is there
pub entry_within : (lanes : LaneList) (segment rank : ℕ) (cell : CellId) → entry_at lanes segment rank ≡ Some cell → segment < length lanes
entry_within lanes segment rank cell is = let e = entry_of lanes segment rank cell is in slice_get_within lanes segment e.lane e.there

-- a segment lies in range: its row, its ends and its length
pub record LiesInRange (segment : Segment) : Type 0 where
  pub y : IsCoordinate segment.y
  pub start : IsCoordinate segment.start
  pub end : IsCoordinate (segment.start +ℤ segment.length)
  pub length : IsCoordinate segment.length
  pub some : pos 1 ≤ℤ segment.length

rows_lie_on : (plan : Plan) → IsPlan plan → (die : Die) → rows_lie plan.frame (spec_of plan die) ≡ true
rows_lie_on plan is Top = is.lie.top
rows_lie_on plan is Bottom = is.lie.bottom

-- a row's edges are within the frame
record IsInside (spec : DieSpec) (frame : Frame) : Type 0 where
  right : spec.start_x + spec.length ≤ frame.urx
  upper : spec.start_y + spec.height * spec.repeat ≤ frame.ury

inside : (frame : Frame) (spec : DieSpec) → rows_lie frame spec ≡ true → IsInside spec frame
inside frame spec lie =
    let parts = and_parts (nat_le frame.llx spec.start_x) (nat_le (spec.start_x + spec.length) frame.urx && (nat_le frame.lly spec.start_y && nat_le (spec.start_y + spec.height * spec.repeat) frame.ury)) lie in
    let others = and_parts (nat_le (spec.start_x + spec.length) frame.urx) (nat_le frame.lly spec.start_y && nat_le (spec.start_y + spec.height * spec.repeat) frame.ury) parts.1 in
    let last = and_parts (nat_le frame.lly spec.start_y) (nat_le (spec.start_y + spec.height * spec.repeat) frame.ury) others.1 in
    record {
      right = leb-true (spec.start_x + spec.length) frame.urx others.0;
      upper = leb-true (spec.start_y + spec.height * spec.repeat) frame.ury last.1;
    }

-- a piece of a row that no blockage covers lies in range
pub piece_in_range : (plan : Plan) → IsPlan plan → (die : Die) (row : ℕ) (segment : Segment) → IsFreePiece plan die row segment → LiesInRange segment
piece_in_range plan is die row segment piece =
    let spec = spec_of plan die in
    let within = inside plan.frame spec (rows_lie_on plan is die) in
    let right : plan.frame.urx ≤ 2 ^ 30 = is.setup.frame.right in
    let upper : plan.frame.ury ≤ 2 ^ 30 = is.setup.frame.upper in
    let below : row * spec.height ≤ spec.height * spec.repeat = omega (arith, mul-le row spec.height spec.repeat spec.height (omega (arith, piece.row_in)) (omega arith)) in
    let y : segment.y ≡ pos (spec.start_y + row * spec.height) = piece.y_is in
    let from : pos spec.start_x ≤ℤ segment.start = piece.from in
    let some : pos 1 ≤ℤ segment.length = piece.some in
    let to : (segment.start +ℤ segment.length) ≤ℤ pos (spec.start_x + spec.length) = piece.to in
    record {
      y = record { least = omega (arith, ints, y); most = omega (arith, ints, y, within.upper, below, upper) };
      start = record { least = omega (arith, ints, from); most = omega (arith, ints, some, to, within.right, right) };
      end = record { least = omega (arith, ints, from, some); most = omega (arith, ints, to, within.right, right) };
      length = record { least = omega (arith, ints, some); most = omega (arith, ints, from, to, within.right, right) };
      some = some;
    }

-- each segment lies in range
pub segment_in_range : (plan : Plan) → IsPlan plan → (die : Die) (number : ℕ) (segment : Segment) → slice_get (segments plan die) number ≡ Some segment → LiesInRange segment
segment_in_range plan is die number segment there =
    let piece = segment_on plan die number segment there in piece_in_range plan is die piece.0 segment piece.1

-- a segment's row is in range
pub row_in_range : (plan : Plan) → IsPlan plan → (die : Die) (number : ℕ) (segment : Segment) → slice_get (segments plan die) number ≡ Some segment → IsCoordinate segment.y
row_in_range plan is die number segment there = (segment_in_range plan is die number segment there).y

-- each place of a segment, its right end included, is in range
pub place_in_range : (plan : Plan) → IsPlan plan → (die : Die) (number : ℕ) (segment : Segment) → slice_get (segments plan die) number ≡ Some segment
    → (x : ℤ) → segment.start ≤ℤ x → x ≤ℤ (segment.start +ℤ segment.length) → IsCoordinate x
place_in_range plan is die number segment there x from to =
    let lies = segment_in_range plan is die number segment there in
    let least = lies.start.least in
    let most = lies.end.most in
    record { least = omega (arith, ints, least, from); most = omega (arith, ints, most, to) }
