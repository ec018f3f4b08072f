-- The two dies with their technologies, the frame, the terminal and the blockages.
use Rattle.std.specs.Prelude.{◌≡◌, ℕ, ◌+◌, ◌*◌, ◌<◌, ◌≤◌, ◌^◌, ◌⊎◌, Bool, true, false, ◌&&◌, nat_le, pos, ◌+ℤ◌, ◌≤ℤ◌, ◌<ℤ◌, List, length, flat_map, All, Some, slice_get, Result, Ok, Err}
use Rattle.std.specs.List.{range_with_len}
use Rattle.fp_base.specs.declared.ids.Die.{Die}
use Rattle.fp_base.specs.declared.ids.Die.TheVariants.{Top, Bottom}
use Rattle.fp_tech.specs.declared.dies.Frame.{Frame}
use Rattle.fp_tech.specs.declared.dies.DieSpec.{DieSpec}
use Rattle.fp_tech.specs.declared.dies.TermSpec.{TermSpec}
use Rattle.fp_tech.specs.declared.dies.Block.{Block}
use Rattle.fp_tech.specs.declared.dies.Segment.{Segment}
use Rattle.fp_tech.specs.declared.dies.DiesFault.{DiesFault}
use Rattle.fp_tech.specs.declared.dies.DiesFault.TheVariants.{RowsOutside, TooMany, Memory}
use Rattle.fp_tech.specs.Book.{Book}
use Rattle.fp_tech.specs.Rows.{base_of, is_clear, row_segments}

pub record Plan : Type 0 where
  pub book : Book
  pub frame : Frame
  pub top : DieSpec
  pub bottom : DieSpec
  pub terminal : TermSpec
  pub blocks : List Block

abbrev pub spec_of : Plan → Die → DieSpec
spec_of plan Top = plan.top
spec_of plan Bottom = plan.bottom

-- the ranges of the input's numbers
pub record IsFrame (frame : Frame) : Type 0 where
  pub wide : frame.llx < frame.urx
  pub tall : frame.lly < frame.ury
  pub right : frame.urx ≤ 2 ^ 30
  pub upper : frame.ury ≤ 2 ^ 30

pub record IsDieSpec (techs : ℕ) (spec : DieSpec) : Type 0 where
  pub percent : spec.percent ≤ 100
  pub tech : spec.tech.0 < techs
  pub start_x : spec.start_x ≤ 2 ^ 30
  pub start_y : spec.start_y ≤ 2 ^ 30
  pub some_length : 1 ≤ spec.length
  pub length : spec.length ≤ 2 ^ 30
  pub some_height : 1 ≤ spec.height
  pub height : spec.height ≤ 2 ^ 30
  pub some_rows : 1 ≤ spec.repeat
  pub rows : spec.repeat ≤ 2 ^ 16

pub record IsTermSpec (terminal : TermSpec) : Type 0 where
  pub some_x : 1 ≤ terminal.size_x
  pub size_x : terminal.size_x ≤ 2 ^ 30
  pub some_y : 1 ≤ terminal.size_y
  pub size_y : terminal.size_y ≤ 2 ^ 30
  pub spacing : terminal.spacing ≤ 2 ^ 30
  pub cost : terminal.cost ≤ 2 ^ 30

-- a blockage may lie outside the frame, partly or wholly
pub record IsBlock (block : Block) : Type 0 where
  pub wide : block.llx < block.urx
  pub tall : block.lly < block.ury
  pub right : block.urx ≤ 2 ^ 30
  pub upper : block.ury ≤ 2 ^ 30

pub record IsSetup (plan : Plan) : Type 0 where
  pub frame : IsFrame plan.frame
  pub top : IsDieSpec (length plan.book.techs) plan.top
  pub bottom : IsDieSpec (length plan.book.techs) plan.bottom
  pub terminal : IsTermSpec plan.terminal
  pub few_blocks : length plan.blocks ≤ 1024
  pub blocks : All IsBlock plan.blocks

-- a die's rows lie in the frame: they are stacked upwards from the start by the row height
abbrev pub rows_lie : Frame → DieSpec → Bool
rows_lie frame spec =
    nat_le frame.llx spec.start_x && (nat_le (spec.start_x + spec.length) frame.urx
    && (nat_le frame.lly spec.start_y && nat_le (spec.start_y + spec.height * spec.repeat) frame.ury))

-- The segments of a die, where cells stand: the pieces of its rows that no blockage covers. They are numbered from 0, row by
-- row upwards, and in a row from the left.
unfoldable pub segments : Plan → Die → List Segment
segments plan die = flat_map (row_segments (spec_of plan die) die plan.blocks) (range_with_len 0 (spec_of plan die).repeat)

-- a segment is a piece of this row, of at least one place, and no blockage covers any place of it
pub record IsFreePiece (plan : Plan) (die : Die) (row : ℕ) (segment : Segment) : Type 0 where
  pub row_in : row < (spec_of plan die).repeat
  pub y_is : segment.y ≡ pos (base_of (spec_of plan die) row)
  pub from : pos (spec_of plan die).start_x ≤ℤ segment.start
  pub some : pos 1 ≤ℤ segment.length
  pub to : (segment.start +ℤ segment.length) ≤ℤ pos ((spec_of plan die).start_x + (spec_of plan die).length)
  pub clear : (x : ℕ) → segment.start ≤ℤ pos x → pos x <ℤ (segment.start +ℤ segment.length) → is_clear (spec_of plan die) die plan.blocks row x ≡ true

-- a segment has this place of a row
pub record HasPlace (spec : DieSpec) (row x : ℕ) (segment : Segment) : Type 0 where
  pub y_is : segment.y ≡ pos (base_of spec row)
  pub from : segment.start ≤ℤ pos x
  pub to : pos x <ℤ (segment.start +ℤ segment.length)

-- a segment stands on a higher row than another, or on its row behind its end, with a place between them
abbrev pub ComesBehind : DieSpec → Segment → Segment → Type 0
ComesBehind spec a b = ((a.y +ℤ pos spec.height) ≤ℤ b.y) ⊎ ((a.y ≡ b.y) × ((a.start +ℤ a.length) <ℤ b.start))

-- What segments are: the greatest pieces of the die's rows that no blockage of the die covers, row by row upwards and in a
-- row by rising start. Each is a free piece, each free place lies in one, and of two the later one comes behind the other.
pub record AreGreatest (plan : Plan) (die : Die) (list : List Segment) : Type 0 where
  pub free : (k : ℕ) (segment : Segment) → slice_get list k ≡ Some segment → (row : ℕ) × IsFreePiece plan die row segment
  pub whole : (row x : ℕ) → row < (spec_of plan die).repeat → (spec_of plan die).start_x ≤ x → x < (spec_of plan die).start_x + (spec_of plan die).length
      → is_clear (spec_of plan die) die plan.blocks row x ≡ true
      → (k : ℕ) × (segment : Segment) × (slice_get list k ≡ Some segment) × HasPlace (spec_of plan die) row x segment
  pub rise : (j k : ℕ) (a b : Segment) → j < k → slice_get list j ≡ Some a → slice_get list k ≡ Some b → ComesBehind (spec_of plan die) a b

-- the greatest number of a die's segments
abbrev pub most_segments : ℕ
most_segments = 2 ^ 16

abbrev pub has_few : Plan → Die → Bool
has_few plan die = nat_le (length (segments plan die)) most_segments

-- the rows of both dies lie in the frame
pub record RowsLie (plan : Plan) : Type 0 where
  pub top : rows_lie plan.frame plan.top ≡ true
  pub bottom : rows_lie plan.frame plan.bottom ≡ true

-- what every value of dies keeps
pub record IsPlan (plan : Plan) : Type 0 where
  pub setup : IsSetup plan
  pub lie : RowsLie plan
  pub top_few : has_few plan Top ≡ true
  pub bottom_few : has_few plan Bottom ≡ true

-- Dies are made of a setup exactly where the rows of both lie in the frame and neither has more than 2^16 segments. The
-- first die whose rows leave the frame is told, else the first die that has too many segments.
abbrev pub Makes : Plan → Result Plan DiesFault → Type 0
Makes plan (Ok dies) = RowsLie plan × (has_few plan Top ≡ true) × (has_few plan Bottom ≡ true) × (dies ≡ plan)
Makes plan (Err (RowsOutside Top)) = rows_lie plan.frame plan.top ≡ false
Makes plan (Err (RowsOutside Bottom)) = (rows_lie plan.frame plan.top ≡ true) × (rows_lie plan.frame plan.bottom ≡ false)
Makes plan (Err (TooMany Top)) = RowsLie plan × (has_few plan Top ≡ false)
Makes plan (Err (TooMany Bottom)) = RowsLie plan × (has_few plan Top ≡ true) × (has_few plan Bottom ≡ false)
Makes plan (Err Memory) = Unit {0}
