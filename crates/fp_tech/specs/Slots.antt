-- The rules that terminals keep towards the edges and each other, and the grid of slots that keeps them.
use Rattle.std.specs.Prelude.{◌≡◌, ◌⊎◌, ℕ, ◌+◌, ◌-◌, ◌*◌, ◌/◌, ◌%◌, ◌<◌, ◌≤◌, ◌^◌, nat_le, ◌==◌, if◌then◌else◌, pos, ◌+ℤ◌, ◌≤ℤ◌}
use Rattle.fp_base.specs.declared.ids.Point.{Point}
use Rattle.fp_tech.specs.declared.dies.Frame.{Frame}
use Rattle.fp_tech.specs.declared.dies.TermSpec.{TermSpec}

-- A terminal with this centre keeps its distance from each edge: twice the distance is at least the size and two spacings.
pub record KeepsEdges (frame : Frame) (terminal : TermSpec) (centre : Point) : Type 0 where
  pub left : pos (2 * frame.llx + terminal.size_x + 2 * terminal.spacing) ≤ℤ (centre.x +ℤ centre.x)
  pub right : (centre.x +ℤ centre.x +ℤ pos (terminal.size_x + 2 * terminal.spacing)) ≤ℤ pos (2 * frame.urx)
  pub low : pos (2 * frame.lly + terminal.size_y + 2 * terminal.spacing) ≤ℤ (centre.y +ℤ centre.y)
  pub high : (centre.y +ℤ centre.y +ℤ pos (terminal.size_y + 2 * terminal.spacing)) ≤ℤ pos (2 * frame.ury)

-- the least distance of two centres on each axis, of which one is enough
abbrev pub pitch_x : TermSpec → ℕ
pitch_x terminal = terminal.size_x + terminal.spacing

abbrev pub pitch_y : TermSpec → ℕ
pitch_y terminal = terminal.size_y + terminal.spacing

-- two terminals with these centres are apart
abbrev pub AreApart : TermSpec → Point → Point → Type 0
AreApart terminal a b =
    (((a.x +ℤ pos (pitch_x terminal)) ≤ℤ b.x) ⊎ ((b.x +ℤ pos (pitch_x terminal)) ≤ℤ a.x))
    ⊎ (((a.y +ℤ pos (pitch_y terminal)) ≤ℤ b.y) ⊎ ((b.y +ℤ pos (pitch_y terminal)) ≤ℤ a.y))

-- from an edge to the nearest centre
abbrev pub margin : ℕ → ℕ → ℕ
margin size spacing = spacing + (size + 1) / 2

-- how many centres stand between two edges, from the margin on by a step, as long as the margin of the far edge is kept
abbrev pub axis_count : ℕ → ℕ → ℕ → ℕ → ℕ
axis_count low high edge step = if nat_le (low + 2 * edge) high then (high - (low + 2 * edge)) / step + 1 else 0

-- a grid: every stride-th place of a terminal on both axes
pub record Slots : Type 0 where
  pub frame : Frame
  pub terminal : TermSpec
  pub stride : ℕ

-- slots in a row
unfoldable pub across : Slots → ℕ
across s = axis_count s.frame.llx s.frame.urx (margin s.terminal.size_x s.terminal.spacing) (s.stride * pitch_x s.terminal)

-- rows of slots
unfoldable pub up : Slots → ℕ
up s = axis_count s.frame.lly s.frame.ury (margin s.terminal.size_y s.terminal.spacing) (s.stride * pitch_y s.terminal)

abbrev pub slot_count : Slots → ℕ
slot_count s = across s * up s

-- slots of one y; 1 where there is no slot
abbrev pub stripe_of : Slots → ℕ
stripe_of s = if slot_count s == 0 then 1 else across s

-- the centre of a column and of a row of slots
unfoldable pub column_x : Slots → ℕ → ℕ
column_x s k = s.frame.llx + margin s.terminal.size_x s.terminal.spacing + k * (s.stride * pitch_x s.terminal)

unfoldable pub row_y : Slots → ℕ → ℕ
row_y s k = s.frame.lly + margin s.terminal.size_y s.terminal.spacing + k * (s.stride * pitch_y s.terminal)

-- slots are numbered in rows of rising x, rows by rising y
abbrev pub centre_of : Slots → ℕ → Point
centre_of s slot = record { x = pos (column_x s (slot % across s)); y = pos (row_y s (slot / across s)) }

-- the greatest number of slots of a grid
abbrev pub slot_limit : ℕ
slot_limit = 2 ^ 20

-- the grid of a frame and a terminal at a stride
abbrev pub grid_with : Frame → TermSpec → ℕ → Slots
grid_with frame terminal stride = record { frame = frame; terminal = terminal; stride = stride }

-- each stride from 1 that is below this one leaves too many slots
abbrev pub IsLeast : Frame → TermSpec → ℕ → Type 0
IsLeast frame terminal stride = (lesser : ℕ) → 1 ≤ lesser → lesser < stride → slot_limit < slot_count (grid_with frame terminal lesser)

-- the grid of a frame and a terminal: its stride is the least from 1 that leaves at most 2^20 slots
pub record IsGrid (frame : Frame) (terminal : TermSpec) (s : Slots) : Type 0 where
  pub frame_is : s.frame ≡ frame
  pub terminal_is : s.terminal ≡ terminal
  pub some_stride : 1 ≤ s.stride
  pub few : slot_count s ≤ slot_limit
  pub least : IsLeast frame terminal s.stride

-- what the counts mean: a column is counted exactly where its centres keep the distance from the right edge, a row alike
pub record CountsAreExact (s : Slots) : Type 0 where
  pub columns : (k : ℕ) → k < across s → 2 * column_x s k + s.terminal.size_x + 2 * s.terminal.spacing ≤ 2 * s.frame.urx
  pub no_more_columns : (k : ℕ) → 2 * column_x s k + s.terminal.size_x + 2 * s.terminal.spacing ≤ 2 * s.frame.urx → k < across s
  pub rows : (k : ℕ) → k < up s → 2 * row_y s k + s.terminal.size_y + 2 * s.terminal.spacing ≤ 2 * s.frame.ury
  pub no_more_rows : (k : ℕ) → 2 * row_y s k + s.terminal.size_y + 2 * s.terminal.spacing ≤ 2 * s.frame.ury → k < up s
