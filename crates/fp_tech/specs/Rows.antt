-- The rows of a die, and the segments into which its blockages cut them.
use Rattle.std.specs.Prelude.{ℕ, zero, suc, ◌+◌, ◌*◌, Bool, true, false, ◌&&◌, ◌==◌, not, nat_le, nat_lt, if◌then◌else◌, ℤ, pos, ◌+ℤ◌, ◌≤ℤ◌, ◌⊎◌, List, [], ◌∷◌, map}
use Rattle.std.specs.List.{list_any}
use Rattle.fp_base.specs.declared.ids.Die.{Die}
use Rattle.fp_base.specs.declared.ids.Die.TheVariants.{Top, Bottom}
use Rattle.fp_tech.specs.declared.dies.Block.{Block}
use Rattle.fp_tech.specs.declared.dies.DieSpec.{DieSpec}
use Rattle.fp_tech.specs.declared.dies.Segment.{Segment}

abbrev pub same_die : Die → Die → Bool
same_die Top Top = true
same_die Top Bottom = false
same_die Bottom Top = false
same_die Bottom Bottom = true

-- the y of a row: rows are stacked upwards from the start by the row height
abbrev pub base_of : DieSpec → ℕ → ℕ
base_of spec i = spec.start_y + i * spec.height

-- so many places in a line, from the first on
pub record Run : Type 0 where
  pub start : ℕ
  pub count : ℕ

-- a place in front of intervals lengthens the first of them where it touches it
unfoldable pub joined : ℕ → List Run → List Run
joined at [] = record { start = at; count = 1 } ∷ []
joined at (run ∷ runs) = if run.start == at + 1 then record { start = at; count = run.count + 1 } ∷ runs else record { start = at; count = 1 } ∷ run ∷ runs

-- of so many places from `at` on, those that pass a test, in their greatest intervals
unfoldable pub runs : (ℕ → Bool) → ℕ → ℕ → List Run
runs passes at zero = []
runs passes at (suc n) = if passes at then joined at (runs passes (at + 1) n) else runs passes (at + 1) n

-- a blockage meets a row: it begins below the row's upper edge and ends above the lower one
abbrev pub meets : DieSpec → ℕ → Block → Bool
meets spec i block = nat_lt block.lly (base_of spec i + spec.height) && nat_lt (base_of spec i) block.ury

-- a blockage of the die covers a place of a row
abbrev pub covers : DieSpec → Die → ℕ → ℕ → Block → Bool
covers spec die i x block = same_die block.die die && (meets spec i block && (nat_le block.llx x && nat_lt x block.urx))

-- no blockage covers the place
abbrev pub is_clear : DieSpec → Die → List Block → ℕ → ℕ → Bool
is_clear spec die blocks i x = not (list_any (covers spec die i x) blocks)

abbrev pub segment_of : ℕ → Run → Segment
segment_of y run = record { y = pos y; start = pos run.start; length = pos run.count }

-- the segments of a row: the greatest intervals of its places that no blockage covers, from the left
abbrev pub row_segments : DieSpec → Die → List Block → ℕ → List Segment
row_segments spec die blocks i = map (segment_of (base_of spec i)) (runs (is_clear spec die blocks i) spec.start_x spec.length)

-- a whole row, as a segment
abbrev pub row_at : DieSpec → ℕ → Segment
row_at spec i = record { y = pos (base_of spec i); start = pos spec.start_x; length = pos spec.length }

-- A rectangle, by its lower left corner, its width and its height, does not overlap a blockage: on one of the axes one of them
-- ends before the other begins, or where it begins.
abbrev pub KeepsOff : (x y width height : ℤ) → Block → Type 0
KeepsOff x y width height block =
    (((x +ℤ width) ≤ℤ pos block.llx) ⊎ (pos block.urx ≤ℤ x))
    ⊎ (((y +ℤ height) ≤ℤ pos block.lly) ⊎ (pos block.ury ≤ℤ y))
