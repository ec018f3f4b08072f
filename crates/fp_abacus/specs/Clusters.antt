-- Runs of cells that touch and stand best as a whole at one level. Nothing here knows what kind of cell it is.
use Rattle.std.specs.Prelude.{ℤ, pos, ◌+ℤ◌, ◌-ℤ◌, ◌≤ℤ◌, ◌<ℤ◌, List}
use Rattle.fp_rows.specs.Runs.{total, FirstsAtMostZero, LastsAtLeastZero, rises}

-- A run of touching cells, the first of them `offset` behind its level, stands best as a whole at its level, and no part of it would
-- stand better elsewhere: the costs of its first few do not rise up to it, nor do those of its last few fall from it.
pub record IsRunAt {Cell : Type 0} (width : Cell → ℤ) (rise : Cell → ℤ → ℤ) (offset : ℤ) (run : List Cell) (level : ℤ) : Type 0 where
  pub firsts : FirstsAtMostZero (pos 0) (rises width rise ((level -ℤ pos 1) +ℤ offset) run)
  pub lasts : LastsAtLeastZero (pos 0) (rises width rise (level +ℤ offset) run)
  pub below : total (rises width rise ((level -ℤ pos 1) +ℤ offset) run) <ℤ pos 0
  pub reached : pos 0 ≤ℤ total (rises width rise (level +ℤ offset) run)
