-- How the rows of columns are kept beside the columns of rows.
use Rattle.std.specs.Prelude.{◌≡◌, ℕ, ◌-◌, ◌^◌, ◌<◌, ◌≤◌, List, slice_index}

-- the owner of a column that no row has
abbrev pub unused : ℕ
unused = 2 ^ 32 - 1

-- The owners of columns are those of the first rows' columns.
pub record Agree (columns rows : ℕ) (chosen owner : List ℕ) : Type 0 where
  pub in_range : (n : ℕ) → n < rows → slice_index chosen n < columns
  pub owned : (n : ℕ) → n < rows → slice_index owner (slice_index chosen n) ≡ n
  pub holds : (s : ℕ) → s < columns → slice_index owner s < rows → slice_index chosen (slice_index owner s) ≡ s
  pub free : (s : ℕ) → s < columns → rows ≤ slice_index owner s → slice_index owner s ≡ unused
