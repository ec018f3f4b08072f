-- How rows are cut: one sweep over the blockages of a die by their left edge.
use Rattle.std.specs.Global.{Vec}
use Rattle.std.specs.Prelude.{◌≡◌, ℕ, ◌-◌, Bool, true, false, ◌&&◌, not, nat_le, nat_lt, if◌then◌else◌, List, [], ◌∷◌, length, map, filter, flat_map, Result, Ok, Err}
use Rattle.std.specs.List.{list_any, range_with_len}
use Rattle.std.specs.List.Sorted.{IsPermutation, IsNonDecreasingBy}
use Rattle.fp_base.specs.declared.ids.Die.{Die}
use Rattle.fp_tech.specs.declared.dies.Block.{Block}
use Rattle.fp_tech.specs.declared.dies.DieSpec.{DieSpec}
use Rattle.fp_tech.specs.declared.dies.Segment.{Segment}
use Rattle.fp_tech.specs.declared.dies.DiesFault.{DiesFault}
use Rattle.fp_tech.specs.declared.dies.DiesFault.TheVariants.{RowsOutside, TooMany, Memory}
use Rattle.fp_tech.specs.Plan.{most_segments}
use Rattle.fp_tech.specs.Rows.{same_die, base_of, meets, runs, row_segments, segment_of}

-- A list has the blockages of one die, each as often as they have it, by rising left edge.
pub record AreOwn (die : Die) (blocks own : List Block) : Type 0 where
  pub kept : IsPermutation (filter (λ (block : Block). same_die block.die die) blocks) own
  pub by_left : IsNonDecreasingBy (λ (block : Block). block.llx) own

-- A blockage covers a place of a row, whatever its die is.
abbrev pub spans : DieSpec → ℕ → ℕ → Block → Bool
spans spec row x block = meets spec row block && (nat_le block.llx x && nat_lt x block.urx)

-- None of these blockages covers the place.
abbrev pub is_free : DieSpec → List Block → ℕ → ℕ → Bool
is_free spec own row x = not (list_any (spans spec row x) own)

-- These are the greatest pieces of a row that none of these blockages covers, from the left.
abbrev pub pieces : DieSpec → List Block → ℕ → List Segment
pieces spec own row = map (segment_of (base_of spec row)) (runs (is_free spec own row) spec.start_x spec.length)

-- The places from one up to another are a segment, if there are any.
abbrev pub piece : ℕ → ℕ → ℕ → List Segment
piece y at end = if nat_lt at end then segment_of y (record { start = at; count = end - at }) ∷ [] else []

-- These are the segments of a die, row by row upwards.
abbrev pub all_cut : DieSpec → Die → List Block → List Segment
all_cut spec die blocks = flat_map (row_segments spec die blocks) (range_with_len 0 spec.repeat)

-- The rows of a die are cut into its segments exactly where these are at most 2^16.
abbrev pub Cuts : DieSpec → Die → List Block → Result (Vec Segment) DiesFault → Type 0
Cuts spec die blocks (Ok segments) = (segments.items ≡ all_cut spec die blocks) × (nat_le (length (all_cut spec die blocks)) most_segments ≡ true)
Cuts spec die blocks (Err (TooMany at)) = (at ≡ die) × (nat_le (length (all_cut spec die blocks)) most_segments ≡ false)
Cuts spec die blocks (Err (RowsOutside at)) = ⊥
Cuts spec die blocks (Err Memory) = Unit {0}
