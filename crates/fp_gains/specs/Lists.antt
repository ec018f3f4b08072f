-- Lists of numbers, kept one behind the other, with where each begins.
use Rattle.std.specs.Prelude.{◌≡◌, ℕ, ◌+◌, ◌-◌, ◌<◌, ◌≤◌, List, [], ◌∷◌, length, slice_index, get_or}
use Rattle.std.specs.List.{slice_range}

-- the lists between a start and these ends, each from where the one before ends
unfoldable pub parts_from : ℕ → List ℕ → List ℕ → List (List ℕ)
parts_from start [] items = []
parts_from start (end ∷ ends) items = slice_range items start end ∷ parts_from end ends items

unfoldable pub parts : List ℕ → List ℕ → List (List ℕ)
parts [] items = []
parts (start ∷ ends) items = parts_from start ends items

-- starts, with the end of the last list behind them
pub record AreStarts (starts : List ℕ) (total : ℕ) : Type 0 where
  pub some : 0 < length starts
  pub rises : (k : ℕ) → k + 1 < length starts → slice_index starts k ≤ slice_index starts (k + 1)
  pub within : (k : ℕ) → k < length starts → slice_index starts k ≤ total
  pub last : slice_index starts (length starts - 1) ≡ total

-- one of the lists
abbrev pub list_at : List (List ℕ) → ℕ → List ℕ
list_at lists k = get_or lists k []
