-- What a folder holds and what a sink has been given, where they tell it.
use Rattle.std.specs.Prelude.{◌≡◌, ◌≢◌, ◌⊎◌, ℕ, ◌≤◌, List, [], ◌++◌, length, take, drop, Option, Some, None, option_map, unwrap_or, Result, Ok, Err}
use Rattle.std.specs.Ordering.{nat_cmp}
use Rattle.std.specs.Cmp.Lexicographic.{slice_cmp}
use Rattle.std.specs.FinMap.{FinMap, get, insert}
use Rattle.fp_base.specs.declared.folder.ReadFault.{ReadFault}
use Rattle.fp_base.specs.declared.folder.ReadFault.TheVariants.{Missing, Failed}

-- the held names, each with its bytes
abbrev pub Files : Type 0
Files = FinMap (slice_cmp nat_cmp) (List ℕ)

-- the bytes that a name holds, none where it is not held
abbrev pub bytes_of : Files → List ℕ → Option (List ℕ)
bytes_of files name = get files name

-- the files with this name holding these bytes
abbrev pub with_file : Files → List ℕ → List ℕ → Files
with_file files name bytes = insert files name bytes

-- a fact of what is held, where that is told
abbrev pub WhereTold : {T : Type 0} → Option T → (T → Type 0) → Type 0
WhereTold None fact = Unit {0}
WhereTold (Some told) fact = fact told

-- where a folder tells what it holds: the name then holds what `change` makes of the bytes it held (none: no bytes)
abbrev pub sets_file : List ℕ → (List ℕ → List ℕ) → Option Files → Option Files
sets_file name change held = option_map (λ files. with_file files name (change (unwrap_or (bytes_of files name) []))) held

-- every other name stays as it was; and what is told goes on being told, what is not told never is
abbrev pub OthersStay : List ℕ → Option Files → Option Files → Type 0
OthersStay name None None = Unit {0}
OthersStay name None (Some new) = ⊥
OthersStay name (Some old) None = ⊥
OthersStay name (Some old) (Some new) = (other : List ℕ) → other ≢ name → bytes_of new other ≡ bytes_of old other

-- What a read at an offset answers for the bytes that the name holds, with the buffer as it is afterwards:
-- the bytes from there, as many as it says, and none only at or past the end or for an empty buffer.
-- `Missing` comes exactly where the name is not held, unless the device failed.
abbrev pub ReadsAt : Option (List ℕ) → ℕ → Result ℕ ReadFault → List ℕ → Type 0
ReadsAt None at (Ok count) buffer = ⊥
ReadsAt (Some bytes) at (Ok count) buffer = (take count buffer ≡ take count (drop at bytes)) × (count ≡ 0 → (length bytes ≤ at) ⊎ (length buffer ≡ 0))
ReadsAt bytes at (Err Missing) buffer = bytes ≡ None
ReadsAt bytes at (Err Failed) buffer = Unit {0}

-- where a sink tells what was written: these bytes follow it
abbrev pub followed_by : List ℕ → Option (List ℕ) → Option (List ℕ)
followed_by piece written = option_map (λ bytes. bytes ++ piece) written

-- a front of the piece follows what was written
abbrev pub FrontFollows : List ℕ → Option (List ℕ) → Option (List ℕ) → Type 0
FrontFollows piece old new = (count : ℕ) × (count ≤ length piece) × (new ≡ followed_by (take count piece) old)
