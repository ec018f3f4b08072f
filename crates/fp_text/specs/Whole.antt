-- Whole files, and files that were read as far as some bytes.
use Rattle.std.specs.Prelude.{◌≡◌, ℕ, ◌<◌, List, [], length, take, Option, Some, None, Result, Ok, Err}
use Rattle.fp_text.specs.declared.whole.WholeFault.{WholeFault}
use Rattle.fp_text.specs.declared.whole.WholeFault.TheVariants.{Missing, Device, Long, Memory}

-- what the reader of a whole file of at most `most` bytes answers for the bytes that the name holds
abbrev pub IsWhole : {X : Type 0} → (X → List ℕ) → Option (List ℕ) → ℕ → Result X WholeFault
    → Type 0
IsWhole view held most (Ok x) = held ≡ Some (view x)
IsWhole view held most (Err Missing) = held ≡ None
IsWhole view held most (Err Long) = (bytes : List ℕ) × (held ≡ Some bytes) × (most < length bytes)
IsWhole view held most (Err Device) = Unit {0}
IsWhole view held most (Err Memory) = Unit {0}

-- these bytes are the front of what the name holds, none where it is not held
abbrev pub IsFront : Option (List ℕ) → List ℕ → Type 0
IsFront None front = front ≡ []
IsFront (Some bytes) front = front ≡ take (length front) bytes
