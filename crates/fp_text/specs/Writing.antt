-- A writer of a file, by the bytes that wait in it, and what a call of it leaves.
use Rattle.std.specs.Prelude.{◌≡◌, ℕ, ◌≤◌, Bool, true, false, if◌then◌else◌, List, [], Option, Some, None, option_map, unwrap_or}
use Rattle.fp_base.specs.Files.{Files, bytes_of, sets_file, followed_by, OthersStay}
use Rattle.fp_base.specs.Faults.{Rose}

-- the bytes that wait to be appended, and whether a call of the folder has failed
pub record Waiting : Type 0 where
  pub bytes : List ℕ
  pub failed : Bool

-- what a folder tells of itself
pub record Told : Type 0 where
  pub held : Option Files
  pub made : Option (List ℕ)
  pub faults : ℕ

abbrev pub told : {F : Type 0} → (F → Option Files) → (F → Option (List ℕ)) → (F → ℕ) → F → Told
told held made faults folder =
    record { held = held folder; made = made folder; faults = faults folder }

-- the bytes of a name, none where it is not held, where the folder tells what it holds
abbrev pub text_of : List ℕ → Told → Option (List ℕ)
text_of name folder = option_map (λ files. unwrap_or (bytes_of files name) []) folder.held

-- the text so far: what the name holds, and behind it what waits
abbrev pub so_far : List ℕ → Told → Waiting → Option (List ℕ)
so_far name folder writer = followed_by writer.bytes (text_of name folder)

-- a writer may go on: it has failed, or its name is the one that was last created
abbrev pub GoesOn : List ℕ → Told → Waiting → Type 0
GoesOn name folder writer = writer.failed ≡ false → folder.made ≡ Some name

-- what a new writer leaves: the name is created and empty, unless a call failed; no bytes wait
pub record Starts (name : List ℕ) (old new : Told) (writer : Waiting) : Type 0 where
  pub empty : writer.failed ≡ false → new.held ≡ sets_file name (λ _. []) old.held
  pub made : new.made ≡ (if writer.failed then None else Some name)
  pub none_wait : writer.bytes ≡ []
  pub others : OthersStay name old.held new.held
  pub later : old.faults ≤ new.faults
  pub cause : writer.failed ≡ true → Rose old.faults new.faults

-- What a call that adds a piece leaves: the text so far is longer by the piece, unless the writer
-- has failed. It comes to have failed only where the faults rose.
pub record Adds (name piece : List ℕ) (old new : Told) (before after : Waiting) : Type 0 where
  pub text : after.failed ≡ false
      → so_far name new after ≡ followed_by piece (so_far name old before)
  pub stays_failed : before.failed ≡ true → after.failed ≡ true
  pub cause : before.failed ≡ false → after.failed ≡ true → Rose old.faults new.faults
  pub others : OthersStay name old.held new.held
  pub made : new.made ≡ old.made
  pub later : old.faults ≤ new.faults

-- What the last call leaves, which may fail: the name then holds the whole text so far.
pub record Finishes (name : List ℕ) (old new : Told) (writer : Waiting)
    (failed : Bool) : Type 0 where
  pub holds : failed ≡ false
      → option_map (λ files. bytes_of files name) new.held ≡ option_map Some
      (so_far name old writer)
  pub stays_failed : writer.failed ≡ true → failed ≡ true
  pub cause : writer.failed ≡ false → failed ≡ true → Rose old.faults new.faults
  pub others : OthersStay name old.held new.held
  pub made : new.made ≡ old.made
  pub later : old.faults ≤ new.faults
