-- How a run ends: what the files and the output were before the call and are after it.
use Rattle.std.specs.Prelude.{◌≡◌, ◌⊎◌, ℕ, List, ◌∷◌, ◌++◌, Option, Some, None, Result, Ok}
use Rattle.fp_base.specs.Faults.{Rose}
use Rattle.fp_base.specs.Files.{Files, WhereTold, OthersStay, followed_by, FrontFollows}
use Rattle.fp_netlist.specs.Netlist.{Netlist, IsSound}
use Rattle.fp_place.specs.Drawing.{Drawing}
use Rattle.faceplace.specs.Request.{Asked, Seed, Score, Place, Check, Gen, Demo}
use Rattle.faceplace.specs.Report.{Cause}
use Rattle.faceplace.specs.Outcome.{Writing, Outcome, with_writings}
use Rattle.faceplace.specs.Sources.{AfterFile, problem_in, drawing_in}
use Rattle.faceplace.specs.Due.{IsDue}

-- the outside at one moment, as far as it is told: the held files, the bytes written so far, and the counts of faults
pub record Outside : Type 0 where
  pub held : Option Files
  pub written : Option (List ℕ)
  pub folder_faults : ℕ
  pub sink_faults : ℕ

abbrev pub outside : Option Files → Option (List ℕ) → ℕ → ℕ → Outside
outside held written folder_faults sink_faults = record { held = held; written = written; folder_faults = folder_faults; sink_faults = sink_faults }

-- no file changed
abbrev pub SameFiles : Outside → Outside → Type 0
SameFiles old new = new.held ≡ old.held

abbrev pub NothingPut : Outside → Outside → Type 0
NothingPut old new = (new.written ≡ old.written) × (new.sink_faults ≡ old.sink_faults)

-- what is due was done: its files are written, its report was put, and the status is its own
pub record IsDone (asked : Option Asked) (status : ℕ) (old new : Outside) : Type 0 where
  pub outcome : Outcome
  pub due : IsDue asked old.held outcome
  pub status_is : status ≡ outcome.status
  pub files : new.held ≡ with_writings outcome.writings old.held
  pub reports : new.written ≡ followed_by outcome.report old.written

-- memory ran out, before anything was done
pub record IsWanting (status : ℕ) (old new : Outside) : Type 0 where
  pub status_is : status ≡ 1
  pub files : SameFiles old new
  pub nothing : NothingPut old new

-- the file of this name is the first that was not read, or what another says leads to it
abbrev pub UpTo : {A : Type 0} → Option Files → List ℕ → (Files → Result A Cause) → (A → Type 0) → List ℕ → Type 0
UpTo held name reading next unread = (unread ≡ name) ⊎ AfterFile held reading next (λ cause. ⊥)

-- the file of this name is the first of the request's files, in the order of the words, that was not read; those before it say something
abbrev pub IsUnread : Option Asked → Option Files → List ℕ → Type 0
IsUnread None held unread = ⊥
IsUnread (Some (Seed input output)) held unread = UpTo held input (problem_in input) (λ p. ⊥) unread
IsUnread (Some (Score input output)) held unread = UpTo held input (problem_in input) (λ p. unread ≡ output) unread
IsUnread (Some (Place input output cert trials)) held unread = UpTo held input (problem_in input) (λ p. ⊥) unread
IsUnread (Some (Check input output cert)) held unread =
    UpTo held input (problem_in input) (λ p. UpTo held output (drawing_in p output) (λ drawing. unread ≡ cert) unread) unread
IsUnread (Some (Gen making output)) held unread = ⊥
IsUnread (Some (Demo making output cert)) held unread = ⊥

-- the folder failed at reading a file: nothing was done. A count of faults is the folder's and names no file, so that this one failed is not told by it.
pub record FailsAtReading (asked : Option Asked) (status : ℕ) (old new : Outside) : Type 0 where
  pub name : List ℕ
  pub unread : IsUnread asked old.held name
  pub status_is : status ≡ 6
  pub rose : Rose old.folder_faults new.folder_faults
  pub files : SameFiles old new
  pub nothing : NothingPut old new

-- the folder failed at writing a file that is due: those before it are written, this one may hold anything, the others stay, and nothing was put
pub record FailsAtWriting (asked : Option Asked) (status : ℕ) (old new : Outside) : Type 0 where
  pub outcome : Outcome
  pub due : IsDue asked old.held outcome
  pub done : List Writing
  pub writing : Writing
  pub rest : List Writing
  pub writings : outcome.writings ≡ done ++ writing ∷ rest
  pub status_is : status ≡ 6
  pub rose : Rose old.folder_faults new.folder_faults
  pub files : OthersStay writing.name (with_writings done old.held) new.held
  pub nothing : NothingPut old new

-- the sink failed at the report that is due: the files are written, and a front of the report was put
pub record FailsAtReport (asked : Option Asked) (status : ℕ) (old new : Outside) : Type 0 where
  pub outcome : Outcome
  pub due : IsDue asked old.held outcome
  pub status_is : status ≡ 6
  pub files : new.held ≡ with_writings outcome.writings old.held
  pub rose : Rose old.sink_faults new.sink_faults
  pub front : FrontFollows outcome.report old.written new.written

-- a run ends with this status
abbrev pub EndsAs : Option Asked → ℕ → Outside → Outside → Type 0
EndsAs asked status old new = IsDone asked status old new ⊎ IsWanting status old new
    ⊎ FailsAtReading asked status old new ⊎ FailsAtWriting asked status old new ⊎ FailsAtReport asked status old new

-- the input file of this name says this problem
pub record InputSays (p : Netlist) (input : List ℕ) (held : Option Files) : Type 0 where
  pub sound : IsSound p
  pub says : WhereTold held (λ files. Ok p ≡ problem_in input files)

-- a run ends with this status from where it has read the problem of its input file, whatever that file's name
abbrev pub EndsForProblem : Netlist → (List ℕ → Asked) → ℕ → Outside → Outside → Type 0
EndsForProblem p asked status old new = (input : List ℕ) → InputSays p input old.held → EndsAs (Some (asked input)) status old new

-- a run ends with this status, whatever was asked for that makes such outcomes due
abbrev pub EndsWhereDue : (Outcome → Type 0) → ℕ → Outside → Outside → Type 0
EndsWhereDue Due status old new = (asked : Option Asked) → ((outcome : Outcome) → Due outcome → IsDue asked old.held outcome) → EndsAs asked status old new

-- the output file of this name says this drawing for a problem
pub record OutputSays (p : Netlist) (drawing : Drawing) (output : List ℕ) (held : Option Files) : Type 0 where
  pub says : WhereTold held (λ files. Ok drawing ≡ drawing_in p output files)

-- a run ends with this status from where it has read the drawing of its output file too
abbrev pub EndsForDrawing : Netlist → Drawing → List ℕ → (List ℕ → Asked) → ℕ → Outside → Outside → Type 0
EndsForDrawing p drawing output asked status old new = (input : List ℕ) → InputSays p input old.held → OutputSays p drawing output old.held → EndsAs (Some (asked input)) status old new
