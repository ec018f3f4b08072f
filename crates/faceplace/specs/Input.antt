-- What the readers of files answer for what the folder holds.
use Rattle.std.specs.Prelude.{◌≡◌, ℕ, List, Option, Result, Ok, Err}
use Rattle.fp_base.specs.Files.{Files, WhereTold, bytes_of}
use Rattle.fp_text.specs.declared.fault.TextFault.{TextFault}
use Rattle.fp_text.specs.declared.fault.TextFault.TheVariants as texts
use Rattle.fp_text.specs.Reading.{Fault}
use Rattle.faceplace.specs.declared.input.Stop.{Stop}
use Rattle.faceplace.specs.declared.input.Stop.TheVariants.{Memory, Device, Refused}
use Rattle.faceplace.specs.declared.report.Cause.TheVariants as causes
use Rattle.faceplace.specs.Report.{Cause}
use Rattle.faceplace.specs.Causes.{cause_of}
use Rattle.faceplace.specs.Sources.{read_in}

-- why a fault of a text stops
abbrev pub stop_of : TextFault → Stop
stop_of (texts.Wrong at kind) = Refused (causes.Wrong at kind)
stop_of texts.Memory = Memory

-- bytes say themselves
abbrev pub as_bytes : List ℕ → Result (List ℕ) Fault
as_bytes bytes = Ok bytes

-- the bytes of a file, of which there may be so many, or why it is refused
abbrev pub bytes_in : ℕ → List ℕ → Files → Result (List ℕ) Cause
bytes_in limit name files = read_in limit as_bytes (bytes_of files name)

-- where the folder tells its files, what a reader answers, seen by `view`, is what they say, or why they are refused
abbrev pub GivesRead : {X A : Type 0} → (X → A) → Option Files → (Files → Result A Cause) → Result X Stop → Type 0
GivesRead view held reading (Ok x) = WhereTold held (λ files. Ok (view x) ≡ reading files)
GivesRead view held reading (Err (Refused cause)) = WhereTold held (λ files. Err (cause_of cause) ≡ reading files)
GivesRead view held reading (Err Device) = Unit {0}
GivesRead view held reading (Err Memory) = Unit {0}
