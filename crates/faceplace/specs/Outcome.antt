-- What a run that is done leaves: a status, a report, and the files that are written.
use Rattle.std.specs.Prelude.{ℕ, List, [], ◌∷◌, Option}
use Rattle.fp_base.specs.Files.{Files, sets_file}
use Rattle.faceplace.specs.Report.{Cause, input_report}

-- a file that is written whole
pub record Writing : Type 0 where
  pub name : List ℕ
  pub text : List ℕ

pub record Outcome : Type 0 where
  pub status : ℕ
  pub report : List ℕ
  pub writings : List Writing

-- the files with those that are written, one after the other
abbrev pub with_writings : List Writing → Option Files → Option Files
with_writings [] held = held
with_writings (writing ∷ others) held = with_writings others (sets_file writing.name (λ _. writing.text) held)

-- a status and its report alone
abbrev pub told : ℕ → List ℕ → Outcome
told status report = record { status = status; report = report; writings = [] }

-- 3: a file of a name, which may have so many bytes, is refused
abbrev pub refusal : ℕ → List ℕ → Cause → Outcome
refusal limit name cause = told 3 (input_report limit name cause)
