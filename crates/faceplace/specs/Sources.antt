-- What the files of a request say, as functions of what they hold.
use Rattle.std.specs.Prelude.{◌≡◌, ◌↔◌, ℕ, ◌^◌, nat_lt, if◌then◌else◌, List, length, Option, Some, None, Result, Ok, Err, MatchResult}
use Rattle.fp_base.specs.Files.{Files, WhereTold, bytes_of}
use Rattle.fp_text.specs.Reading.{Fault}
use Rattle.fp_netlist.specs.Netlist.{Netlist, IsSound}
use Rattle.fp_place.specs.Drawing.{Drawing}
use Rattle.fp_contest_in.specs.Text.{ProblemText, netlist_of}
use Rattle.fp_contest_in.specs.Grammar.{Reads}
use Rattle.fp_contest_in.specs.Statements.{problem_of}
use Rattle.fp_out.specs.OutGrammar.{ReadsOut}
use Rattle.fp_out.specs.OutReading.{out_of}
use Rattle.fp_cert.specs.CertGrammar.{ReadsCert}
use Rattle.fp_cert.specs.CertReading.{cert_of}
use Rattle.fp_cert.specs.Shown.{ShownRun}
use Rattle.faceplace.specs.Report.{Cause, IsMissing, IsLong, IsWrong}

-- the greatest length of an input or an output file
abbrev pub most_input : ℕ
most_input = 2 ^ 28

-- that of a certificate
abbrev pub most_cert : ℕ
most_cert = 2 ^ 30

-- a first fault is a cause of a refusal
abbrev pub wrong_of : {A : Type 0} → Result A Fault → Result A Cause
wrong_of (Ok a) = Ok a
wrong_of (Err fault) = Err (IsWrong fault.at fault.kind)

-- what a name's bytes say, of which there may be so many, or why they are refused
abbrev pub read_in : {A : Type 0} → ℕ → (List ℕ → Result A Fault) → Option (List ℕ) → Result A Cause
read_in limit reading None = Err IsMissing
read_in limit reading (Some bytes) = if nat_lt limit (length bytes) then Err IsLong else wrong_of (reading bytes)

-- the netlist of a problem that was read
abbrev pub netlist_read : Result ProblemText Fault → Result Netlist Fault
netlist_read (Ok text) = Ok (netlist_of text)
netlist_read (Err fault) = Err fault

abbrev pub problem_read : List ℕ → Result Netlist Fault
problem_read bytes = netlist_read (problem_of bytes)

-- the problem of an input file, or why the file is refused
abbrev pub problem_in : List ℕ → Files → Result Netlist Cause
problem_in name files = read_in most_input problem_read (bytes_of files name)

-- the drawing of an output file for a problem, or why the file is refused
abbrev pub drawing_in : Netlist → List ℕ → Files → Result Drawing Cause
drawing_in p name files = read_in most_input (out_of p) (bytes_of files name)

-- the run that a certificate shows for a problem with so many slots, or why the file is refused
abbrev pub cert_in : Netlist → ℕ → List ℕ → Files → Result ShownRun Cause
cert_in p slots name files = read_in most_cert (cert_of p slots) (bytes_of files name)

-- A file is read, and what comes next is by what it says, or by why it is refused. Where the folder tells its files, this is what they hold.
abbrev pub AfterFile : {A : Type 0} → Option Files → (Files → Result A Cause) → (A → Type 0) → (Cause → Type 0) → Type 0
AfterFile {A} held reading next refused = (read : Result A Cause) × WhereTold held (λ files. read ≡ reading files) × MatchResult read next refused

-- the readings from left to right, of which the above are made, agree with the grammars, by which a file says at most one thing
pub record ReadingsAgree : Type 0 where
  pub problems : (bytes : List ℕ) (text : ProblemText) → Reads bytes text ↔ (problem_of bytes ≡ Ok text)
  pub one_problem : (bytes : List ℕ) (a b : ProblemText) → Reads bytes a → Reads bytes b → a ≡ b
  pub drawings : (p : Netlist) → IsSound p → (bytes : List ℕ) (drawing : Drawing) → ReadsOut p bytes drawing ↔ (out_of p bytes ≡ Ok drawing)
  pub one_drawing : (p : Netlist) → IsSound p → (bytes : List ℕ) (a b : Drawing) → ReadsOut p bytes a → ReadsOut p bytes b → a ≡ b
  pub certs : (p : Netlist) → IsSound p → (slots : ℕ) (bytes : List ℕ) (run : ShownRun) → ReadsCert p slots bytes run ↔ (cert_of p slots bytes ≡ Ok run)
  pub one_run : (p : Netlist) → IsSound p → (slots : ℕ) (bytes : List ℕ) (a b : ShownRun) → ReadsCert p slots bytes a → ReadsCert p slots bytes b → a ≡ b
