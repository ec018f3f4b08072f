-- What the bytes of a file give: what they say, or why it is refused.
use Rattle.std.proofs.Common.{◌≡◌, ℕ, Bool, true, false, cond, List, length, Option, Some, None, Result, Ok, Err, refl, sym, ap, ◌∙◌}
use Rattle.std.specs.Prelude.{nat_lt}
use Rattle.fp_base.specs.Files.{Files, WhereTold, bytes_of}
use Rattle.fp_text.specs.Reading.{Fault, GivesFault}
use Rattle.fp_text.specs.declared.fault.TextFault.{TextFault}
use Rattle.fp_text.specs.declared.fault.TextFault.TheVariants as texts
use Rattle.fp_netlist.specs.Netlist.{Netlist}
use Rattle.fp_contest_in.specs.Text.{ProblemText}
use Rattle.fp_contest_in.specs.Statements.{GivesProblem}
use Rattle.faceplace.specs.Report.{Cause, IsLong}
use Rattle.faceplace.specs.Sources.{wrong_of, read_in, netlist_read}
use Rattle.faceplace.specs.Input.{as_bytes, bytes_in, GivesRead, stop_of}

-- what bytes that were read say
says : {A : Type 0} → (List ℕ → Result A Fault) → Result (List ℕ) Cause → Result A Cause
says reading (Ok bytes) = wrong_of (reading bytes)
says reading (Err cause) = Err cause

says_same : {A : Type 0} (limit : ℕ) (reading : List ℕ → Result A Fault) (bytes : Option (List ℕ)) → says reading (read_in limit as_bytes bytes) ≡ read_in limit reading bytes
unfolding says
says_same limit reading None = refl
says_same {A} limit reading (Some bytes) = by (nat_lt limit (length bytes))
  where
    by : (long : Bool) → says reading (cond long (Err IsLong) (Ok bytes)) ≡ cond long (Err IsLong) (wrong_of (reading bytes))
    by true = refl
    by false = refl

-- a file that has bytes says what they say
pub was_read : {A : Type 0} (limit : ℕ) (reading : List ℕ → Result A Fault) (held : Option Files) (name bytes : List ℕ) (a : A)
    → WhereTold held (λ files. Ok bytes ≡ bytes_in limit name files) → reading bytes ≡ Ok a → WhereTold held (λ files. Ok a ≡ read_in limit reading (bytes_of files name))
unfolding says
was_read limit reading None name bytes a whole reads = tt
was_read limit reading (Some files) name bytes a whole reads = sym (ap wrong_of reads) ∙ ap (says reading) whole ∙ says_same limit reading (bytes_of files name)

-- or is refused for their first fault
pub was_wrong : {X A : Type 0} (view : X → A) (limit : ℕ) (reading : List ℕ → Result A Fault) (held : Option Files) (name bytes : List ℕ) (found : TextFault)
    → WhereTold held (λ files. Ok bytes ≡ bytes_in limit name files) → GivesFault found (reading bytes)
    → GivesRead view held (λ files. read_in limit reading (bytes_of files name)) (Err (stop_of found))
unfolding says
was_wrong view limit reading None name bytes (texts.Wrong at kind) whole gives = tt
was_wrong view limit reading (Some files) name bytes (texts.Wrong at kind) whole gives =
    sym (ap wrong_of gives) ∙ ap (says reading) whole ∙ says_same limit reading (bytes_of files name)
was_wrong view limit reading held name bytes texts.Memory whole gives = tt

-- what a problem's bytes say
pub netlist_ok : (p : Netlist) (read : Result ProblemText Fault) → GivesProblem (Ok p) read → netlist_read read ≡ Ok p
netlist_ok p read (text, reads, is) = ap netlist_read reads ∙ ap netlist_as (sym is)
  where
    netlist_as : Netlist → Result Netlist Fault
    netlist_as q = Ok q

pub netlist_wrong : (found : TextFault) (read : Result ProblemText Fault) → GivesFault found read → GivesFault found (netlist_read read)
netlist_wrong (texts.Wrong at kind) read gives = ap netlist_read gives
netlist_wrong texts.Memory read gives = tt
