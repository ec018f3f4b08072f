-- What a check leaves of the output.
use Rattle.std.specs.Prelude.{◌⊎◌, ℕ, List, Option}
use Rattle.fp_netlist.specs.Netlist.{Netlist}
use Rattle.fp_place.specs.Drawing.{Drawing}
use Rattle.fp_cert.specs.declared.finding.Finding.{Finding}
use Rattle.fp_cert.specs.declared.finding.Finding.TheVariants.{Yes, No}
use Rattle.fp_cert.specs.Shown.{ShownRun}
use Rattle.fp_check.specs.Conditions.{Finds}
use Rattle.faceplace.specs.Judging.{TellsNothing}
use Rattle.faceplace.specs.Report.{finding_report}
use Rattle.faceplace.specs.Status.{Refuses}

-- the status of a finding
abbrev pub finding_status : Finding → ℕ
finding_status Yes = 0
finding_status (No number) = 5

-- what is found is told,
pub record IsFound (p : Netlist) (drawing : Drawing) (run : ShownRun) (status : ℕ) (old new : Option (List ℕ)) (before after : ℕ) : Type 0 where
  pub finding : Finding
  pub finds : Finds p drawing run finding
  pub tells : Refuses (finding_report finding) (finding_status finding) status old new before after

-- or memory ran out, and nothing is told
abbrev pub TellsFinding : Netlist → Drawing → ShownRun → ℕ → Option (List ℕ) → Option (List ℕ) → ℕ → ℕ → Type 0
TellsFinding p drawing run status old new before after = IsFound p drawing run status old new before after ⊎ TellsNothing status old new before after
