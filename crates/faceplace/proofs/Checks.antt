-- What a check finds, as the program's endings say it.
use Rattle.std.proofs.Common.{◌≡◌, ℕ, refl, sym, ap, subst, ◌∙◌, inl, inr}
use Rattle.fp_tech.specs.Slots.{Slots, slot_count, IsGrid}
use Rattle.fp_tech.specs.SlotsLaws.{grid_once}
use Rattle.fp_netlist.specs.Netlist.{Netlist, IsSound}
use Rattle.fp_place.specs.Drawing.{Drawing}
use Rattle.fp_cert.specs.declared.finding.Finding.{Finding}
use Rattle.fp_cert.specs.declared.finding.Finding.TheVariants.{Yes, No}
use Rattle.fp_cert.specs.OfProblem.{IsRunOf}
use Rattle.fp_cert.specs.Shown.{ShownRun}
use Rattle.fp_check.specs.Conditions.{Holds, CertOk, FirstFalse, Finds}
use Rattle.fp_check.specs.Answers.{AreNetsOf}
use Rattle.fp_check.specs.SoundLaws.{sound}
use Rattle.faceplace.specs.Checking.{finding_status}
use Rattle.faceplace.specs.Due.{CheckDue}
use Rattle.faceplace.specs.Outcome.{Outcome, told}
use Rattle.faceplace.specs.Owed.{CheckOwes}
use Rattle.faceplace.specs.Report.{finding_report}

-- a run of a problem, over its grid
abbrev pub IsRunFor : Netlist → ShownRun → Type 0
IsRunFor p run = (grid : Slots) → IsGrid p.plan.frame p.plan.terminal grid → IsRunOf p (slot_count grid) run

-- what is due for a finding
pub finding_due : (p : Netlist) (drawing : Drawing) (run : ShownRun) (finding : Finding) → IsSound p → IsRunFor p run → AreNetsOf p drawing → Finds p drawing run finding
    → CheckDue p drawing run (told (finding_status finding) (finding_report finding))
finding_due p drawing run Yes is of nets ok = inl (record { ok = ok; shows = sound p drawing run is nets of ok; is = refl })
finding_due p drawing run (No number) is of nets first = inr (record { number = number; first = first; is = refl })

-- where a condition is false, not all hold
not_both : (p : Netlist) (drawing : Drawing) (run : ShownRun) (number : ℕ) → FirstFalse p drawing run number → CertOk p drawing run → ⊥
not_both p drawing run number is ok =
    let one : ok.0 ≡ is.grid = grid_once p.plan.frame p.plan.terminal ok.0 is.grid ok.1 is.is_grid in
    is.first.false_one (subst (λ grid. Holds p grid drawing run is.condition) one (ok.2 is.condition))

-- what is due for a drawing and a run has the status that is owed
pub check_owed : (p : Netlist) (drawing : Drawing) (run : ShownRun) (outcome : Outcome) (status : ℕ) → CheckDue p drawing run outcome → CheckOwes p drawing run status
    → outcome.status ≡ status
check_owed p drawing run outcome status (inl due) (inl owed) = ap (λ (o : Outcome). o.status) due.is ∙ sym owed.1
check_owed p drawing run outcome status (inl due) (inr owed) = absurd (owed.0 due.ok)
check_owed p drawing run outcome status (inr due) (inl owed) = absurd (not_both p drawing run due.number due.first owed.0)
check_owed p drawing run outcome status (inr due) (inr owed) = ap (λ (o : Outcome). o.status) due.is ∙ sym owed.1
