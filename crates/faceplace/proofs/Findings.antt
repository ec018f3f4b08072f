-- How a run ends by what a check left of the output.
use Rattle.std.proofs.Common.{◌≡◌, ℕ, List, Some, Ok, inl, inr}
use Rattle.fp_base.specs.Files.{WhereTold}
use Rattle.fp_tech.specs.Slots.{Slots, slot_count, IsGrid}
use Rattle.fp_netlist.specs.Netlist.{Netlist}
use Rattle.fp_place.specs.Drawing.{Drawing}
use Rattle.fp_cert.specs.Shown.{ShownRun}
use Rattle.fp_check.specs.Answers.{AreNetsOf}
use Rattle.faceplace.specs.Checking.{finding_status, TellsFinding}
use Rattle.faceplace.specs.Due.{CheckDue, IsDue}
use Rattle.faceplace.specs.Outcome.{Outcome, told}
use Rattle.faceplace.specs.Report.{finding_report}
use Rattle.faceplace.specs.Request.{Check}
use Rattle.faceplace.specs.Sources.{cert_in}
use Rattle.faceplace.specs.Run.{Outside, EndsAs, InputSays, OutputSays}
use Rattle.faceplace.proofs.Checks.{IsRunFor, finding_due}
use Rattle.faceplace.proofs.Endings.{refused}

-- what was found was told, or memory ran out
pub found : (input output cert : List ℕ) (p : Netlist) (grid : Slots) (drawing : Drawing) (run : ShownRun) (status : ℕ) (old new : Outside) → InputSays p input old.held
    → OutputSays p drawing output old.held → IsGrid p.plan.frame p.plan.terminal grid → WhereTold old.held (λ files. Ok run ≡ cert_in p (slot_count grid) cert files)
    → IsRunFor p run → AreNetsOf p drawing → new.held ≡ old.held → TellsFinding p drawing run status old.written new.written old.sink_faults new.sink_faults
    → EndsAs (Some (Check input output cert)) status old new
found input output cert p grid drawing run status old new says draws is_grid shows of nets same tells = by tells
  where
    due : (outcome : Outcome) → CheckDue p drawing run outcome → IsDue (Some (Check input output cert)) old.held outcome
    due outcome is = (Ok p, says.says, (says.sound, (Ok drawing, draws.says, (grid, is_grid, (Ok run, shows, is)))))

    by : TellsFinding p drawing run status old.written new.written old.sink_faults new.sink_faults → EndsAs (Some (Check input output cert)) status old new
    by (inl t) =
        refused (Some (Check input output cert)) (finding_status t.finding) status (finding_report t.finding) old new
        (due (told (finding_status t.finding) (finding_report t.finding)) (finding_due p drawing run t.finding says.sound of nets t.finds)) same t.tells
    by (inr nothing) = inr (inl (record { status_is = nothing.status_is; files = same; nothing = (nothing.quiet, nothing.steady) }))
