-- How a run ends by what a verdict left of the output.
use Rattle.std.proofs.Common.{◌≡◌, ℕ, List, Some, Ok, refl, inl, inr}
use Rattle.fp_base.specs.Files.{WhereTold}
use Rattle.fp_netlist.specs.Netlist.{Netlist}
use Rattle.fp_place.specs.Drawing.{Drawing}
use Rattle.faceplace.specs.Request.{Score}
use Rattle.faceplace.specs.Report.{score_report, broken_report}
use Rattle.faceplace.specs.Outcome.{Outcome, told}
use Rattle.faceplace.specs.Sources.{drawing_in}
use Rattle.faceplace.specs.Due.{ScoreDue, IsDue}
use Rattle.faceplace.specs.Judging.{Reports}
use Rattle.faceplace.specs.Run.{Outside, EndsAs, InputSays}
use Rattle.faceplace.proofs.Endings.{refused}

-- the verdict on a drawing was told, or memory ran out
pub judged : (input output : List ℕ) (p : Netlist) (drawing : Drawing) (status : ℕ) (old new : Outside) → InputSays p input old.held
    → WhereTold old.held (λ files. Ok drawing ≡ drawing_in p output files) → new.held ≡ old.held
    → Reports p drawing status old.written new.written old.sink_faults new.sink_faults → EndsAs (Some (Score input output)) status old new
judged input output p drawing status old new says draws same reports = by reports
  where
    due : (outcome : Outcome) → ScoreDue p drawing outcome → IsDue (Some (Score input output)) old.held outcome
    due outcome is = (Ok p, says.says, (says.sound, (Ok drawing, draws, is)))

    by : Reports p drawing status old.written new.written old.sink_faults new.sink_faults → EndsAs (Some (Score input output)) status old new
    by (inl t) =
        refused (Some (Score input output)) 0 status (score_report t.total) old new
        (due (told 0 (score_report t.total)) (inl (record { legal = t.legal; total = t.total; scored = t.scored; is = refl }))) same t.tells
    by (inr (inl t)) =
        refused (Some (Score input output)) 5 status (broken_report p t.rule t.subject) old new
        (due (told 5 (broken_report p t.rule t.subject)) (inr (record { rule = t.rule; subject = t.subject; breaks = t.breaks; is = refl }))) same t.tells
    by (inr (inr nothing)) = inr (inl (record { status_is = nothing.status_is; files = same; nothing = (nothing.quiet, nothing.steady) }))
