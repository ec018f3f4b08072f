-- What a verdict leaves of the output.
use Rattle.std.specs.Prelude.{◌≡◌, ◌⊎◌, ℕ, List, Option, pos}
use Rattle.fp_netlist.specs.Netlist.{Netlist}
use Rattle.fp_place.specs.declared.judge.Subject.{Subject}
use Rattle.fp_place.specs.Breaks.{IsFirstBreak}
use Rattle.fp_place.specs.Drawing.{Drawing}
use Rattle.fp_place.specs.Legal.{IsLegal}
use Rattle.faceplace.specs.Report.{score_report, broken_report}
use Rattle.faceplace.specs.Drawn.{drawn_score}
use Rattle.faceplace.specs.Status.{Refuses}

-- the drawing is legal, and its score is told
pub record TellsScore (p : Netlist) (drawing : Drawing) (status : ℕ) (old new : Option (List ℕ)) (before after : ℕ) : Type 0 where
  pub legal : IsLegal p drawing
  pub total : ℕ
  pub scored : pos total ≡ drawn_score p drawing
  pub tells : Refuses (score_report total) 0 status old new before after

-- it breaks a rule, and that is told
pub record TellsBreak (p : Netlist) (drawing : Drawing) (status : ℕ) (old new : Option (List ℕ)) (before after : ℕ) : Type 0 where
  pub rule : ℕ
  pub subject : Subject
  pub breaks : IsFirstBreak p drawing rule subject
  pub tells : Refuses (broken_report p rule subject) 5 status old new before after

-- memory ran out, and nothing is told
pub record TellsNothing (status : ℕ) (old new : Option (List ℕ)) (before after : ℕ) : Type 0 where
  pub status_is : status ≡ 1
  pub quiet : new ≡ old
  pub steady : after ≡ before

abbrev pub Reports : Netlist → Drawing → ℕ → Option (List ℕ) → Option (List ℕ) → ℕ → ℕ → Type 0
Reports p drawing status old new before after =
    TellsScore p drawing status old new before after ⊎ TellsBreak p drawing status old new before after ⊎ TellsNothing status old new before after
