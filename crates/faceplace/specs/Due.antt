-- What the words and the files make due.
use Rattle.std.specs.Prelude.{◌≡◌, ◌⊎◌, ℕ, List, [], ◌∷◌, ◌++◌, length, Option, Some, None, pos}
use Rattle.fp_base.specs.Files.{Files}
use Rattle.fp_tech.specs.Slots.{Slots, slot_count, IsGrid}
use Rattle.fp_netlist.specs.Netlist.{Netlist, IsSound}
use Rattle.fp_place.specs.declared.judge.Subject.{Subject}
use Rattle.fp_place.specs.Breaks.{IsFirstBreak}
use Rattle.fp_place.specs.Drawing.{Drawing}
use Rattle.fp_place.specs.Legal.{IsLegal}
use Rattle.fp_place.specs.Placed.{Placed, drawn_of}
use Rattle.fp_out.specs.OutText.{out_text}
use Rattle.fp_cert.specs.CertText.{cert_text}
use Rattle.fp_cert.specs.declared.finding.Finding.TheVariants.{Yes, No}
use Rattle.fp_cert.specs.Shown.{ShownRun}
use Rattle.fp_cert.specs.Standing.{placed_shown}
use Rattle.fp_cert.specs.Trials.{answer_of}
use Rattle.fp_flow.specs.Outcomes.{IsPlaced}
use Rattle.fp_check.specs.Conditions.{CertOk, FirstFalse}
use Rattle.fp_check.specs.Sound.{Shows}
use Rattle.faceplace.specs.declared.request.Making.{Making}
use Rattle.faceplace.specs.Request.{Asked, Seed, Score, Place, Check, Gen, Demo}
use Rattle.faceplace.specs.Report.{words_report, unfit_report, score_report, broken_report, finding_report, bytes_report}
use Rattle.faceplace.specs.Made.{text_made, IsMade, made_line}
use Rattle.faceplace.specs.Outcome.{Outcome, told, refusal}
use Rattle.faceplace.specs.Sources.{AfterFile, most_input, most_cert, problem_in, drawing_in, cert_in}
use Rattle.faceplace.specs.Drawn.{drawn_score}
use Rattle.faceplace.specs.Seeding.{Seeding, Stopping, IsSeeding, IsStopping, seed_text, IsSeedReport}
use Rattle.faceplace.specs.Trials.{place_report}

-- `seed`, 0: the problem's seed stands; it is written and reported
pub record SeedStands (p : Netlist) (output : List ℕ) (outcome : Outcome) : Type 0 where
  pub seeding : Seeding
  pub stands : IsSeeding p seeding
  pub line : List ℕ
  pub reports : IsSeedReport p seeding line
  pub is : outcome ≡ record { status = 0; report = line; writings = record { name = output; text = seed_text p seeding } ∷ [] }

-- 4: neither first fit of the problem stands
pub record SeedStops (p : Netlist) (outcome : Outcome) : Type 0 where
  pub stopping : Stopping
  pub stops : IsStopping p stopping
  pub is : outcome ≡ told 4 (unfit_report p stopping.top_first stopping.bottom_first)

abbrev pub SeedDue : Netlist → List ℕ → Outcome → Type 0
SeedDue p output outcome = SeedStands p output outcome ⊎ SeedStops p outcome

-- `score`, 0: the drawing is legal, and its score is reported
pub record ScoreStands (p : Netlist) (drawing : Drawing) (outcome : Outcome) : Type 0 where
  pub legal : IsLegal p drawing
  pub total : ℕ
  pub scored : pos total ≡ drawn_score p drawing
  pub is : outcome ≡ told 0 (score_report total)

-- 5: the drawing breaks a rule: the least one, with its first subject
pub record ScoreBreaks (p : Netlist) (drawing : Drawing) (outcome : Outcome) : Type 0 where
  pub rule : ℕ
  pub subject : Subject
  pub breaks : IsFirstBreak p drawing rule subject
  pub is : outcome ≡ told 5 (broken_report p rule subject)

abbrev pub ScoreDue : Netlist → Drawing → Outcome → Type 0
ScoreDue p drawing outcome = ScoreStands p drawing outcome ⊎ ScoreBreaks p drawing outcome

-- a placement is written, and then the certificate of the run that led to it; and this is reported
abbrev pub placing : Netlist → ShownRun → Placed → List ℕ → List ℕ → List ℕ → Outcome
placing p run answer output cert report = record {
  status = 0;
  report = report;
  writings = record { name = output; text = out_text p (drawn_of answer) } ∷ record { name = cert; text = cert_text run } ∷ [];
}

-- `place`, 0: a run of the problem of at most so many trials beside the first one; its answer is legal and no worse than the seed and than
-- each trial that placed its cells; the report stands behind a front, which is empty for `place`
pub record PlaceStands (front : List ℕ) (p : Netlist) (output cert : List ℕ) (trials : ℕ) (outcome : Outcome) : Type 0 where
  pub grid : Slots
  pub run : ShownRun
  pub seed_score : ℕ
  pub placed : IsPlaced p trials grid run seed_score (placed_shown p grid (answer_of run))
  pub is : outcome ≡ placing p run (placed_shown p grid (answer_of run)) output cert (front ++ place_report p seed_score run)

abbrev pub PlaceDue : List ℕ → Netlist → List ℕ → List ℕ → ℕ → Outcome → Type 0
PlaceDue front p output cert trials outcome = PlaceStands front p output cert trials outcome ⊎ SeedStops p outcome

-- `gen`, 0: the text of the input is written, and its length reported
abbrev pub generating : Making → List ℕ → Outcome
generating making output =
    record { status = 0; report = bytes_report (length (text_made making)); writings = record { name = output; text = text_made making } ∷ [] }

-- `demo`: what is due for a placement of the problem that the input says, in 3 trials, behind the line of its counts
abbrev pub DemoDue : Making → List ℕ → List ℕ → Outcome → Type 0
DemoDue making output cert outcome = (p : Netlist) × IsMade making p × PlaceDue (made_line making p) p output cert 3 outcome

-- `check`, 0: all sixteen conditions hold of the drawing and the run, and so the drawing is a legal placement, that of the answer of the
-- problem's run of trials
pub record CheckStands (p : Netlist) (drawing : Drawing) (run : ShownRun) (outcome : Outcome) : Type 0 where
  pub ok : CertOk p drawing run
  pub shows : Shows p drawing run
  pub is : outcome ≡ told 0 (finding_report Yes)

-- 5: a condition is false: the first of them
pub record CheckFails (p : Netlist) (drawing : Drawing) (run : ShownRun) (outcome : Outcome) : Type 0 where
  pub number : ℕ
  pub first : FirstFalse p drawing run number
  pub is : outcome ≡ told 5 (finding_report (No number))

abbrev pub CheckDue : Netlist → Drawing → ShownRun → Outcome → Type 0
CheckDue p drawing run outcome = CheckStands p drawing run outcome ⊎ CheckFails p drawing run outcome

-- 3: the input file is not held, too long, or not in its grammar; else what comes next for the problem that it says, which is sound
abbrev pub AfterInput : Option Files → List ℕ → (Netlist → Type 0) → Outcome → Type 0
AfterInput held input next outcome =
    AfterFile held (problem_in input) (λ p. IsSound p × next p) (λ cause. outcome ≡ refusal most_input input cause)

-- 3: the output file is not held, too long, or not in its grammar for the problem; else what comes next for the drawing that it says
abbrev pub AfterOutput : Option Files → Netlist → List ℕ → (Drawing → Type 0) → Outcome → Type 0
AfterOutput held p output next outcome = AfterFile held (drawing_in p output) next (λ cause. outcome ≡ refusal most_input output cause)

-- 3: the certificate is not held, too long, or not in its grammar for the problem and its grid; else what comes next for the run that it
-- shows
abbrev pub AfterCert : Option Files → Netlist → List ℕ → (ShownRun → Type 0) → Outcome → Type 0
AfterCert held p cert next outcome =
    (grid : Slots) × IsGrid p.plan.frame p.plan.terminal grid × AfterFile held (cert_in p (slot_count grid) cert) next (λ cause. outcome ≡ refusal most_cert cert cause)

-- 2: the words are no request
abbrev pub IsDue : Option Asked → Option Files → Outcome → Type 0
IsDue None held outcome = outcome ≡ told 2 words_report
IsDue (Some (Seed input output)) held outcome = AfterInput held input (λ p. SeedDue p output outcome) outcome
IsDue (Some (Score input output)) held outcome =
    AfterInput held input (λ p. AfterOutput held p output (λ drawing. ScoreDue p drawing outcome) outcome) outcome
IsDue (Some (Place input output cert trials)) held outcome = AfterInput held input (λ p. PlaceDue [] p output cert trials outcome) outcome
IsDue (Some (Check input output cert)) held outcome =
    AfterInput held input (λ p. AfterOutput held p output (λ drawing. AfterCert held p cert (λ run. CheckDue p drawing run outcome) outcome) outcome) outcome
IsDue (Some (Gen making output)) held outcome = outcome ≡ generating making output
IsDue (Some (Demo making output cert)) held outcome = DemoDue making output cert outcome
