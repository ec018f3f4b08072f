-- What a placement leaves that is done, as its files read back.
use Rattle.std.specs.Prelude.{◌≡◌, ℕ, List, [], ◌++◌, Option, Some, None, Ok}
use Rattle.fp_base.specs.Files.{Files, followed_by}
use Rattle.fp_tech.specs.Slots.{Slots, slot_count, IsGrid}
use Rattle.fp_netlist.specs.Netlist.{Netlist}
use Rattle.fp_place.specs.Drawing.{Drawing}
use Rattle.fp_cert.specs.Shown.{ShownRun}
use Rattle.fp_cert.specs.Trials.{IsChain}
use Rattle.fp_flow.specs.Outcomes.{IsSeedOf}
use Rattle.fp_check.specs.Conditions.{CertOk}
use Rattle.fp_check.specs.Sound.{Shows}
use Rattle.faceplace.specs.Request.{Asked, Seed, Score, Place, Check, Gen, Demo}
use Rattle.faceplace.specs.Sources.{problem_in, drawing_in, cert_in}
use Rattle.faceplace.specs.Made.{IsMade, made_line}
use Rattle.faceplace.specs.Trials.{place_report}
use Rattle.faceplace.specs.Run.{Outside}

-- The output file says a drawing, and the certificate a run, within the lengths that a check allows, and all sixteen conditions hold of them.
-- So the drawing is a legal placement; it is that of the answer of the problem's run of trials, in which each row has the least sum of
-- weighted squares of distances from its targets, in its order, and the cut nets have the slots of least wirelength, as the written duals and
-- prices show; and its score, which is reported behind the seed's and that of each trial, is at most each of them.
pub record IsShownBy (p : Netlist) (output cert : List ℕ) (limit : ℕ) (files : Files) (report : List ℕ) : Type 0 where
  pub grid : Slots
  pub is_grid : IsGrid p.plan.frame p.plan.terminal grid
  pub drawing : Drawing
  pub run : ShownRun
  pub output_says : drawing_in p output files ≡ Ok drawing
  pub cert_says : cert_in p (slot_count grid) cert files ≡ Ok run
  pub ok : CertOk p drawing run
  pub shows : Shows p drawing run
  pub chain : IsChain p grid limit run
  pub seed_score : ℕ
  pub seed : IsSeedOf p grid seed_score
  pub report_is : report ≡ place_report p seed_score run

-- the files that are left show the placement of a problem, and its report was put, behind a front
pub record HasLeft (front : List ℕ) (p : Netlist) (output cert : List ℕ) (limit : ℕ) (old new : Outside) : Type 0 where
  pub after : Files
  pub held : new.held ≡ Some after
  pub report : List ℕ
  pub shown : IsShownBy p output cert limit after report
  pub put : new.written ≡ followed_by (front ++ report) old.written

-- What was asked for left a placement: one of the problem that the input says, or one of the problem that the input that was made says, behind
-- the line of its counts.
abbrev pub LeavesPlaced : Option Asked → Files → Outside → Outside → Type 0
LeavesPlaced None before old new = Unit {0}
LeavesPlaced (Some (Seed input output)) before old new = Unit {0}
LeavesPlaced (Some (Score input output)) before old new = Unit {0}
LeavesPlaced (Some (Place input output cert limit)) before old new = (p : Netlist) × (problem_in input before ≡ Ok p) × HasLeft [] p output cert limit old new
LeavesPlaced (Some (Check input output cert)) before old new = Unit {0}
LeavesPlaced (Some (Gen making output)) before old new = Unit {0}
LeavesPlaced (Some (Demo making output cert)) before old new = (p : Netlist) × IsMade making p × HasLeft (made_line making p) p output cert 3 old new

-- where the folder tells its files, a placement that was asked for and is done
abbrev pub Headline : Option Asked → ℕ → Outside → Outside → Type 0
Headline asked status old new = (before : Files) → old.held ≡ Some before → status ≡ 0 → LeavesPlaced asked before old new
