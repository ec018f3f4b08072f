-- A placement that is done is shown by its files, as they read back.
use Rattle.std.proofs.Common.{◌≡◌, ◌≢◌, ℕ, suc, ◌≤◌, ◌^◌, Bool, cond, List, [], ◌++◌, length, Option, Some, None, Result, Ok, Err, refl, sym, ap, subst, ◌∙◌, arith, inl, inr}
use Rattle.std.specs.Prelude.{MatchResult}
use Rattle.std.proofs.lemmas.Bool.{le-ltb}
use Rattle.fp_base.specs.Files.{Files, bytes_of, with_file, followed_by}
use Rattle.fp_base.specs.FilesLaws.{bytes_set, bytes_others}
use Rattle.fp_tech.specs.Slots.{Slots, slot_count}
use Rattle.fp_tech.specs.SlotsLaws.{grid_once}
use Rattle.fp_text.specs.Reading.{Fault}
use Rattle.fp_netlist.specs.Netlist.{Netlist, IsSound}
use Rattle.fp_place.specs.Placed.{Placed, drawn_of}
use Rattle.fp_flow.specs.Outcomes.{IsPlaced}
use Rattle.fp_out.specs.OutLengthLaws.{placement_short}
use Rattle.fp_out.specs.OutReading.{out_of}
use Rattle.fp_out.specs.OutReadingLaws.{is_in_read}
use Rattle.fp_out.specs.OutGrammar.{ReadsOut}
use Rattle.fp_out.specs.OutText.{out_text}
use Rattle.fp_out.specs.ReadBack.{reads_back}
use Rattle.fp_cert.specs.CertLengthLaws.{cert_short}
use Rattle.fp_cert.specs.CertReadBack.{says_run}
use Rattle.fp_cert.specs.CertReading.{cert_of}
use Rattle.fp_cert.specs.CertReadingLaws.{is_in_read as cert_is_read}
use Rattle.fp_cert.specs.CertText.{cert_text}
use Rattle.fp_cert.specs.OfProblem.{IsRunOf}
use Rattle.fp_cert.specs.Shown.{ShownRun}
use Rattle.fp_cert.specs.Standing.{placed_shown}
use Rattle.fp_cert.specs.Trials.{answer_of}
use Rattle.fp_check.specs.CompleteLaws.{complete}
use Rattle.fp_check.specs.Conditions.{CertOk}
use Rattle.fp_check.specs.SoundLaws.{sound}
use Rattle.faceplace.specs.Report.{Cause, IsLong}
use Rattle.faceplace.specs.Request.{Asked, Seed, Score, Place, Check, Gen, Demo}
use Rattle.faceplace.specs.Outcome.{Outcome, with_writings, refusal}
use Rattle.faceplace.specs.Sources.{most_input, most_cert, wrong_of, read_in, problem_in}
use Rattle.faceplace.specs.Due.{PlaceDue, IsDue}
use Rattle.faceplace.specs.Made.{text_made, IsMade, made_line}
use Rattle.faceplace.specs.Trials.{place_report}
use Rattle.faceplace.specs.Run.{Outside, EndsAs}
use Rattle.faceplace.specs.Headline.{IsShownBy, HasLeft, LeavesPlaced, Headline}
use Rattle.faceplace.proofs.Names.{HasNames, bytes_named, problem_named}
use Rattle.faceplace.proofs.Nets.{nets_read}
use Rattle.faceplace.proofs.Words.{KeepsApart}

-- a file that holds a short text says what the text says
says_text : {A : Type 0} (limit : ℕ) (reading : List ℕ → Result A Fault) (bytes : Option (List ℕ)) (text : List ℕ) (a : A) → bytes ≡ Some text → length text ≤ limit
    → reading text ≡ Ok a → read_in limit reading bytes ≡ Ok a
says_text limit reading bytes text a holds short reads =
    ap (read_in limit reading) holds
    ∙ ap (λ (long : Bool). cond long (Err IsLong) (wrong_of (reading text))) (le-ltb limit (length text) short)
    ∙ ap wrong_of reads

-- the files with those of a placement, the output file and then the certificate
abbrev placed_files : Files → Netlist → List ℕ → List ℕ → Placed → ShownRun → Files
placed_files before p output cert answer run = with_file (with_file before output (out_text p (drawn_of answer))) cert (cert_text run)

-- what is due for a placement, with its files written, shows it
shown : (p : Netlist) (output cert : List ℕ) (limit : ℕ) (before : Files) (grid : Slots) (run : ShownRun) (seed_score : ℕ) → IsSound p → HasNames p → output ≢ cert
    → IsPlaced p limit grid run seed_score (placed_shown p grid (answer_of run))
    → IsShownBy p output cert limit (placed_files before p output cert (placed_shown p grid (answer_of run)) run) (place_report p seed_score run)
shown p output cert limit before grid run seed_score is names apart placed = record {
  grid = grid;
  is_grid = placed.grid_is;
  drawing = drawn_of answer;
  run = run;
  output_says =
      says_text most_input (out_of p) (bytes_of (with_file written cert (cert_text run)) output) (out_text p (drawn_of answer)) (drawn_of answer)
      (bytes_others written cert (cert_text run) output apart ∙ bytes_set before output (out_text p (drawn_of answer)))
      (omega (arith, placement_short p answer is placed.of_problem names.cells names.nets))
      (is_in_read p is (out_text p (drawn_of answer)) (drawn_of answer) reads);
  cert_says =
      says_text most_cert (cert_of p (slot_count grid)) (bytes_of (with_file written cert (cert_text run)) cert) (cert_text run) run
      (bytes_set written cert (cert_text run))
      (omega (arith, cert_short p (slot_count grid) is few run placed.run_of_problem))
      (cert_is_read p (slot_count grid) is (cert_text run) run (says_run p (slot_count grid) is few run placed.run_of_problem));
  ok = ok;
  shows = sound p (drawn_of answer) run is (nets_read p (out_text p (drawn_of answer)) (drawn_of answer) reads)
      (λ other is_grid. subst (λ (g : Slots). IsRunOf p (slot_count g) run) (grid_once p.plan.frame p.plan.terminal grid other placed.grid_is is_grid) placed.run_of_problem) ok;
  chain = placed.chain;
  seed_score = seed_score;
  seed = placed.seed;
  report_is = refl;
}
  where
    answer : Placed
    answer = placed_shown p grid (answer_of run)

    written : Files
    written = with_file before output (out_text p (drawn_of answer))

    few : slot_count grid ≤ 2 ^ 30
    few = omega (arith, placed.grid_is.few)

    reads : ReadsOut p (out_text p (drawn_of answer)) (drawn_of answer)
    reads = reads_back p answer is placed.of_problem names.cells names.nets

    ok : CertOk p (drawn_of answer) run
    ok = complete p grid limit run is placed.grid_is placed.chain placed.certified

-- a placement that is due, with its files written and its report put
left : (front : List ℕ) (p : Netlist) (output cert : List ℕ) (limit : ℕ) (before : Files) (outcome : Outcome) (old new : Outside) → IsSound p → HasNames p → output ≢ cert
    → PlaceDue front p output cert limit outcome → outcome.status ≡ 0 → new.held ≡ with_writings outcome.writings (Some before)
    → new.written ≡ followed_by outcome.report old.written → HasLeft front p output cert limit old new
left front p output cert limit before outcome old new is names apart (inl stands) zero files put = record {
  after = placed_files before p output cert (placed_shown p stands.grid (answer_of stands.run)) stands.run;
  held = files ∙ ap (λ (o : Outcome). with_writings o.writings (Some before)) stands.is;
  report = place_report p stands.seed_score stands.run;
  shown = shown p output cert limit before stands.grid stands.run stands.seed_score is names apart stands.placed;
  put = put ∙ ap (λ (o : Outcome). followed_by o.report old.written) stands.is;
}
left front p output cert limit before outcome old new is names apart (inr stops) zero files put =
    absurd (omega (arith, zero, ap (λ (o : Outcome). o.status) stops.is))

-- a done placement of a file's problem
from_input : (input output cert : List ℕ) (limit : ℕ) (before : Files) (outcome : Outcome) (old new : Outside) → output ≢ cert
    → IsDue (Some (Place input output cert limit)) (Some before) outcome → outcome.status ≡ 0 → new.held ≡ with_writings outcome.writings (Some before)
    → new.written ≡ followed_by outcome.report old.written → LeavesPlaced (Some (Place input output cert limit)) before old new
from_input input output cert limit before outcome old new apart due zero files put = by due.0 due.1 due.2
  where
    by : (read : Result Netlist Cause) → read ≡ problem_in input before
        → MatchResult read (λ p. IsSound p × PlaceDue [] p output cert limit outcome) (λ cause. outcome ≡ refusal most_input input cause)
        → LeavesPlaced (Some (Place input output cert limit)) before old new
    by (Ok p) says (is, due) = (p, sym says, left [] p output cert limit before outcome old new is (problem_named input before p (sym says)) apart due zero files put)
    by (Err cause) says is = absurd (omega (arith, zero, ap (λ (o : Outcome). o.status) is))

-- what is done leaves its placement
from_due : (asked : Option Asked) (before : Files) (outcome : Outcome) (old new : Outside) → KeepsApart asked → IsDue asked (Some before) outcome → outcome.status ≡ 0
    → new.held ≡ with_writings outcome.writings (Some before) → new.written ≡ followed_by outcome.report old.written → LeavesPlaced asked before old new
from_due None before outcome old new apart due zero files put = tt
from_due (Some (Seed input output)) before outcome old new apart due zero files put = tt
from_due (Some (Score input output)) before outcome old new apart due zero files put = tt
from_due (Some (Place input output cert limit)) before outcome old new apart due zero files put =
    from_input input output cert limit before outcome old new apart due zero files put
from_due (Some (Check input output cert)) before outcome old new apart due zero files put = tt
from_due (Some (Gen making output)) before outcome old new apart due zero files put = tt
from_due (Some (Demo making output cert)) before outcome old new apart (p, made, due) zero files put =
    (p, made, left (made_line making p) p output cert 3 before outcome old new made.sound (bytes_named (text_made making) p made.says) apart due zero files put)

-- however a run ends, where it ends with 0 after a placement was asked for, the placement is done
pub headline_is : (asked : Option Asked) (status : ℕ) (old new : Outside) → KeepsApart asked → EndsAs asked status old new → Headline asked status old new
headline_is asked status old new apart (inl done) = λ before held zero.
    from_due asked before done.outcome old new apart (subst (λ (files : Option Files). IsDue asked files done.outcome) held done.due) (sym done.status_is ∙ zero)
    (done.files ∙ ap (with_writings done.outcome.writings) held) done.reports
headline_is asked status old new apart (inr (inl w)) = λ before held zero. absurd (omega (arith, zero, w.status_is))
headline_is asked status old new apart (inr (inr (inl r))) = λ before held zero. absurd (omega (arith, zero, r.status_is))
headline_is asked status old new apart (inr (inr (inr (inl w)))) = λ before held zero. absurd (omega (arith, zero, w.status_is))
headline_is asked status old new apart (inr (inr (inr (inr r)))) = λ before held zero. absurd (omega (arith, zero, r.status_is))
