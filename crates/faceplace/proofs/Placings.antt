-- What the placer answers, as the program's endings say it.
use Rattle.std.proofs.Common.{◌≡◌, ℕ, zero, suc, ◌+◌, List, [], ◌∷◌, ◌++◌, take, Some, Ok, Err, refl, sym, ap, subst, ◌∙◌, append_assoc, arith, inl, inr}
use Rattle.std.specs.Prelude.{slice_get}
use Rattle.std.proofs.lemmas.List.{append-nil}
use Rattle.fp_tech.specs.Slots.{Slots}
use Rattle.fp_netlist.specs.Netlist.{Netlist}
use Rattle.fp_place.specs.Placed.{Placed}
use Rattle.fp_score.specs.declared.stop.Stop.{Stop}
use Rattle.fp_cert.specs.Shown.{ShownTrial, ShownRun}
use Rattle.fp_flow.specs.declared.placing.FlowFault.TheVariants as faults
use Rattle.fp_flow.specs.declared.placing.Outcome.{Outcome as Found}
use Rattle.fp_flow.specs.Outcomes.{FlowGives, IsPlaced}
use Rattle.faceplace.specs.Report.{unfit_report}
use Rattle.faceplace.specs.Trials.{trial_line, trial_lines, place_report}
use Rattle.faceplace.specs.Outcome.{Outcome, told}
use Rattle.faceplace.specs.Due.{placing, PlaceStands, PlaceDue, SeedStops}
use Rattle.faceplace.specs.Owed.{SeedOwes}
use Rattle.faceplace.specs.Seeding.{Seeding, IsSeeding}
use Rattle.faceplace.proofs.Seeds.{exclusive}

-- trials that are numbered from a number on, and one more
pub trials_more : (p : Netlist) (number : ℕ) (trials : List ShownTrial) (i : ℕ) (trial : ShownTrial) → slice_get trials i ≡ Some trial
    → trial_lines p number (take i trials) ++ trial_line p (number + i) trial ≡ trial_lines p number (take (i + 1) trials)
unfolding trial_lines
trials_more p number [] i trial at = absurd cc
trials_more p number (first ∷ trials) zero trial at =
    let same : first ≡ trial = cc in
    ap (λ n. trial_line p n trial) (omega arith) ∙ sym (append-nil (trial_line p number trial)) ∙ ap (λ t. trial_line p number t ++ []) (sym same)
trials_more p number (first ∷ trials) (suc i) trial at =
    append_assoc (trial_line p number first) (trial_lines p (number + 1) (take i trials)) (trial_line p (number + suc i) trial)
    ∙ ap (λ t. trial_line p number first ++ t)
    (ap (λ n. trial_lines p (number + 1) (take i trials) ++ trial_line p n trial) (omega arith) ∙ trials_more p (number + 1) trials i trial at)
    ∙ ap (λ n. trial_lines p number (take n (first ∷ trials))) next
  where
    next : suc (i + 1) ≡ suc i + 1
    next = omega arith

pub no_trials : (p : Netlist) (number : ℕ) → trial_lines p number [] ≡ []
unfolding trial_lines
no_trials p number = refl

-- the seed of a run
seeding : (p : Netlist) (trials : ℕ) (grid : Slots) (run : ShownRun) (seed_score : ℕ) (answer : Placed) → IsPlaced p trials grid run seed_score answer → (s : Seeding) × IsSeeding p s
seeding p trials grid run seed_score answer placed =
    (record { grid = grid; first = placed.seed.first; seats = placed.seed.seats }, record { grid_is = placed.grid_is; seed_is = placed.seed.seed })

-- what is due where there is an outcome
pub place_stands : (front : List ℕ) (p : Netlist) (found : Found) (trials : ℕ) (output cert : List ℕ) → FlowGives p trials (Ok found)
    → PlaceStands front p output cert trials (placing p found.run found.answer output cert (front ++ place_report p found.seed_score found.run))
place_stands front p found trials output cert (grid, placed) = record {
  grid = grid;
  run = found.run;
  seed_score = found.seed_score;
  placed = subst (IsPlaced p trials grid found.run found.seed_score) placed.answer_is placed;
  is = ap (λ (answer : Placed). placing p found.run answer output cert (front ++ place_report p found.seed_score found.run)) placed.answer_is;
}

-- and where both first fits stop
pub place_stops : (p : Netlist) (trials : ℕ) (top bottom : Stop) → FlowGives p trials (Err (faults.Unfit top bottom)) → SeedStops p (told 4 (unfit_report p top bottom))
place_stops p trials top bottom gives = record {
  stopping = record { grid = gives.0; top_first = top; bottom_first = bottom };
  stops = record { grid_is = gives.1; top_stops = gives.2; bottom_stops = gives.3 };
  is = refl;
}

-- what is due for a problem has the status that is owed
pub place_owed : (front : List ℕ) (p : Netlist) (output cert : List ℕ) (trials : ℕ) (outcome : Outcome) (status : ℕ) → PlaceDue front p output cert trials outcome → SeedOwes p status
    → outcome.status ≡ status
place_owed front p output cert trials outcome status (inl due) (inl owed) = ap (λ (o : Outcome). o.status) due.is ∙ sym owed.2
place_owed front p output cert trials outcome status (inl due) (inr owed) =
    let seed = seeding p trials due.grid due.run due.seed_score _ due.placed in
    absurd (exclusive p seed.0 owed.0 seed.1 owed.1)
place_owed front p output cert trials outcome status (inr due) (inl owed) = absurd (exclusive p owed.0 due.stopping owed.1 due.stops)
place_owed front p output cert trials outcome status (inr due) (inr owed) = ap (λ (o : Outcome). o.status) due.is ∙ sym owed.2
