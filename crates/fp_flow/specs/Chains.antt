-- A run of trials while it is made, and when it is whole.
use Rattle.std.specs.Prelude.{◌≡◌, ℕ, ◌+◌, ◌≤◌, Bool, true, List, length, All, slice_get, Option, Some, None, IfSome, is_some}
use Rattle.fp_base.specs.declared.ids.Die.{Die}
use Rattle.fp_tech.specs.Slots.{Slots, slot_count}
use Rattle.fp_netlist.specs.Netlist.{Netlist}
use Rattle.fp_place.specs.Cut.{cut}
use Rattle.fp_place.specs.OnSlots.{AreOnCuts}
use Rattle.fp_place.specs.Places.{dies_of}
use Rattle.fp_place.specs.Placed.{Placed, places_of, DoAgree, IsPlacementOf, IsInOrder}
use Rattle.fp_place.specs.Settled.{KeepRules, settled}
use Rattle.fp_cert.specs.declared.shown.Ending.TheVariants.{Better}
use Rattle.fp_cert.specs.Certified.{AreCertified}
use Rattle.fp_cert.specs.Endings.{has_rows}
use Rattle.fp_cert.specs.OfProblem.{IsPlacedTrialOf, IsTrialOf}
use Rattle.fp_cert.specs.Shown.{ShownTrial, ShownRun, run_without, with_trial}
use Rattle.fp_cert.specs.Standing.{places_shown}
use Rattle.fp_cert.specs.Trials.{IsStart, IsStep, last_better, IsChain, answer_of}
use Rattle.fp_flow.specs.Bases.{IsBase}
use Rattle.fp_flow.specs.Firsts.{IsSeedPlaced}

-- a placement that is the seed's, from which a run begins
pub record CanStart (p : Netlist) (grid : Slots) (placed : Placed) : Type 0 where
  pub of_problem : IsPlacementOf p placed
  pub agree : DoAgree placed
  pub in_order : IsInOrder p placed
  pub on_cuts : AreOnCuts p (dies_of (places_of placed)) placed.terminals
  pub rules : KeepRules p (dies_of (places_of placed))
  pub slots : cut p (dies_of (places_of placed)) ≤ slot_count grid
  pub seed : IsSeedPlaced p grid placed

-- a run of one trial, which shows the placement of its answer: the seed's but for its terminals
pub record IsBegun (p : Netlist) (grid : Slots) (limit : ℕ) (placed : Placed) (run : ShownRun) (answer : Placed) : Type 0 where
  pub trial : ShownTrial
  pub run_is : run ≡ with_trial (run_without limit p.plan.terminal.cost) trial
  pub start : IsStart p grid trial
  pub of_problem : IsPlacedTrialOf p (slot_count grid) trial
  pub base : IsBase p grid trial answer
  pub spots_are : answer.spots ≡ placed.spots

-- each trial behind the first is better than the one before it; the last one is the answer, and the base of the next
pub record IsGoing (p : Netlist) (grid : Slots) (dies : List Die) (limit : ℕ) (run : ShownRun) (answer : Placed) : Type 0 where
  pub limit_is : run.limit ≡ limit
  pub cost_is : run.cost ≡ p.plan.terminal.cost
  pub start : (trial : ShownTrial) → slice_get run.trials 0 ≡ Some trial → IsStart p grid trial
  pub steps : (number : ℕ) (base trial : ShownTrial) → slice_get run.trials number ≡ Some base → slice_get run.trials (number + 1) ≡ Some trial → IsStep p grid base trial
  pub better : (number : ℕ) (trial : ShownTrial) → 1 ≤ number → slice_get run.trials number ≡ Some trial → trial.ending ≡ Better
  pub answer_is : run.answer + 1 ≡ length run.trials
  pub last_is : run.answer ≡ last_better 0 0 run.trials
  pub trials : All (IsTrialOf p (slot_count grid)) run.trials
  pub certified : AreCertified p grid run
  pub last : (trial : ShownTrial) → slice_get run.trials run.answer ≡ Some trial → IsBase p grid trial answer
  pub dies_are : dies ≡ settled p (dies_of (places_of answer))
  pub least : (number : ℕ) (last trial : ShownTrial) → slice_get run.trials run.answer ≡ Some last → slice_get run.trials number ≡ Some trial → last.score ≤ trial.score

-- the run of a problem and a limit, with the placement of its answer, which scores least of all trials that placed their cells
pub record IsWhole (p : Netlist) (grid : Slots) (limit : ℕ) (run : ShownRun) (answer : Placed) : Type 0 where
  pub chain : IsChain p grid limit run
  pub trials : All (IsTrialOf p (slot_count grid)) run.trials
  pub certified : AreCertified p grid run
  pub base : IsBase p grid (answer_of run) answer
  pub least : (number : ℕ) (trial : ShownTrial) → slice_get run.trials number ≡ Some trial → has_rows trial.ending ≡ true → (answer_of run).score ≤ trial.score

-- the whole run from a placement, of which the first trial shows the cells where they stand
pub record IsRunFrom (p : Netlist) (grid : Slots) (limit : ℕ) (placed : Placed) (run : ShownRun) (answer : Placed) : Type 0 where
  pub whole : IsWhole p grid limit run answer
  pub first : (trial : ShownTrial) → slice_get run.trials 0 ≡ Some trial → places_shown p trial ≡ places_of placed

-- a run with one more trial; where a placement comes with it, they are the answer
pub record IsAdded (number : ℕ) (trial : ShownTrial) (better : Option Placed) (goes : Bool) (old new : ShownRun) (before after : Placed) : Type 0 where
  pub goes_is : goes ≡ is_some better
  pub taken : IfSome better (λ placed. (new ≡ record (with_trial old trial) { answer = number }) × (after ≡ placed))
  pub left : better ≡ None → (new ≡ with_trial old trial) × (after ≡ before)
