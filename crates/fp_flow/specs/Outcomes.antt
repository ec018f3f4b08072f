-- What the placer answers.
use Rattle.std.specs.Prelude.{◌≡◌, ℕ, ◌≤◌, true, List, slice_get, Some, Result, Ok, Err, pos}
use Rattle.fp_base.specs.declared.ids.Die.{Die}
use Rattle.fp_base.specs.declared.ids.Die.TheVariants.{Top, Bottom}
use Rattle.fp_tech.specs.Slots.{Slots, slot_count, IsGrid}
use Rattle.fp_netlist.specs.Netlist.{Netlist}
use Rattle.fp_place.specs.Legal.{IsLegal}
use Rattle.fp_place.specs.Placed.{Placed, drawn_of, places_of, IsPlacementOf}
use Rattle.fp_score.specs.FirstFit.{Seat, seat_dies, seat_places, fit_terminals, first_fit, IsSeed}
use Rattle.fp_score.specs.Score.{score}
use Rattle.fp_cert.specs.Certified.{AreCertified}
use Rattle.fp_cert.specs.Endings.{has_rows}
use Rattle.fp_cert.specs.OfProblem.{IsRunOf}
use Rattle.fp_cert.specs.Shown.{ShownTrial, ShownRun}
use Rattle.fp_cert.specs.Standing.{placed_shown}
use Rattle.fp_cert.specs.Trials.{IsChain, answer_of}
use Rattle.fp_flow.specs.declared.placing.FlowFault.{FlowFault}
use Rattle.fp_flow.specs.declared.placing.FlowFault.TheVariants.{Unfit, Memory}
use Rattle.fp_flow.specs.declared.placing.Outcome.{Outcome}

-- a problem's grid and its seed, of this score
pub record IsSeedOf (p : Netlist) (grid : Slots) (total : ℕ) : Type 0 where
  pub first : Die
  pub seats : List Seat
  pub seed : IsSeed p (slot_count grid) first seats
  pub total_is : pos total ≡ score p (seat_places p.plan seats) (fit_terminals p grid (seat_dies seats))

-- The run of a problem and a limit, each full trial with duals and prices that show it, all in range; the score of its seed; and the placement of its
-- answer, which is legal, has the answer's score, and scores no more than the seed and than each trial that placed its cells.
pub record IsPlaced (p : Netlist) (limit : ℕ) (grid : Slots) (run : ShownRun) (seed_score : ℕ) (answer : Placed) : Type 0 where
  pub grid_is : IsGrid p.plan.frame p.plan.terminal grid
  pub chain : IsChain p grid limit run
  pub run_of_problem : IsRunOf p (slot_count grid) run
  pub certified : AreCertified p grid run
  pub seed : IsSeedOf p grid seed_score
  pub answer_is : answer ≡ placed_shown p grid (answer_of run)
  pub of_problem : IsPlacementOf p answer
  pub legal : IsLegal p (drawn_of answer)
  pub scored : pos (answer_of run).score ≡ score p (places_of answer) answer.terminals
  pub at_most_seed : (answer_of run).score ≤ seed_score
  pub at_most_each : (number : ℕ) (trial : ShownTrial) → slice_get run.trials number ≡ Some trial → has_rows trial.ending ≡ true → (answer_of run).score ≤ trial.score

-- the outcome; or, where both first fits stop, why each of them does, as of the seed
abbrev pub FlowGives : Netlist → ℕ → Result Outcome FlowFault → Type 0
FlowGives p limit (Ok o) = (grid : Slots) × IsPlaced p limit grid o.run o.seed_score o.answer
FlowGives p limit (Err (Unfit top bottom)) =
    (grid : Slots) × IsGrid p.plan.frame p.plan.terminal grid × (first_fit p (slot_count grid) Top ≡ Err top) × (first_fit p (slot_count grid) Bottom ≡ Err bottom)
FlowGives p limit (Err Memory) = Unit {0}
