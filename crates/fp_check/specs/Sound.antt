-- What the sixteen conditions show of a problem, a drawing and a run.
use Rattle.std.specs.Prelude.{◌≡◌, ℕ, ◌≤◌, true, List, slice_get, Some, pos, ◌≤ℤ◌}
use Rattle.fp_base.specs.declared.ids.Die.{Die}
use Rattle.fp_tech.specs.Slots.{Slots, slot_count, IsGrid}
use Rattle.fp_netlist.specs.Netlist.{Netlist}
use Rattle.fp_place.specs.Drawing.{Drawing}
use Rattle.fp_place.specs.Legal.{IsLegal}
use Rattle.fp_score.specs.FirstFit.{Seat, IsSeed, seat_dies, seat_places, fit_terminals}
use Rattle.fp_score.specs.Score.{score}
use Rattle.fp_cert.specs.Endings.{has_rows}
use Rattle.fp_cert.specs.Shown.{ShownTrial, ShownRun}
use Rattle.fp_cert.specs.Standing.{places_shown, terminals_shown, placed_shown}
use Rattle.fp_cert.specs.Trials.{IsChain, answer_of}
use Rattle.fp_check.specs.Conditions.{Draws}

-- The drawing is a legal placement, and is that of the run's answer. The run is that of the problem and its own limit: each row and each
-- choice of slots is the best. The answer has its own score, which is at most the seed's and that of each trial that placed its cells.
pub record Shows (p : Netlist) (drawing : Drawing) (run : ShownRun) : Type 0 where
  pub grid : Slots
  pub is_grid : IsGrid p.plan.frame p.plan.terminal grid
  pub legal : IsLegal p drawing
  pub chain : IsChain p grid run.limit run
  pub draws : Draws p drawing (placed_shown p grid (answer_of run))
  pub scored : pos (answer_of run).score ≡ score p (places_shown p (answer_of run)) (terminals_shown p grid (answer_of run))
  pub at_most_seed : (first : Die) (seats : List Seat) → IsSeed p (slot_count grid) first seats
      → pos (answer_of run).score ≤ℤ score p (seat_places p.plan seats) (fit_terminals p grid (seat_dies seats))
  pub at_most_each : (number : ℕ) (trial : ShownTrial) → slice_get run.trials number ≡ Some trial → has_rows trial.ending ≡ true → (answer_of run).score ≤ trial.score
