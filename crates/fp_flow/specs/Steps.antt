-- What a trial is made of: its rows, its terminals, and what comes of both.
use Rattle.std.specs.Prelude.{◌≡◌, ℕ, ◌<◌, ◌≤◌, ◌^◌, true, nat_lt, if◌then◌else◌, List, [], length, replicate, All, Option, Some, None, IfSome, is_some, pos}
use Rattle.fp_base.specs.declared.ids.Die.{Die}
use Rattle.fp_base.specs.declared.ids.Die.TheVariants.{Top, Bottom}
use Rattle.fp_base.specs.declared.ids.Point.{Point}
use Rattle.fp_tech.specs.Slots.{Slots, slot_count}
use Rattle.fp_netlist.specs.Netlist.{Netlist}
use Rattle.fp_place.specs.Places.{dies_of}
use Rattle.fp_place.specs.Placed.{LaneList, Placed, places_of, DoAgree, IsPlacementOf, IsInOrder}
use Rattle.fp_place.specs.Settled.{settled}
use Rattle.fp_score.specs.Pick.{picked}
use Rattle.fp_score.specs.Score.{score}
use Rattle.fp_coarse.specs.Targets.{IsNearTarget}
use Rattle.fp_cert.specs.Certified.{row_duals, AreDualsShown, IsCertified}
use Rattle.fp_cert.specs.Endings.{has_rows}
use Rattle.fp_cert.specs.OfProblem.{IsPlacedTrialOf, IsTrialOf}
use Rattle.fp_cert.specs.Shown.{ShownTrial, rows_of}
use Rattle.fp_cert.specs.Standing.{lanes_shown, spots_shown, targets_shown, dies_shown}
use Rattle.fp_cert.specs.Trials.{AreRowsBest, IsScored, Does, IsStep, compared, is_better}
use Rattle.fp_flow.specs.Bases.{IsBase}
use Rattle.fp_flow.specs.Lanes.{AddsBestRows}

-- a trial with the rows of both dies, each the best
pub record AddsBoth (p : Netlist) (targets : List Point) (top bottom : LaneList) (old new : ShownTrial) : Type 0 where
  pub between : ShownTrial
  pub tops : AddsBestRows p Top top (length top) targets old between
  pub bottoms : AddsBestRows p Bottom bottom (length bottom) targets between new

-- a trial shows a placement without terminals and targets in range, each row placed best, with duals that show it
pub record IsLaid (p : Netlist) (targets : List Point) (trial : ShownTrial) (placed : Placed) : Type 0 where
  pub of_problem : IsPlacementOf p placed
  pub agree : DoAgree placed
  pub in_order : IsInOrder p placed
  pub bare : placed.terminals ≡ replicate (length p.nets) None
  pub top_shown : lanes_shown trial Top ≡ placed.top
  pub bottom_shown : lanes_shown trial Bottom ≡ placed.bottom
  pub spots_are : spots_shown p trial ≡ placed.spots
  pub targets_are : targets_shown p trial ≡ targets
  pub near : All IsNearTarget targets
  pub best : AreRowsBest p trial
  pub duals : AreDualsShown p trial
  pub small : (die : Die) → All (λ row. All (λ dual. dual ≤ 2 ^ 57) (row_duals row)) (rows_of trial die)
  pub no_cuts : trial.cuts ≡ []
  pub no_tops : trial.top_cells ≡ []

-- and it is of these lanes
pub record IsLaidFrom (p : Netlist) (top bottom : LaneList) (targets : List Point) (trial : ShownTrial) (placed : Placed) : Type 0 where
  pub laid : IsLaid p targets trial placed
  pub top_is : placed.top ≡ top
  pub bottom_is : placed.bottom ≡ bottom

-- a trial ended after a base of a score, by the score of its placement, which comes with it where it is better
pub record IsEnded (p : Netlist) (before : ℕ) (old : ShownTrial) (placed : Placed) (new : ShownTrial) (better : Option Placed) : Type 0 where
  pub total : ℕ
  pub total_is : pos total ≡ score p (places_of placed) placed.terminals
  pub small : total < 2 ^ 53
  pub new_is : new ≡ record old { ending = compared total before; score = total }
  pub better_is : better ≡ (if nat_lt total before then Some placed else None)

-- A trial of the same rows, with its terminals, that ended after a base of a score; with it comes its placement where it is better.
pub record IsFinished (p : Netlist) (grid : Slots) (before : ℕ) (old : ShownTrial) (placed : Placed) (new : ShownTrial) (better : Option Placed) : Type 0 where
  pub top_is : new.top ≡ old.top
  pub bottom_is : new.bottom ≡ old.bottom
  pub scored : IsScored p grid new
  pub ending_is : new.ending ≡ compared new.score before
  pub of_problem : IsPlacedTrialOf p (slot_count grid) new
  pub certified : IsCertified p grid new
  pub better_is : is_some better ≡ is_better new.ending
  pub next : IfSome better (λ slotted. IsBase p grid new slotted × (slotted.spots ≡ placed.spots))

-- a trial of the problem; a placement comes with it where it is better than its base, and has these dies
pub record IsWith (p : Netlist) (grid : Slots) (dies : List Die) (trial : ShownTrial) (better : Option Placed) : Type 0 where
  pub of_problem : IsTrialOf p (slot_count grid) trial
  pub certified : has_rows trial.ending ≡ true → IsCertified p grid trial
  pub better_is : is_some better ≡ is_better trial.ending
  pub next : IfSome better (λ placed. IsBase p grid trial placed × (dies_of (places_of placed) ≡ dies))

-- the trial of dies and targets
pub record IsOfTargets (p : Netlist) (grid : Slots) (dies : List Die) (targets : List Point) (before : ℕ) (trial : ShownTrial) (better : Option Placed) : Type 0 where
  pub does : Does p grid dies targets before trial (picked p dies targets)
  pub comes : IsWith p grid dies trial better

-- the trial after a base
pub record IsNext (p : Netlist) (grid : Slots) (base trial : ShownTrial) (better : Option Placed) : Type 0 where
  pub step : IsStep p grid base trial
  pub comes : IsWith p grid (settled p (dies_shown p base)) trial better
