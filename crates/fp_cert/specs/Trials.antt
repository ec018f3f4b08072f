-- The trials of a run: the first is the seed with its best terminals; each next one settles the dies of the one before it, its base, finds
-- the targets, chooses rows, and places each row and the terminals best; the run goes on while a trial is better than its base.
use Rattle.std.specs.Prelude.{◌≡◌, ◌≢◌, ℕ, ◌+◌, ◌<◌, ◌≤◌, max, Bool, true, false, nat_lt, nat_eq, if◌then◌else◌, List, [], ◌∷◌, length, map, filter, All, get_or, slice_get, Some, Result, Ok, Err, ℤ, pos, ◌+ℤ◌}
use Rattle.std.specs.List.{range_with_len, IsDistinct}
use Rattle.fp_base.specs.declared.ids.Die.{Die}
use Rattle.fp_base.specs.declared.ids.Die.TheVariants.{Top, Bottom}
use Rattle.fp_base.specs.declared.ids.Point.{Point}
use Rattle.fp_tech.specs.declared.dies.Segment.{Segment}
use Rattle.fp_tech.specs.Plan.{segments}
use Rattle.fp_tech.specs.Slots.{Slots, slot_count, IsGrid}
use Rattle.fp_netlist.specs.Netlist.{Netlist, conns_of_cell}
use Rattle.fp_netlist.specs.Points.{width}
use Rattle.fp_place.specs.declared.placement.Spot.{Spot}
use Rattle.fp_place.specs.Cut.{is_cut}
use Rattle.fp_place.specs.Placed.{spot_at, StandOnce, IsInOrder}
use Rattle.fp_place.specs.Settled.{settled}
use Rattle.fp_rows.specs.declared.RowCell.{RowCell}
use Rattle.fp_rows.specs.Squares.{IsBest}
use Rattle.fp_score.specs.FirstFit.{Seat, IsSeed}
use Rattle.fp_score.specs.Pick.{Lined, picked}
use Rattle.fp_score.specs.Score.{corner, score}
use Rattle.fp_score.specs.SlotBest.{IsSlotBest}
use Rattle.fp_score.specs.Target.{AreTargets}
use Rattle.fp_cert.specs.declared.shown.CellShown.{CellShown}
use Rattle.fp_cert.specs.declared.shown.Ending.{Ending}
use Rattle.fp_cert.specs.declared.shown.Ending.TheVariants.{Start, Better, NotBetter, NoRow}
use Rattle.fp_cert.specs.Shown.{ShownRow, ShownTrial, ShownRun, rows_of}
use Rattle.fp_cert.specs.Standing.{spots_shown, targets_shown, places_shown, lanes_shown, terminals_shown, placed_shown, dies_shown}

-- ---- the rows of a trial

-- a cell counts by its connections, and at least once
abbrev pub weight : Netlist → ℕ → ℕ
weight p cell = max 1 (length (conns_of_cell p cell))

-- a line's cell as one of a row: its width on the die, its target in x and its weight
abbrev pub row_cell : Netlist → Die → CellShown → RowCell
row_cell p die shown = record { width = pos (width p shown.cell.0 die); target = shown.target.x; weight = pos (weight p shown.cell.0) }

abbrev pub row_cells : Netlist → Die → ShownRow → List RowCell
row_cells p die row = map (row_cell p die) row.cells

abbrev pub row_xs : ShownRow → List ℤ
row_xs row = map (λ cell. cell.x) row.cells

-- on a segment no positions in the same order have a smaller sum of weighted squares of distances from the targets
abbrev pub IsRowBest : Netlist → Die → Segment → ShownRow → Type 0
IsRowBest p die segment row = IsBest (row_cells p die row) segment.start (segment.start +ℤ segment.length) (row_xs row)

abbrev pub AreRowsBest : Netlist → ShownTrial → Type 0
AreRowsBest p trial = (die : Die) (number : ℕ) (segment : Segment) (row : ShownRow)
    → slice_get (segments p.plan die) number ≡ Some segment → slice_get (rows_of trial die) number ≡ Some row → IsRowBest p die segment row

-- ---- its terminals and its score

-- the cut nets in file order
abbrev pub cut_nets : Netlist → List Die → List ℕ
cut_nets p dies = filter (is_cut p dies) (range_with_len 0 (length p.nets))

-- a trial that placed its cells lists exactly the cut nets, in file order, in the best slots, and shows its score
pub record IsScored (p : Netlist) (grid : Slots) (trial : ShownTrial) : Type 0 where
  pub nets : map (λ cut. cut.net.0) trial.cuts ≡ cut_nets p (dies_shown p trial)
  pub slots : IsSlotBest p (places_shown p trial) grid (terminals_shown p grid trial)
  pub score_is : pos trial.score ≡ score p (places_shown p trial) (terminals_shown p grid trial)
  pub no_tops : trial.top_cells ≡ []

-- ---- the first trial

abbrev pub no_seat : Seat
no_seat = record { die = Top; segment = 0; x = pos 0 }

-- a spot is that of a seat
pub record IsAt (seat : Seat) (spot : Spot) : Type 0 where
  pub die_is : spot.die ≡ seat.die
  pub segment_is : spot.segment ≡ seat.segment
  pub x_is : spot.x ≡ seat.x

-- the seed's cells on their segments in order of x, each with its own place as target
pub record IsFromSeed (p : Netlist) (grid : Slots) (trial : ShownTrial) : Type 0 where
  pub first : Die
  pub seats : List Seat
  pub seed : IsSeed p (slot_count grid) first seats
  pub seated : (cell : ℕ) → cell < length p.cells → IsAt (get_or seats cell no_seat) (spot_at (spots_shown p trial) cell)
  pub in_order : IsInOrder p (placed_shown p grid trial)
  pub targets_are : targets_shown p trial ≡ map corner (places_shown p trial)

-- each of the seed's cells once, and the best terminals
pub record IsStart (p : Netlist) (grid : Slots) (trial : ShownTrial) : Type 0 where
  pub ending_is : trial.ending ≡ Start
  pub lanes : (die : Die) → length (rows_of trial die) ≡ length (segments p.plan die)
  pub once : StandOnce (length p.cells) (lanes_shown trial Top) (lanes_shown trial Bottom)
  pub from_seed : IsFromSeed p grid trial
  pub scored : IsScored p grid trial

-- ---- each next one

-- a trial is better where its score is strictly below its base's
abbrev pub compared : ℕ → ℕ → Ending
compared score before = if nat_lt score before then Better else NotBetter

-- the dies are settled and the choice of rows fails at a cell: the trial lists the cells of the top die, each once
pub record IsRowless (p : Netlist) (dies : List Die) (cell : ℕ) (trial : ShownTrial) : Type 0 where
  pub ending_is : trial.ending ≡ NoRow (record { 0 = cell })
  pub dies_are : dies_shown p trial ≡ dies
  pub within : All (λ top. top.0 < length p.cells) trial.top_cells
  pub distinct : IsDistinct nat_eq (map (λ top. top.0) trial.top_cells)
  pub no_top : trial.top ≡ []
  pub no_bottom : trial.bottom ≡ []
  pub no_cuts : trial.cuts ≡ []
  pub no_score : trial.score ≡ 0

-- the chosen rows with these targets, each placed best
pub record IsLaidOut (p : Netlist) (targets : List Point) (lined : Lined) (trial : ShownTrial) : Type 0 where
  pub top_is : lanes_shown trial Top ≡ lined.top
  pub bottom_is : lanes_shown trial Bottom ≡ lined.bottom
  pub targets_are : targets_shown p trial ≡ targets
  pub rows : AreRowsBest p trial

-- what a trial makes of the choice of rows, after a base of a score
abbrev pub Does : Netlist → Slots → List Die → List Point → ℕ → ShownTrial → Result Lined ℕ → Type 0
Does p grid dies targets before trial (Err cell) = IsRowless p dies cell trial
Does p grid dies targets before trial (Ok lined) = IsLaidOut p targets lined trial × IsScored p grid trial × (trial.ending ≡ compared trial.score before)

pub record IsStep (p : Netlist) (grid : Slots) (base trial : ShownTrial) : Type 0 where
  pub targets : List Point
  pub are_targets : AreTargets p (places_shown p base) (settled p (dies_shown p base)) targets
  pub does : Does p grid (settled p (dies_shown p base)) targets base.score trial (picked p (settled p (dies_shown p base)) targets)

-- ---- the run

abbrev pub is_better : Ending → Bool
is_better Start = false
is_better Better = true
is_better NotBetter = false
is_better (NoRow cell) = false

-- the number of the last trial that is better, of trials that are numbered from here on; else this one
unfoldable pub last_better : ℕ → ℕ → List ShownTrial → ℕ
last_better number last [] = last
last_better number last (trial ∷ trials) = last_better (number + 1) (if is_better trial.ending then number else last) trials

-- At least two trials and at most a limit beside the first; each but the first and the last is better than its base, and the last one is
-- not better where fewer were made. The answer is the last that is better, or the first.
pub record GoesOn (limit : ℕ) (run : ShownRun) : Type 0 where
  pub some : 2 ≤ length run.trials
  pub few : length run.trials ≤ limit + 1
  pub goes_on : (number : ℕ) (trial : ShownTrial) → 1 ≤ number → number + 1 < length run.trials → slice_get run.trials number ≡ Some trial → trial.ending ≡ Better
  pub stops : (number : ℕ) (trial : ShownTrial) → number + 1 ≡ length run.trials → number < limit → slice_get run.trials number ≡ Some trial → trial.ending ≢ Better
  pub answer_is : run.answer ≡ last_better 0 0 run.trials

-- The run of a limit: the first trial is the seed's, and each next one is made of the one before it.
pub record IsChain (p : Netlist) (grid : Slots) (limit : ℕ) (run : ShownRun) : Type 0 where
  pub limit_is : run.limit ≡ limit
  pub cost_is : run.cost ≡ p.plan.terminal.cost
  pub going : GoesOn limit run
  pub start : (trial : ShownTrial) → slice_get run.trials 0 ≡ Some trial → IsStart p grid trial
  pub steps : (number : ℕ) (base trial : ShownTrial) → slice_get run.trials number ≡ Some base → slice_get run.trials (number + 1) ≡ Some trial
      → IsStep p grid base trial

pub record Chain (p : Netlist) (limit : ℕ) (run : ShownRun) : Type 0 where
  pub grid : Slots
  pub is_grid : IsGrid p.plan.frame p.plan.terminal grid
  pub chain : IsChain p grid limit run

abbrev pub no_trial : ShownTrial
no_trial = record { ending = Start; top = []; bottom = []; cuts = []; score = 0; top_cells = [] }

-- the placement of the answer
abbrev pub answer_of : ShownRun → ShownTrial
answer_of run = get_or run.trials run.answer no_trial
