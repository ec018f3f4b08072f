-- The sixteen conditions under which a drawing and a run of trials show, of a problem, that the drawing is the run's answer and the run was
-- made as it should be. They are tried in this order, and each is read where those before it hold.
use Rattle.std.specs.Prelude.{◌≡◌, ◌↔◌, ℕ, ◌+◌, ◌<◌, ◌≤◌, true, nat_eq, if◌then◌else◌, List, length, map, find, slice_get, Some, is_some, Ok, Err, pos, ◌+ℤ◌}
use Rattle.std.specs.List.{count_by, IsDistinct}
use Rattle.std.specs.Option.{option_map}
use Rattle.fp_base.specs.declared.ids.Die.{Die}
use Rattle.fp_base.specs.declared.ids.Die.TheVariants.{Top, Bottom}
use Rattle.fp_base.specs.declared.ids.Point.{Point}
use Rattle.fp_tech.specs.declared.dies.Segment.{Segment}
use Rattle.fp_tech.specs.Plan.{segments}
use Rattle.fp_tech.specs.Slots.{Slots, slot_count, IsGrid}
use Rattle.fp_netlist.specs.Netlist.{Netlist}
use Rattle.fp_place.specs.Cut.{cut}
use Rattle.fp_place.specs.Drawing.{Drawing, is_net, centre_of, places_in}
use Rattle.fp_place.specs.Legal.{StandsOnce}
use Rattle.fp_place.specs.Placed.{Placed, places_of, StandOnce}
use Rattle.fp_place.specs.Settled.{KeepRules, settled}
use Rattle.fp_rows.specs.Squares.{Feasible}
use Rattle.fp_score.specs.FirstFit.{Seat, IsSeed}
use Rattle.fp_score.specs.Pick.{picked}
use Rattle.fp_score.specs.Score.{terminal_at, score}
use Rattle.fp_score.specs.Target.{AreTargets}
use Rattle.fp_cert.specs.declared.finding.Finding.{Finding}
use Rattle.fp_cert.specs.declared.finding.Finding.TheVariants.{Yes, No}
use Rattle.fp_cert.specs.declared.shown.Ending.{Ending}
use Rattle.fp_cert.specs.declared.shown.Ending.TheVariants as endings
use Rattle.fp_cert.specs.Certified.{AreDualsShown, ArePricesShown}
use Rattle.fp_cert.specs.Endings.{has_rows}
use Rattle.fp_cert.specs.Shown.{ShownRow, ShownTrial, ShownRun, rows_of}
use Rattle.fp_cert.specs.Standing.{targets_shown, places_shown, lanes_shown, terminals_shown, placed_shown, dies_shown}
use Rattle.fp_cert.specs.Trials.{row_cells, row_xs, cut_nets, IsFromSeed, compared, GoesOn, answer_of}

pub data Condition : Type 0 where
  SeedStands : Condition
  TrialsGoOn : Condition
  CellsStandOnce : Condition
  StartsFromSeed : Condition
  DiesKeepRules : Condition
  CutNoMore : Condition
  DiesAreSettled : Condition
  HaveTargets : Condition
  HaveRows : Condition
  RowsAreFeasible : Condition
  RowsHaveDuals : Condition
  CutNetsAreListed : Condition
  SlotsHavePrices : Condition
  ScoresAreRight : Condition
  BetterIsBetter : Condition
  DrawsAnswer : Condition

abbrev pub number_of : Condition → ℕ
number_of SeedStands = 1
number_of TrialsGoOn = 2
number_of CellsStandOnce = 3
number_of StartsFromSeed = 4
number_of DiesKeepRules = 5
number_of CutNoMore = 6
number_of DiesAreSettled = 7
number_of HaveTargets = 8
number_of HaveRows = 9
number_of RowsAreFeasible = 10
number_of RowsHaveDuals = 11
number_of CutNetsAreListed = 12
number_of SlotsHavePrices = 13
number_of ScoresAreRight = 14
number_of BetterIsBetter = 15
number_of DrawsAnswer = 16

-- ---- of which trials

abbrev pub OfEach : ShownRun → (ShownTrial → Type 0) → Type 0
OfEach run fact = (number : ℕ) (trial : ShownTrial) → slice_get run.trials number ≡ Some trial → fact trial

-- of each that placed its cells
abbrev pub OfPlaced : ShownRun → (ShownTrial → Type 0) → Type 0
OfPlaced run fact = OfEach run (λ trial. has_rows trial.ending ≡ true → fact trial)

-- of each behind the first, with the one before it, its base
abbrev pub OfNext : ShownRun → (ShownTrial → ShownTrial → Type 0) → Type 0
OfNext run fact =
    (number : ℕ) (base trial : ShownTrial) → slice_get run.trials number ≡ Some base → slice_get run.trials (number + 1) ≡ Some trial → fact base trial

abbrev pub OfNextPlaced : ShownRun → (ShownTrial → ShownTrial → Type 0) → Type 0
OfNextPlaced run fact = OfNext run (λ base trial. has_rows trial.ending ≡ true → fact base trial)

-- ---- the facts

-- 1: the problem's seed stands
abbrev pub HasSeed : Netlist → Slots → Type 0
HasSeed p grid = (first : Die) × (seats : List Seat) × IsSeed p (slot_count grid) first seats

-- 2: the trials go on as long as each is better, up to the limit, and the first of them alone is the start
pub record GoesOnFromStart (run : ShownRun) : Type 0 where
  pub going : GoesOn run.limit run
  pub starts : (number : ℕ) (trial : ShownTrial) → slice_get run.trials number ≡ Some trial → (trial.ending ≡ endings.Start) ↔ (number ≡ 0)

-- 3: each cell stands exactly once on the segments of both dies; where there is no row for a cell, no cell is listed twice
abbrev pub StandOnceShown : Netlist → ShownTrial → Type 0
StandOnceShown p trial = StandOnce (length p.cells) (lanes_shown trial Top) (lanes_shown trial Bottom)

abbrev pub ListsOnce : Netlist → ShownTrial → Ending → Type 0
ListsOnce p trial endings.Start = StandOnceShown p trial
ListsOnce p trial endings.Better = StandOnceShown p trial
ListsOnce p trial endings.NotBetter = StandOnceShown p trial
ListsOnce p trial (endings.NoRow cell) = IsDistinct nat_eq (map (λ top. top.0) trial.top_cells)

-- 9: the rows are the chosen ones for the trial's dies and targets; or there is none for the named cell, and the targets over the base
abbrev pub LanesArePicked : Netlist → ShownTrial → Type 0
LanesArePicked p trial =
    picked p (dies_shown p trial) (targets_shown p trial) ≡ Ok (record { top = lanes_shown trial Top; bottom = lanes_shown trial Bottom })

pub record HasNoRow (p : Netlist) (base trial : ShownTrial) (cell : ℕ) : Type 0 where
  pub targets : List Point
  pub are_targets : AreTargets p (places_shown p base) (dies_shown p trial) targets
  pub stops : picked p (dies_shown p trial) targets ≡ Err cell

abbrev pub IsPick : Netlist → ShownTrial → ShownTrial → Ending → Type 0
IsPick p base trial endings.Start = LanesArePicked p trial
IsPick p base trial endings.Better = LanesArePicked p trial
IsPick p base trial endings.NotBetter = LanesArePicked p trial
IsPick p base trial (endings.NoRow cell) = HasNoRow p base trial cell.0

-- 10: on each segment the cells stand in their order without overlap
abbrev pub AreFeasibleShown : Netlist → ShownTrial → Type 0
AreFeasibleShown p trial = (die : Die) (number : ℕ) (segment : Segment) (row : ShownRow)
    → slice_get (segments p.plan die) number ≡ Some segment → slice_get (rows_of trial die) number ≡ Some row
    → Feasible (row_cells p die row) segment.start (segment.start +ℤ segment.length) (row_xs row)

-- 12: the lines of cut nets are exactly the cut nets, in file order, with slots of their own
pub record AreCutsListed (p : Netlist) (trial : ShownTrial) : Type 0 where
  pub nets : map (λ cut. cut.net.0) trial.cuts ≡ cut_nets p (dies_shown p trial)
  pub slots : IsDistinct nat_eq (map (λ cut. cut.slot.0) trial.cuts)

-- 14: the run's cost is the problem's, and each score is that of its trial's cells and terminals
abbrev pub IsScoreOf : Netlist → Slots → ShownTrial → Type 0
IsScoreOf p grid trial = pos trial.score ≡ score p (places_shown p trial) (terminals_shown p grid trial)

-- 16: each cell is drawn exactly once, at its place, and exactly the placement's terminals are drawn, each once; in any order of lines
pub record Draws (p : Netlist) (drawing : Drawing) (placed : Placed) : Type 0 where
  pub once : (cell : ℕ) → cell < length p.cells → StandsOnce drawing cell
  pub places_are : places_in drawing (length p.cells) ≡ places_of placed
  pub terminals_once : (net : ℕ) → net < length p.nets → count_by (is_net net) drawing.terminals ≡ (if is_some (terminal_at placed.terminals net) then 1 else 0)
  pub terminals_are : (net : ℕ) → net < length p.nets → option_map centre_of (find (is_net net) drawing.terminals) ≡ terminal_at placed.terminals net

-- ---- the conditions

abbrev pub Holds : Netlist → Slots → Drawing → ShownRun → Condition → Type 0
Holds p grid drawing run SeedStands = HasSeed p grid
Holds p grid drawing run TrialsGoOn = GoesOnFromStart run
Holds p grid drawing run CellsStandOnce = OfEach run (λ trial. ListsOnce p trial trial.ending)
Holds p grid drawing run StartsFromSeed = (trial : ShownTrial) → slice_get run.trials 0 ≡ Some trial → IsFromSeed p grid trial
Holds p grid drawing run DiesKeepRules = OfNext run (λ base trial. KeepRules p (dies_shown p trial))
Holds p grid drawing run CutNoMore = OfNext run (λ base trial. cut p (dies_shown p trial) ≤ cut p (dies_shown p base))
Holds p grid drawing run DiesAreSettled = OfNext run (λ base trial. dies_shown p trial ≡ settled p (dies_shown p base))
Holds p grid drawing run HaveTargets = OfNextPlaced run (λ base trial. AreTargets p (places_shown p base) (dies_shown p trial) (targets_shown p trial))
Holds p grid drawing run HaveRows = OfNext run (λ base trial. IsPick p base trial trial.ending)
Holds p grid drawing run RowsAreFeasible = OfPlaced run (AreFeasibleShown p)
Holds p grid drawing run RowsHaveDuals = OfPlaced run (AreDualsShown p)
Holds p grid drawing run CutNetsAreListed = OfPlaced run (AreCutsListed p)
Holds p grid drawing run SlotsHavePrices = OfPlaced run (ArePricesShown p grid)
Holds p grid drawing run ScoresAreRight = (run.cost ≡ p.plan.terminal.cost) × OfPlaced run (IsScoreOf p grid)
Holds p grid drawing run BetterIsBetter = OfNextPlaced run (λ base trial. trial.ending ≡ compared trial.score base.score)
Holds p grid drawing run DrawsAnswer = Draws p drawing (placed_shown p grid (answer_of run))

-- all of them hold
abbrev pub CertOk : Netlist → Drawing → ShownRun → Type 0
CertOk p drawing run = (grid : Slots) × IsGrid p.plan.frame p.plan.terminal grid × ((condition : Condition) → Holds p grid drawing run condition)

-- this one does not, and each before it does
pub record IsFirstFalse (p : Netlist) (grid : Slots) (drawing : Drawing) (run : ShownRun) (condition : Condition) : Type 0 where
  pub false_one : Holds p grid drawing run condition → ⊥
  pub before : (other : Condition) → number_of other < number_of condition → Holds p grid drawing run other

pub record FirstFalse (p : Netlist) (drawing : Drawing) (run : ShownRun) (number : ℕ) : Type 0 where
  pub grid : Slots
  pub is_grid : IsGrid p.plan.frame p.plan.terminal grid
  pub condition : Condition
  pub number_is : number ≡ number_of condition
  pub first : IsFirstFalse p grid drawing run condition

-- what a check finds
abbrev pub Finds : Netlist → Drawing → ShownRun → Finding → Type 0
Finds p drawing run Yes = CertOk p drawing run
Finds p drawing run (No number) = FirstFalse p drawing run number
