-- Targets and rows of a trial over its base, as the checker holds them.
use Rattle.std.proofs.Common.{◌≡◌, ℕ, ◌+◌, ◌-◌, ◌<◌, ◌≤◌, true, false, List, length, get_or, slice_get, Option, Some, None, Result, Ok, Err, refl, sym, ap, subst, ◌∙◌, arith}
use Rattle.std.specs.Prelude.{Bool, IsTrue, ◌↔◌, ◌==◌, ◌&&◌, Decides, IfOk, IfSome, MatchOption}
use Rattle.std.specs.Ordering.{int_eq}
use Rattle.std.proofs.lemmas.Bool.{false≢true}
use Rattle.std.proofs.lemmas.Bool.Decides.{Decides-eqb, Decides-int_eq, Decides-and, Decides-like}
use Rattle.std.proofs.lemmas.List.FromFn.{length-map-range_with_len}
use Rattle.std.proofs.lemmas.Option.{slice_get-get_or, slice_get_read}
use Rattle.std.proofs.lemmas.Result.{IfOk-weaker}
use Rattle.fp_base.specs.declared.folder.NoMemory.{NoMemory}
use Rattle.fp_base.specs.declared.ids.CellId.{CellId}
use Rattle.fp_base.specs.declared.ids.Die.{Die}
use Rattle.fp_base.specs.declared.ids.Die.TheVariants.{Top, Bottom}
use Rattle.fp_base.specs.declared.ids.Point.{Point}
use Rattle.fp_tech.specs.Plan.{segments}
use Rattle.fp_tech.specs.Slots.{Slots}
use Rattle.fp_netlist.specs.Netlist.{Netlist, IsSound}
use Rattle.fp_place.specs.Places.{Place}
use Rattle.fp_place.specs.Placed.{Placed, lanes_of, places_of, IsPlacementOf}
use Rattle.fp_score.specs.Pick.{picked, Lined}
use Rattle.fp_score.specs.Target.{AreTargets}
use Rattle.fp_coarse.specs.TargetsLaws.{targets_once, targets_near}
use Rattle.fp_cert.specs.declared.shown.Ending.{Ending}
use Rattle.fp_cert.specs.declared.shown.Ending.TheVariants.{Start, Better, NotBetter, NoRow}
use Rattle.fp_cert.specs.Endings.{has_rows}
use Rattle.fp_cert.specs.Shown.{ShownTrial, ShownRun}
use Rattle.fp_cert.specs.Standing.{target_by, stand_of, dies_shown, places_shown, targets_shown}
use Rattle.fp_cert.specs.Trials.{no_trial}
use Rattle.fp_check.specs.declared.views.Layout.{Layout}
use Rattle.fp_check.specs.declared.views.View.{View}
use Rattle.fp_check.specs.Conditions.{IsPick, LanesArePicked, HasNoRow}
use Rattle.fp_check.specs.Picks.{HaveLayouts, IfBoth, HasTargets, StopsAt, AreLanesPicked, HasRowsBy, HasRows, IsNearLayout}
use Rattle.fp_check.specs.Views.{IsLayoutOf, IsViewOf, AreViews}

-- ---- what equality tests say

pub points_same : (a b : Point) → Decides (int_eq a.x b.x && int_eq a.y b.y) (a ≡ b)
points_same a b =
    Decides-like (int_eq a.x b.x && int_eq a.y b.y) (λ both. λ i. record { x = both.0 i; y = both.1 i })
    (λ same. (ap (λ (point : Point). point.x) same, ap (λ (point : Point). point.y) same))
    (Decides-and (int_eq a.x b.x) (int_eq a.y b.y) (Decides-int_eq a.x b.x) (Decides-int_eq a.y b.y))

pub cells_same : (a b : CellId) → Decides (a.0 == b.0) (a ≡ b)
cells_same a b =
    Decides-like (a.0 == b.0) (λ same. λ i. record { 0 = same i }) (λ same. ap (λ (cell : CellId). cell.0) same) (Decides-eqb a.0 b.0)

-- ---- targets

-- the targets that are found are the only ones
pub targets_told : (p : Netlist) (base : List Place) (dies : List Die) (aims found : List Point) (r : Bool) → AreTargets p base dies found → Decides r (found ≡ aims)
    → IsTrue r ↔ AreTargets p base dies aims
targets_told p base dies aims found r are decides =
    (λ yes. subst (AreTargets p base dies) (decides.0 yes) are, λ also. decides.1 (targets_once p base dies found aims are also))

pub stops_told : (p : Netlist) (base : List Place) (dies : List Die) (cell : ℕ) (found : List Point) (r : Result Bool NoMemory) → AreTargets p base dies found
    → IfOk r (λ b. IsTrue b ↔ (picked p dies found ≡ Err cell)) → IfOk r (λ b. IsTrue b ↔ StopsAt p base dies cell)
stops_told p base dies cell found r are is =
    IfOk-weaker r (λ b. IsTrue b ↔ (picked p dies found ≡ Err cell)) (λ b. IsTrue b ↔ StopsAt p base dies cell) (λ b told. (
      λ yes. record { targets = found; are_targets = are; stops = told.0 yes },
      λ stops. told.1 (ap (picked p dies) (targets_once p base dies found stops.targets are stops.are_targets) ∙ stops.stops),
    )) is

pub like_targets : (p : Netlist) (base other : List Place) (dies more : List Die) (targets less : List Point) → base ≡ other → dies ≡ more → targets ≡ less
    → AreTargets p base dies targets → AreTargets p other more less
like_targets p base other dies more targets less first second third are =
    subst (λ (list : List Point). AreTargets p other more list) third
    (subst (λ (list : List Die). AreTargets p other list targets) second (subst (λ (list : List Place). AreTargets p list dies targets) first are))

-- ---- lanes

pub lanes_long : (p : Netlist) (placed : Placed) (die : Die) → IsPlacementOf p placed → length (lanes_of placed die) ≡ length (segments p.plan die)
lanes_long p placed Top is = is.top_lanes
lanes_long p placed Bottom is = is.bottom_lanes

-- ---- a trial and its base

pub record AreNext (p : Netlist) (grid : Slots) (run : ShownRun) (before number : ℕ) (from to : View) : Type 0 where
  pub base : ShownTrial
  pub trial : ShownTrial
  pub base_there : slice_get run.trials before ≡ Some base
  pub trial_there : slice_get run.trials (before + 1) ≡ Some trial
  pub trial_at : slice_get run.trials number ≡ Some trial
  pub base_is : IsViewOf p grid base from
  pub trial_is : IsViewOf p grid trial to
  pub placed : has_rows base.ending ≡ true

pub are_next : (p : Netlist) (grid : Slots) (run : ShownRun) (views : List View) (number : ℕ) (from to : View) → AreViews p grid run views → HaveLayouts run
    → 1 ≤ number → number < length run.trials → from ≡ get_or views (number - 1) from → to ≡ get_or views number to → AreNext p grid run (number - 1) number from to
are_next p grid run views number from to are placed some below first second =
    let base = get_or run.trials (number - 1) no_trial in
    let trial = get_or run.trials number no_trial in
    let base_there : slice_get run.trials (number - 1) ≡ Some base = slice_get-get_or run.trials (number - 1) no_trial (omega (arith, some, below)) in
    let trial_at : slice_get run.trials number ≡ Some trial = slice_get-get_or run.trials number no_trial below in
    let next : number - 1 + 1 ≡ number = omega (arith, some) in
    let trial_there : slice_get run.trials (number - 1 + 1) ≡ Some trial = ap (slice_get run.trials) next ∙ trial_at in
    record {
      base = base;
      trial = trial;
      base_there = base_there;
      trial_there = trial_there;
      trial_at = trial_at;
      base_is = are.each (number - 1) base from base_there
          (slice_get_read views (length run.trials) (number - 1) from (sym are.many) (omega (arith, some, below)) first);
      trial_is = are.each number trial to trial_at (slice_get_read views (length run.trials) number to (sym are.many) below second);
      placed = placed (number - 1) base trial base_there trial_there;
    }

-- a view's layout is a placement of the problem
pub layout_placed : (p : Netlist) (grid : Slots) (trial : ShownTrial) (view : View) → IsViewOf p grid trial view → IfSome view.layout (λ layout. IsPlacementOf p layout.placement)
layout_placed p grid trial view is = by view.layout is.layout_is
  where
    by : (o : Option Layout) → MatchOption o (has_rows trial.ending ≡ false) (IsLayoutOf p grid trial) → IfSome o (λ layout. IsPlacementOf p layout.placement)
    by None is = tt
    by (Some layout) is = is.of_problem

length-targets : (p : Netlist) (trial : ShownTrial) → length (targets_shown p trial) ≡ length p.cells
unfolding targets_shown
length-targets p trial = length-map-range_with_len (λ cell. target_by (stand_of trial cell)) 0 (length p.cells)

pub layout_targets : (p : Netlist) (grid : Slots) (trial : ShownTrial) (view : View) → IsViewOf p grid trial view → IfSome view.layout (λ layout. length layout.targets.items ≡ length p.cells)
layout_targets p grid trial view is = by view.layout is.layout_is
  where
    by : (o : Option Layout) → MatchOption o (has_rows trial.ending ≡ false) (IsLayoutOf p grid trial) → IfSome o (λ layout. length layout.targets.items ≡ length p.cells)
    by None is = tt
    by (Some layout) is = ap length is.targets_are ∙ length-targets p trial

module _ (p : Netlist) (grid : Slots) (run : ShownRun) (before number : ℕ) (from to : View) (next : AreNext p grid run before number from to) where
  -- what the checker holds has the targets exactly where the trial shows them
  pub targets_same : HasTargets p from to
      ↔ (has_rows next.trial.ending ≡ true → AreTargets p (places_shown p next.base) (dies_shown p next.trial) (targets_shown p next.trial))
  targets_same = by from.layout to.layout next.base_is.layout_is next.trial_is.layout_is
    where
      by : (o q : Option Layout) → MatchOption o (has_rows next.base.ending ≡ false) (IsLayoutOf p grid next.base)
          → MatchOption q (has_rows next.trial.ending ≡ false) (IsLayoutOf p grid next.trial)
          → IfBoth o q (λ base layout. AreTargets p (places_of base.placement) to.dies.items layout.targets.items)
          ↔ (has_rows next.trial.ending ≡ true → AreTargets p (places_shown p next.base) (dies_shown p next.trial) (targets_shown p next.trial))
      by None q is also = absurd (false≢true (sym is ∙ next.placed))
      by (Some base) None is also = (λ nothing. λ has. absurd (false≢true (sym also ∙ has)), λ all. tt)
      by (Some base) (Some layout) is also = (
        λ are. λ has. like_targets p (places_of base.placement) (places_shown p next.base) to.dies.items (dies_shown p next.trial) layout.targets.items (targets_shown p next.trial)
            (ap places_of is.placement_is) next.trial_is.dies_are also.targets_are are,
        λ all. like_targets p (places_shown p next.base) (places_of base.placement) (dies_shown p next.trial) to.dies.items (targets_shown p next.trial) layout.targets.items
            (sym (ap places_of is.placement_is)) (sym next.trial_is.dies_are) (sym also.targets_are) (all also.has),
      )

  -- the targets of a layout over a base are in range
  pub layout_near : IsSound p → (has_rows next.trial.ending ≡ true → AreTargets p (places_shown p next.base) (dies_shown p next.trial) (targets_shown p next.trial))
      → IfSome to.layout (IsNearLayout p)
  layout_near sound are = by from.layout to.layout next.base_is.layout_is next.trial_is.layout_is
    where
      by : (o q : Option Layout) → MatchOption o (has_rows next.base.ending ≡ false) (IsLayoutOf p grid next.base)
          → MatchOption q (has_rows next.trial.ending ≡ false) (IsLayoutOf p grid next.trial) → IfSome q (IsNearLayout p)
      by None q is also = absurd (false≢true (sym is ∙ next.placed))
      by (Some base) None is also = tt
      by (Some base) (Some layout) is also =
          let targets = like_targets p (places_shown p next.base) (places_of base.placement) (dies_shown p next.trial) to.dies.items (targets_shown p next.trial) layout.targets.items
          (sym (ap places_of is.placement_is)) (sym next.trial_is.dies_are) (sym also.targets_are) (are also.has) in
          record {
            of_problem = also.of_problem;
            near = record {
              long = ap length also.targets_are ∙ length-targets p next.trial;
              near = targets_near p base.placement to.dies.items layout.targets.items sound is.of_problem targets;
            };
          }

  -- what the checker holds has the chosen rows exactly where the trial shows them
  lanes_same : (layout : Layout) → IsLayoutOf p grid next.trial layout → AreLanesPicked p to.dies.items layout ↔ LanesArePicked p next.trial
  lanes_same layout is =
      let first : picked p to.dies.items layout.targets.items ≡ picked p (dies_shown p next.trial) (targets_shown p next.trial) =
      λ i. picked p (next.trial_is.dies_are i) (is.targets_are i) in
      let lined : Placed → Result Lined ℕ = λ placed. Ok (record { top = placed.top; bottom = placed.bottom }) in
      let second = ap lined is.placement_is in
      (λ are. sym first ∙ are ∙ second, λ are. first ∙ are ∙ sym second)

  stops_same : (base : Layout) (cell : ℕ) → IsLayoutOf p grid next.base base → StopsAt p (places_of base.placement) to.dies.items cell ↔ HasNoRow p next.base next.trial cell
  stops_same base cell is = (
    λ stops. record {
      targets = stops.targets;
      are_targets = like_targets p (places_of base.placement) (places_shown p next.base) to.dies.items (dies_shown p next.trial) stops.targets stops.targets
          (ap places_of is.placement_is) next.trial_is.dies_are refl stops.are_targets;
      stops = ap (λ (dies : List Die). picked p dies stops.targets) (sym next.trial_is.dies_are) ∙ stops.stops;
    },
    λ stops. record {
      targets = stops.targets;
      are_targets = like_targets p (places_shown p next.base) (places_of base.placement) (dies_shown p next.trial) to.dies.items stops.targets stops.targets
          (sym (ap places_of is.placement_is)) (sym next.trial_is.dies_are) refl stops.are_targets;
      stops = ap (λ (dies : List Die). picked p dies stops.targets) next.trial_is.dies_are ∙ stops.stops;
    },
  )

  pub rows_same : (ending : Ending) → ending ≡ next.trial.ending → HasRows p ending from to ↔ IsPick p next.base next.trial next.trial.ending
  rows_same ending same =
      subst (λ (e : Ending). HasRows p e from to ↔ IsPick p next.base next.trial next.trial.ending) (sym same)
      (by next.trial.ending from.layout to.layout refl next.base_is.layout_is next.trial_is.layout_is)
    where
      by : (e : Ending) (o q : Option Layout) → has_rows next.trial.ending ≡ has_rows e → MatchOption o (has_rows next.base.ending ≡ false) (IsLayoutOf p grid next.base)
          → MatchOption q (has_rows next.trial.ending ≡ false) (IsLayoutOf p grid next.trial) → HasRowsBy p to.dies.items o e q ↔ IsPick p next.base next.trial e
      by Start o (Some layout) ends is also = lanes_same layout also
      by Better o (Some layout) ends is also = lanes_same layout also
      by NotBetter o (Some layout) ends is also = lanes_same layout also
      by (NoRow cell) o (Some layout) ends is also = absurd (false≢true (sym ends ∙ also.has))
      by Start o None ends is also = absurd (false≢true (sym also ∙ ends))
      by Better o None ends is also = absurd (false≢true (sym also ∙ ends))
      by NotBetter o None ends is also = absurd (false≢true (sym also ∙ ends))
      by (NoRow cell) None None ends is also = absurd (false≢true (sym is ∙ next.placed))
      by (NoRow cell) (Some base) None ends is also = stops_same base cell.0 is
