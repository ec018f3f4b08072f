-- A trial of dies and targets is the next one after their base.
use Rattle.std.proofs.Common.{◌≡◌, ℕ, ◌<◌, true, false, List, length, map, Some, None, Option, Ok, Err, sym, ap, subst, ◌∙◌}
use Rattle.std.specs.Prelude.{IfSome, is_some}
use Rattle.fp_base.specs.declared.ids.Die.{Die}
use Rattle.fp_base.specs.declared.ids.Die.TheVariants.{Top, Bottom}
use Rattle.fp_base.specs.declared.ids.Point.{Point}
use Rattle.fp_tech.specs.Slots.{Slots, slot_count}
use Rattle.fp_netlist.specs.Netlist.{Netlist, IsSound}
use Rattle.fp_place.specs.declared.placement.Spot.{Spot}
use Rattle.fp_place.specs.Places.{Place, dies_of}
use Rattle.fp_place.specs.Placed.{LaneList, Placed, place_of, places_of}
use Rattle.fp_place.specs.Settled.{KeepRules, settled}
use Rattle.fp_score.specs.Pick.{picked}
use Rattle.fp_score.specs.Target.{AreTargets}
use Rattle.fp_coarse.specs.Picking.{HoldAll}
use Rattle.fp_coarse.specs.PickingLaws.{keeps_dies}
use Rattle.fp_cert.specs.Endings.{has_rows}
use Rattle.fp_cert.specs.OfProblemLaws.{placed_ended, rowless_of_problem}
use Rattle.fp_cert.specs.Shown.{ShownTrial}
use Rattle.fp_cert.specs.Standing.{lane_shown, places_shown, targets_shown, dies_shown}
use Rattle.fp_cert.specs.Trials.{Does, IsRowless, is_better}
use Rattle.fp_flow.specs.Bases.{IsBase}
use Rattle.fp_flow.specs.Steps.{IsLaid, IsLaidFrom, IsFinished, IsWith, IsOfTargets, IsNext}
use Rattle.fp_flow.proofs.Chaining.{base_dies}
use Rattle.fp_flow.proofs.Finishing.{ends_with_rows, targets_by_rows, rows_by_rows, best_by_rows}

-- the placement of picked lanes has the dies that they were picked for
pub laid_dies : (p : Netlist) (dies : List Die) (top bottom : LaneList) (targets : List Point) (trial : ShownTrial) (placed : Placed) → HoldAll p dies top bottom → KeepRules p dies
    → IsLaidFrom p top bottom targets trial placed → dies_of (places_of placed) ≡ dies
laid_dies p dies top bottom targets trial placed hold rules is =
    keeps_dies p dies top bottom placed hold is.top_is is.bottom_is is.laid.agree (is.laid.of_problem.cells ∙ sym rules.cells)

pub laid_rules : (p : Netlist) (dies : List Die) (top bottom : LaneList) (targets : List Point) (trial : ShownTrial) (placed : Placed) → HoldAll p dies top bottom → KeepRules p dies
    → IsLaidFrom p top bottom targets trial placed → KeepRules p (dies_of (places_of placed))
laid_rules p dies top bottom targets trial placed hold rules is = subst (KeepRules p) (sym (laid_dies p dies top bottom targets trial placed hold rules is)) rules

-- what a trial is laid out by does not depend on how its targets are told
pub laid_as_shown : (p : Netlist) (targets : List Point) (trial : ShownTrial) (placed : Placed) → IsLaid p targets trial placed → IsLaid p (targets_shown p trial) trial placed
laid_as_shown p targets trial placed laid = subst (λ (list : List Point). IsLaid p list trial placed) (sym laid.targets_are) laid

-- the trial of picked rows
pub of_rows : (p : Netlist) (grid : Slots) (dies : List Die) (targets : List Point) (top bottom : LaneList) (before : ℕ) (old new : ShownTrial) (placed : Placed) (better : Option Placed)
    → picked p dies targets ≡ Ok (record { top = top; bottom = bottom }) → HoldAll p dies top bottom → KeepRules p dies → IsLaidFrom p top bottom targets old placed
    → IsFinished p grid before old placed new better → IsOfTargets p grid dies targets before new better
of_rows p grid dies targets top bottom before old new placed better pick hold rules laid is = record {
  does = subst (Does p grid dies targets before new) (sym pick) (
    record {
      top_is = ap (map lane_shown) (rows_by_rows new old is.top_is is.bottom_is Top) ∙ laid.laid.top_shown ∙ laid.top_is;
      bottom_is = ap (map lane_shown) (rows_by_rows new old is.top_is is.bottom_is Bottom) ∙ laid.laid.bottom_shown ∙ laid.bottom_is;
      targets_are = targets_by_rows p new old is.top_is is.bottom_is ∙ laid.laid.targets_are;
      rows = best_by_rows p new old is.top_is is.bottom_is laid.laid.best;
    },
    is.scored,
    is.ending_is,
  );
  comes = record {
    of_problem = placed_ended p (slot_count grid) new new.ending (ap has_rows is.ending_is ∙ ends_with_rows new.score before) is.of_problem;
    certified = λ has. is.certified;
    better_is = is.better_is;
    next = next better is.next;
  };
}
  where
    next : (o : Option Placed) → IfSome o (λ slotted. IsBase p grid new slotted × (slotted.spots ≡ placed.spots)) → IfSome o (λ slotted. IsBase p grid new slotted × (dies_of (places_of slotted) ≡ dies))
    next None is = tt
    next (Some slotted) is =
        (is.0, ap (λ (spots : List Spot). dies_of (map place_of spots)) is.1 ∙ laid_dies p dies top bottom targets old placed hold rules laid)

-- and that without a row
pub of_no_row : (p : Netlist) (grid : Slots) (dies : List Die) (targets : List Point) (before cell : ℕ) (trial : ShownTrial) (better : Option Placed) → IsSound p → picked p dies targets ≡ Err cell
    → cell < length p.cells → IsRowless p dies cell trial → better ≡ None → IsOfTargets p grid dies targets before trial better
of_no_row p grid dies targets before cell trial better sound pick below rowless none = record {
  does = subst (Does p grid dies targets before trial) (sym pick) rowless;
  comes = record {
    of_problem = rowless_of_problem p dies (slot_count grid) cell trial sound below rowless;
    certified = λ has. absurd (let no : false ≡ true = ap has_rows (sym rowless.ending_is) ∙ has in cc);
    better_is = ap is_some none ∙ ap is_better (sym rowless.ending_is);
    next = subst (λ (o : Option Placed). IfSome o (λ placed. IsBase p grid trial placed × (dies_of (places_of placed) ≡ dies))) (sym none) tt;
  };
}

-- over the settled dies of a base and its targets it is the next trial
pub next_is : (p : Netlist) (grid : Slots) (dies : List Die) (targets : List Point) (base trial : ShownTrial) (placed : Placed) (better : Option Placed) → IsBase p grid base placed
    → dies ≡ settled p (dies_of (places_of placed)) → AreTargets p (places_of placed) dies targets → IsOfTargets p grid dies targets base.score trial better → IsNext p grid base trial better
next_is p grid dies targets base trial placed better is dies_are are made = record {
  step = record {
    targets = targets;
    are_targets = subst (λ (places : List Place). AreTargets p places (settled p (dies_shown p base)) targets) (sym places) (subst (λ (ds : List Die). AreTargets p (places_of placed) ds targets) same are);
    does = subst (λ (ds : List Die). Does p grid ds targets base.score trial (picked p ds targets)) same made.does;
  };
  comes = subst (λ (ds : List Die). IsWith p grid ds trial better) same made.comes;
}
  where
    same : dies ≡ settled p (dies_shown p base)
    same = dies_are ∙ ap (settled p) (sym (base_dies p grid base placed is))

    places : places_shown p base ≡ places_of placed
    places = ap (λ (pl : Placed). places_of pl) is.shown
