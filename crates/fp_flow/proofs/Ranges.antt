-- What a trial shows is in range: its targets, its slots and its score.
use Rattle.std.proofs.Common.{◌≡◌, ℕ, ◌<◌, ◌≤◌, List, length, map, get_or, ℤ, sym, ap, subst, arith}
use Rattle.std.specs.Prelude.{All}
use Rattle.std.proofs.lemmas.Int.{ints}
use Rattle.std.proofs.lemmas.List.{length-map, get_or-map}
use Rattle.std.proofs.lemmas.List.Elements.{All-map}
use Rattle.fp_base.specs.declared.ids.Point.{Point}
use Rattle.fp_tech.specs.Slots.{Slots, slot_count}
use Rattle.fp_netlist.specs.Netlist.{Netlist, IsSound}
use Rattle.fp_place.specs.Drawing.{IsCoordinate}
use Rattle.fp_place.specs.Places.{Place}
use Rattle.fp_place.specs.Placed.{Placed, place_of, places_of, DoAgree, IsPlacementOf}
use Rattle.fp_score.specs.Score.{corner}
use Rattle.fp_coarse.specs.Targets.{IsNearTarget}
use Rattle.fp_cert.specs.declared.shown.CutShown.{CutShown}
use Rattle.fp_cert.specs.OfProblem.{most_shown, IsTargetAt, IsTargetPoint, IsPlacedTrialOf}
use Rattle.fp_cert.specs.OfProblemLaws.{placed_of_problem}
use Rattle.fp_cert.specs.Shown.{ShownTrial}
use Rattle.fp_cert.specs.Standing.{targets_shown}
use Rattle.fp_flow.specs.Bases.{IsBase}
use Rattle.fp_flow.specs.Slotted.{IsSlotted}

-- ---- targets

-- targets that were found are in range,
pub near_points : (targets : List Point) → All IsNearTarget targets → All IsTargetPoint targets
near_points targets near = λ cell d below.
    let is = near cell d below in
    (record { least = omega (arith, ints, is.x.0); most = omega (arith, ints, is.x.1) }, record { least = omega (arith, ints, is.y.0); most = omega (arith, ints, is.y.1) })

at_coordinate : (at : ℤ) → IsCoordinate at → IsTargetAt at
at_coordinate at is = record { least = omega (arith, ints, is.least); most = omega (arith, ints, is.most) }

-- and so is each cell's own place
pub own_points : (p : Netlist) (placed : Placed) → IsPlacementOf p placed → All IsTargetPoint (map corner (places_of placed))
own_points p placed is =
    All-map IsTargetPoint corner (places_of placed)
    (All-map (λ (place : Place). IsTargetPoint (corner place)) place_of placed.spots (λ cell d below.
    let spot = is.spots cell d below in
    (at_coordinate (get_or placed.spots cell d).x spot.x, at_coordinate (get_or placed.spots cell d).y spot.y)))

-- ---- slots

-- each line of a trial that lists a solution has a slot of the grid
pub slots_within : (p : Netlist) (grid : Slots) (placed slotted : Placed) (before after trial : ShownTrial) → IsSlotted p grid placed slotted before after → trial.cuts ≡ after.cuts
    → All (λ cut. cut.slot.0 < slot_count grid) trial.cuts
slots_within p grid placed slotted before after trial s cuts = subst (All (λ (cut : CutShown). cut.slot.0 < slot_count grid)) (sym cuts) (λ row d below.
    let same = get_or-map (λ (cut : CutShown). cut.slot.0) after.cuts row d 0 below in
    let inside : row < length s.solution.chosen = omega (arith, below, length-map after.cuts (λ (cut : CutShown). cut.slot.0), ap length s.slots_are) in
    omega (arith, s.choice.in_range row inside, same, ap (λ (slots : List ℕ). get_or slots row 0) s.slots_are))

-- ---- a base

-- a base with targets, slots and a score in range is a trial of the problem
pub base_of_problem : (p : Netlist) (grid : Slots) (trial : ShownTrial) (placed : Placed) → IsSound p → IsBase p grid trial placed → All IsTargetPoint (targets_shown p trial)
    → All (λ cut. cut.slot.0 < slot_count grid) trial.cuts → trial.score ≤ most_shown → IsPlacedTrialOf p (slot_count grid) trial
base_of_problem p grid trial placed sound base near slots small = placed_of_problem p grid trial sound (record {
  of_problem = subst (IsPlacementOf p) (sym base.shown) base.of_problem;
  agree = subst DoAgree (sym base.shown) base.agree;
  near = near;
  slots = slots;
  small = small;
  scored = base.scored;
  certified = base.certified;
})
