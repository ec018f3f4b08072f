-- Laws of the first fit's terminals: exactly the cut nets have one, each in a slot of its own, and their centres are in range.
use Rattle.std.specs.Prelude.{◌≡◌, ◌≤◌, List, length, get_or, All, Option, Some, None, IfSome}
use Rattle.std.specs.List.{range_with_len}
use Rattle.std.proofs.Common.{refl, sym, ap, subst, ◌∙◌}
use Rattle.std.proofs.lemmas.Option.{get_or_from_slice_get, slice_get-get_or}
use Rattle.fp_base.specs.declared.ids.Die.{Die}
use Rattle.fp_base.specs.declared.ids.Point.{Point}
use Rattle.fp_tech.specs.Plan.{Plan, IsPlan}
use Rattle.fp_tech.specs.Slots.{Slots, IsGrid, slot_count}
use Rattle.fp_netlist.specs.Netlist.{Netlist}
use Rattle.fp_place.specs.Cut.{cut}
use Rattle.fp_place.specs.OnSlots.{AreOnCuts, AreOnSlots}
use Rattle.fp_place.specs.OnSlotsLaws.{slot_in_range}
use Rattle.fp_place.specs.Placed.{IsCentre}
use Rattle.fp_score.specs.FirstFit.{fit_terminals}
use Rattle.fp_score.specs.SlotBestLaws.{length-chosen_terminals, chosen_on_cuts, chosen_on_slots, fit_is_chosen, first_slots}

-- centres on slots are in range
pub on_slots_in_range : (plan : Plan) (grid : Slots) (terminals : List (Option Point)) → IsPlan plan → IsGrid plan.frame plan.terminal grid
    → AreOnSlots grid terminals → All (λ terminal. IfSome terminal IsCentre) terminals
on_slots_in_range plan grid terminals is is_grid on net d below = by (get_or terminals net d) refl
  where
    by : (o : Option Point) → get_or terminals net d ≡ o → IfSome o IsCentre
    by None e = tt
    by (Some centre) e =
        let at = on.on_slot net centre below (get_or_from_slice_get terminals net (get_or terminals net d) None (slice_get-get_or terminals net d below) ∙ e) in
        subst IsCentre (sym at.at) (slot_in_range plan grid at.slot is is_grid at.within)

-- the first fit has a terminal or none for each net
pub length-fit_terminals : (p : Netlist) (grid : Slots) (dies : List Die) → length (fit_terminals p grid dies) ≡ length p.nets
length-fit_terminals p grid dies = ap length (fit_is_chosen p grid dies) ∙ length-chosen_terminals p grid dies (range_with_len 0 (cut p dies))

-- exactly the cut nets have a terminal
pub fit_on_cuts : (p : Netlist) (grid : Slots) (dies : List Die) → AreOnCuts p dies (fit_terminals p grid dies)
fit_on_cuts p grid dies = subst (AreOnCuts p dies) (sym (fit_is_chosen p grid dies)) (chosen_on_cuts p grid dies (range_with_len 0 (cut p dies)))

-- each terminal is in a slot of its own, where the slots are at least the cut nets
pub fit_on_slots : (p : Netlist) (grid : Slots) (dies : List Die) → IsPlan p.plan → IsGrid p.plan.frame p.plan.terminal grid
    → cut p dies ≤ slot_count grid → AreOnSlots grid (fit_terminals p grid dies)
fit_on_slots p grid dies is is_grid enough =
    subst (AreOnSlots grid) (sym (fit_is_chosen p grid dies))
    (chosen_on_slots p grid dies (range_with_len 0 (cut p dies)) is is_grid (first_slots grid (cut p dies) enough))
