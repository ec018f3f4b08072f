-- The pick of both dies from those of each.
use Rattle.std.specs.Prelude.{◌≡◌, ℕ, ◌<◌, List, [], length, Result, Ok, Err}
use Rattle.std.proofs.Common.{sym, ap, subst, ◌∙◌}
use Rattle.fp_base.specs.declared.ids.CellId.{CellId}
use Rattle.fp_base.specs.declared.ids.Die.{Die}
use Rattle.fp_base.specs.declared.ids.Die.TheVariants.{Top, Bottom}
use Rattle.fp_base.specs.declared.ids.Point.{Point}
use Rattle.fp_netlist.specs.Netlist.{Netlist, IsSound}
use Rattle.fp_place.specs.Placed.{LaneList}
use Rattle.fp_score.specs.Pick.{Taken, Lined, widest_first, pick_on, lanes_by, after_both, picked}
use Rattle.fp_coarse.specs.Picking.{PicksOn, HoldAll}
use Rattle.fp_coarse.specs.HoldingLaws.{taken_on, hold_all, stuck_within}
use Rattle.fp_coarse.specs.SegmentsLaws.{rows_are}
use Rattle.fp_coarse.proofs.Widest.{widest_within}

pub picks_same : (p : Netlist) (dies : List Die) (targets : List Point) (die : Die) (r s : Result LaneList CellId) → r ≡ s → PicksOn p dies targets die r → PicksOn p dies targets die s
picks_same p dies targets die r s e is = subst (PicksOn p dies targets die) e is

pub picked_both : (p : Netlist) (dies : List Die) (targets : List Point) (top bottom : LaneList) → PicksOn p dies targets Top (Ok top) → PicksOn p dies targets Bottom (Ok bottom)
    → picked p dies targets ≡ Ok (record { top = top; bottom = bottom })
unfolding picked
picked_both p dies targets top bottom on_top on_bottom =
    ap (λ (o : Result (List Taken) ℕ). after_both p targets o (pick_on p dies targets Bottom)) on_top.1
    ∙ ap (after_both p targets (Ok on_top.0)) on_bottom.1
    ∙ ap (λ (lanes : LaneList). let lined : Lined = record { top = lanes; bottom = lanes_by p Bottom targets on_bottom.0 } in Ok lined) (sym on_top.2)
    ∙ ap (λ (lanes : LaneList). let lined : Lined = record { top = top; bottom = lanes } in Ok lined) (sym on_bottom.2)

pub picked_none_top : (p : Netlist) (dies : List Die) (targets : List Point) (cell : CellId) → PicksOn p dies targets Top (Err cell) → picked p dies targets ≡ Err cell.0
unfolding picked
picked_none_top p dies targets cell on_top = ap (λ (o : Result (List Taken) ℕ). after_both p targets o (pick_on p dies targets Bottom)) on_top

pub picked_none_bottom : (p : Netlist) (dies : List Die) (targets : List Point) (top : LaneList) (cell : CellId) → PicksOn p dies targets Top (Ok top)
    → PicksOn p dies targets Bottom (Err cell) → picked p dies targets ≡ Err cell.0
unfolding picked
picked_none_bottom p dies targets top cell on_top on_bottom =
    ap (λ (o : Result (List Taken) ℕ). after_both p targets o (pick_on p dies targets Bottom)) on_top.1 ∙ ap (after_both p targets (Ok on_top.0)) on_bottom

pub holds_both : (p : Netlist) (dies : List Die) (targets : List Point) (top bottom : LaneList) → IsSound p → PicksOn p dies targets Top (Ok top)
    → PicksOn p dies targets Bottom (Ok bottom) → HoldAll p dies top bottom
holds_both p dies targets top bottom sound on_top on_bottom =
    subst (λ (lanes : LaneList). HoldAll p dies lanes bottom) (sym on_top.2)
    (subst (λ (lanes : LaneList). HoldAll p dies (lanes_by p Top targets on_top.0) lanes) (sym on_bottom.2)
    (hold_all p dies targets on_top.0 on_bottom.0 (taken_on p dies targets Top on_top.0 (rows_are p.plan sound.plan Top) on_top.1)
    (taken_on p dies targets Bottom on_bottom.0 (rows_are p.plan sound.plan Bottom) on_bottom.1)))

pub none_within : (p : Netlist) (dies : List Die) (targets : List Point) (die : Die) (cell : CellId) → PicksOn p dies targets die (Err cell) → cell.0 < length p.cells
none_within p dies targets die cell is = stuck_within p targets die (widest_first p dies die) (length p.cells) [] cell.0 (widest_within p dies die) is
