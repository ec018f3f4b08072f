-- What trials show, by cell, as the checker holds it.
use Rattle.std.specs.Prelude.{◌≡◌, ℕ, true, false, List, [], ◌∷◌, length, fold, set, slice_get, Option, Some, MatchOption}
use Rattle.fp_base.specs.declared.ids.CellId.{CellId}
use Rattle.fp_base.specs.declared.ids.Die.{Die}
use Rattle.fp_base.specs.declared.ids.Die.TheVariants.{Top}
use Rattle.fp_base.specs.declared.ids.Point.{Point}
use Rattle.fp_tech.specs.Slots.{Slots, centre_of}
use Rattle.fp_netlist.specs.Netlist.{Netlist}
use Rattle.fp_place.specs.Placed.{DoAgree, IsPlacementOf}
use Rattle.fp_cert.specs.declared.shown.CutShown.{CutShown}
use Rattle.fp_cert.specs.Endings.{has_rows}
use Rattle.fp_cert.specs.Shown.{ShownTrial, ShownRun}
use Rattle.fp_cert.specs.Standing.{targets_shown, placed_shown, dies_shown}
use Rattle.fp_check.specs.declared.views.Layout.{Layout}
use Rattle.fp_check.specs.declared.views.View.{View}

-- dies with those of cells set to the top die
abbrev pub with_tops : List Die → List CellId → List Die
with_tops dies cells = fold (λ held (cell : CellId). set held cell.0 Top) dies cells

-- terminals with those of the lines' nets in the lines' slots; where a net has several lines, the first counts
unfoldable pub with_terminals : Slots → List CutShown → List (Option Point) → List (Option Point)
with_terminals grid [] terminals = terminals
with_terminals grid (cut ∷ cuts) terminals = set (with_terminals grid cuts terminals) cut.net.0 (Some (centre_of grid cut.slot.0))

-- the placement and the targets that a trial shows, which placed its cells
pub record IsLayoutOf (p : Netlist) (grid : Slots) (trial : ShownTrial) (layout : Layout) : Type 0 where
  pub has : has_rows trial.ending ≡ true
  pub placement_is : layout.placement ≡ placed_shown p grid trial
  pub targets_are : layout.targets.items ≡ targets_shown p trial
  pub of_problem : IsPlacementOf p layout.placement
  pub agree : DoAgree layout.placement

-- the dies that a trial shows, and its layout where it placed its cells
pub record IsViewOf (p : Netlist) (grid : Slots) (trial : ShownTrial) (view : View) : Type 0 where
  pub many : length view.dies.items ≡ length p.cells
  pub dies_are : view.dies.items ≡ dies_shown p trial
  pub layout_is : MatchOption view.layout (has_rows trial.ending ≡ false) (IsLayoutOf p grid trial)

-- a view for each trial
pub record AreViews (p : Netlist) (grid : Slots) (run : ShownRun) (views : List View) : Type 0 where
  pub many : length views ≡ length run.trials
  pub each : (number : ℕ) (trial : ShownTrial) (view : View) → slice_get run.trials number ≡ Some trial → slice_get views number ≡ Some view → IsViewOf p grid trial view
