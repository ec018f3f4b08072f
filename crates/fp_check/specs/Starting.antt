-- Whether what a trial shows starts from the seed, or is drawn, as the checker holds it.
use Rattle.std.specs.Prelude.{◌≡◌, length, Option, Some, None}
use Rattle.fp_netlist.specs.Netlist.{Netlist}
use Rattle.fp_place.specs.Drawing.{Drawing}
use Rattle.fp_place.specs.Legal.{IsLegal}
use Rattle.fp_place.specs.OnSlots.{AreOnCuts}
use Rattle.fp_place.specs.Placed.{Placed, places_of, IsPlacementOf}
use Rattle.fp_place.specs.Places.{dies_of}
use Rattle.fp_check.specs.declared.views.Layout.{Layout}
use Rattle.fp_check.specs.Conditions.{Draws}
use Rattle.fp_check.specs.Seeds.{StartsLike}

-- a placement of the problem, and a target for each cell
pub record IsLayoutFor (p : Netlist) (layout : Layout) : Type 0 where
  pub of_problem : IsPlacementOf p layout.placement
  pub targets : length layout.targets.items ≡ length p.cells

-- the trial placed its cells, and where the seed has them
abbrev pub StartsView : Netlist → Placed → Option Layout → Type 0
StartsView p seed None = ⊥
StartsView p seed (Some layout) = StartsLike p seed layout.placement layout.targets.items

-- a placement that a drawing may be asked to be of
pub record IsAnswerFor (p : Netlist) (drawing : Drawing) (layout : Layout) : Type 0 where
  pub of_problem : IsPlacementOf p layout.placement
  pub legal : Draws p drawing layout.placement → IsLegal p drawing
  pub on_cuts : AreOnCuts p (dies_of (places_of layout.placement)) layout.placement.terminals

-- the trial placed its cells, and the drawing is of its placement
abbrev pub DrawsView : Netlist → Drawing → Option Layout → Type 0
DrawsView p drawing None = ⊥
DrawsView p drawing (Some layout) = Draws p drawing layout.placement
