-- The choice of rows of a trial, told of what the checker holds of the trial and of its base.
use Rattle.std.specs.Prelude.{◌≡◌, ℕ, true, List, Option, Some, None, Ok, Err}
use Rattle.fp_base.specs.declared.ids.Die.{Die}
use Rattle.fp_base.specs.declared.ids.Point.{Point}
use Rattle.fp_netlist.specs.Netlist.{Netlist}
use Rattle.fp_place.specs.Places.{Place}
use Rattle.fp_place.specs.Placed.{places_of, IsPlacementOf}
use Rattle.fp_score.specs.Pick.{picked}
use Rattle.fp_score.specs.Target.{AreTargets}
use Rattle.fp_coarse.specs.Picking.{AreNear}
use Rattle.fp_cert.specs.declared.shown.Ending.{Ending}
use Rattle.fp_cert.specs.declared.shown.Ending.TheVariants.{Start, Better, NotBetter, NoRow}
use Rattle.fp_cert.specs.Endings.{has_rows}
use Rattle.fp_cert.specs.Shown.{ShownRun}
use Rattle.fp_check.specs.declared.views.Layout.{Layout}
use Rattle.fp_check.specs.declared.views.View.{View}
use Rattle.fp_check.specs.Conditions.{OfNext}

-- each trial that is the base of another placed its cells
abbrev pub HaveLayouts : ShownRun → Type 0
HaveLayouts run = OfNext run (λ base trial. has_rows base.ending ≡ true)

-- a fact of two values, where both are there
abbrev pub IfBoth : {A B : Type 0} → Option A → Option B → (A → B → Type 0) → Type 0
IfBoth None other fact = Unit {0}
IfBoth (Some a) None fact = Unit {0}
IfBoth (Some a) (Some b) fact = fact a b

-- where both placed their cells, a trial has the targets over its base
abbrev pub HasTargets : Netlist → View → View → Type 0
HasTargets p base view = IfBoth base.layout view.layout (λ from to. AreTargets p (places_of from.placement) view.dies.items to.targets.items)

-- the choice of rows for dies, and the targets over a base, fails at a cell
pub record StopsAt (p : Netlist) (base : List Place) (dies : List Die) (cell : ℕ) : Type 0 where
  pub targets : List Point
  pub are_targets : AreTargets p base dies targets
  pub stops : picked p dies targets ≡ Err cell

-- a layout has the chosen rows for its dies and targets
abbrev pub AreLanesPicked : Netlist → List Die → Layout → Type 0
AreLanesPicked p dies layout = picked p dies layout.targets.items ≡ Ok (record { top = layout.placement.top; bottom = layout.placement.bottom })

-- a trial that did not place its cells ended at the cell at which the choice fails
abbrev pub StopsOver : Netlist → List Die → Option Layout → Ending → Type 0
StopsOver p dies None ending = ⊥
StopsOver p dies (Some base) Start = ⊥
StopsOver p dies (Some base) Better = ⊥
StopsOver p dies (Some base) NotBetter = ⊥
StopsOver p dies (Some base) (NoRow cell) = StopsAt p (places_of base.placement) dies cell.0

-- a trial's rows are the chosen ones, or there is none for the cell at which it ended
abbrev pub HasRowsBy : Netlist → List Die → Option Layout → Ending → Option Layout → Type 0
HasRowsBy p dies base ending None = StopsOver p dies base ending
HasRowsBy p dies base ending (Some layout) = AreLanesPicked p dies layout

abbrev pub HasRows : Netlist → Ending → View → View → Type 0
HasRows p ending base view = HasRowsBy p view.dies.items base.layout ending view.layout

-- a layout is a placement of the problem, and its targets are in range
pub record IsNearLayout (p : Netlist) (layout : Layout) : Type 0 where
  pub of_problem : IsPlacementOf p layout.placement
  pub near : AreNear p layout.targets.items
