-- The text of the first cells and of the first terminals, one line more at a time.
use Rattle.std.proofs.Common.{◌≡◌, ℕ, ◌+◌, true, false, List, [], ◌∷◌, ◌++◌, slice_get, codes, Option, Some, None, sym, ap, ◌∙◌}
use Rattle.std.proofs.lemmas.Grind.{flat_map-append}
use Rattle.std.proofs.lemmas.List.{append-nil}
use Rattle.std.proofs.lemmas.Option.{get_or_from_slice_get}
use Rattle.fp_base.specs.declared.ids.Die.{Die}
use Rattle.fp_base.specs.declared.ids.Point.{Point}
use Rattle.fp_netlist.specs.Netlist.{Netlist, cell_names}
use Rattle.fp_place.specs.declared.drawn.DrawnCell.{DrawnCell}
use Rattle.fp_place.specs.declared.placement.Spot.{Spot}
use Rattle.fp_place.specs.Places.{same_die}
use Rattle.fp_place.specs.Placed.{Placed}
use Rattle.fp_out.specs.OutText.{line_text, inst_text, terminal_text, insts_text, terminals_text}
use Rattle.fp_out.proofs.Lists.{line_at, line_here, line_elsewhere, lines_below, lines_more, line_of, terminals_below, terminals_more}

pub insts_more : (p : Netlist) (die : Die) (cell : ℕ) (placed : Placed) (spot : Spot) (name : List ℕ) → slice_get placed.spots cell ≡ Some spot
    → same_die spot.die die ≡ true → slice_get (cell_names p) cell ≡ Some name
    → insts_text p (lines_below die cell placed) ++ line_text (codes "Inst") name (record { x = spot.x; y = spot.y }) ≡ insts_text p (lines_below die (cell + 1) placed)
insts_more p die cell placed spot name at here named =
    sym (ap (insts_text p) (lines_more die cell placed spot at ∙ ap (λ (l : List DrawnCell). lines_below die cell placed ++ l) (line_here die cell spot here))
    ∙ flat_map-append (inst_text p) (lines_below die cell placed) (line_at cell spot ∷ [])
    ∙ ap (λ (t : List ℕ). insts_text p (lines_below die cell placed) ++ t) (append-nil (inst_text p (line_at cell spot))
    ∙ ap (λ (n : List ℕ). line_text (codes "Inst") n (record { x = spot.x; y = spot.y })) (get_or_from_slice_get (cell_names p) cell name [] named)))

pub insts_same : (p : Netlist) (die : Die) (cell : ℕ) (placed : Placed) (spot : Spot) → slice_get placed.spots cell ≡ Some spot
    → same_die spot.die die ≡ false → insts_text p (lines_below die cell placed) ≡ insts_text p (lines_below die (cell + 1) placed)
insts_same p die cell placed spot at elsewhere =
    sym (ap (insts_text p) (lines_more die cell placed spot at ∙ ap (λ (l : List DrawnCell). lines_below die cell placed ++ l) (line_elsewhere die cell spot elsewhere)
    ∙ append-nil (lines_below die cell placed)))

pub centres_more : (p : Netlist) (net : ℕ) (terminals : List (Option Point)) (centre : Point) (name : List ℕ) → slice_get terminals net ≡ Some (Some centre) → slice_get p.nets net ≡ Some name
    → terminals_text p (terminals_below net terminals) ++ line_text (codes "Terminal") name centre ≡ terminals_text p (terminals_below (net + 1) terminals)
centres_more p net terminals centre name at named =
    sym (ap (terminals_text p) (terminals_more net terminals (Some centre) at)
    ∙ flat_map-append (terminal_text p) (terminals_below net terminals) (line_of net (Some centre))
    ∙ ap (λ (t : List ℕ). terminals_text p (terminals_below net terminals) ++ t) (append-nil (terminal_text p (record { net = record { 0 = net }; x = centre.x; y = centre.y }))
    ∙ ap (λ (n : List ℕ). line_text (codes "Terminal") n centre) (get_or_from_slice_get p.nets net name [] named)))

pub centres_same : (p : Netlist) (net : ℕ) (terminals : List (Option Point)) → slice_get terminals net ≡ Some None
    → terminals_text p (terminals_below net terminals) ≡ terminals_text p (terminals_below (net + 1) terminals)
centres_same p net terminals at = sym (ap (terminals_text p) (terminals_more net terminals None at ∙ append-nil (terminals_below net terminals)))
