-- A drawing that is legal is that of a placement exactly where the placement that it is read as stands alike and has the same terminals.
use Rattle.std.proofs.Common.{◌≡◌, ℕ, ◌<◌, List, length, slice_get, Option, Some, None, sym, ap, ◌∙◌, arith}
use Rattle.std.specs.Prelude.{◌↔◌, if◌then◌else◌, Bool}
use Rattle.std.proofs.lemmas.List.{length-map, ext_get_or}
use Rattle.std.proofs.Math.ListN.{get_or-map}
use Rattle.std.proofs.lemmas.Option.{get_or_from_slice_get}
use Rattle.fp_base.specs.declared.ids.Point.{Point}
use Rattle.fp_netlist.specs.Netlist.{Netlist}
use Rattle.fp_place.specs.declared.judge.Judged.TheVariants as judged
use Rattle.fp_place.specs.declared.placement.Spot.{Spot}
use Rattle.fp_place.specs.Breaks.{Judges}
use Rattle.fp_place.specs.Cut.{is_cut}
use Rattle.fp_place.specs.Drawing.{Drawing}
use Rattle.fp_place.specs.OnSlots.{AreOnCuts}
use Rattle.fp_place.specs.Places.{Place, nowhere, dies_of, place_at}
use Rattle.fp_place.specs.Placed.{Placed, no_spot, spot_at, place_of, places_of, IsPlacementOf}
use Rattle.fp_score.specs.Score.{terminal_at}
use Rattle.fp_check.specs.Conditions.{Draws}

-- cells that are each at one place are at the same places
pub places_alike : (p : Netlist) (first second : Placed) → IsPlacementOf p first → IsPlacementOf p second
    → ((cell : ℕ) → cell < length p.cells → place_of (spot_at first.spots cell) ≡ place_of (spot_at second.spots cell)) → places_of first ≡ places_of second
places_alike p first second is its each =
    ext_get_or nowhere (places_of first) (places_of second) (long first is ∙ sym (long second its)) (λ cell below.
    get_or-map place_of first.spots cell no_spot ∙ each cell (omega (arith, below, long first is)) ∙ sym (get_or-map place_of second.spots cell no_spot))
  where
    long : (placed : Placed) → IsPlacementOf p placed → length (places_of placed) ≡ length p.cells
    long placed of_problem = length-map placed.spots place_of ∙ of_problem.cells

pub place_alike : (first second : Placed) (cell : ℕ) → places_of first ≡ places_of second → place_of (spot_at first.spots cell) ≡ place_of (spot_at second.spots cell)
place_alike first second cell same =
    sym (get_or-map place_of first.spots cell no_spot) ∙ ap (λ (places : List Place). place_at places cell) same ∙ get_or-map place_of second.spots cell no_spot

pub spot_there : (placed : Placed) (cell : ℕ) (spot : Spot) → slice_get placed.spots cell ≡ Some spot → place_of (spot_at placed.spots cell) ≡ place_of spot
spot_there placed cell spot there = ap place_of (get_or_from_slice_get placed.spots cell spot no_spot there)

pub terminals_alike : (p : Netlist) (first second : Placed) → IsPlacementOf p first → IsPlacementOf p second
    → ((net : ℕ) → net < length p.nets → terminal_at first.terminals net ≡ terminal_at second.terminals net) → first.terminals ≡ second.terminals
terminals_alike p first second is its each =
    ext_get_or None first.terminals second.terminals (is.nets ∙ sym its.nets) (λ net below. each net (omega (arith, below, is.nets)))

drawn_alike : (p : Netlist) (drawing : Drawing) (other placed : Placed) → Judges p drawing (judged.Legal other) → IsPlacementOf p placed
    → AreOnCuts p (dies_of (places_of placed)) placed.terminals → places_of other ≡ places_of placed → other.terminals ≡ placed.terminals → Draws p drawing placed
drawn_alike p drawing other placed judges is on_cuts places terminals = record {
  once = judges.0.once;
  places_are = sym judges.1.cells_are ∙ places;
  terminals_once = λ net below.
      judges.0.terminals net below
      ∙ ap (λ (places : List Place). if is_cut p (dies_of places) net then 1 else 0) (sym judges.1.cells_are ∙ places)
      ∙ ap (λ (b : Bool). if b then 1 else 0) (sym (on_cuts net below));
  terminals_are = λ net below. sym (judges.1.terminals_are net below) ∙ ap (λ (list : List (Option Point)). terminal_at list net) terminals;
}

places_drawn : (p : Netlist) (drawing : Drawing) (other placed : Placed) → Judges p drawing (judged.Legal other) → Draws p drawing placed → places_of other ≡ places_of placed
places_drawn p drawing other placed judges draws = judges.1.cells_are ∙ draws.places_are

terminals_drawn : (p : Netlist) (drawing : Drawing) (other placed : Placed) → Judges p drawing (judged.Legal other) → IsPlacementOf p placed → Draws p drawing placed
    → other.terminals ≡ placed.terminals
terminals_drawn p drawing other placed judges is draws =
    terminals_alike p other placed judges.2 is (λ net below. judges.1.terminals_are net below ∙ draws.terminals_are net below)

-- a legal drawing is that of a placement exactly where it is read as one that stands alike and has the same terminals
pub alike_draws : (p : Netlist) (drawing : Drawing) (other placed : Placed) → Judges p drawing (judged.Legal other) → IsPlacementOf p placed
    → AreOnCuts p (dies_of (places_of placed)) placed.terminals → ((places_of other ≡ places_of placed) × (other.terminals ≡ placed.terminals)) ↔ Draws p drawing placed
alike_draws p drawing other placed judges is on_cuts = (
  λ same. drawn_alike p drawing other placed judges is on_cuts same.0 same.1,
  λ draws. (places_drawn p drawing other placed judges draws, terminals_drawn p drawing other placed judges is draws),
)
