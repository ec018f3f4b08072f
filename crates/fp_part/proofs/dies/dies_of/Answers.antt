use Rattle.std.proofs.Common.{◌≡◌, ◌∙◌, ◌++◌, ◌∷◌, [], ◌<◌, length, get_or, ap, sym, arith}
use Rattle.std.proofs.Math.ListN.{get_or-map}
use Rattle.std.proofs.lemmas.List.{length-map, take_more, take_all}
use Rattle.std.proofs.lemmas.Option.{get_or_from_slice_get}
use Rattle.fp_place.specs.declared.placement.Spot.{Spot}
use Rattle.fp_place.specs.Places.{Place, dies_of}
use Rattle.fp_place.specs.Placed.{no_spot, place_of, places_of}
use Rattle.fp_part.proofs.dies.dies_of.Goals as goal

pub loop-cell-preserved : goal.loop-cell-preserved
loop-cell-preserved c =
    let placed = c.args.placement.now in
    let k = c.loop-cell.cell in
    let dies = dies_of (places_of placed) in
    let long : length dies ≡ length placed.spots = length-map (places_of placed) (λ (place : Place). place.die) ∙ length-map placed.spots place_of in
    let below : k < length dies = omega (arith, long, c.requires.cells, c.loop-cell-test.true, c.cells-cells.ensures.count) in
    let die : get_or dies k no_spot.die ≡ c.spot.result.die =
    get_or-map (λ (place : Place). place.die) (places_of placed) k (place_of no_spot) ∙ ap (λ (place : Place). place.die) (get_or-map place_of placed.spots k no_spot)
    ∙ ap (λ (spot : Spot). spot.die) (get_or_from_slice_get placed.spots k c.spot.result no_spot c.spot.ensures.spot) in
    c.in_ok-push.ensures.items ∙ (λ i. c.loop-cell.invariant i ++ sym die i ∷ []) ∙ sym (take_more dies k no_spot.die below)

pub returns : goal.returns
returns c =
    let placed = c.args.placement.now in
    let dies = dies_of (places_of placed) in
    let long : length dies ≡ length placed.spots = length-map (places_of placed) (λ (place : Place). place.die) ∙ length-map placed.spots place_of in
    c.loop-cell.invariant ∙ take_all c.loop-cell.cell dies (omega (arith, long, c.requires.cells, c.loop-cell-test.false, c.cells-cells.ensures.count))
