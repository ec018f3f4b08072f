-- Laws of placements of the lanes that a pick answers.
use Rattle.std.specs.Prelude.{◌≡◌, ℕ, List, [], ◌∷◌, length, map, All, Some, slice_get, get_or, ℤ, pos, ◌+ℤ◌, ◌≤ℤ◌}
use Rattle.std.proofs.Common.{zero, suc, sym, ap, subst, ◌∙◌, arith}
use Rattle.std.proofs.Math.ListN.{get_or-map}
use Rattle.std.proofs.lemmas.Int.{ints}
use Rattle.std.proofs.lemmas.List.{ext_get_or, length-map}
use Rattle.std.proofs.lemmas.List.Elements.{All-from_get_or}
use Rattle.std.proofs.lemmas.Option.{slice_get-get_or}
use Rattle.fp_base.specs.declared.ids.CellId.{CellId}
use Rattle.fp_base.specs.declared.ids.Die.{Die}
use Rattle.fp_base.specs.declared.ids.Die.TheVariants.{Top}
use Rattle.fp_tech.specs.declared.dies.Segment.{Segment}
use Rattle.fp_tech.specs.Plan.{IsPlan, segments}
use Rattle.fp_netlist.specs.Netlist.{Netlist}
use Rattle.fp_netlist.specs.Points.{width}
use Rattle.fp_place.specs.declared.placement.Spot.{Spot}
use Rattle.fp_place.specs.Places.{Place, nowhere, place_at, dies_of}
use Rattle.fp_place.specs.Drawing.{IsCoordinate}
use Rattle.fp_place.specs.Placed.{LaneList, Placed, no_spot, spot_at, place_of, places_of, lanes_on, entry_at, DoAgree, StandOnce, StandBetween, IsInOrder}
use Rattle.fp_place.specs.PlacedLaws.{entry_of, entry_within, place_in_range}
use Rattle.fp_score.specs.FirstFit.{no_segment, segment_at}
use Rattle.fp_coarse.specs.Picking.{HoldAll}

-- a placement of these lanes has the dies that the pick was given
pub keeps_dies : (p : Netlist) (dies : List Die) (top bottom : LaneList) (placed : Placed) → HoldAll p dies top bottom → placed.top ≡ top → placed.bottom ≡ bottom
    → DoAgree placed → length placed.spots ≡ length dies → dies_of (places_of placed) ≡ dies
keeps_dies p dies top bottom placed hold top_is bottom_is agree many =
    ext_get_or Top (dies_of (places_of placed)) dies (long ∙ many) (λ cell within.
    let spot = spot_at placed.spots cell in
    let named : entry_at (lanes_on placed.top placed.bottom spot.die) spot.segment spot.rank ≡ Some (record { 0 = cell }) = agree.spot_named cell (omega (arith, within, long)) in
    let there : entry_at (lanes_on top bottom spot.die) spot.segment spot.rank ≡ Some (record { 0 = cell }) =
    subst (λ (lanes : LaneList). entry_at (lanes_on top lanes spot.die) spot.segment spot.rank ≡ Some (record { 0 = cell })) bottom_is
    (subst (λ (lanes : LaneList). entry_at (lanes_on lanes placed.bottom spot.die) spot.segment spot.rank ≡ Some (record { 0 = cell })) top_is named) in
    get_or-map (λ (place : Place). place.die) (places_of placed) cell nowhere ∙ ap (λ (place : Place). place.die) (get_or-map place_of placed.spots cell no_spot)
    ∙ sym (hold.own_die spot.die spot.segment spot.rank (record { 0 = cell }) there))
  where
    long : length (dies_of (places_of placed)) ≡ length placed.spots
    long = length-map (places_of placed) (λ place. place.die) ∙ length-map placed.spots place_of

-- Positions of cells of these widths, from one end to the other, in the order of the cells and without overlap: the first at or behind
-- the front end, each at or behind the end of the one before, and the last ending at or before the back end.
abbrev pub StandInRow : ℤ → ℤ → List ℤ → List ℤ → Type 0
StandInRow from to [] [] = from ≤ℤ to
StandInRow from to [] (x ∷ xs) = ⊥
StandInRow from to (width ∷ widths) [] = ⊥
StandInRow from to (width ∷ widths) (x ∷ xs) = (from ≤ℤ x) × StandInRow (x +ℤ width) to widths xs

-- the widths of a lane's cells, and their positions in a list by cell
abbrev pub widths_of : Netlist → Die → List CellId → List ℤ
widths_of p die lane = map (λ cell. pos (width p cell.0 die)) lane

abbrev pub xs_of : List ℤ → List CellId → List ℤ
xs_of xs lane = map (λ cell. get_or xs cell.0 (pos 0)) lane

-- cells at such positions stand in order
pub row_in_order : (p : Netlist) (die : Die) (places : List Place) (xs : List ℤ) (lane : List CellId) (from to : ℤ)
    → ((cell : ℕ) → (place_at places cell).x ≡ get_or xs cell (pos 0)) → StandInRow from to (widths_of p die lane) (xs_of xs lane) → StandBetween p die places from to lane
row_in_order p die places xs [] from to same stand = stand
row_in_order p die places xs (cell ∷ lane) from to same stand =
    let here : get_or xs cell.0 (pos 0) ≡ (place_at places cell.0).x = sym (same cell.0) in (
      subst (λ x. from ≤ℤ x) here stand.0,
      row_in_order p die places xs lane ((place_at places cell.0).x +ℤ pos (width p cell.0 die)) to same
          (subst (λ x. StandInRow (x +ℤ pos (width p cell.0 die)) to (widths_of p die lane) (xs_of xs lane)) here stand.1),
    )

-- on each segment the lane's cells stand at such positions
abbrev pub StandInRows : Netlist → LaneList → LaneList → List ℤ → Type 0
StandInRows p top bottom xs = (die : Die) (number : ℕ) (segment : Segment) (lane : List CellId)
    → slice_get (segments p.plan die) number ≡ Some segment → slice_get (lanes_on top bottom die) number ≡ Some lane
    → StandInRow segment.start (segment.start +ℤ segment.length) (widths_of p die lane) (xs_of xs lane)

-- a placement of such positions is in order
pub rows_in_order : (p : Netlist) (placed : Placed) (xs : List ℤ) → map (λ (spot : Spot). spot.x) placed.spots ≡ xs → StandInRows p placed.top placed.bottom xs → IsInOrder p placed
rows_in_order p placed xs same stand = λ die number segment lane there held.
    row_in_order p die (places_of placed) xs lane segment.start (segment.start +ℤ segment.length) x_is (stand die number segment lane there held)
  where
    x_is : (cell : ℕ) → (place_at (places_of placed) cell).x ≡ get_or xs cell (pos 0)
    x_is cell =
        ap (λ (place : Place). place.x) (get_or-map place_of placed.spots cell no_spot)
        ∙ sym (get_or-map (λ (spot : Spot). spot.x) placed.spots cell no_spot) ∙ ap (λ (list : List ℤ). get_or list cell (pos 0)) same

row_ends : (from to : ℤ) (p : Netlist) (die : Die) (xs : List ℤ) (lane : List CellId) → StandInRow from to (widths_of p die lane) (xs_of xs lane) → from ≤ℤ to
row_ends from to p die xs [] stand = stand
row_ends from to p die xs (cell ∷ lane) stand =
    omega (arith, ints, stand.0, row_ends (get_or xs cell.0 (pos 0) +ℤ pos (width p cell.0 die)) to p die xs lane stand.1)

record StandsWithin (from to at : ℤ) : Type 0 where
  least : from ≤ℤ at
  most : at ≤ℤ to

row_within : (p : Netlist) (die : Die) (xs : List ℤ) (lane : List CellId) (rank : ℕ) (cell : CellId) (from to : ℤ) → slice_get lane rank ≡ Some cell
    → StandInRow from to (widths_of p die lane) (xs_of xs lane) → StandsWithin from to (get_or xs cell.0 (pos 0))
row_within p die xs [] rank cell from to at stand = absurd cc
row_within p die xs (first ∷ lane) zero cell from to at stand =
    let same : first ≡ cell = cc in
    let behind = row_ends (get_or xs first.0 (pos 0) +ℤ pos (width p first.0 die)) to p die xs lane stand.1 in
    subst (λ (c : CellId). StandsWithin from to (get_or xs c.0 (pos 0))) same (record { least = stand.0; most = omega (arith, ints, behind) })
row_within p die xs (first ∷ lane) (suc rank) cell from to at stand =
    let rest = row_within p die xs lane rank cell (get_or xs first.0 (pos 0) +ℤ pos (width p first.0 die)) to at stand.1 in
    record { least = omega (arith, ints, stand.0, rest.least); most = rest.most }

-- and lie in the range that a placement asks for
pub rows_in_range : (p : Netlist) (top bottom : LaneList) (xs : List ℤ) → IsPlan p.plan → StandOnce (length p.cells) top bottom
    → ((die : Die) → length (lanes_on top bottom die) ≡ length (segments p.plan die)) → length xs ≡ length p.cells → StandInRows p top bottom xs → All IsCoordinate xs
rows_in_range p top bottom xs is once long many stand =
    All-from_get_or IsCoordinate xs (pos 0) (λ cell within.
    let there = once.there cell (omega (arith, within, many)) in
    let die = there.0 in
    let number = there.1 in
    let entry = entry_of (lanes_on top bottom die) number there.2 (record { 0 = cell }) there.3 in
    let below = entry_within (lanes_on top bottom die) number there.2 (record { 0 = cell }) there.3 in
    let segment = segment_at p.plan die number in
    let laid : slice_get (segments p.plan die) number ≡ Some segment = slice_get-get_or (segments p.plan die) number no_segment (omega (arith, below, long die)) in
    let stands = row_within p die xs entry.lane there.2 (record { 0 = cell }) segment.start (segment.start +ℤ segment.length) entry.at
    (stand die number segment entry.lane laid entry.there) in
    place_in_range p.plan is die number segment laid (get_or xs cell (pos 0)) stands.least stands.most)
