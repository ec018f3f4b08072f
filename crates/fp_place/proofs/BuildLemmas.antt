-- A placement whose spots are laid.
use Rattle.std.proofs.Common.{◌≡◌, ℕ, ◌<◌, ◌++◌, List, length, get_or, map, take, drop, replicate, Option, Some, None, All, refl, ap, sym, subst, ◌∙◌, arith}
use Rattle.std.specs.Prelude.{slice_get, ℤ, pos, IfSome}
use Rattle.std.proofs.lemmas.List.{get_or-map, length-map, length-replicate, get_or_default, take-append-le, take_all, same_lists}
use Rattle.std.proofs.lemmas.List.Elements.{All-replicate}
use Rattle.std.proofs.lemmas.Option.{slice_get-get_or}
use Rattle.fp_base.specs.declared.ids.Die.{Die}
use Rattle.fp_base.specs.declared.ids.Die.TheVariants.{Top, Bottom}
use Rattle.fp_base.specs.declared.ids.CellId.{CellId}
use Rattle.fp_base.specs.declared.ids.Point.{Point}
use Rattle.fp_tech.specs.declared.dies.Segment.{Segment}
use Rattle.fp_tech.specs.Plan.{segments}
use Rattle.fp_netlist.specs.Netlist.{Netlist, IsSound}
use Rattle.fp_place.specs.declared.placement.Spot.{Spot}
use Rattle.fp_place.specs.Drawing.{IsCoordinate}
use Rattle.fp_place.specs.Placed.{LaneList, lanes_on, entry_at, spot_at, no_spot, StandOnce, StandsAt, Agree, IsCentre, IsSpotOf, IsPlacementOf}
use Rattle.fp_place.specs.PlacedLaws.{entry_within, row_in_range}
use Rattle.fp_place.specs.Laying.{x_at, AreLaid}

-- a list that takes another's place, as long as it
pub written : {A : Type 0} (old new : List A) (count : ℕ) → length new ≡ length old → length old ≡ count → take count (new ++ drop (length new) old) ≡ new
written old new count same many =
    take-append-le count new (drop (length new) old) (omega arith) ∙ take_all count new (omega arith)

abbrev no_segment : Segment
no_segment = record { y = pos 0; start = pos 0; length = pos 0 }

-- lanes and spots of a problem that belong together
pub record AreReady (p : Netlist) (top bottom : LaneList) (xs : List ℤ) (spots : List Spot) : Type 0 where
  pub sound : IsSound p
  pub top_lanes : length top ≡ length (segments p.plan Top)
  pub bottom_lanes : length bottom ≡ length (segments p.plan Bottom)
  pub once : StandOnce (length p.cells) top bottom
  pub xs_many : length xs ≡ length p.cells
  pub range : All IsCoordinate xs
  pub many : length spots ≡ length p.cells
  pub laid : AreLaid p.plan top bottom xs spots

-- where a cell's spot was laid
record IsLaidAt (p : Netlist) (top bottom : LaneList) (xs : List ℤ) (spots : List Spot) (cell : ℕ) : Type 0 where
  die : Die
  number : ℕ
  rank : ℕ
  segment : Segment
  entry : entry_at (lanes_on top bottom die) number rank ≡ Some (record { 0 = cell })
  there : slice_get (segments p.plan die) number ≡ Some segment
  spot : spot_at spots cell ≡ record { die = die; segment = number; rank = rank; x = x_at xs cell; y = segment.y }

-- an entry's segment
segment_there : (p : Netlist) (top bottom : LaneList) (xs : List ℤ) (spots : List Spot) → AreReady p top bottom xs spots
    → (die : Die) (number rank : ℕ) (cell : CellId) → entry_at (lanes_on top bottom die) number rank ≡ Some cell
    → slice_get (segments p.plan die) number ≡ Some (get_or (segments p.plan die) number no_segment)
segment_there p top bottom xs spots are Top number rank cell entry =
    slice_get-get_or (segments p.plan Top) number no_segment (omega (arith, entry_within top number rank cell entry, are.top_lanes))
segment_there p top bottom xs spots are Bottom number rank cell entry =
    slice_get-get_or (segments p.plan Bottom) number no_segment (omega (arith, entry_within bottom number rank cell entry, are.bottom_lanes))

laid_at : (p : Netlist) (top bottom : LaneList) (xs : List ℤ) (spots : List Spot) → AreReady p top bottom xs spots → (cell : ℕ) → cell < length p.cells → IsLaidAt p top bottom xs spots cell
laid_at p top bottom xs spots are cell less = by (are.once.there cell less)
  where
    by : ((die : Die) × (segment : ℕ) × (rank : ℕ) × (entry_at (lanes_on top bottom die) segment rank ≡ Some (record { 0 = cell }))) → IsLaidAt p top bottom xs spots cell
    by (die, number, rank, entry) =
        let there = segment_there p top bottom xs spots are die number rank (record { 0 = cell }) entry in
        record {
          die = die;
          number = number;
          rank = rank;
          segment = get_or (segments p.plan die) number no_segment;
          entry = entry;
          there = there;
          spot = are.laid.laid die number rank (record { 0 = cell }) (get_or (segments p.plan die) number no_segment) entry there;
        }

-- spots and lanes agree
pub laid_agree : (p : Netlist) (top bottom : LaneList) (xs : List ℤ) (spots : List Spot) → AreReady p top bottom xs spots → Agree spots top bottom
laid_agree p top bottom xs spots are = record {
  spot_named = λ cell less.
      let at = laid_at p top bottom xs spots are cell (omega (arith, are.many)) in
      subst (λ (s : Spot). entry_at (lanes_on top bottom s.die) s.segment s.rank ≡ Some (record { 0 = cell })) (sym at.spot) at.entry;
  within = λ die segment rank cell entry. omega (arith, are.many, are.once.within die segment rank cell entry);
  entry_named = λ die segment rank cell entry.
      subst (λ (s : Spot). StandsAt die segment rank s)
      (sym (are.laid.laid die segment rank cell (get_or (segments p.plan die) segment no_segment) entry (segment_there p top bottom xs spots are die segment rank cell entry)))
      (record { die_is = refl; segment_is = refl; rank_is = refl });
}

-- each spot lies on its segment's row
spot_lies : (p : Netlist) (top bottom : LaneList) (xs : List ℤ) (spots : List Spot) → AreReady p top bottom xs spots → All (IsSpotOf p) spots
spot_lies p top bottom xs spots are cell default less =
    let at = laid_at p top bottom xs spots are cell (omega (arith, are.many)) in
    subst (IsSpotOf p) (sym at.spot ∙ get_or_default spots cell no_spot default less) (record {
      segment = at.segment;
      there = at.there;
      row = refl;
      x = are.range cell (pos 0) (omega (arith, are.many, are.xs_many));
      y = row_in_range p.plan are.sound.plan at.die at.number at.segment at.there;
    })

-- they make a placement of the problem, with the xs that were given
pub laid_placement : (p : Netlist) (top bottom : LaneList) (xs : List ℤ) (spots : List Spot) (terminals : List (Option Point)) → AreReady p top bottom xs spots
    → terminals ≡ replicate (length p.nets) None → IsPlacementOf p (record { spots = spots; top = top; bottom = bottom; terminals = terminals })
laid_placement p top bottom xs spots terminals are none = record {
  cells = are.many;
  nets = ap length none ∙ length-replicate (length p.nets) None;
  top_lanes = are.top_lanes;
  bottom_lanes = are.bottom_lanes;
  spots = spot_lies p top bottom xs spots are;
  centres = subst (All (λ (terminal : Option Point). IfSome terminal IsCentre)) (sym none)
      (All-replicate (λ (terminal : Option Point). IfSome terminal IsCentre) (length p.nets) None tt);
}

pub laid_xs : (p : Netlist) (top bottom : LaneList) (xs : List ℤ) (spots : List Spot) → AreReady p top bottom xs spots → map (λ (spot : Spot). spot.x) spots ≡ xs
laid_xs p top bottom xs spots are = same_lists (map (λ (spot : Spot). spot.x) spots) xs (omega (arith, length-map spots (λ (spot : Spot). spot.x), are.many, are.xs_many))
    (λ k default less.
    let within : k < length spots = omega (arith, length-map spots (λ (spot : Spot). spot.x)) in
    let at = laid_at p top bottom xs spots are k (omega (arith, are.many)) in
    get_or-map (λ (spot : Spot). spot.x) spots k no_spot default within
    ∙ ap (λ (s : Spot). s.x) at.spot
    ∙ get_or_default xs k (pos 0) default (omega (arith, are.many, are.xs_many)))
