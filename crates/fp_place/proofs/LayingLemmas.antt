-- Laying the spots of cells, one after the other.
use Rattle.std.proofs.Common.{◌≡◌, ◌≢◌, ℕ, suc, ◌+◌, ◌<◌, ◌≤◌, ◌||◌, eqb, Bool, true, false, List, [], ◌∷◌, length, get_or, map, slice_set, Some, All, refl, ap, sym, subst, ◌∙◌, arith}
use Rattle.std.specs.Prelude.{slice_get, ℤ}
use Rattle.std.specs.List.{list_any}
use Rattle.std.proofs.lemmas.List.{get_or-map, length-map, length-set, get_or-set_same, get_or-set_other}
use Rattle.std.proofs.lemmas.List.Elements.{All-map}
use Rattle.std.proofs.lemmas.Option.{same_Some, slice_get_within, slice_get-get_or}
use Rattle.std.proofs.lemmas.Map.Keys.{IsDistinct-from_apart}
use Rattle.std.proofs.lemmas.Map.Steps.{length-le_from_distinct_below}
use Rattle.std.proofs.lemmas.Bool.Decides.{nat_tests}
use Rattle.fp_base.specs.declared.ids.Die.{Die}
use Rattle.fp_base.specs.declared.ids.Die.TheVariants.{Top, Bottom}
use Rattle.fp_base.specs.declared.ids.CellId.{CellId}
use Rattle.fp_tech.specs.declared.dies.Segment.{Segment}
use Rattle.fp_tech.specs.Plan.{Plan, segments}
use Rattle.fp_place.specs.declared.placement.Spot.{Spot}
use Rattle.fp_place.specs.Placed.{LaneList, lanes_on, entry_at, spot_at, no_spot, StandOnce}
use Rattle.fp_place.specs.PlacedLaws.{entry_on}
use Rattle.fp_place.specs.Laying.{x_at, StandApart, AreApart, IsLaneLaid, AreLanesLaid, AreLaid}

abbrev pub no_cell : CellId
no_cell = record { 0 = 0 }

-- cells that stand apart are no more than there are
numbers_apart : (lane : List CellId) → StandApart lane → (i j : ℕ) (d : ℕ) → i < j → j < length (map (λ (cell : CellId). cell.0) lane)
    → eqb (get_or (map (λ (cell : CellId). cell.0) lane) i d) (get_or (map (λ (cell : CellId). cell.0) lane) j d) ≡ false
numbers_apart lane apart i j d less within =
    let behind : j < length lane = omega (arith, length-map lane (λ (cell : CellId). cell.0)) in
    let first = get_or-map (λ (cell : CellId). cell.0) lane i no_cell d (omega arith) in
    let second = get_or-map (λ (cell : CellId). cell.0) lane j no_cell d behind in
    by (eqb (get_or (map (λ (cell : CellId). cell.0) lane) i d) (get_or (map (λ (cell : CellId). cell.0) lane) j d)) refl behind first second
  where
    by : (b : Bool) → eqb (get_or (map (λ (cell : CellId). cell.0) lane) i d) (get_or (map (λ (cell : CellId). cell.0) lane) j d) ≡ b → j < length lane
        → get_or (map (λ (cell : CellId). cell.0) lane) i d ≡ (get_or lane i no_cell).0 → get_or (map (λ (cell : CellId). cell.0) lane) j d ≡ (get_or lane j no_cell).0 → b ≡ false
    by false e behind first second = refl
    by true e behind first second =
        let same : get_or (map (λ (cell : CellId). cell.0) lane) i d ≡ get_or (map (λ (cell : CellId). cell.0) lane) j d = grind (arith, nat_tests) in
        let cells : (get_or lane i no_cell) ≡ (get_or lane j no_cell) = ap (λ n. record { 0 = n }) (sym first ∙ same ∙ second) in
        let equal : i ≡ j = apart i j (get_or lane j no_cell) (slice_get-get_or lane i no_cell (omega arith) ∙ ap Some cells) (slice_get-get_or lane j no_cell behind) in
        absurd (omega arith)

member_below : (n q : ℕ) (xs : List ℕ) → All (λ x. x < n) xs → list_any (eqb q) xs ≡ true → q < n
member_below n q [] all e = absurd (let nothing : false ≡ true = e in cc)
member_below n q (x ∷ xs) all e = by (eqb q x) refl e (λ rest. member_below n q xs (λ k d less. all (suc k) d (omega arith)) rest)
  where
    by : (b : Bool) → eqb q x ≡ b → (b || list_any (eqb q) xs) ≡ true → (list_any (eqb q) xs ≡ true → q < n) → q < n
    by true is e rest =
        let same : q ≡ x = grind (arith, nat_tests) in
        let small : x < n = all 0 0 (omega arith) in omega arith
    by false is e rest = rest e

pub few_on_lane : (lane : List CellId) (n : ℕ) → All (λ (cell : CellId). cell.0 < n) lane → StandApart lane → length lane ≤ n
few_on_lane lane n within apart =
    let numbers : List ℕ = map (λ (cell : CellId). cell.0) lane in
    let few : length (map (λ (cell : CellId). cell.0) lane) ≤ n = length-le_from_distinct_below (map (λ (cell : CellId). cell.0) lane) n
    (IsDistinct-from_apart eqb (map (λ (cell : CellId). cell.0) lane) (numbers_apart lane apart))
    (λ q e. member_below n q (map (λ (cell : CellId). cell.0) lane) (All-map (λ x. x < n) (λ (cell : CellId). cell.0) lane within) e) in
    omega (arith, length-map lane (λ (cell : CellId). cell.0))

-- a lane without laid cells
pub lane_none : (die : Die) (segment : ℕ) (y : ℤ) (xs : List ℤ) (lane : List CellId) (spots : List Spot) → IsLaneLaid die segment y xs lane 0 spots spots
lane_none die segment y xs lane spots = record {
  many = refl;
  laid = λ rank cell less at. absurd (omega arith);
  others = λ cell nowhere. refl;
}

-- one more cell of a lane
pub lane_more : (die : Die) (segment : ℕ) (y : ℤ) (xs : List ℤ) (lane : List CellId) (count : ℕ) (old now : List Spot) (cell : CellId) (spot : Spot)
    → IsLaneLaid die segment y xs lane count old now → StandApart lane → slice_get lane count ≡ Some cell → cell.0 < length now
    → spot ≡ record { die = die; segment = segment; rank = count; x = x_at xs cell.0; y = y }
    → IsLaneLaid die segment y xs lane (count + 1) old (slice_set now cell.0 spot)
lane_more die segment y xs lane count old now cell spot is apart at within spot_is = record {
  many = length-set now cell.0 spot ∙ is.many;
  laid = λ rank other less there. here rank other less there (eqb rank count) refl;
  others = λ other nowhere.
      get_or-set_other now cell.0 other spot no_spot (λ same. nowhere count (omega arith) (at ∙ ap (λ n. Some (record { 0 = n })) (sym same)))
      ∙ is.others other (λ rank less there. nowhere rank (omega arith) there);
}
  where
    here : (rank : ℕ) (other : CellId) → rank < count + 1 → slice_get lane rank ≡ Some other → (b : Bool) → eqb rank count ≡ b
        → spot_at (slice_set now cell.0 spot) other.0 ≡ record { die = die; segment = segment; rank = rank; x = x_at xs other.0; y = y }
    here rank other less there true e =
        let same : rank ≡ count = grind (arith, nat_tests) in
        let cells : cell ≡ other = same_Some cell other (sym at ∙ ap (slice_get lane) (sym same) ∙ there) in
        subst (λ (c : CellId). spot_at (slice_set now cell.0 spot) c.0 ≡ record { die = die; segment = segment; rank = rank; x = x_at xs c.0; y = y }) cells
        (get_or-set_same now cell.0 spot no_spot within ∙ spot_is ∙ ap (λ r. record { die = die; segment = segment; rank = r; x = x_at xs cell.0; y = y }) (sym same))
    here rank other less there false e =
        let apart_ranks : rank ≢ count = grind (arith, nat_tests) in
        get_or-set_other now cell.0 other.0 spot no_spot (λ same. apart_ranks (apart rank count other there (at ∙ ap (λ n. Some (record { 0 = n })) (sym same))))
        ∙ is.laid rank other (omega arith) there

-- one more lane
pub lanes_none : (die : Die) (segments : List Segment) (xs : List ℤ) (lanes : LaneList) (spots : List Spot) → AreLanesLaid die segments xs lanes 0 spots spots
lanes_none die segments xs lanes spots = record {
  many = refl;
  laid = λ number rank cell segment less at there. absurd (omega arith);
  others = λ cell nowhere. refl;
}

pub lanes_more : (die : Die) (segments : List Segment) (xs : List ℤ) (lanes : LaneList) (count : ℕ) (old now new : List Spot) (lane : List CellId) (segment : Segment) (cells : ℕ)
    → AreLanesLaid die segments xs lanes count old now → AreApart cells lanes → slice_get lanes count ≡ Some lane → slice_get segments count ≡ Some segment
    → IsLaneLaid die count segment.y xs lane (length lane) now new
    → AreLanesLaid die segments xs lanes (count + 1) old new
lanes_more die segments xs lanes count old now new lane segment cells is apart lane_is segment_is more = record {
  many = more.many ∙ is.many;
  laid = λ number rank cell place less entry there. here number rank cell place less entry there (eqb number count) refl;
  others = λ cell nowhere.
      more.others cell (λ rank less at. nowhere count rank (omega arith) (entry_on lanes count rank lane lane_is ∙ at))
      ∙ is.others cell (λ number rank less entry. nowhere number rank (omega arith) entry);
}
  where
    here : (number rank : ℕ) (cell : CellId) (place : Segment) → number < count + 1 → entry_at lanes number rank ≡ Some cell → slice_get segments number ≡ Some place
        → (b : Bool) → eqb number count ≡ b
        → spot_at new cell.0 ≡ record { die = die; segment = number; rank = rank; x = x_at xs cell.0; y = place.y }
    here number rank cell place less entry there true e =
        let same : number ≡ count = grind (arith, nat_tests) in
        let places : segment ≡ place = same_Some segment place (sym segment_is ∙ ap (slice_get segments) (sym same) ∙ there) in
        let at : slice_get lane rank ≡ Some cell = sym (entry_on lanes count rank lane lane_is) ∙ ap (λ n. entry_at lanes n rank) (sym same) ∙ entry in
        more.laid rank cell (slice_get_within lane rank cell at) at
        ∙ ap (λ n. record { die = die; segment = n; rank = rank; x = x_at xs cell.0; y = segment.y }) (sym same)
        ∙ ap (λ (s : Segment). record { die = die; segment = number; rank = rank; x = x_at xs cell.0; y = s.y }) places
    here number rank cell place less entry there false e =
        let other : number ≢ count = grind (arith, nat_tests) in
        more.others cell.0 (λ r less at. other (apart.one_segment number count rank r cell entry (entry_on lanes count r lane lane_is ∙ at)))
        ∙ is.laid number rank cell place (omega arith) entry there

-- the cells of a lane of a die
pub lane_within : (cells : ℕ) (lanes : LaneList) (number : ℕ) (lane : List CellId) → AreApart cells lanes → slice_get lanes number ≡ Some lane → All (λ (cell : CellId). cell.0 < cells) lane
lane_within cells lanes number lane apart there k d less =
    apart.within number k (get_or lane k d) (entry_on lanes number k lane there ∙ slice_get-get_or lane k d less)

pub lane_apart : (cells : ℕ) (lanes : LaneList) (number : ℕ) (lane : List CellId) → AreApart cells lanes → slice_get lanes number ≡ Some lane → StandApart lane
lane_apart cells lanes number lane apart there r s cell first second =
    apart.one_rank number number r s cell (entry_on lanes number r lane there ∙ first) (entry_on lanes number s lane there ∙ second)

-- the lanes of one die
pub top_apart : (cells : ℕ) (top bottom : LaneList) → StandOnce cells top bottom → AreApart cells top
top_apart cells top bottom once = record {
  within = once.within Top;
  one_segment = once.one_segment Top Top;
  one_rank = once.one_rank Top Top;
}

pub bottom_apart : (cells : ℕ) (top bottom : LaneList) → StandOnce cells top bottom → AreApart cells bottom
bottom_apart cells top bottom once = record {
  within = once.within Bottom;
  one_segment = once.one_segment Bottom Bottom;
  one_rank = once.one_rank Bottom Bottom;
}

-- the lanes of both dies, those of the bottom die after those of the top die
pub both_laid : (plan : Plan) (top bottom : LaneList) (xs : List ℤ) (cells : ℕ) (old now new : List Spot)
    → length top ≡ length (segments plan Top) → length bottom ≡ length (segments plan Bottom) → StandOnce cells top bottom
    → AreLanesLaid Top (segments plan Top) xs top (length (segments plan Top)) old now
    → AreLanesLaid Bottom (segments plan Bottom) xs bottom (length (segments plan Bottom)) now new
    → AreLaid plan top bottom xs new
both_laid plan top bottom xs cells old now new top_many bottom_many once first second = record { laid = laid }
  where
    laid : (die : Die) (number rank : ℕ) (cell : CellId) (segment : Segment) → entry_at (lanes_on top bottom die) number rank ≡ Some cell
        → slice_get (segments plan die) number ≡ Some segment
        → spot_at new cell.0 ≡ record { die = die; segment = number; rank = rank; x = x_at xs cell.0; y = segment.y }
    laid Top number rank cell segment entry there =
        second.others cell.0 (λ n r less at. apart (once.one_die Top Bottom number n rank r cell entry at))
        ∙ first.laid number rank cell segment (slice_get_within (segments plan Top) number segment there) entry there
      where
        apart : Top ≡ Bottom → ⊥
        apart same = cc
    laid Bottom number rank cell segment entry there = second.laid number rank cell segment (slice_get_within (segments plan Bottom) number segment there) entry there
