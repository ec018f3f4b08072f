-- Lanes of a placement shown one after the other.
use Rattle.std.proofs.Common.{◌≡◌, ℕ, ◌+◌, ◌<◌, List, [], ◌∷◌, ◌++◌, length, map, take, get_or, slice_get, Option, Some, None, Result, Ok, Err, sym, ap, ◌∙◌}
use Rattle.std.specs.Prelude.{All, OnOk, MatchResult, option_map}
use Rattle.std.proofs.lemmas.List.{take_more, map_push}
use Rattle.std.proofs.lemmas.Option.{same_Some, slice_get-get_or, slice_get_within, get_or_from_slice_get}
use Rattle.fp_base.specs.declared.ids.CellId.{CellId}
use Rattle.fp_base.specs.declared.ids.Die.{Die}
use Rattle.fp_place.specs.declared.placement.Spot.{Spot}
use Rattle.fp_place.specs.Placed.{Placed, no_spot, lanes_of, DoAgree}
use Rattle.fp_place.specs.PlacedLaws.{entry_on}
use Rattle.fp_cert.specs.declared.shown.CellShown.{CellShown}
use Rattle.fp_flow.specs.Still.{still_cell}

pub mapped_more : {A B : Type 0} (f : A → B) (xs : List A) (k : ℕ) (x : A) → slice_get xs k ≡ Some x → map f (take k xs) ++ f x ∷ [] ≡ map f (take (k + 1) xs)
mapped_more f xs k x at =
    sym (map_push f (take k xs) x) ∙ ap (map f) (sym (take_more xs k x (slice_get_within xs k x at) ∙ ap (λ y. take k xs ++ y ∷ []) (get_or_from_slice_get xs k x x at)))

-- what a value is of, where it is one of a view
pub mapped : {A B : Type 0} (view : A → B) (o : Option A) (y : B) → option_map view o ≡ Some y → (x : A) × (view x ≡ y)
mapped view None y is = absurd (let none : None ≡ Some y = is in cc)
mapped view (Some x) y is = (x, same_Some (view x) y is)

-- a cell as its spot shows it
pub cell_shown : (placed : Placed) (cell : CellId) (spot : Spot) → slice_get placed.spots cell.0 ≡ Some spot
    → ◌≡◌ {A = CellShown} (record { cell = cell; x = spot.x; target = record { x = spot.x; y = spot.y }; dual = 0 }) (still_cell placed cell)
cell_shown placed cell spot at =
    ap (λ (s : Spot). record { cell = cell; x = s.x; target = record { x = s.x; y = s.y }; dual = 0 }) (sym (get_or_from_slice_get placed.spots cell.0 spot no_spot at))

-- the cells of a lane are there
pub lane_within : (placed : Placed) (die : Die) (segment : ℕ) (lane : List CellId) → DoAgree placed → slice_get (lanes_of placed die) segment ≡ Some lane
    → All (λ cell. cell.0 < length placed.spots) lane
lane_within placed die segment lane agree there = λ k d below.
    agree.within die segment k (get_or lane k d) (entry_on (lanes_of placed die) segment k lane there ∙ slice_get-get_or lane k d below)

pub of_match : {X Y : Type 0} (P Q : Type 0) (r : Result X Y) → MatchResult r (λ _. P) (λ _. Q) → OnOk r P
of_match P Q (Ok x) p = p
of_match P Q (Err e) q = tt
