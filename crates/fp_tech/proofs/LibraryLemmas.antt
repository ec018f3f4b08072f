-- Library cells by their numbers, and a pin added to one of them.
use Rattle.std.proofs.Common.{◌≡◌, ◌==◌, ℕ, zero, suc, ◌+◌, Bool, true, false, cond, ◌||◌, List, [], ◌∷◌, ◌++◌, map, Option, Some, None, is_some, IsSome, if◌then◌else◌, position, get_or, refl, sym, ap, subst, ◌∙◌, Result, Ok, Err, add-one}
use Rattle.std.specs.Prelude.{nat_eq, slice_get, slice_set, find, unwrap_or}
use Rattle.std.proofs.lemmas.Bool.{eq-eqb, eqb-true}
use Rattle.std.proofs.lemmas.List.{map-append}
use Rattle.std.proofs.lemmas.Map.Keys.{IsDistinct-head, IsDistinct-tail}
use Rattle.std.proofs.lemmas.Option.{slice_get-get_or, slice_get_within}
use Rattle.indexmap.specs.IndexSet.{insert_key}
use Rattle.std.specs.List.{list_any, IsDistinct, AllByRecursion}
use Rattle.std.specs.Option.{option_map, option_and_then}
use Rattle.std.proofs.lemmas.Cmp.{nat_eq_equiv}
use Rattle.fp_base.specs.declared.ids.LibId.{LibId}
use Rattle.fp_tech.specs.declared.fault.BuildFault.{BuildFault}
use Rattle.fp_tech.specs.declared.fault.BuildFault.TheVariants.{Twice, Unknown, Limit, Memory}
use Rattle.fp_tech.specs.Book.{Pin, Lib, more_pins, pins_refusal, Adds}
use Rattle.fp_tech.specs.KeptBook.{id_of, pins_at}
use Rattle.fp_tech.proofs.NameLemmas.{position-cons}

module _ (id : ℕ) where
  -- the cell at the place of its number is the first of that number
  pub found_at : (libs : List Lib) → option_and_then (λ i. slice_get libs i) (position (λ k. nat_eq id k.0) (map id_of libs)) ≡ find (λ lib. lib.id == id) libs
  found_at [] = refl
  found_at (x ∷ xs) =
      ap (option_and_then (λ i. slice_get (x ∷ xs) i)) (position-cons (λ k. nat_eq id k.0) (id_of x) (map id_of xs))
      ∙ by (nat_eq id x.id) (position (λ k. nat_eq id k.0) (map id_of xs))
      ∙ ap (λ rest. cond (nat_eq id x.id) (Some x) rest) (found_at xs)
      ∙ ap (λ b. cond b (Some x) (find (λ lib. lib.id == id) xs)) (nat_eq_equiv.symm id x.id)
    where
      by : (b : Bool) (r : Option ℕ) → option_and_then (λ i. slice_get (x ∷ xs) i) (cond b (Some 0) (option_map (λ k. k + 1) r)) ≡ cond b (Some x) (option_and_then (λ i. slice_get xs i) r)
      by true r = refl
      by false None = refl
      by false (Some k) = rw add-one refl

  pub absent_at : (libs : List Lib) → list_any (λ k. nat_eq id k.0) (map id_of libs) ≡ is_some (find (λ lib. lib.id == id) libs)
  absent_at [] = refl
  absent_at (x ∷ xs) =
      ap (λ b. b || list_any (λ k. nat_eq id k.0) (map id_of xs)) (nat_eq_equiv.symm id x.id)
      ∙ ap (λ b. nat_eq x.id id || b) (absent_at xs)
      ∙ by (nat_eq x.id id) (find (λ lib. lib.id == id) xs)
    where
      by : (b : Bool) (rest : Option Lib) → (b || is_some rest) ≡ is_some (cond b (Some x) rest)
      by true rest = refl
      by false rest = refl

-- where the cell is found its number has a place
pub place_there : (libs : List Lib) (id : ℕ) (ids : List LibId) (place : Option ℕ) → ids ≡ map id_of libs → place ≡ position (λ k. nat_eq id k.0) ids
    → IsSome (find (λ lib. lib.id == id) libs) → IsSome place
place_there libs id ids place kept at there =
    by place (ap (option_and_then (λ i. slice_get libs i)) (at ∙ ap (position (λ k. nat_eq id k.0)) kept) ∙ found_at id libs)
  where
    by : (p : Option ℕ) → option_and_then (λ i. slice_get libs i) p ≡ find (λ lib. lib.id == id) libs → IsSome p
    by (Some k) e = refl
    by None e = absurd (let none : is_some {T = Lib} None ≡ true = ap is_some e ∙ there in cc)

-- and the cell there is the one that is found
pub cell_there : (libs : List Lib) (id : ℕ) (ids : List LibId) (place : ℕ) → ids ≡ map id_of libs → Some place ≡ position (λ k. nat_eq id k.0) ids
    → slice_get libs place ≡ find (λ lib. lib.id == id) libs
cell_there libs id ids place kept at = ap (option_and_then (λ i. slice_get libs i)) (at ∙ ap (position (λ k. nat_eq id k.0)) kept) ∙ found_at id libs

-- an adding call at a cell leaves its number
pub id_kept : (refused : Option BuildFault) (old grown new : Lib) (r : Result (Unit {0}) BuildFault) → grown.id ≡ old.id
    → Adds refused tt old grown r new → new.id ≡ old.id
id_kept refused old grown new (Ok x) same adds = ap (λ l. l.id) adds.2 ∙ same
id_kept refused old grown new (Err Memory) same adds = ap (λ l. l.id) adds
id_kept refused old grown new (Err Twice) same adds = ap (λ l. l.id) adds.1
id_kept refused old grown new (Err Unknown) same adds = ap (λ l. l.id) adds.1
id_kept refused old grown new (Err Limit) same adds = ap (λ l. l.id) adds.1

-- a cell in place of one of the same number leaves the numbers
pub ids_kept : (libs : List Lib) (place : ℕ) (old new : Lib) → slice_get libs place ≡ Some old → new.id ≡ old.id → map id_of (slice_set libs place new) ≡ map id_of libs
ids_kept [] place old new at same = refl
ids_kept (x ∷ xs) zero old new at same =
    let first : x ≡ old = cc in ap (λ n. record { 0 = n } ∷ map id_of xs) (same ∙ sym (ap (λ l. l.id) first))
ids_kept (x ∷ xs) (suc k) old new at same = ap (λ rest. id_of x ∷ rest) (ids_kept xs k old new at same)

module _ (id : ℕ) (pin : Pin) where
  -- no cell of that number, no change
  pub untouched : (libs : List Lib) → AllByRecursion (λ y. nat_eq id y ≡ false) (map (λ l. l.id) libs) → map (more_pins id pin) libs ≡ libs
  untouched [] none = refl
  untouched (x ∷ xs) none =
      ap (λ b. (if b then record x { pins = x.pins ++ pin ∷ [] } else x) ∷ map (more_pins id pin) xs) (nat_eq_equiv.symm x.id id ∙ none.0)
      ∙ ap (λ rest. x ∷ rest) (untouched xs none.1)

  abbrev with_pin_last : Lib → Lib
  with_pin_last l = record l { pins = l.pins ++ pin ∷ [] }

  apart_at : (n : ℕ) (libs : List Lib) (k : ℕ) (old : Lib) → AllByRecursion (λ y. nat_eq n y ≡ false) (map (λ l. l.id) libs) → slice_get libs k ≡ Some old
      → nat_eq n old.id ≡ false
  apart_at n [] k old none at = absurd (let nothing : None ≡ Some old = at in cc)
  apart_at n (x ∷ xs) zero old none at = let first : x ≡ old = cc in ap (λ l. nat_eq n l.id) (sym first) ∙ none.0
  apart_at n (x ∷ xs) (suc k) old none at = apart_at n xs k old none.1 at

  -- as numbers are distinct, the change is that of one cell
  pub touched : (libs : List Lib) (place : ℕ) (old : Lib) → IsDistinct nat_eq (map (λ l. l.id) libs) → slice_get libs place ≡ Some old → old.id ≡ id
      → slice_set libs place (record old { pins = old.pins ++ pin ∷ [] }) ≡ map (more_pins id pin) libs
  touched [] place old apart at same = absurd (let nothing : None ≡ Some old = at in cc)
  touched (x ∷ xs) zero old apart at same =
      let first : x ≡ old = cc in
      let number : x.id ≡ id = ap (λ l. l.id) first ∙ same in
      let rest_apart : AllByRecursion (λ y. nat_eq x.id y ≡ false) (map (λ l. l.id) xs) = IsDistinct-head nat_eq x.id (map (λ l. l.id) xs) apart in
      let others : map (more_pins id pin) xs ≡ xs = untouched xs (subst (λ n. AllByRecursion (λ y. nat_eq n y ≡ false) (map (λ l. l.id) xs)) number rest_apart) in
      ap (λ (l : Lib). with_pin_last l ∷ xs) (sym first)
      ∙ ap (λ b. (if b then record x { pins = x.pins ++ pin ∷ [] } else x) ∷ xs) (sym (eq-eqb x.id id number))
      ∙ ap (λ rest. more_pins id pin x ∷ rest) (sym others)
  touched (x ∷ xs) (suc k) old apart at same =
      let other : nat_eq x.id id ≡ false = ap (nat_eq x.id) (sym same) ∙ apart_at x.id xs k old (IsDistinct-head nat_eq x.id (map (λ l. l.id) xs) apart) at in
      ap (λ rest. x ∷ rest) (touched xs k old (IsDistinct-tail nat_eq x.id (map (λ l. l.id) xs) apart) at same)
      ∙ ap (λ b. (if b then record x { pins = x.pins ++ pin ∷ [] } else x) ∷ map (more_pins id pin) xs) (sym other)

-- what is found has the number that was looked for
pub found_id : (libs : List Lib) (id : ℕ) (old : Lib) → find (λ lib. lib.id == id) libs ≡ Some old → old.id ≡ id
found_id [] id old found = absurd (let nothing : None ≡ Some old = found in cc)
found_id (x ∷ xs) id old found = by (nat_eq x.id id) refl (found_id xs id old)
  where
    at : (b : Bool) → nat_eq x.id id ≡ b → cond b (Some x) (find (λ lib. lib.id == id) xs) ≡ Some old
    at b e = ap (λ t. cond t (Some x) (find (λ lib. lib.id == id) xs)) (sym e) ∙ found

    by : (b : Bool) → nat_eq x.id id ≡ b → (find (λ lib. lib.id == id) xs ≡ Some old → old.id ≡ id) → old.id ≡ id
    by true e behind = let first : Some x ≡ Some old = at true e in let here : x ≡ old = cc in ap (λ l. l.id) (sym here) ∙ eqb-true x.id id e
    by false e behind = behind (at false e)

set_back : (libs : List Lib) (place : ℕ) (old : Lib) → slice_get libs place ≡ Some old → slice_set libs place old ≡ libs
set_back [] place old at = refl
set_back (x ∷ xs) zero old at = let first : x ≡ old = cc in ap (λ l. l ∷ xs) (sym first)
set_back (x ∷ xs) (suc k) old at = ap (λ rest. x ∷ rest) (set_back xs k old at)

-- an adding call at a cell is one at its library
pub adds_through : (libs : List Lib) (id place : ℕ) (old new : Lib) (pin : Pin) (name : List ℕ) (r : Result (Unit {0}) BuildFault)
    → IsDistinct nat_eq (map (λ l. l.id) libs) → slice_get libs place ≡ Some old → find (λ lib. lib.id == id) libs ≡ Some old
    → Adds (pins_refusal old.pins name) tt old (record old { pins = old.pins ++ pin ∷ [] }) r new
    → Adds (pins_refusal (pins_at libs id) name) tt libs (map (more_pins id pin) libs) r (slice_set libs place new)
adds_through libs id place old new pin name r apart at found adds = by r adds
  where
    refused : pins_refusal (pins_at libs id) name ≡ pins_refusal old.pins name
    refused = ap (λ f. pins_refusal (unwrap_or (option_map (λ lib. lib.pins) f) []) name) found

    stays : new ≡ old → slice_set libs place new ≡ libs
    stays same = ap (slice_set libs place) same ∙ set_back libs place old at

    by : (r : Result (Unit {0}) BuildFault) → Adds (pins_refusal old.pins name) tt old (record old { pins = old.pins ++ pin ∷ [] }) r new
        → Adds (pins_refusal (pins_at libs id) name) tt libs (map (more_pins id pin) libs) r (slice_set libs place new)
    by (Ok x) adds = (refused ∙ adds.0, adds.1, ap (slice_set libs place) adds.2 ∙ touched id pin libs place old apart at (found_id libs id old found))
    by (Err Memory) adds = stays adds
    by (Err Twice) adds = (refused ∙ adds.0, stays adds.1)
    by (Err Unknown) adds = (refused ∙ adds.0, stays adds.1)
    by (Err Limit) adds = (refused ∙ adds.0, stays adds.1)

pub adds_at : (kept libs : List Lib) → kept ≡ libs → (id place : ℕ) (old new : Lib) (pin : Pin) (name : List ℕ) (r : Result (Unit {0}) BuildFault)
    → IsDistinct nat_eq (map (λ l. l.id) libs) → slice_get kept place ≡ Some old → find (λ lib. lib.id == id) kept ≡ Some old
    → Adds (pins_refusal old.pins name) tt old (record old { pins = old.pins ++ pin ∷ [] }) r new
    → Adds (pins_refusal (pins_at libs id) name) tt libs (map (more_pins id pin) libs) r (slice_set kept place new)
adds_at kept libs same id place old new pin name r apart at found adds =
    subst (λ ls. Adds (pins_refusal (pins_at ls id) name) tt ls (map (more_pins id pin) ls) r (slice_set kept place new)) same
    (adds_through kept id place old new pin name r (subst (λ ls. IsDistinct nat_eq (map (λ l. l.id) ls)) (sym same) apart) at found adds)

-- the cell that stands at the place of a number that is there
pub at_place : (libs : List Lib) (id : ℕ) (ids : List LibId) (place : ℕ) (cell : Lib) → ids ≡ map id_of libs → Some place ≡ position (λ k. nat_eq id k.0) ids
    → IsSome (find (λ lib. lib.id == id) libs) → cell ≡ get_or libs place cell → slice_get libs place ≡ Some cell
at_place libs id ids place cell kept at there value = by (slice_get libs place) refl (ap is_some (cell_there libs id ids place kept at) ∙ there)
  where
    by : (o : Option Lib) → slice_get libs place ≡ o → IsSome o → slice_get libs place ≡ Some cell
    by None e some = absurd (let no : is_some {T = Lib} None ≡ true = some in cc)
    by (Some x) e some = slice_get-get_or libs place cell (slice_get_within libs place x e) ∙ ap Some (sym value)

pub none_there : (libs : List Lib) (id : ℕ) (ids : List LibId) → ids ≡ map id_of libs → None ≡ position (λ k. nat_eq id k.0) ids
    → find (λ lib. lib.id == id) libs ≡ None
none_there libs id ids kept at = sym (found_at id libs) ∙ ap (option_and_then (λ i. slice_get libs i)) (sym (at ∙ ap (position (λ k. nat_eq id k.0)) kept))

-- the number of a new cell goes last
pub ids_pushed : (libs : List Lib) (ids : List LibId) (k : LibId) (cell : Lib) → k.0 ≡ cell.id → ids ≡ map id_of libs
    → find (λ lib. lib.id == cell.id) libs ≡ None → insert_key (λ a b. nat_eq a.0 b.0) ids k ≡ map id_of (libs ++ cell ∷ [])
ids_pushed libs ids k cell same kept new =
    ap (λ b. if b then ids else ids ++ k ∷ []) absent ∙ ap (λ l. l ++ k ∷ []) kept ∙ ap (λ n. map id_of libs ++ record { 0 = n } ∷ []) same ∙ sym (map-append id_of libs (cell ∷ []))
  where
    absent : list_any (λ j. nat_eq k.0 j.0) ids ≡ false
    absent = ap (λ n. list_any (λ j. nat_eq n j.0) ids) same ∙ ap (list_any (λ j. nat_eq cell.id j.0)) kept ∙ absent_at cell.id libs ∙ ap is_some new
