-- The pieces of a list's elements, one after the other.
use Rattle.std.proofs.Common.{◌≡◌, ℕ, zero, suc, ◌+◌, ◌<◌, ◌≤◌, get_or, unwrap_or, List, [], ◌∷◌, ◌++◌, length, map, take, slice_get, flat_map, Some, option_map, refl, sym, ap, ◌∙◌, append_assoc, arith}
use Rattle.std.specs.Prelude.{codes}
use Rattle.std.proofs.lemmas.Grind.{flat_map-append}
use Rattle.fp_tech.specs.Book.{name_at}
use Rattle.fp_contest_in.specs.Grammar.{slash}
use Rattle.fp_contest_in.specs.PrintedText.{spaced}
use Rattle.std.proofs.lemmas.List.{take_more, take_all, append-nil}
use Rattle.std.proofs.lemmas.Option.{slice_get_within, get_or_from_slice_get, slice_get-map}

pub piece_more : {X : Type 0} (f : X → List ℕ) (xs : List X) (i : ℕ) (x : X) → slice_get xs i ≡ Some x → flat_map f (take i xs) ++ f x ≡ flat_map f (take (i + 1) xs)
piece_more f xs i x at =
    sym (ap (flat_map f) (take_more xs i x (slice_get_within xs i x at) ∙ ap (λ y. take i xs ++ y ∷ []) (get_or_from_slice_get xs i x x at))
    ∙ flat_map-append f (take i xs) (x ∷ [])
    ∙ ap (λ t. flat_map f (take i xs) ++ t) (append-nil (f x)))

pub piece_all : {X : Type 0} (f : X → List ℕ) (xs : List X) (i : ℕ) → length xs ≤ i → flat_map f (take i xs) ≡ flat_map f xs
piece_all f xs i le = ap (flat_map f) (take_all i xs le)

-- the element of a mapped list
pub mapped_at : {X Y : Type 0} (view : X → Y) (xs : List X) (i : ℕ) (x : X) → slice_get xs i ≡ Some x → slice_get (map view xs) i ≡ Some (view x)
mapped_at view xs i x at = slice_get-map view xs i ∙ ap (λ o. option_map view o) at

-- two names that a `/` joins
pub path_is : (first second : List ℕ) → (spaced first ++ codes "/") ++ second ≡ spaced (first ++ slash ∷ second) ++ []
path_is first second = append_assoc (spaced first) (codes "/") second ∙ sym (append-nil (spaced (first ++ slash ∷ second)))

-- an element that is there
pub element : {X : Type 0} (xs : List X) (i : ℕ) → i < length xs → (x : X) × (slice_get xs i ≡ Some x)
element [] i below = absurd (omega arith)
element (x ∷ xs) zero below = (x, refl)
element (x ∷ xs) (suc i) below = element xs i (omega arith)

pub element_in : {X Y : Type 0} (view : X → Y) (xs : List X) (d : Y) (i : ℕ) → i < length (map view xs) → (x : X) × (slice_get xs i ≡ Some x) × (get_or (map view xs) i d ≡ view x)
element_in view [] d i below = absurd (omega arith)
element_in view (x ∷ xs) d zero below = (x, refl, refl)
element_in view (x ∷ xs) d (suc i) below = element_in view xs d i (omega arith)

-- the name at a place
pub name_is : (names : List (List ℕ)) (i : ℕ) (name : List ℕ) → slice_get names i ≡ Some name → name_at names i ≡ name
name_is names i name at = ap (λ o. unwrap_or o []) at

-- behind a first piece
pub behind : (head rest more : List ℕ) {all : List ℕ} → rest ++ more ≡ all → (head ++ rest) ++ more ≡ head ++ all
behind head rest more same = append_assoc head rest more ∙ ap (λ t. head ++ t) same
