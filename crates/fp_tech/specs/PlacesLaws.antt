-- The place of a name among names that are distinct.
use Rattle.std.proofs.Common.{◌≡◌, ℕ, zero, suc, ◌+◌, Bool, true, false, cond, List, [], ◌∷◌, Option, Some, None, refl, ap, subst, add-one}
use Rattle.std.specs.Prelude.{slice_get, option_map}
use Rattle.std.specs.List.{IsDistinct, AllByRecursion}
use Rattle.std.specs.Str.{bytes_eq}
use Rattle.std.proofs.lemmas.Map.Keys.{IsDistinct-head, IsDistinct-tail}
use Rattle.std.proofs.lemmas.Slice.Eq.{bytes_eq-Decides}
use Rattle.fp_tech.specs.Book.{place_of}

-- a name that was found stands at its place
pub place_is : (name : List ℕ) (names : List (List ℕ)) (k : ℕ) → place_of name names ≡ Some k → slice_get names k ≡ Some name
unfolding place_of
place_is name [] k e = absurd cc
place_is name (first ∷ names) k e = here (bytes_eq first name) refl (place_of name names) e (place_is name names)
  where
    here : (b : Bool) → bytes_eq first name ≡ b → (o : Option ℕ) → cond b (Some 0) (option_map (λ (n : ℕ). n + 1) o) ≡ Some k
        → ((j : ℕ) → o ≡ Some j → slice_get names j ≡ Some name) → slice_get (first ∷ names) k ≡ Some name
    here true same o e rest =
        let at : 0 ≡ k = cc in
        subst (λ (n : ℕ). slice_get (first ∷ names) n ≡ Some name) at (ap Some ((bytes_eq-Decides first name).0 same))
    here false other None e rest = absurd cc
    here false other (Some j) e rest =
        let at : j + 1 ≡ k = cc in
        subst (λ (n : ℕ). slice_get (first ∷ names) n ≡ Some name) at (rw (add-one j) (rest j refl))

-- each of names that differ from the first does
apart_at : (first : List ℕ) (names : List (List ℕ)) (k : ℕ) (name : List ℕ) → AllByRecursion (λ (y : List ℕ). bytes_eq first y ≡ false) names → slice_get names k ≡ Some name
    → bytes_eq first name ≡ false
apart_at first [] k name apart at = absurd cc
apart_at first (y ∷ names) zero name apart at =
    let same : y ≡ name = cc in
    subst (λ (n : List ℕ). bytes_eq first n ≡ false) same apart.0
apart_at first (y ∷ names) (suc k) name apart at = apart_at first names k name apart.1 at

-- a name is found at its place
pub place_again : (name : List ℕ) (names : List (List ℕ)) (k : ℕ) → IsDistinct bytes_eq names → slice_get names k ≡ Some name → place_of name names ≡ Some k
unfolding place_of
place_again name [] k apart at = absurd cc
place_again name (first ∷ names) zero apart at =
    let same : first ≡ name = cc in
    let test : bytes_eq first name ≡ true = (bytes_eq-Decides first name).1 same in
    rw test refl
place_again name (first ∷ names) (suc k) apart at =
    let other = apart_at first names k name (IsDistinct-head bytes_eq first names apart) at in
    rw (other, place_again name names k (IsDistinct-tail bytes_eq first names apart) at) (ap Some (add-one k))
