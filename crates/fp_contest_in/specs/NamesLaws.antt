-- The place of a name among names that are distinct.
use Rattle.std.proofs.Common.{◌≡◌, ℕ, zero, suc, ◌+◌, Bool, true, false, cond, List, [], ◌∷◌, ◌++◌, length, map, Option, Some, None, refl, sym, ap, subst, ◌∙◌, arith, append_assoc, add-one, inl, inr, ◌⊎◌}
use Rattle.std.specs.Prelude.{slice_get, option_map, is_some}
use Rattle.std.specs.Str.{bytes_eq}
use Rattle.std.proofs.lemmas.List.{length-append}
use Rattle.fp_tech.specs.Book.{place_of, is_among}
use Rattle.std.proofs.lemmas.Slice.Eq.{bytes_eq-Decides}

bytes_same : (xs ys : List ℕ) → bytes_eq xs ys ≡ true → xs ≡ ys
bytes_same xs ys = (bytes_eq-Decides xs ys).0

pub same_bytes : (xs ys : List ℕ) → xs ≡ ys → bytes_eq xs ys ≡ true
same_bytes xs ys = (bytes_eq-Decides xs ys).1

-- each name is not among those before it
abbrev pub AreNew : List (List ℕ) → List (List ℕ) → Type 0
AreNew before [] = Unit {0}
AreNew before (name ∷ names) = (is_among name before ≡ false) × AreNew (before ++ name ∷ []) names

-- a value that a map of an option gave
mapped_some : (o : Option ℕ) (k : ℕ) → option_map (λ (n : ℕ). n + 1) o ≡ Some k → (j : ℕ) × (o ≡ Some j) × (j + 1 ≡ k)
mapped_some None k e = absurd cc
mapped_some (Some j) k e = (j, refl, cc)

slice_get-cons : {A : Type 0} (x : A) (xs : List A) (n : ℕ) → slice_get (x ∷ xs) (n + 1) ≡ slice_get xs n
slice_get-cons x xs n = rw (add-one n) refl

-- the name stands at its place
pub place_is : {A : Type 0} (name_of : A → List ℕ) (name : List ℕ) (xs : List A) (k : ℕ) → place_of name (map name_of xs) ≡ Some k → (x : A) × (slice_get xs k ≡ Some x) × (name_of x ≡ name)
unfolding place_of
place_is name_of name [] k e = absurd cc
place_is {A} name_of name (x ∷ xs) k e = here (bytes_eq (name_of x) name) refl e (place_is name_of name xs)
  where
    here : (b : Bool) → bytes_eq (name_of x) name ≡ b → cond b (Some 0) (option_map (λ (n : ℕ). n + 1) (place_of name (map name_of xs))) ≡ Some k
        → ((j : ℕ) → place_of name (map name_of xs) ≡ Some j → (y : A) × (slice_get xs j ≡ Some y) × (name_of y ≡ name))
        → (y : A) × (slice_get (x ∷ xs) k ≡ Some y) × (name_of y ≡ name)
    here true same e rest =
        let first : 0 ≡ k = cc in
        subst (λ (n : ℕ). (y : A) × (slice_get (x ∷ xs) n ≡ Some y) × (name_of y ≡ name)) first (x, refl, bytes_same (name_of x) name same)
    here false other e rest =
        let m = mapped_some (place_of name (map name_of xs)) k e in
        let r = rest m.0 m.1 in
        subst (λ (n : ℕ). (y : A) × (slice_get (x ∷ xs) n ≡ Some y) × (name_of y ≡ name)) m.2 (r.0, slice_get-cons x xs m.0 ∙ r.1, r.2)

-- a name that is not among names is not the first of them, and not among the others
pub not_among : (b : Bool) (o : Option ℕ) → is_some {T = ℕ} (cond b (Some 0) (option_map (λ (n : ℕ). n + 1) o)) ≡ false → (b ≡ false) × (is_some o ≡ false)
not_among true o e = absurd cc
not_among false None e = (refl, refl)
not_among false (Some k) e = absurd cc

-- a name that is not among others stands right behind them
place_behind : (name : List ℕ) (before after : List (List ℕ)) → is_among name before ≡ false → place_of name (before ++ name ∷ after) ≡ Some (length before)
unfolding place_of
place_behind name [] after new = rw (same_bytes name name refl) refl
place_behind name (first ∷ before) after new =
    let p = not_among (bytes_eq first name) (place_of name before) new in
    rw (p.0, place_behind name before after p.1) (ap Some (add-one (length before)))

-- distinct names stand at their places
pub place_again : {A : Type 0} (name_of : A → List ℕ) (before : List (List ℕ)) (xs : List A) (k : ℕ) (x : A) → AreNew before (map name_of xs) → slice_get xs k ≡ Some x → place_of (name_of x) (before ++ map name_of xs) ≡ Some (length before + k)
place_again name_of before [] k x new at = absurd cc
place_again {A} name_of before (y ∷ xs) zero x new at =
    let same : y ≡ x = cc in
    subst (λ (z : A). place_of (name_of z) (before ++ name_of y ∷ map name_of xs) ≡ Some (length before + 0)) same
    (place_behind (name_of y) before (map name_of xs) new.0 ∙ ap Some (omega arith))
place_again name_of before (y ∷ xs) (suc k) x new at =
    let others = place_again name_of (before ++ name_of y ∷ []) xs k x new.1 at in
    ap (place_of (name_of x)) (sym (append_assoc before (name_of y ∷ []) (map name_of xs))) ∙ others
    ∙ ap Some (omega (arith, length-append before (name_of y ∷ [])))

-- ---- one more name

-- the cases of the place of a name in a list that is not empty
first_case : (b : Bool) (o : Option ℕ) (k : ℕ) → cond b (Some 0) (option_map (λ (n : ℕ). n + 1) o) ≡ Some k → ((b ≡ true) × (k ≡ 0)) ⊎ ((b ≡ false) × ((j : ℕ) × (o ≡ Some j) × (k ≡ suc j)))
first_case true o k e = inl (refl, cc)
first_case false o k e = let m = mapped_some o k e in inr (refl, (m.0, m.1, sym m.2 ∙ add-one m.0))

-- names at one place are one
pub place_same : (a b : List ℕ) (names : List (List ℕ)) (k : ℕ) → place_of a names ≡ Some k → place_of b names ≡ Some k → a ≡ b
unfolding place_of
place_same a b [] k p q = absurd cc
place_same a b (first ∷ names) k p q =
    both (first_case (bytes_eq first a) (place_of a names) k p) (first_case (bytes_eq first b) (place_of b names) k q) (place_same a b names)
  where
    both : ((bytes_eq first a ≡ true) × (k ≡ 0)) ⊎ ((bytes_eq first a ≡ false) × ((j : ℕ) × (place_of a names ≡ Some j) × (k ≡ suc j)))
        → ((bytes_eq first b ≡ true) × (k ≡ 0)) ⊎ ((bytes_eq first b ≡ false) × ((j : ℕ) × (place_of b names ≡ Some j) × (k ≡ suc j)))
        → ((j : ℕ) → place_of a names ≡ Some j → place_of b names ≡ Some j → a ≡ b) → a ≡ b
    both (inl x) (inl y) rest = sym (bytes_same first a x.0) ∙ bytes_same first b y.0
    both (inl x) (inr y) rest = absurd (omega (arith, x.1, y.1.2))
    both (inr x) (inl y) rest = absurd (omega (arith, x.1.2, y.1))
    both (inr x) (inr y) rest =
        let same : y.1.0 ≡ x.1.0 = omega (arith, x.1.2, y.1.2) in
        rest x.1.0 x.1.1 (y.1.1 ∙ ap Some same)

-- a name that is there stays at its place
pub place_stays : (a : List ℕ) (names more : List (List ℕ)) (k : ℕ) → place_of a names ≡ Some k → place_of a (names ++ more) ≡ Some k
unfolding place_of
place_stays a [] more k p = absurd cc
place_stays a (first ∷ names) more k p = by (first_case (bytes_eq first a) (place_of a names) k p) (place_stays a names more)
  where
    by : ((bytes_eq first a ≡ true) × (k ≡ 0)) ⊎ ((bytes_eq first a ≡ false) × ((j : ℕ) × (place_of a names ≡ Some j) × (k ≡ suc j)))
        → ((j : ℕ) → place_of a names ≡ Some j → place_of a (names ++ more) ≡ Some j)
        → cond (bytes_eq first a) (Some 0) (option_map (λ (n : ℕ). n + 1) (place_of a (names ++ more))) ≡ Some k
    by (inl x) rest = rw (x.0, x.1) refl
    by (inr x) rest = rw (x.0, rest x.1.0 x.1.1, x.1.2) (ap Some (add-one x.1.0))

-- a name that is not there is at the end, if it is the one that is added
pub place-push : (a n : List ℕ) (names : List (List ℕ)) → place_of a names ≡ None → place_of a (names ++ n ∷ []) ≡ cond (bytes_eq n a) (Some (length names)) None
unfolding place_of
place-push a n [] none = refl
place-push a n (first ∷ names) none =
    let p = not_among (bytes_eq first a) (place_of a names) (ap is_some none) in
    let gone : place_of a names ≡ None = no_value (place_of a names) p.1 in
    rw (p.0, place-push a n names gone) (shifted (bytes_eq n a) (length names))
  where
    no_value : (o : Option ℕ) → is_some o ≡ false → o ≡ None
    no_value None e = refl
    no_value (Some k) e = absurd cc

    shifted : (b : Bool) (m : ℕ) → option_map (λ (n : ℕ). n + 1) (cond b (Some m) None) ≡ cond b (Some (suc m)) None
    shifted true m = ap Some (add-one m)
    shifted false m = refl

pub is_among-push : (a n : List ℕ) (names : List (List ℕ)) → is_among a (names ++ n ∷ []) ≡ cond (bytes_eq n a) true (is_among a names)
unfolding place_of
is_among-push a n [] = one (bytes_eq n a)
  where
    one : (b : Bool) → is_some {T = ℕ} (cond b (Some 0) None) ≡ cond b true false
    one true = refl
    one false = refl
is_among-push a n (first ∷ names) = by (bytes_eq first a) (bytes_eq n a) (place_of a names) (place_of a (names ++ n ∷ [])) (is_among-push a n names)
  where
    kept : (o : Option ℕ) → is_some (option_map (λ (k : ℕ). k + 1) o) ≡ is_some o
    kept None = refl
    kept (Some k) = refl

    by : (b c : Bool) (o p : Option ℕ) → is_some p ≡ cond c true (is_some o)
        → is_some {T = ℕ} (cond b (Some 0) (option_map (λ (k : ℕ). k + 1) p)) ≡ cond c true (is_some {T = ℕ} (cond b (Some 0) (option_map (λ (k : ℕ). k + 1) o)))
    by true true o p e = refl
    by true false o p e = refl
    by false c o p e = kept p ∙ e ∙ ap (cond c true) (sym (kept o))
