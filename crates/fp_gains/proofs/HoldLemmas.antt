-- Lists that hold a key.
use Rattle.std.proofs.Common.{◌≡◌, ◌==◌, ℕ, ◌+◌, ◌<◌, ◌||◌, Bool, true, false, List, [], ◌∷◌, ◌++◌, length, take, get_or, if◌then◌else◌, refl, sym, ap, subst, ◌∙◌, inl, inr, arith}
use Rattle.std.specs.List.{list_any, IsDistinct, All}
use Rattle.std.proofs.lemmas.List.{get_or-take, get_or_default, length-take-le}
use Rattle.std.proofs.lemmas.List.Elements.{All-head, All-tail}
use Rattle.std.proofs.lemmas.List.Folds.{list_any_more, list_any_none, list_any-append}
use Rattle.std.proofs.lemmas.Map.Keys.{apart_from_distinct}
use Rattle.std.proofs.lemmas.Bool.{or_cases, or_left, or_right}
use Rattle.std.proofs.lemmas.Bool.Decides.{nat_tests}
use Rattle.fp_gains.specs.Links.{holds, with_new, with_all_new, distinct}

pub holds_more : (keys : List ℕ) (i key : ℕ) → i < length keys → holds (take (i + 1) keys) key ≡ (holds (take i keys) key || (key == get_or keys i 0))
holds_more keys i key within = list_any_more (λ other. key == other) keys i 0 within

eq_flips : (a b : ℕ) → (a == b) ≡ false → (b == a) ≡ false
eq_flips a b e = grind (arith, nat_tests)

-- a key that stands once does not stand before itself
pub not_before : (keys : List ℕ) (i : ℕ) → IsDistinct (λ a b. a == b) keys → i < length keys → holds (take i keys) (get_or keys i 0) ≡ false
not_before keys i once within = list_any_none (λ other. get_or keys i 0 == other) (take i keys) (λ k d less.
    let few : length (take i keys) ≡ i = length-take-le i keys (omega arith) in
    let before : k < i = omega arith in
    subst (λ x. (get_or keys i 0 == x) ≡ false) (sym (get_or-take i keys k d before))
    (eq_flips (get_or keys k d) (get_or keys i 0)
    (subst (λ x. (get_or keys k d == x) ≡ false) (get_or_default keys i d 0 within) (apart_from_distinct (λ a b. a == b) keys k i d once before within))))

same_key : (a b : ℕ) → (a == b) ≡ true → a ≡ b
same_key a b e = grind (arith, nat_tests)

pub same_true : (a : ℕ) → (a == a) ≡ true
same_true a = grind (arith, nat_tests)

-- what holds of all keys holds of a key that is held
pub held_is : (P : ℕ → Type 0) (keys : List ℕ) (key : ℕ) → All P keys → holds keys key ≡ true → P key
held_is P [] key all held = absurd (let nothing : false ≡ true = held in cc)
held_is P (x ∷ xs) key all held = elim (or_cases (key == x) (holds xs key) held) [
  | inl same ↦ subst P (sym (same_key key x same)) (All-head P x xs all)
  | inr later ↦ held_is P xs key (All-tail P x xs all) later
]

-- where a list holds a key that passes a test, one of the list passes it
pub held_passes : (test : ℕ → Bool) (keys : List ℕ) (key : ℕ) → holds keys key ≡ true → test key ≡ true → list_any test keys ≡ true
held_passes test [] key held passes = absurd (let nothing : false ≡ true = held in cc)
held_passes test (x ∷ xs) key held passes = elim (or_cases (key == x) (holds xs key) held) [
  | inl same ↦ or_left (test x) (list_any test xs) (ap test (sym (same_key key x same)) ∙ passes)
  | inr later ↦ or_right (test x) (list_any test xs) (held_passes test xs key later passes)
]

or_nothing : (b : Bool) → (b || false) ≡ b
or_nothing true = refl
or_nothing false = refl

or_true : (b : Bool) → (b || true) ≡ true
or_true true = refl
or_true false = refl

or_assoc : (a b c : Bool) → ((a || b) || c) ≡ (a || (b || c))
or_assoc true b c = refl
or_assoc false b c = refl

-- keys that are taken once pass as they all do
any_with_new : (test : ℕ → Bool) (found : List ℕ) (key : ℕ) → list_any test (with_new found key) ≡ (list_any test found || test key)
any_with_new test found key = by (holds found key) refl
  where
    known : (b : Bool) → test key ≡ b → holds found key ≡ true → list_any test found ≡ (list_any test found || b)
    known true passes held = let any : list_any test found ≡ true = held_passes test found key held passes in any ∙ sym (or_true (list_any test found))
    known false fails held = sym (or_nothing (list_any test found))

    by : (b : Bool) → holds found key ≡ b → list_any test (if b then found else found ++ key ∷ []) ≡ (list_any test found || test key)
    by true held = known (test key) refl held
    by false new = list_any-append test found (key ∷ []) ∙ ap (λ b. list_any test found || b) (or_nothing (test key))

any_with_all_new : (test : ℕ → Bool) (found keys : List ℕ) → list_any test (with_all_new found keys) ≡ (list_any test found || list_any test keys)
unfolding with_all_new
any_with_all_new test found [] = sym (or_nothing (list_any test found))
any_with_all_new test found (key ∷ keys) =
    any_with_all_new test (with_new found key) keys
    ∙ ap (λ b. b || list_any test keys) (any_with_new test found key)
    ∙ or_assoc (list_any test found) (test key) (list_any test keys)

pub any_distinct : (test : ℕ → Bool) (keys : List ℕ) → list_any test (distinct keys) ≡ list_any test keys
any_distinct test keys = any_with_all_new test [] keys
