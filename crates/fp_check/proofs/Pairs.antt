-- Elements that are found by their numbers, and tests of them.
use Rattle.std.proofs.Common.{◌≡◌, ℕ, ◌+◌, ◌-◌, ◌<◌, ◌≤◌, true, false, List, length, get_or, slice_get, Some, Option, refl, sym, ap, subst, ◌∙◌, below_more, arith}
use Rattle.std.specs.Prelude.{Bool, not, IsTrue, ◌↔◌, Decides, unwrap_or}
use Rattle.std.proofs.lemmas.Bool.{false≢true}
use Rattle.std.proofs.lemmas.List.{same_lists}
use Rattle.std.proofs.lemmas.Option.{same_Some, slice_get-get_or, unwrap_or-slice_get}

-- what holds of the elements of two numbers holds of whatever elements stand there
pub at_both : {A B : Type 0} (fact : A → B → Type 0) (xs : List A) (ys : List B) (k j : ℕ) (a : A) (b : B) → slice_get xs k ≡ Some a → slice_get ys j ≡ Some b → fact a b
    → (x : A) (y : B) → slice_get xs k ≡ Some x → slice_get ys j ≡ Some y → fact x y
at_both fact xs ys k j a b at also is x y there too =
    subst (λ z. fact x z) (same_Some b y (sym also ∙ too)) (subst (λ z. fact z b) (same_Some a x (sym at ∙ there)) is)

-- the element of a number stands there, in each list that is the same
pub stands_at : {A : Type 0} (xs ys : List A) (k : ℕ) (d : A) → xs ≡ ys → k < length xs → slice_get ys k ≡ Some (get_or xs k d)
stands_at {A} xs ys k d same below = ap (λ (list : List A). slice_get list k) (sym same) ∙ slice_get-get_or xs k d below

-- and so does an element that is read
pub read_at : {A : Type 0} (xs ys : List A) (k : ℕ) (x : A) → xs ≡ ys → k < length xs → x ≡ get_or xs k x → slice_get ys k ≡ Some x
read_at xs ys k x same below is = stands_at xs ys k x same below ∙ ap Some (sym is)

-- lists of one length with the same elements are the same
pub same_by_get : {A : Type 0} (xs ys : List A) → length xs ≡ length ys → ((k : ℕ) → k < length xs → slice_get xs k ≡ slice_get ys k) → xs ≡ ys
same_by_get {A} xs ys long same = same_lists xs ys long (λ k d below.
    sym (unwrap_or-slice_get xs k d) ∙ ap (λ (o : Option A). unwrap_or o d) (same k below) ∙ unwrap_or-slice_get ys k d)

-- what is so of each number whose next is below a bound, and of the one before the bound, is so of each whose next is below the bound's next
pub next_more : (fact : ℕ → Type 0) (n : ℕ) → 1 ≤ n → ((k : ℕ) → k + 1 < n → fact k) → fact (n - 1) → (k : ℕ) → k + 1 < n + 1 → fact k
next_more fact n some before here k below = below_more fact (n - 1) (λ j less. before j (omega (arith, less, some))) here k (omega (arith, below, some))

-- a test that is not passed refutes what it tests
pub refuted : {P : Type 0} (r : Bool) → IsTrue r ↔ P → r ≡ false → P → ⊥
refuted r is failed p = false≢true (sym failed ∙ is.1 p)

pub none_where : {Q : Type 0} → (Q → ⊥) → IsTrue false ↔ Q
none_where never = (λ e. absurd (false≢true e), λ q. absurd (never q))

pub all_where : {Q : Type 0} → Q → IsTrue true ↔ Q
all_where q = (λ e. q, λ it. refl)

-- what a test for a difference says
pub differs : {P : Type 0} (b r : Bool) → Decides b P → r ≡ not b → r ≡ true → P → ⊥
differs true r decides is passed p = false≢true (sym is ∙ passed)
differs false r decides is passed p = false≢true (decides.1 p)

pub is_same : {P : Type 0} (b r : Bool) → Decides b P → r ≡ not b → r ≡ false → P
is_same true r decides is failed = decides.0 refl
is_same false r decides is failed = absurd (false≢true (sym failed ∙ is))
