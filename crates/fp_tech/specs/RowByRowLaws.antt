-- Laws of lists that are laid row by row.
use Rattle.std.specs.Prelude.{◌≡◌, ℕ, zero, suc, ◌+◌, ◌<◌, ◌≤◌, List, [], ◌∷◌, ◌++◌, length, map, flat_map, Some, slice_get, ◌⊎◌}
use Rattle.std.specs.List.{range_with_len}
use Rattle.std.proofs.Common.{refl, ap, subst, inl, inr, ⊎_elim, arith}
use Rattle.std.proofs.lemmas.Bool.{cases_lt}
use Rattle.std.proofs.lemmas.Option.{none-some, same_Some, slice_get_within}

-- An element of a list, with its number.
pub record IsAt {A : Type 0} (list : List A) (x : A) : Type 0 where
  pub number : ℕ
  pub at : slice_get list number ≡ Some x

-- An element of a mapped list is the image of the element of that number.
pub record IsImage {A B : Type 0} (f : A → B) (list : List A) (number : ℕ) (y : B) : Type 0 where
  pub x : A
  pub at : slice_get list number ≡ Some x
  pub is : f x ≡ y

pub image : {A B : Type 0} (f : A → B) (list : List A) (number : ℕ) (y : B) → slice_get (map f list) number ≡ Some y → IsImage f list number y
image f [] number y at = absurd (none-some y at)
image f (x ∷ list) zero y at = record { x = x; at = refl; is = same_Some (f x) y at }
image f (x ∷ list) (suc number) y at = let rest = image f list number y at in record { x = rest.x; at = rest.at; is = rest.is }

pub imaged : {A B : Type 0} (f : A → B) (list : List A) (number : ℕ) (x : A) → slice_get list number ≡ Some x → slice_get (map f list) number ≡ Some (f x)
imaged f [] number x at = absurd (none-some x at)
imaged f (first ∷ list) zero x at = ap (λ y. Some (f y)) (same_Some first x at)
imaged f (first ∷ list) (suc number) x at = imaged f list number x at

-- An element of two lists joined is in the first, or behind it at this number of the second.
record IsBehind {A : Type 0} (first second : List A) (number : ℕ) (x : A) : Type 0 where
  rest : ℕ
  counted : number ≡ length first + rest
  at : slice_get second rest ≡ Some x

in_joined : {A : Type 0} (first second : List A) (number : ℕ) (x : A) → slice_get (first ++ second) number ≡ Some x
    → (slice_get first number ≡ Some x) ⊎ IsBehind first second number x
in_joined [] second number x at = inr (record { rest = number; counted = omega arith; at = at })
in_joined (head ∷ first) second zero x at = inl at
in_joined (head ∷ first) second (suc number) x at = ⊎_elim
    (λ (here : slice_get first number ≡ Some x). inl here)
    (λ (there : IsBehind first second number x). inr (record { rest = there.rest; counted = omega (arith, there.counted); at = there.at }))
    (in_joined first second number x at)

joined_front : {A : Type 0} (first second : List A) (number : ℕ) (x : A) → slice_get first number ≡ Some x → slice_get (first ++ second) number ≡ Some x
joined_front [] second number x at = absurd (none-some x at)
joined_front (head ∷ first) second zero x at = at
joined_front (head ∷ first) second (suc number) x at = joined_front first second number x at

joined_back : {A : Type 0} (first second : List A) (x : A) → IsAt second x → IsAt (first ++ second) x
joined_back [] second x is = is
joined_back (head ∷ first) second x is = let rest = joined_back first second x is in record { number = suc rest.number; at = rest.at }

-- An element of one of so many rows from a first one on.
pub record IsOfRow {A : Type 0} (rows : ℕ → List A) (start count : ℕ) (x : A) : Type 0 where
  pub row : ℕ
  pub from : start ≤ row
  pub to : row < start + count
  pub in_row : IsAt (rows row) x

-- Each element of the rows laid one after the other is of one of them.
pub of_row : {A : Type 0} (rows : ℕ → List A) (start count number : ℕ) (x : A) → slice_get (flat_map rows (range_with_len start count)) number ≡ Some x
    → IsOfRow rows start count x
of_row rows start zero number x at = absurd (none-some x at)
of_row rows start (suc count) number x at = ⊎_elim
    (λ (here : slice_get (rows start) number ≡ Some x). record { row = start; from = omega arith; to = omega arith; in_row = record { number = number; at = here } })
    (λ (there : IsBehind (rows start) (flat_map rows (range_with_len (start + 1) count)) number x).
    let is = of_row rows (start + 1) count there.rest x there.at in
    record { row = is.row; from = omega (arith, is.from); to = omega (arith, is.to); in_row = is.in_row })
    (in_joined (rows start) (flat_map rows (range_with_len (start + 1) count)) number x at)

-- Each element of a row is in the rows laid one after the other.
pub row_laid : {A : Type 0} (rows : ℕ → List A) (start count : ℕ) (x : A) → IsOfRow rows start count x → IsAt (flat_map rows (range_with_len start count)) x
row_laid rows start zero x is = absurd (omega (arith, is.from, is.to))
row_laid rows start (suc count) x is = ⊎_elim
    (λ (later : start < is.row). joined_back (rows start) (flat_map rows (range_with_len (start + 1) count)) x
    (row_laid rows (start + 1) count x (record { row = is.row; from = omega (arith, later); to = omega (arith, is.to); in_row = is.in_row })))
    (λ (not_later : is.row ≤ start). let first : is.row ≡ start = omega (arith, is.from, not_later) in
    record {
      number = is.in_row.number;
      at = joined_front (rows start) (flat_map rows (range_with_len (start + 1) count)) is.in_row.number x
          (subst (λ row. slice_get (rows row) is.in_row.number ≡ Some x) first is.in_row.at);
    })
    (cases_lt start is.row)

-- A relation holds in each row of each element and each later one, and it holds of each element of a row and each element of
-- a later row.
pub record RowsAre {A : Type 0} (R : A → A → Type 0) (rows : ℕ → List A) : Type 0 where
  pub within : (row j k : ℕ) (a b : A) → j < k → slice_get (rows row) j ≡ Some a → slice_get (rows row) k ≡ Some b → R a b
  pub across : (low high : ℕ) (a b : A) → low < high → IsAt (rows low) a → IsAt (rows high) b → R a b

-- Such a relation holds of each element and each later one of the rows laid one after the other.
pub rows_in_turn : {A : Type 0} (R : A → A → Type 0) (rows : ℕ → List A) → RowsAre R rows → (start count j k : ℕ) (a b : A) → j < k
    → slice_get (flat_map rows (range_with_len start count)) j ≡ Some a → slice_get (flat_map rows (range_with_len start count)) k ≡ Some b → R a b
rows_in_turn R rows are start zero j k a b less is_a is_b = absurd (none-some a is_a)
rows_in_turn {A = A} R rows are start (suc count) j k a b less is_a is_b = ⊎_elim
    (λ (here : slice_get (rows start) j ≡ Some a). ⊎_elim
    (λ (too : slice_get (rows start) k ≡ Some b). are.within start j k a b less here too)
    (λ (later : IsBehind (rows start) rest k b). let is = of_row rows (start + 1) count later.rest b later.at in
    are.across start is.row a b (omega (arith, is.from)) (record { number = j; at = here }) is.in_row)
    (in_joined (rows start) rest k b is_b))
    (λ (there : IsBehind (rows start) rest j a). ⊎_elim
    (λ (before : slice_get (rows start) k ≡ Some b). absurd (omega (arith, less, there.counted, slice_get_within (rows start) k b before)))
    (λ (too : IsBehind (rows start) rest k b). rows_in_turn R rows are (start + 1) count there.rest too.rest a b (omega (arith, less, there.counted, too.counted)) there.at too.at)
    (in_joined (rows start) rest k b is_b))
    (in_joined (rows start) rest j a is_a)
  where
    rest : List A
    rest = flat_map rows (range_with_len (start + 1) count)
