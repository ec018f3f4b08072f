-- What is left of a list behind its first few elements, and what stands in front.
use Rattle.std.proofs.Common.{◌≡◌, ℕ, zero, suc, ◌+◌, ◌-◌, ◌<◌, ◌≤◌, List, [], ◌∷◌, ◌++◌, length, take, drop, set, get_or, arith, ap, sym, ◌∙◌, add-one, drop-cons}
use Rattle.std.proofs.Math.Seq.{drop-length, drop-append_seam}
use Rattle.std.proofs.lemmas.List.{drop-drop, take_at, set_split, length-take-le}
use Rattle.std.specs.List.{AllByRecursion}

pub drop-at : {A : Type 0} (xs : List A) (i : ℕ) (d : A) → i < length xs → drop i xs ≡ get_or xs i d ∷ drop (i + 1) xs
drop-at xs i d h = rw (add-one, drop-cons xs i d)

pub drop-all : {A B : Type 0} (xs : List A) (ys : List B) (i : ℕ) → length xs ≡ length ys → length ys ≤ i → i ≤ length ys → drop i xs ≡ []
drop-all xs ys i e l h =
    let same : i ≡ length xs = omega arith in
    rw same (drop-length xs)

pub drop_at : {A : Type 0} (run others : List A) (n : ℕ) → length run ≡ n → drop n (run ++ others) ≡ others
drop_at run others n e = rw (← e) (drop-append_seam run others)

pub drop_run : {A : Type 0} (xs run rest : List A) (i n : ℕ) → drop i xs ≡ run ++ rest → length run ≡ n → drop (i + n) xs ≡ rest
drop_run xs run rest i n parts count = sym (drop-drop n i xs) ∙ ap (drop n) parts ∙ drop_at run rest n count

pub take_here : {A : Type 0} (xs run rest : List A) (i n : ℕ) → drop i xs ≡ run ++ rest → length run ≡ n → take (i + n - i) (drop i xs) ≡ run
take_here xs run rest i n parts count =
    let minus : i + n - i ≡ n = omega arith in
    rw minus (ap (take n) parts ∙ take_at run rest n count)

pub set_here : {A : Type 0} (xs : List A) (i : ℕ) (v : A) → i < length xs → drop i (set xs i v) ≡ v ∷ drop (i + 1) xs
set_here xs i v lt =
    let split = set_split xs i v lt in
    let short = length-take-le i xs (omega arith) in
    let here : suc i ≡ i + 1 = omega arith in
    rw split (rw here (drop_at (take i xs) (v ∷ drop (i + 1) xs) i short))

pub all_front : {A : Type 0} (P : A → Type 0) (xs ys : List A) → AllByRecursion P (xs ++ ys) → AllByRecursion P xs
all_front P [] ys h = tt
all_front P (x ∷ xs) ys h = (h.0, all_front P xs ys h.1)

pub all_behind : {A : Type 0} (P : A → Type 0) (xs ys : List A) → AllByRecursion P (xs ++ ys) → AllByRecursion P ys
all_behind P [] ys h = h
all_behind P (x ∷ xs) ys h = all_behind P xs ys h.1

pub each_behind : {A : Type 0} (P : A → Type 0) (xs : List A) (i : ℕ) → AllByRecursion P xs → AllByRecursion P (drop i xs)
each_behind P xs zero h = h
each_behind P [] (suc i) h = tt
each_behind P (x ∷ xs) (suc i) h = each_behind P xs i h.1
