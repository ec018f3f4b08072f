-- The least duals, set one after the other. Nothing here knows what kind of cell it is.
use Rattle.std.proofs.Common.{◌≡◌, ℕ, zero, suc, ◌+◌, ◌^◌, ◌<◌, ◌≤◌, ◌-◌, max, ℤ, pos, ◌+ℤ◌, ◌-ℤ◌, List, [], ◌∷◌, ◌++◌, length, take, drop, set, get_or, w64, arith, ap, sym, ◌∙◌, subst, refl, append_assoc}
use Rattle.std.proofs.lemmas.Int.{ints}
use Rattle.std.proofs.lemmas.List.{set_split, take_more_set, length-set, drop-set-lt}
use Rattle.std.proofs.Math.Seq.{drop-length}
use Rattle.std.specs.List.{AllByRecursion}
use Rattle.std.specs.Int.{saturate_unsigned}
use Rattle.fp_rows.specs.Lists.{drop-at, set_here}
use Rattle.fp_rows.specs.Runs.{total_most}
use Rattle.fp_rows.specs.LeastDuals.{above, need, needs, least_duals}
use Rattle.fp_rows.specs.TightLaws.{above-is, IsRise, AreRises}

pub saturated : (z : ℤ) → above z ≤ 2 ^ 57 → saturate_unsigned w64 z ≡ above z
saturated z h =
    let e = above-is z in
    omega arith

-- ---- what the costs rise by, in all
most_behind : {Cell : Type 0} (most : Cell → ℕ) (cells : List Cell) (i : ℕ) → total_most most (drop i cells) ≤ total_most most cells
most_behind most cells zero = omega arith
most_behind most [] (suc i) = omega arith
most_behind most (c ∷ cs) (suc i) =
    let others = most_behind most cs i in
    omega arith

no_places : {Cell : Type 0} (rise : Cell → ℤ → ℤ) (most : Cell → ℕ) (cells : List Cell) → AreRises rise most cells []
no_places rise most [] = tt
no_places rise most (c ∷ cs) = tt

rises_behind : {Cell : Type 0} (rise : Cell → ℤ → ℤ) (most : Cell → ℕ) (cells : List Cell) (xs : List ℤ) (i : ℕ) → AreRises rise most cells xs → AreRises rise most (drop i cells) (drop i xs)
rises_behind rise most cells xs zero h = h
rises_behind rise most [] xs (suc i) h = tt
rises_behind rise most (c ∷ cs) [] (suc i) h = no_places rise most (drop i cs)
rises_behind rise most (c ∷ cs) (x ∷ xs) (suc i) h = rises_behind rise most cs xs i h.1

-- a row's rises, with all of them small
pub record AreSmall {Cell : Type 0} (rise : Cell → ℤ → ℤ) (most : Cell → ℕ) (cells : List Cell) (xs : List ℤ) : Type 0 where
  pub count : length xs ≡ length cells
  pub near : AreRises rise most cells xs
  pub few : total_most most cells ≤ 2 ^ 57

pub need-le : {Cell : Type 0} (rise : Cell → ℤ → ℤ) (most : Cell → ℕ) (cells : List Cell) (xs : List ℤ) → AreRises rise most cells xs → need rise cells xs ≤ total_most most cells
need-le rise most [] xs near = omega arith
need-le rise most (c ∷ cs) [] near = omega arith
need-le rise most (c ∷ cs) (x ∷ xs) near =
    let others = need-le rise most cs xs near.1 in
    let up_to = near.0.1 in
    let from = near.0.2 in
    let e = above-is (pos (need rise cs xs) +ℤ rise c (x -ℤ pos 1)) in
    omega (arith, ints)

-- ---- from the last cell to the first
needs-is : {Cell : Type 0} (rise : Cell → ℤ → ℤ) (cells : List Cell) (xs : List ℤ) → get_or (needs rise cells xs) 0 0 ≡ need rise cells xs
needs-is rise [] xs = refl
needs-is rise (c ∷ cs) [] = refl
needs-is rise (c ∷ cs) (x ∷ xs) = refl

-- what the cells from i on need
pub record IsNeeded {Cell : Type 0} (rise : Cell → ℤ → ℤ) (cells : List Cell) (xs : List ℤ) (duals : List ℕ) (i : ℕ) : Type 0 where
  pub sizes : length duals ≡ length cells + 1
  pub set : drop i duals ≡ needs rise (drop i cells) (drop i xs)

needed_at : {Cell : Type 0} (rise : Cell → ℤ → ℤ) (cells : List Cell) (xs : List ℤ) (duals : List ℕ) (i : ℕ) → i ≤ length cells → IsNeeded rise cells xs duals i → get_or duals i 0 ≡ need rise (drop i cells) (drop i xs)
needed_at rise cells xs duals i le h =
    let sizes = h.sizes in
    let cut = drop-at duals i 0 (omega arith) in
    let same : get_or (drop i duals) 0 0 ≡ get_or duals i 0 = ap (λ ds. get_or ds 0 0) cut in
    sym same ∙ ap (λ ds. get_or ds 0 0) h.set ∙ needs-is rise (drop i cells) (drop i xs)

needed_more : {Cell : Type 0} (rise : Cell → ℤ → ℤ) (cells : List Cell) (xs : List ℤ) (duals : List ℕ) (i : ℕ) (d : Cell) (e : ℤ) → i < length cells → length xs ≡ length cells → IsNeeded rise cells xs duals (i + 1) → (need rise (drop i cells) (drop i xs) ≡ above (pos (get_or duals (i + 1) 0) +ℤ rise (get_or cells i d) (get_or xs i e -ℤ pos 1))) × (needs rise (drop i cells) (drop i xs) ≡ need rise (drop i cells) (drop i xs) ∷ needs rise (drop (i + 1) cells) (drop (i + 1) xs))
needed_more rise cells xs duals i d e lt sizes h =
    let cut = drop-at cells i d lt in
    let cut2 = drop-at xs i e (omega arith) in
    let last = needed_at rise cells xs duals (i + 1) (omega arith) h in
    rw (cut, cut2) (rw last refl, refl)

needed_next : {Cell : Type 0} (rise : Cell → ℤ → ℤ) (cells : List Cell) (xs : List ℤ) (duals : List ℕ) (i : ℕ) (d : Cell) (e : ℤ) → i < length cells → length xs ≡ length cells → IsNeeded rise cells xs duals (i + 1) → IsNeeded rise cells xs (set duals i (above (pos (get_or duals (i + 1) 0) +ℤ rise (get_or cells i d) (get_or xs i e -ℤ pos 1)))) i
needed_next rise cells xs duals i d e lt same h =
    let v = above (pos (get_or duals (i + 1) 0) +ℤ rise (get_or cells i d) (get_or xs i e -ℤ pos 1)) in
    let more = needed_more rise cells xs duals i d e lt same h in
    let sizes = h.sizes in
    let here = set_here duals i v (omega arith) in
    record { sizes = rw length-set sizes; set = here ∙ ap (λ ds. v ∷ ds) h.set ∙ ap (λ n. n ∷ needs rise (drop (i + 1) cells) (drop (i + 1) xs)) (sym more.0) ∙ sym more.1 }

needed_above : {Cell : Type 0} (rise : Cell → ℤ → ℤ) (cells : List Cell) (xs : List ℤ) (duals : List ℕ) (n : ℕ) → 0 < n → IsNeeded rise cells xs duals n → IsNeeded rise cells xs duals ((n - 1) + 1)
needed_above rise cells xs duals n some h =
    let back : n ≡ (n - 1) + 1 = omega arith in
    let P : ℕ → Type 0 = λ m. IsNeeded rise cells xs duals m in
    subst P back h

-- the dual before the cell at n - 1
pub record IsOneNeeded {Cell : Type 0} (rise : Cell → ℤ → ℤ) (cells : List Cell) (xs : List ℤ) (duals : List ℕ) (n : ℕ) (c : Cell) (x : ℤ) (dual : ℕ) : Type 0 where
  pub small : above (pos dual +ℤ rise c (x -ℤ pos 1)) ≤ 2 ^ 57
  pub next : IsNeeded rise cells xs (set duals (n - 1) (above (pos dual +ℤ rise c (x -ℤ pos 1)))) (n - 1)

pub one_needed : {Cell : Type 0} (rise : Cell → ℤ → ℤ) (most : Cell → ℕ) (cells : List Cell) (xs : List ℤ) (duals : List ℕ) (n : ℕ) (d : Cell) (e : ℤ) → AreSmall rise most cells xs → 0 < n → n ≤ length cells → IsNeeded rise cells xs duals n → IsOneNeeded rise cells xs duals n (get_or cells (n - 1) d) (get_or xs (n - 1) e) (get_or duals ((n - 1) + 1) 0)
one_needed rise most cells xs duals n d e h some le needed =
    let behind = needed_above rise cells xs duals n some needed in
    let more = needed_more rise cells xs duals (n - 1) d e (omega arith) h.count behind in
    let least = need-le rise most (drop (n - 1) cells) (drop (n - 1) xs) (rises_behind rise most cells xs (n - 1) h.near) in
    let few = most_behind most cells (n - 1) in
    record {
      small = rw (← more.0) (omega (arith, h.few));
      next = needed_next rise cells xs duals (n - 1) d e (omega arith) h.count behind;
    }

-- ---- from the first cell to the last
pub record IsRaising {Cell : Type 0} (rise : Cell → ℤ → ℤ) (most : Cell → ℕ) (cells : List Cell) (xs : List ℤ) (duals : List ℕ) (i spare : ℕ) : Type 0 where
  pub sizes : length duals ≡ length cells + 1
  pub needed : drop i duals ≡ needs rise (drop i cells) (drop i xs)
  pub bound : spare + total_most most (drop i cells) ≤ 2 ^ 57
  pub done : take i duals ++ least_duals rise spare (drop i cells) (drop i xs) ≡ least_duals rise 0 cells xs

pub raising_start : {Cell : Type 0} (rise : Cell → ℤ → ℤ) (most : Cell → ℕ) (cells : List Cell) (xs : List ℤ) (duals : List ℕ) → AreSmall rise most cells xs → length duals ≡ length cells + 1 → duals ≡ needs rise cells xs → IsRaising rise most cells xs duals 0 0
raising_start rise most cells xs duals small sizes h = record { sizes = sizes; needed = h; bound = omega (arith, small.few); done = refl }

record IsRaised {Cell : Type 0} (rise : Cell → ℤ → ℤ) (most : Cell → ℕ) (c : Cell) (cs : List Cell) (x : ℤ) (xs : List ℤ) (spare : ℕ) (front whole : List ℕ) : Type 0 where
  pub bound : above (pos spare -ℤ rise c x) + total_most most cs ≤ 2 ^ 57
  pub done : (front ++ max spare (need rise (c ∷ cs) (x ∷ xs)) ∷ []) ++ least_duals rise (above (pos spare -ℤ rise c x)) cs xs ≡ whole

raised_cons : {Cell : Type 0} (rise : Cell → ℤ → ℤ) (most : Cell → ℕ) (c : Cell) (cs : List Cell) (x : ℤ) (xs : List ℤ) (spare : ℕ) (front whole : List ℕ) → IsRise rise most c x → spare + total_most most (c ∷ cs) ≤ 2 ^ 57 → front ++ least_duals rise spare (c ∷ cs) (x ∷ xs) ≡ whole → IsRaised rise most c cs x xs spare front whole
raised_cons rise most c cs x xs spare front whole near bound done =
    let low = near.0 in
    let grows = near.1 in
    let e = above-is (pos spare -ℤ rise c x) in
    record {
      bound = omega (arith, ints);
      done = append_assoc front (max spare (need rise (c ∷ cs) (x ∷ xs)) ∷ []) (least_duals rise (above (pos spare -ℤ rise c x)) cs xs) ∙ done;
    }

pub record IsOneRaised {Cell : Type 0} (rise : Cell → ℤ → ℤ) (most : Cell → ℕ) (cells : List Cell) (xs : List ℤ) (duals : List ℕ) (i spare : ℕ) (c : Cell) (x : ℤ) : Type 0 where
  pub small : above (pos spare -ℤ rise c x) ≤ 2 ^ 57
  pub next : IsRaising rise most cells xs (set duals i (max spare (get_or duals i 0))) (i + 1) (above (pos spare -ℤ rise c x))

pub one_raised : {Cell : Type 0} (rise : Cell → ℤ → ℤ) (most : Cell → ℕ) (cells : List Cell) (xs : List ℤ) (duals : List ℕ) (i spare : ℕ) (d : Cell) (e : ℤ) → AreSmall rise most cells xs → i < length cells → IsRaising rise most cells xs duals i spare → IsOneRaised rise most cells xs duals i spare (get_or cells i d) (get_or xs i e)
one_raised rise most cells xs duals i spare d e small lt h =
    let c = get_or cells i d in
    let x = get_or xs i e in
    let cut = drop-at cells i d lt in
    let cut2 = drop-at xs i e (omega (arith, small.count)) in
    let near : AreRises rise most (c ∷ drop (i + 1) cells) (x ∷ drop (i + 1) xs) = rw (cut, cut2) at (rises_behind rise most cells xs i small.near) in
    let bound = rw cut at h.bound in
    let done = rw (cut, cut2) at h.done in
    let m = raised_cons rise most c (drop (i + 1) cells) x (drop (i + 1) xs) spare (take i duals) (least_duals rise 0 cells xs) near.0 bound done in
    let sizes = h.sizes in
    let cut3 = drop-at duals i 0 (omega arith) in
    let needed : get_or duals i 0 ∷ drop (i + 1) duals ≡ need rise (c ∷ drop (i + 1) cells) (x ∷ drop (i + 1) xs) ∷ needs rise (drop (i + 1) cells) (drop (i + 1) xs) = rw (cut, cut2, cut3) at h.needed in
    let first : get_or duals i 0 ≡ need rise (c ∷ drop (i + 1) cells) (x ∷ drop (i + 1) xs) = cc in
    let others : drop (i + 1) duals ≡ needs rise (drop (i + 1) cells) (drop (i + 1) xs) = cc in
    let v = max spare (get_or duals i 0) in
    record {
      small = omega (arith, m.bound);
      next = record {
        sizes = rw length-set sizes;
        needed = drop-set-lt (i + 1) duals i v (omega arith) ∙ others;
        bound = m.bound;
        done = rw (take_more_set duals i v (omega arith), first) m.done;
      };
    }

pub raising_end : {Cell : Type 0} (rise : Cell → ℤ → ℤ) (most : Cell → ℕ) (cells : List Cell) (xs : List ℤ) (duals : List ℕ) (i spare : ℕ) → length cells ≤ i → i ≤ length cells → IsRaising rise most cells xs duals i spare → set duals (length cells) (max spare (get_or duals (length cells) 0)) ≡ least_duals rise 0 cells xs
raising_end rise most cells xs duals i spare l g h =
    let here : i ≡ length cells = omega arith in
    let n = length cells in
    let none : drop n cells ≡ [] = drop-length cells in
    let sizes = h.sizes in
    let cut = drop-at duals n 0 (omega arith) in
    let needed : get_or duals n 0 ∷ drop (n + 1) duals ≡ 0 ∷ [] = rw (here, none, cut) at h.needed in
    let last : get_or duals n 0 ≡ 0 = cc in
    let no_more : drop (n + 1) duals ≡ [] = cc in
    let done : take n duals ++ (max spare 0 ∷ []) ≡ least_duals rise 0 cells xs = rw (here, none) at h.done in
    let v = max spare (get_or duals n 0) in
    let split = set_split duals n v (omega arith) in
    let after : suc n ≡ n + 1 = omega arith in
    rw split (rw (after, no_more, last) done)

-- each of the least duals is small
pub least_small : {Cell : Type 0} (rise : Cell → ℤ → ℤ) (most : Cell → ℕ) (cells : List Cell) (xs : List ℤ) (spare : ℕ) → AreRises rise most cells xs → spare + total_most most cells ≤ 2 ^ 57 → AllByRecursion (λ dual. dual ≤ 2 ^ 57) (least_duals rise spare cells xs)
least_small rise most [] xs spare near bound = (omega arith, tt)
least_small rise most (c ∷ cs) [] spare near bound = (omega arith, tt)
least_small rise most (c ∷ cs) (x ∷ xs) spare near bound =
    let least = need-le rise most (c ∷ cs) (x ∷ xs) near in
    let m = raised_cons rise most c cs x xs spare [] (least_duals rise spare (c ∷ cs) (x ∷ xs)) near.0 bound refl in
    (omega arith, least_small rise most cs xs (above (pos spare -ℤ rise c x)) near.1 m.bound)
