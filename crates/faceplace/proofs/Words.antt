-- Words that ask for a placement name three files that differ.
use Rattle.std.proofs.Common.{◌≡◌, ◌≢◌, ℕ, Bool, true, false, cond, List, [], ◌∷◌, Option, Some, None, refl, sym, ◌∙◌}
use Rattle.std.specs.Prelude.{not, ◌&&◌, option_map, codes}
use Rattle.std.specs.Str.{bytes_eq}
use Rattle.std.proofs.lemmas.Bool.{and_parts}
use Rattle.std.proofs.lemmas.Slice.Eq.{bytes_eq-Decides}
use Rattle.faceplace.specs.declared.request.Making.{Making}
use Rattle.faceplace.specs.Request.{Asked, Seed, Score, Place, Check, Gen, Demo, two_names, are_apart, number_in, three_names, with_trials, asks_placing, asks_checking, asks_making, asks_generating, with_making, asks_demo, asks}

-- where a placement is asked for, the names of its files that are written differ
abbrev pub KeepsApart : Option Asked → Type 0
KeepsApart None = Unit {0}
KeepsApart (Some (Seed input output)) = Unit {0}
KeepsApart (Some (Score input output)) = Unit {0}
KeepsApart (Some (Place input output cert trials)) = output ≢ cert
KeepsApart (Some (Check input output cert)) = Unit {0}
KeepsApart (Some (Gen making output)) = Unit {0}
KeepsApart (Some (Demo making output cert)) = output ≢ cert

-- either of two
either : (test : Bool) (one other : Option Asked) → KeepsApart one → KeepsApart other → KeepsApart (cond test one other)
either true one other first second = first
either false one other first second = second

two : (make : List ℕ → List ℕ → Asked) → ((a b : List ℕ) → KeepsApart (Some (make a b))) → (words : List (List ℕ)) → KeepsApart (two_names make words)
two make each [] = tt
two make each (first ∷ []) = tt
two make each (first ∷ second ∷ []) = either (bytes_eq first second) None (Some (make first second)) tt (each first second)
two make each (first ∷ second ∷ third ∷ others) = tt

differ : (a b : List ℕ) → not (bytes_eq a b) ≡ true → a ≢ b
differ a b is same = by (bytes_eq a b) ((bytes_eq-Decides a b).1 same) is
  where
    by : (t : Bool) → t ≡ true → not t ≡ true → ⊥
    by true is same = absurd (let untrue : false ≡ true = same in cc)
    by false is same = absurd (let untrue : false ≡ true = is in cc)

placing : (input output cert : List ℕ) (trials : ℕ) → KeepsApart (three_names (λ i o c. Place i o c trials) input output cert)
placing input output cert trials = by (are_apart input output cert) refl
  where
    by : (t : Bool) → are_apart input output cert ≡ t → KeepsApart (cond t (Some (Place input output cert trials)) None)
    by true is = differ output cert (and_parts (not (bytes_eq input output) && not (bytes_eq input cert)) (not (bytes_eq output cert)) is).1
    by false is = tt

with_number : (input output cert : List ℕ) (trials : Option ℕ) → KeepsApart (with_trials input output cert trials)
with_number input output cert None = tt
with_number input output cert (Some trials) = placing input output cert trials

place_apart : (words : List (List ℕ)) → KeepsApart (asks_placing words)
place_apart [] = tt
place_apart (input ∷ []) = tt
place_apart (input ∷ output ∷ []) = tt
place_apart (input ∷ output ∷ cert ∷ []) = with_number input output cert (Some 3)
place_apart (input ∷ output ∷ cert ∷ trials ∷ []) = with_number input output cert (number_in 1 8 trials)
place_apart (input ∷ output ∷ cert ∷ trials ∷ other ∷ others) = tt

check_apart : (words : List (List ℕ)) → KeepsApart (asks_checking words)
check_apart [] = tt
check_apart (input ∷ []) = tt
check_apart (input ∷ output ∷ []) = tt
check_apart (input ∷ output ∷ cert ∷ []) = either (are_apart input output cert) (Some (Check input output cert)) None tt tt
check_apart (input ∷ output ∷ cert ∷ other ∷ others) = tt

made_apart : (making : Option Making) (output : List ℕ) → KeepsApart (option_map (λ m. Gen m output) making)
made_apart None output = tt
made_apart (Some making) output = tt

gen_apart : (words : List (List ℕ)) → KeepsApart (asks_generating words)
gen_apart [] = tt
gen_apart (number ∷ []) = tt
gen_apart (number ∷ cells ∷ []) = tt
gen_apart (number ∷ cells ∷ output ∷ []) = made_apart (asks_making number cells (Some 80)) output
gen_apart (number ∷ cells ∷ output ∷ percent ∷ []) = made_apart (asks_making number cells (number_in 0 80 percent)) output
gen_apart (number ∷ cells ∷ output ∷ percent ∷ other ∷ others) = tt

placing_made : (making : Option Making) (output cert : List ℕ) → KeepsApart (with_making making output cert)
placing_made None output cert = tt
placing_made (Some making) output cert = by (bytes_eq output cert) refl
  where
    by : (t : Bool) → bytes_eq output cert ≡ t → KeepsApart (cond t None (Some (Demo making output cert)))
    by true is = tt
    by false is = λ same. absurd (let untrue : false ≡ true = sym is ∙ (bytes_eq-Decides output cert).1 same in cc)

demo_apart : (words : List (List ℕ)) → KeepsApart (asks_demo words)
demo_apart [] = tt
demo_apart (number ∷ []) = tt
demo_apart (number ∷ cells ∷ []) = tt
demo_apart (number ∷ cells ∷ output ∷ []) = tt
demo_apart (number ∷ cells ∷ output ∷ cert ∷ []) = placing_made (asks_making number cells (Some 80)) output cert
demo_apart (number ∷ cells ∷ output ∷ cert ∷ percent ∷ []) = placing_made (asks_making number cells (number_in 0 80 percent)) output cert
demo_apart (number ∷ cells ∷ output ∷ cert ∷ percent ∷ other ∷ others) = tt

pub asks_apart : (words : List (List ℕ)) → KeepsApart (asks words)
asks_apart [] = tt
asks_apart (command ∷ words) =
    either (bytes_eq command (codes "seed")) _ _ (two Seed (λ a b. tt) words)
    (either (bytes_eq command (codes "score")) _ _ (two Score (λ a b. tt) words)
    (either (bytes_eq command (codes "place")) _ _ (place_apart words)
    (either (bytes_eq command (codes "check")) _ _ (check_apart words)
    (either (bytes_eq command (codes "gen")) _ _ (gen_apart words)
    (either (bytes_eq command (codes "demo")) _ _ (demo_apart words) tt)))))
