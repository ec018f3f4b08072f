-- Laws of settled dies: they keep the rules, have no more cut nets than the dies before, and no single move that keeps the rules leaves
-- fewer nets cut. To settle them again changes nothing.
use Rattle.std.specs.Prelude.{◌≡◌, ℕ, zero, suc, ◌<◌, ◌≤◌, Bool, true, false, not, nat_lt, if◌then◌else◌, List, [], ◌∷◌, length, set, IsTrue, Option, Some, None}
use Rattle.std.specs.List.{AllByRecursion}
use Rattle.std.proofs.Common.{refl, sym, subst, ◌∙◌, arith}
use Rattle.std.proofs.lemmas.List.{get_or-replicate}
use Rattle.std.proofs.lemmas.Bool.{and_parts, and_from, cond_both, cond-true, cond-false, false≢true, lt-ltb, le-ltb, ltb-false, ltb-true, not_from_false}
use Rattle.fp_base.specs.declared.ids.Die.{Die}
use Rattle.fp_netlist.specs.Netlist.{Netlist}
use Rattle.fp_place.specs.Cut.{cut}
use Rattle.fp_place.specs.FirstLeast.{first_least_found, first_least_none}
use Rattle.fp_place.specs.Settled.{flipped, may_move, is_moved, is_candidate, next_move, with_move, moves, none_moved, pass, first_fewest, best, settled_in, settled, KeepRules}
use Rattle.fp_place.specs.MoveLaws.{move_keeps, keeping_may_move}

-- the next move is a candidate
pub record IsNext (p : Netlist) (dies : List Die) (moved : List Bool) (cell : ℕ) : Type 0 where
  pub in_range : cell < length p.cells
  pub unmoved : is_moved moved cell ≡ false
  pub may : IsTrue (may_move p dies cell)
  pub least : (other : ℕ) → other < length p.cells → IsTrue (is_candidate p dies moved other) → cut p (flipped dies cell) ≤ cut p (flipped dies other)

not_true : (b : Bool) → not b ≡ true → b ≡ false
not_true true is = absurd (false≢true is)
not_true false is = refl

pub next_is : (p : Netlist) (dies : List Die) (moved : List Bool) (cell : ℕ) → next_move p dies moved ≡ Some cell → IsNext p dies moved cell
unfolding next_move
next_is p dies moved cell found =
    let is = first_least_found (is_candidate p dies moved) (λ cell. cut p (flipped dies cell)) (length p.cells) cell found in
    let parts = and_parts (not (is_moved moved cell)) (may_move p dies cell) is.passing in
    record { in_range = is.in_range; unmoved = not_true (is_moved moved cell) parts.0; may = parts.1; least = is.least }

-- all dies of a pass keep the rules
moves_keep : (p : Netlist) (n : ℕ) (dies : List Die) (moved : List Bool) → KeepRules p dies → AllByRecursion (KeepRules p) (moves p n dies moved)
unfolding moves
moves_keep p zero dies moved rules = tt
moves_keep p (suc n) dies moved rules = by (next_move p dies moved) refl (λ cell. moves_keep p n (flipped dies cell) (set moved cell true))
  where
    by : (next : Option ℕ) → next_move p dies moved ≡ next → ((cell : ℕ) → KeepRules p (flipped dies cell) → AllByRecursion (KeepRules p) (moves p n (flipped dies cell) (set moved cell true)))
        → AllByRecursion (KeepRules p) (with_move dies next (λ cell. moves p n (flipped dies cell) (set moved cell true)))
    by None found later = tt
    by (Some cell) found later =
        let is = next_is p dies moved cell found in
        let keep = move_keeps p dies cell rules is.in_range is.may in
        (keep, later cell keep)

fewest_keeps : (p : Netlist) (kept : List Die) (others : List (List Die)) → KeepRules p kept → AllByRecursion (KeepRules p) others → KeepRules p (first_fewest p kept others)
unfolding first_fewest
fewest_keeps p kept [] rules all = rules
fewest_keeps p kept (dies ∷ others) rules all =
    fewest_keeps p (if nat_lt (cut p dies) (cut p kept) then dies else kept) others
    (cond_both (nat_lt (cut p dies) (cut p kept)) dies kept (KeepRules p) (λ _. all.0) (λ _. rules)) all.1

-- the fewest cut nets are at most those of the first dies
fewest_at_most : (p : Netlist) (kept : List Die) (others : List (List Die)) → cut p (first_fewest p kept others) ≤ cut p kept
unfolding first_fewest
fewest_at_most p kept [] = omega arith
fewest_at_most p kept (dies ∷ others) =
    let lower = if nat_lt (cut p dies) (cut p kept) then dies else kept in
    let no_more : cut p lower ≤ cut p kept =
    cond_both (nat_lt (cut p dies) (cut p kept)) dies kept (λ these. cut p these ≤ cut p kept) (λ less. let lt = ltb-true (cut p dies) (cut p kept) less in omega (arith, lt)) (λ _. omega arith) in
    omega (arith, no_more, fewest_at_most p lower others)

-- and of the second ones
fewest_at_most_next : (p : Netlist) (kept dies : List Die) (others : List (List Die)) → cut p (first_fewest p kept (dies ∷ others)) ≤ cut p dies
unfolding first_fewest
fewest_at_most_next p kept dies others =
    let lower = if nat_lt (cut p dies) (cut p kept) then dies else kept in
    let no_more : cut p lower ≤ cut p dies =
    cond_both (nat_lt (cut p dies) (cut p kept)) dies kept (λ these. cut p these ≤ cut p dies) (λ _. omega arith) (λ more. ltb-false (cut p dies) (cut p kept) more) in
    omega (arith, no_more, fewest_at_most p lower others)

-- what a pass keeps keeps the rules
pub best_keeps : (p : Netlist) (from : List Die) → KeepRules p from → KeepRules p (best p from)
unfolding pass
best_keeps p from rules = fewest_keeps p from (pass p from) rules (moves_keep p (length p.cells) from (none_moved p) rules)

pub best_at_most : (p : Netlist) (from : List Die) → cut p (best p from) ≤ cut p from
best_at_most p from = fewest_at_most p from (pass p from)

-- and it has at most as many cut nets as any single move leaves
best_of_moves : (p : Netlist) (from : List Die) (cell : ℕ) → cell < length p.cells → IsTrue (may_move p from cell) → cut p (best p from) ≤ cut p (flipped from cell)
unfolding pass moves next_move
best_of_moves p from cell below may = at (length p.cells) refl
  where
    is_free : is_moved (none_moved p) cell ≡ false
    is_free = get_or-replicate (length p.cells) cell false false below

    passes : IsTrue (is_candidate p from (none_moved p) cell)
    passes = and_from (not (is_moved (none_moved p) cell)) (may_move p from cell) (not_from_false (is_moved (none_moved p) cell) is_free) may

    by : (n : ℕ) (next : Option ℕ) → next_move p from (none_moved p) ≡ next
        → cut p (first_fewest p from (with_move from next (λ cell. moves p n (flipped from cell) (set (none_moved p) cell true)))) ≤ cut p (flipped from cell)
    by n None found =
        let none = first_least_none (is_candidate p from (none_moved p)) (λ cell. cut p (flipped from cell)) (length p.cells) found in
        absurd (false≢true (sym (none.fails cell below) ∙ passes))
    by n (Some first) found =
        let is = next_is p from (none_moved p) first found in
        let least : cut p (flipped from first) ≤ cut p (flipped from cell) = is.least cell below passes in
        omega (arith, least, fewest_at_most_next p from (flipped from first) (moves p n (flipped from first) (set (none_moved p) first true)))

    at : (many : ℕ) → length p.cells ≡ many → cut p (first_fewest p from (moves p (length p.cells) from (none_moved p))) ≤ cut p (flipped from cell)
    at zero many = absurd (omega (arith, many, below))
    at (suc n) many = subst (λ k. cut p (first_fewest p from (moves p k from (none_moved p))) ≤ cut p (flipped from cell)) (sym many) (by n (next_move p from (none_moved p)) refl)

-- what holds of the dies before holds of the settled ones, where each pass keeps it
settled_keep : (P : List Die → Type 0) (p : Netlist) (n : ℕ) (dies : List Die) → ((these : List Die) → P these → P (best p these)) → P dies → P (settled_in p n dies)
unfolding settled_in
settled_keep P p zero dies each here = here
settled_keep P p (suc n) dies each here =
    cond_both (nat_lt (cut p (best p dies)) (cut p dies)) (settled_in p n (best p dies)) dies P (λ _. settled_keep P p n (best p dies) each (each dies here)) (λ _. here)

-- no pass lowers the number of cut nets of settled dies
settled_last : (p : Netlist) (n : ℕ) (dies : List Die) → cut p dies < n → cut p (settled_in p n dies) ≤ cut p (best p (settled_in p n dies))
unfolding settled_in
settled_last p zero dies fuel = absurd (omega (arith, fuel))
settled_last p (suc n) dies fuel =
    cond_both (nat_lt (cut p (best p dies)) (cut p dies)) (settled_in p n (best p dies)) dies (λ these. cut p these ≤ cut p (best p these))
    (λ less. let lt = ltb-true (cut p (best p dies)) (cut p dies) less in settled_last p n (best p dies) (omega (arith, lt, fuel)))
    (λ more. ltb-false (cut p (best p dies)) (cut p dies) more)

pub no_pass_lowers : (p : Netlist) (from : List Die) → cut p (settled p from) ≤ cut p (best p (settled p from))
unfolding settled
no_pass_lowers p from = settled_last p (suc (cut p from)) from (omega arith)

-- where a pass does not lower that number, the dies are settled as they are
pub settled_as_they_are : (p : Netlist) (dies : List Die) → cut p dies ≤ cut p (best p dies) → settled p dies ≡ dies
unfolding settled settled_in
settled_as_they_are p dies no_less =
    cond-false (nat_lt (cut p (best p dies)) (cut p dies)) (settled_in p (cut p dies) (best p dies)) dies (le-ltb (cut p (best p dies)) (cut p dies) no_less)

-- what the settled dies keep of the dies before
pub record SettlingKeeps (p : Netlist) (from dies : List Die) : Type 0 where
  pub rules : KeepRules p dies
  pub no_more_cut : cut p dies ≤ cut p from
  pub steady : (cell : ℕ) → cell < length p.cells → KeepRules p (flipped dies cell) → cut p dies ≤ cut p (flipped dies cell)

pub settling_keeps : (p : Netlist) (from : List Die) → KeepRules p from → SettlingKeeps p from (settled p from)
unfolding settled
settling_keeps p from rules = record {
  rules = settled_keep (KeepRules p) p (suc (cut p from)) from (best_keeps p) rules;
  no_more_cut = settled_keep (λ dies. cut p dies ≤ cut p from) p (suc (cut p from)) from (λ dies at_most. omega (arith, at_most, best_at_most p dies)) (omega arith);
  steady = λ cell below kept. omega (arith, no_pass_lowers p from, best_of_moves p (settled p from) cell below (keeping_may_move p (settled p from) cell below kept));
}

-- to settle twice is to settle once
pub settled_twice : (p : Netlist) (from : List Die) → settled p (settled p from) ≡ settled p from
settled_twice p from = settled_as_they_are p (settled p from) (no_pass_lowers p from)

-- dies that cut no net are settled
pub settled_uncut : (p : Netlist) (dies : List Die) → cut p dies ≡ 0 → settled p dies ≡ dies
settled_uncut p dies uncut = settled_as_they_are p dies (omega (arith, uncut))

-- how many passes are allowed makes no difference, where they are more than the cut nets
settled_in_any : (p : Netlist) (n m : ℕ) (dies : List Die) → cut p dies < n → cut p dies < m → settled_in p n dies ≡ settled_in p m dies
unfolding settled_in
settled_in_any p zero m dies fuel_n fuel_m = absurd (omega (arith, fuel_n))
settled_in_any p (suc n) zero dies fuel_n fuel_m = absurd (omega (arith, fuel_m))
settled_in_any p (suc n) (suc m) dies fuel_n fuel_m = by (nat_lt (cut p (best p dies)) (cut p dies)) refl (settled_in_any p n m (best p dies))
  where
    by : (lowers : Bool) → nat_lt (cut p (best p dies)) (cut p dies) ≡ lowers
        → (cut p (best p dies) < n → cut p (best p dies) < m → settled_in p n (best p dies) ≡ settled_in p m (best p dies))
        → (if lowers then settled_in p n (best p dies) else dies) ≡ (if lowers then settled_in p m (best p dies) else dies)
    by true is later =
        let less = ltb-true (cut p (best p dies)) (cut p dies) is in
        later (omega (arith, less, fuel_n)) (omega (arith, less, fuel_m))
    by false is later = refl

-- a pass that lowers the number of cut nets goes before the others
pub settled_next : (p : Netlist) (dies : List Die) → cut p (best p dies) < cut p dies → settled p dies ≡ settled p (best p dies)
unfolding settled settled_in
settled_next p dies less =
    cond-true (nat_lt (cut p (best p dies)) (cut p dies)) (settled_in p (cut p dies) (best p dies)) dies (lt-ltb (cut p (best p dies)) (cut p dies) less)
    ∙ settled_in_any p (cut p dies) (suc (cut p (best p dies))) (best p dies) less (omega arith)

-- a pass keeps its first dies, where no others have fewer cut nets
fewest_same : (p : Netlist) (kept : List Die) (others : List (List Die)) → cut p kept ≤ cut p (first_fewest p kept others) → first_fewest p kept others ≡ kept
unfolding first_fewest
fewest_same p kept [] no_less = refl
fewest_same p kept (dies ∷ others) no_less = by (nat_lt (cut p dies) (cut p kept)) refl no_less (fewest_same p kept others)
  where
    by : (lowers : Bool) → nat_lt (cut p dies) (cut p kept) ≡ lowers → cut p kept ≤ cut p (first_fewest p (if lowers then dies else kept) others)
        → (cut p kept ≤ cut p (first_fewest p kept others) → first_fewest p kept others ≡ kept) → first_fewest p (if lowers then dies else kept) others ≡ kept
    by true is no_less later = let less = ltb-true (cut p dies) (cut p kept) is in absurd (omega (arith, less, fewest_at_most p dies others, no_less))
    by false is no_less later = later no_less

pub best_same : (p : Netlist) (from : List Die) → cut p from ≤ cut p (best p from) → best p from ≡ from
best_same p from no_less = fewest_same p from (pass p from) no_less
