-- The sums of the shares of a cell's nets.
use Rattle.std.proofs.Common.{◌≡◌, ℕ, zero, suc, ◌+◌, ◌-◌, ◌*◌, ◌<◌, ◌≤◌, Bool, true, false, List, [], ◌∷◌, length, replicate, get_or, set, map, if◌then◌else◌, refl, sym, ap, ◌∙◌, arith}
use Rattle.std.proofs.lemmas.List.{ext_get_or, length-map, get_or-map}
use Rattle.std.proofs.lemmas.Bool.Decides.{nat_tests}
use Rattle.fp_base.specs.declared.ids.Die.{Die}
use Rattle.fp_base.specs.declared.ids.Die.TheVariants.{Top, Bottom}
use Rattle.fp_place.specs.Places.{other_die}
use Rattle.fp_gains.specs.declared.sides.Sides.{Sides}
use Rattle.fp_gains.specs.Lists.{list_at}
use Rattle.fp_gains.specs.Links.{holds}
use Rattle.fp_gains.specs.Sides.{no_sides, sides_of, count_on, moved, share_by, share}
use Rattle.fp_gains.specs.Kept.{shares, degree, AreCounted}

-- one net's numbers of cells changed
pub shares_set : (die : Die) (cell net : ℕ) (members : List (List ℕ)) (sides : List Sides) (after : Sides) → length sides ≡ length members → net < length members
    → shares die cell members (set sides net after) + (if holds (list_at members net) cell then share die (get_or sides net no_sides) else 0)
    ≡ shares die cell members sides + (if holds (list_at members net) cell then share die after else 0)
unfolding shares
shares_set die cell net [] sides after many within = absurd (omega arith)
shares_set die cell net (cells ∷ others) [] after many within = absurd (omega arith)
shares_set die cell zero (cells ∷ others) (first ∷ sides) after many within = omega arith
shares_set die cell (suc net) (cells ∷ others) (first ∷ sides) after many within =
    omega (arith, shares_set die cell net others sides after (omega arith) (omega arith))

one_at_most : (b : Bool) → (if b then 1 else 0) ≤ 1
one_at_most true = omega arith
one_at_most false = omega arith

pub degree_le : (cell : ℕ) (members : List (List ℕ)) → degree cell members ≤ length members
unfolding degree
degree_le cell [] = omega arith
degree_le cell (cells ∷ others) = omega (arith, degree_le cell others, one_at_most (holds cells cell))

share_by_le : (here there : ℕ) → share_by here there ≤ 2
share_by_le here there = grind (arith, nat_tests)

pub share_le : (die : Die) (sides : Sides) → share die sides ≤ 2
share_le Top sides = share_by_le sides.top sides.bottom
share_le Bottom sides = share_by_le sides.bottom sides.top

two_at_most : (b : Bool) (n : ℕ) → n ≤ 2 → (if b then n else 0) ≤ 2 * (if b then 1 else 0)
two_at_most true n small = omega arith
two_at_most false n small = omega arith

pub shares_le : (die : Die) (cell : ℕ) (members : List (List ℕ)) (sides : List Sides) → shares die cell members sides ≤ 2 * degree cell members
unfolding shares degree
shares_le die cell [] sides = omega arith
shares_le die cell (cells ∷ others) [] = omega arith
shares_le die cell (cells ∷ others) (first ∷ sides) =
    omega (arith, shares_le die cell others sides, two_at_most (holds cells cell) (share die first) (share_le die first))

-- before any cell is counted
share_none : (die : Die) → share die no_sides ≡ 1
share_none Top = refl
share_none Bottom = refl

pub shares_none : (die : Die) (cell : ℕ) (members : List (List ℕ)) → shares die cell members (replicate (length members) no_sides) ≡ degree cell members
unfolding shares degree
shares_none die cell [] = refl
shares_none die cell (cells ∷ others) =
    let one : share die no_sides ≡ 1 = share_none die in
    let here : (if holds cells cell then share die no_sides else 0) ≡ (if holds cells cell then 1 else 0) = ap (λ n. if holds cells cell then n else 0) one in
    omega (arith, here, shares_none die cell others)

-- a cell that turns from a die to the other turns its shares
share_by_turned : (here there : ℕ) → 0 < here → share_by here there + share_by (there + 1) (here - 1) ≡ 2
share_by_turned here there some = grind (arith, nat_tests)

pub share_turned : (die : Die) (sides : Sides) → 0 < count_on sides die → share die sides + share (other_die die) (moved sides die) ≡ 2
share_turned Top sides some = share_by_turned sides.top sides.bottom some
share_turned Bottom sides some = share_by_turned sides.bottom sides.top some

pub shares_turned : (die : Die) (cell : ℕ) (members : List (List ℕ)) (before after : List Sides) → length before ≡ length members → length after ≡ length members
    → ((net : ℕ) → net < length members → holds (list_at members net) cell ≡ true → share die (get_or before net no_sides) + share (other_die die) (get_or after net no_sides) ≡ 2)
    → shares die cell members before + shares (other_die die) cell members after ≡ 2 * degree cell members
unfolding shares degree
shares_turned die cell [] before after many_before many_after turn = refl
shares_turned die cell (cells ∷ others) [] after many_before many_after turn = absurd (omega arith)
shares_turned die cell (cells ∷ others) (b ∷ before) [] many_before many_after turn = absurd (omega arith)
shares_turned die cell (cells ∷ others) (b ∷ before) (a ∷ after) many_before many_after turn =
    omega (
      arith,
      by (holds cells cell) (turn 0 (omega arith)),
      shares_turned die cell others before after (omega arith) (omega arith) (λ net less held. turn (suc net) (omega arith) held),
    )
  where
    by : (h : Bool) → (h ≡ true → share die b + share (other_die die) a ≡ 2) → (if h then share die b else 0) + (if h then share (other_die die) a else 0) ≡ 2 * (if h then 1 else 0)
    by true turns = turns refl
    by false turns = refl

-- numbers of cells that are counted net by net are counted all
pub counted_is : (members : List (List ℕ)) (dies : List Die) (sides : List Sides) → length sides ≡ length members → AreCounted members dies sides → sides ≡ map (sides_of dies) members
counted_is members dies sides many are = ext_get_or no_sides sides (map (sides_of dies) members) (many ∙ sym (length-map members (sides_of dies)))
    (λ net less. let within : net < length members = omega arith in are net within ∙ sym (get_or-map (sides_of dies) members net [] no_sides within))
