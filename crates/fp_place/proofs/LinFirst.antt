-- The first cell that breaks a rule, as more cells are seen.
use Rattle.std.specs.Prelude.{◌≡◌, ℕ, ◌<◌, Bool, true, false, nat_lt, if◌then◌else◌, Option, Some, None, IfSome, ◌⊎◌}
use Rattle.std.proofs.Common.{refl, ap, arith, inl, inr}
use Rattle.std.proofs.lemmas.Bool.{ltb-true, ltb-false}
use Rattle.fp_base.specs.declared.ids.CellId.{CellId}
use Rattle.fp_place.specs.LaneOverlaps.{IsFirst, IsBefore, earlier}

-- nothing was seen, and nothing breaks the rule
pub first_none : (breaks keeps seen : CellId → Type 0) → ((cell : CellId) → seen cell → keeps cell) → IsFirst breaks keeps seen None
first_none breaks keeps seen all = record { broken = tt; kept = λ cell is before. all cell is }

-- one cell breaks the rule
pub first_some : (breaks keeps : CellId → Type 0) (one : CellId) → breaks one → IsFirst breaks keeps (λ cell. cell ≡ one) (Some one)
first_some breaks keeps one is = record {
  broken = is;
  kept = λ cell same before. absurd (let less : cell.0 < one.0 = before in omega (arith, less, ap (λ (c : CellId). c.0) same));
}

-- what follows from a rule's break, and from its keeping by what was seen
pub first_weaker : (breaks keeps seen worse better fewer : CellId → Type 0) (first : Option CellId) → IsFirst breaks keeps seen first
    → ((cell : CellId) → breaks cell → worse cell) → ((cell : CellId) → fewer cell → seen cell) → ((cell : CellId) → fewer cell → keeps cell → better cell)
    → IsFirst worse better fewer first
first_weaker breaks keeps seen worse better fewer first is bad less good = record {
  broken = by first is.broken;
  kept = λ cell among before. good cell among (is.kept cell (less cell among) before);
}
  where
    by : (o : Option CellId) → IfSome o breaks → IfSome o worse
    by None h = tt
    by (Some cell) h = bad cell h

-- the cells that are seen more keep the rule
pub first_kept : (breaks keeps some more all : CellId → Type 0) (first : Option CellId) → IsFirst breaks keeps some first → ((cell : CellId) → more cell → keeps cell)
    → ((cell : CellId) → all cell → some cell ⊎ more cell) → IsFirst breaks keeps all first
first_kept breaks keeps some more all first is good either = record { broken = is.broken; kept = λ cell among before. by cell before (either cell among) }
  where
    by : (cell : CellId) → IsBefore cell.0 first → some cell ⊎ more cell → keeps cell
    by cell before (inl among) = is.kept cell among before
    by cell before (inr among) = good cell among

-- two seen parts together
lesser_broken : (breaks : CellId → Type 0) (b : Bool) (one other : CellId) → breaks one → breaks other → breaks (if b then other else one)
lesser_broken breaks true one other h k = k
lesser_broken breaks false one other h k = h

before_both : (b : Bool) (one other : CellId) (number : ℕ) → nat_lt other.0 one.0 ≡ b → number < (if b then other else one).0 → (number < one.0) × (number < other.0)
before_both true one other number is less = let low = ltb-true other.0 one.0 is in (omega (arith, low, less), omega (arith, less))
before_both false one other number is less = (omega (arith, less), omega (arith, less, ltb-false other.0 one.0 is))

pub first_joined : (breaks keeps some more all : CellId → Type 0) (first second : Option CellId) → IsFirst breaks keeps some first → IsFirst breaks keeps more second
    → ((cell : CellId) → all cell → some cell ⊎ more cell) → IsFirst breaks keeps all (earlier first second)
first_joined breaks keeps some more all first second is also either = record {
  broken = broken first second is.broken also.broken;
  kept = λ cell among before. by cell (both first second cell.0 before) (either cell among);
}
  where
    broken : (o q : Option CellId) → IfSome o breaks → IfSome q breaks → IfSome (earlier o q) breaks
    broken None None h k = tt
    broken None (Some other) h k = k
    broken (Some one) None h k = h
    broken (Some one) (Some other) h k = lesser_broken breaks (nat_lt other.0 one.0) one other h k

    both : (o q : Option CellId) (number : ℕ) → IsBefore number (earlier o q) → IsBefore number o × IsBefore number q
    both None None number h = (tt, tt)
    both None (Some other) number h = (tt, h)
    both (Some one) None number h = (h, tt)
    both (Some one) (Some other) number h = before_both (nat_lt other.0 one.0) one other number refl h

    by : (cell : CellId) → IsBefore cell.0 first × IsBefore cell.0 second → some cell ⊎ more cell → keeps cell
    by cell before (inl among) = is.kept cell among before.0
    by cell before (inr among) = also.kept cell among before.1
