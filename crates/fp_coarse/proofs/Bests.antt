-- The best so far, as a search goes up and then down.
use Rattle.std.specs.Prelude.{◌≡◌, ℕ, ◌+◌, ◌<◌, ◌≤◌, Bool, true, false, nat_lt, nat_le, if◌then◌else◌, Option, Some, None, IsTrue, ◌⊎◌, ℤ, ◌≤ℤ◌, ◌-ℤ◌, unsigned_abs, List, length}
use Rattle.std.proofs.Common.{refl, sym, ◌∙◌, arith, inl, inr}
use Rattle.std.proofs.lemmas.Bool.{cases_lt}
use Rattle.std.proofs.lemmas.Bool.Decides.{nat_tests}
use Rattle.std.proofs.lemmas.Int.{ints}
use Rattle.fp_tech.specs.declared.dies.Segment.{Segment}
use Rattle.fp_coarse.specs.declared.nearest.Found.{Found}
use Rattle.fp_coarse.specs.declared.nearest.Aim.{Aim}
use Rattle.fp_coarse.specs.Nearest.{IsLeast, IsFound, IsBest, is_beaten, is_passed, earlier, later, at, rise_to, reach_to, cost_at, cost_of, CanSearch}
use Rattle.fp_coarse.specs.Rooms.{has_free}

passes_not : (passes : ℕ → Bool) (n : ℕ) → passes n ≡ false → IsTrue (passes n) → ⊥
passes_not passes n fails holds = let nothing : true ≡ false = sym holds ∙ fails in cc

-- further numbers do not pass
pub best_further : (passes : ℕ → Bool) (cost : ℕ → ℕ) (low high further : ℕ) (best : Option Found) → IsBest passes cost low high best → high ≤ further
    → ((n : ℕ) → high ≤ n → n < further → passes n ≡ false) → IsBest passes cost low further best
best_further passes cost low high further None is le shut = λ other from below. by other from below (cases_lt other high)
  where
    by : (other : ℕ) → low ≤ other → other < further → (other < high) ⊎ (high ≤ other) → passes other ≡ false
    by other from below (inl before) = is other from before
    by other from below (inr behind) = shut other behind below
best_further passes cost low high further (Some found) is le shut = record {
  is = record {
    from = is.is.from;
    below = omega (arith, is.is.below, le);
    passing = is.is.passing;
    least = λ other from below pass. by other from below pass (cases_lt other high);
    first = is.is.first;
  };
  cost_is = is.cost_is;
}
  where
    by : (other : ℕ) → low ≤ other → other < further → IsTrue (passes other) → (other < high) ⊎ (high ≤ other) → cost found.segment ≤ cost other
    by other from below pass (inl before) = is.is.least other from before pass
    by other from below pass (inr behind) = absurd (passes_not passes other (shut other behind below) pass)

pub best_lower : (passes : ℕ → Bool) (cost : ℕ → ℕ) (lower low high : ℕ) (best : Option Found) → IsBest passes cost low high best → lower ≤ low
    → ((n : ℕ) → lower ≤ n → n < low → passes n ≡ false) → IsBest passes cost lower high best
best_lower passes cost lower low high None is le shut = λ other from below. by other from below (cases_lt other low)
  where
    by : (other : ℕ) → lower ≤ other → other < high → (other < low) ⊎ (low ≤ other) → passes other ≡ false
    by other from below (inl before) = shut other from before
    by other from below (inr behind) = is other behind below
best_lower passes cost lower low high (Some found) is le shut = record {
  is = record {
    from = omega (arith, is.is.from, le);
    below = is.is.below;
    passing = is.is.passing;
    least = λ other from below pass. least other from below pass (cases_lt other low);
    first = λ other from below pass. first other from below pass (cases_lt other low);
  };
  cost_is = is.cost_is;
}
  where
    least : (other : ℕ) → lower ≤ other → other < high → IsTrue (passes other) → (other < low) ⊎ (low ≤ other) → cost found.segment ≤ cost other
    least other from below pass (inl before) = absurd (passes_not passes other (shut other from before) pass)
    least other from below pass (inr behind) = is.is.least other behind below pass

    first : (other : ℕ) → lower ≤ other → other < found.segment → IsTrue (passes other) → (other < low) ⊎ (low ≤ other) → cost found.segment < cost other
    first other from below pass (inl before) = absurd (passes_not passes other (shut other from before) pass)
    first other from below pass (inr behind) = is.is.first other behind below pass

-- further numbers, and the first of least cost among them
pub best_above : (passes : ℕ → Bool) (cost : ℕ → ℕ) (low middle high : ℕ) (best : Option Found) (other : Found) → IsBest passes cost low middle best → low ≤ middle
    → IsLeast passes cost middle high other.segment → other.cost ≡ cost other.segment → IsBest passes cost low high (Some (earlier best other))
best_above passes cost low middle high None other is le far cost_is = record {
  is = record {
    from = omega (arith, far.from, le);
    below = far.below;
    passing = far.passing;
    least = λ n from below passing. least n from below passing (cases_lt n middle);
    first = λ n from below passing. first n from below passing (cases_lt n middle);
  };
  cost_is = cost_is;
}
  where
    least : (n : ℕ) → low ≤ n → n < high → IsTrue (passes n) → (n < middle) ⊎ (middle ≤ n) → cost other.segment ≤ cost n
    least n from below passing (inl before) = absurd (passes_not passes n (is n from before) passing)
    least n from below passing (inr behind) = far.least n behind below passing

    first : (n : ℕ) → low ≤ n → n < other.segment → IsTrue (passes n) → (n < middle) ⊎ (middle ≤ n) → cost other.segment < cost n
    first n from below passing (inl before) = absurd (passes_not passes n (is n from before) passing)
    first n from below passing (inr behind) = far.first n behind below passing
best_above passes cost low middle high (Some best) other is le far cost_is = by (nat_lt other.cost best.cost) refl
  where
    new_least : other.cost < best.cost → (n : ℕ) → low ≤ n → n < high → IsTrue (passes n) → (n < middle) ⊎ (middle ≤ n) → cost other.segment ≤ cost n
    new_least less n from below passing (inl before) = omega (arith, is.is.least n from before passing, is.cost_is, less, cost_is)
    new_least less n from below passing (inr behind) = far.least n behind below passing

    new_first : other.cost < best.cost → (n : ℕ) → low ≤ n → n < other.segment → IsTrue (passes n) → (n < middle) ⊎ (middle ≤ n) → cost other.segment < cost n
    new_first less n from below passing (inl before) = omega (arith, is.is.least n from before passing, is.cost_is, less, cost_is)
    new_first less n from below passing (inr behind) = far.first n behind below passing

    old : best.cost ≤ other.cost → (n : ℕ) → low ≤ n → n < high → IsTrue (passes n) → (n < middle) ⊎ (middle ≤ n) → cost best.segment ≤ cost n
    old no_less n from below passing (inl before) = is.is.least n from before passing
    old no_less n from below passing (inr behind) = omega (arith, far.least n behind below passing, no_less, is.cost_is, cost_is)

    by : (b : Bool) → nat_lt other.cost best.cost ≡ b → IsFound passes cost low high (if b then other else best)
    by true e = let less : other.cost < best.cost = grind (arith, nat_tests) in record {
      is = record {
        from = omega (arith, far.from, le);
        below = far.below;
        passing = far.passing;
        least = λ n from below passing. new_least less n from below passing (cases_lt n middle);
        first = λ n from below passing. new_first less n from below passing (cases_lt n middle);
      };
      cost_is = cost_is;
    }
    by false e = let no_less : best.cost ≤ other.cost = grind (arith, nat_tests) in record {
      is = record {
        from = is.is.from;
        below = omega (arith, is.is.below, far.from, far.below);
        passing = is.is.passing;
        least = λ n from below passing. old no_less n from below passing (cases_lt n middle);
        first = is.is.first;
      };
      cost_is = is.cost_is;
    }

-- lower numbers, and the first of least cost among them
pub best_below : (passes : ℕ → Bool) (cost : ℕ → ℕ) (low middle high : ℕ) (best : Option Found) (other : Found) → IsBest passes cost middle high best → middle ≤ high
    → IsLeast passes cost low middle other.segment → other.cost ≡ cost other.segment → IsBest passes cost low high (Some (later best other))
best_below passes cost low middle high None other is le far cost_is = record {
  is = record {
    from = far.from;
    below = omega (arith, far.below, le);
    passing = far.passing;
    least = λ n from below passing. least n from below passing (cases_lt n middle);
    first = λ n from below passing. far.first n from below passing;
  };
  cost_is = cost_is;
}
  where
    least : (n : ℕ) → low ≤ n → n < high → IsTrue (passes n) → (n < middle) ⊎ (middle ≤ n) → cost other.segment ≤ cost n
    least n from below passing (inl before) = far.least n from before passing
    least n from below passing (inr behind) = absurd (passes_not passes n (is n behind below) passing)
best_below passes cost low middle high (Some best) other is le far cost_is = by (nat_le other.cost best.cost) refl
  where
    new : other.cost ≤ best.cost → (n : ℕ) → low ≤ n → n < high → IsTrue (passes n) → (n < middle) ⊎ (middle ≤ n) → cost other.segment ≤ cost n
    new no_more n from below passing (inl before) = far.least n from before passing
    new no_more n from below passing (inr behind) = omega (arith, is.is.least n behind below passing, is.cost_is, no_more, cost_is)

    old : best.cost < other.cost → (n : ℕ) → low ≤ n → n < high → IsTrue (passes n) → (n < middle) ⊎ (middle ≤ n) → cost best.segment ≤ cost n
    old less n from below passing (inl before) = omega (arith, far.least n from before passing, is.cost_is, less, cost_is)
    old less n from below passing (inr behind) = is.is.least n behind below passing

    first : best.cost < other.cost → (n : ℕ) → low ≤ n → n < best.segment → IsTrue (passes n) → (n < middle) ⊎ (middle ≤ n) → cost best.segment < cost n
    first less n from below passing (inl before) = omega (arith, far.least n from before passing, is.cost_is, less, cost_is)
    first less n from below passing (inr behind) = is.is.first n behind below passing

    by : (b : Bool) → nat_le other.cost best.cost ≡ b → IsFound passes cost low high (if b then other else best)
    by true e = let no_more : other.cost ≤ best.cost = grind (arith, nat_tests) in record {
      is = record {
        from = far.from;
        below = omega (arith, far.below, le);
        passing = far.passing;
        least = λ n from below passing. new no_more n from below passing (cases_lt n middle);
        first = λ n from below passing. far.first n from below passing;
      };
      cost_is = cost_is;
    }
    by false e = let less : best.cost < other.cost = grind (arith, nat_tests) in record {
      is = record {
        from = omega (arith, is.is.from, far.from, far.below);
        below = is.is.below;
        passing = is.is.passing;
        least = λ n from below passing. old less n from below passing (cases_lt n middle);
        first = λ n from below passing. first less n from below passing (cases_lt n middle);
      };
      cost_is = is.cost_is;
    }

-- a search stops where no further number can be better, or as good
pub stops_above : (passes : ℕ → Bool) (cost : ℕ → ℕ) (low high end bound : ℕ) (best : Option Found) → IsBest passes cost low high best → high ≤ end
    → is_beaten best bound ≡ true → ((n : ℕ) → high ≤ n → n < end → IsTrue (passes n) → bound ≤ cost n) → IsBest passes cost low end best
stops_above passes cost low high end bound None is le beaten far = absurd (let nothing : false ≡ true = beaten in cc)
stops_above passes cost low high end bound (Some best) is le beaten far = record {
  is = record {
    from = is.is.from;
    below = omega (arith, is.is.below, le);
    passing = is.is.passing;
    least = λ n from below passing. by n from below passing (cases_lt n high);
    first = is.is.first;
  };
  cost_is = is.cost_is;
}
  where
    no_more : best.cost ≤ bound
    no_more = grind (arith, nat_tests)

    by : (n : ℕ) → low ≤ n → n < end → IsTrue (passes n) → (n < high) ⊎ (high ≤ n) → cost best.segment ≤ cost n
    by n from below passing (inl before) = is.is.least n from before passing
    by n from below passing (inr behind) = omega (arith, far n behind below passing, no_more, is.cost_is)

pub stops_below : (passes : ℕ → Bool) (cost : ℕ → ℕ) (low high bound : ℕ) (best : Option Found) → IsBest passes cost low high best
    → is_passed best bound ≡ true → ((n : ℕ) → n < low → IsTrue (passes n) → bound ≤ cost n) → IsBest passes cost 0 high best
stops_below passes cost low high bound None is passed far = absurd (let nothing : false ≡ true = passed in cc)
stops_below passes cost low high bound (Some best) is passed far = record {
  is = record {
    from = omega arith;
    below = is.is.below;
    passing = is.is.passing;
    least = λ n from below passing. least n below passing (cases_lt n low);
    first = λ n from below passing. first n below passing (cases_lt n low);
  };
  cost_is = is.cost_is;
}
  where
    less : best.cost < bound
    less = grind (arith, nat_tests)

    least : (n : ℕ) → n < high → IsTrue (passes n) → (n < low) ⊎ (low ≤ n) → cost best.segment ≤ cost n
    least n below passing (inl before) = omega (arith, far n before passing, less, is.cost_is)
    least n below passing (inr behind) = is.is.least n behind below passing

    first : (n : ℕ) → n < best.segment → IsTrue (passes n) → (n < low) ⊎ (low ≤ n) → cost best.segment < cost n
    first n below passing (inl before) = omega (arith, far n before passing, less, is.cost_is)
    first n below passing (inr behind) = is.is.first n behind below passing

-- how far segments are at least
farther_up : (a b target : ℤ) → target ≤ℤ a → a ≤ℤ b → unsigned_abs (a -ℤ target) ≤ unsigned_abs (b -ℤ target)
farther_up a b target one two = omega (arith, ints)

farther_down : (a b target : ℤ) → b ≤ℤ a → a ≤ℤ target → unsigned_abs (a -ℤ target) ≤ unsigned_abs (b -ℤ target)
farther_down a b target one two = omega (arith, ints)

pub far_above : (segments : List Segment) (free most : List ℤ) (aim : Aim) (from n : ℕ) → CanSearch segments free most aim → aim.target.y ≤ℤ (at segments from).y
    → from ≤ n → n < length segments → IsTrue (has_free free aim.width n) → rise_to segments aim.target from + aim.side ≤ cost_of segments aim n
unfolding cost_at
far_above segments free most aim from n can up le below passing =
    omega (arith, farther_up (at segments from).y (at segments n).y aim.target.y up (can.segments_are.rising from n le below), can.aim_is.side n below passing)

pub far_below : (segments : List Segment) (free most : List ℤ) (aim : Aim) (from n : ℕ) → CanSearch segments free most aim → (at segments from).y ≤ℤ aim.target.y
    → n ≤ from → from < length segments → IsTrue (has_free free aim.width n) → rise_to segments aim.target from + aim.side ≤ cost_of segments aim n
unfolding cost_at
far_below segments free most aim from n can down le below passing =
    omega (arith, farther_down (at segments from).y (at segments n).y aim.target.y (can.segments_are.rising n from le below) down, can.aim_is.side n (omega (arith, le, below)) passing)

-- a cost in parts
pub cost_is : (segments : List Segment) (aim : Aim) (n cost : ℕ) → cost ≡ rise_to segments aim.target n + reach_to (at segments n) aim.width aim.target.x
    → cost ≡ cost_of segments aim n
unfolding cost_at
cost_is segments aim n cost e = e
