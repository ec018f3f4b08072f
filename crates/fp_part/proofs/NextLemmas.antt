-- The next move, from the best movable cell.
use Rattle.std.specs.Prelude.{◌≡◌, ℕ, zero, suc, ◌+◌, Bool, ◌&&◌, not, nat_lt, if◌then◌else◌, Option, Some, None, length}
use Rattle.std.proofs.Common.{refl, ap, ◌∙◌}
use Rattle.fp_base.specs.declared.ids.Die.{Die}
use Rattle.fp_base.specs.declared.ids.Die.TheVariants.{Top, Bottom}
use Rattle.fp_netlist.specs.Netlist.{Netlist}
use Rattle.fp_netlist.specs.Points.{area}
use Rattle.fp_place.specs.Areas.{fits, keeps, area_on}
use Rattle.fp_place.specs.Cut.{cut}
use Rattle.fp_place.specs.Held.{Held, held_on, held_by}
use Rattle.fp_place.specs.Settled.{far_die, flipped, may_move, or_lower, first_least, is_moved, is_candidate, next_move}
use Rattle.fp_gains.specs.Gained.{Gained, is_movable}

-- the first least number is the same for tests that agree
first_least_same : (a b : ℕ → Bool) (cost : ℕ → ℕ) (bound : ℕ) → ((number : ℕ) → a number ≡ b number) → first_least a cost bound ≡ first_least b cost bound
unfolding first_least
first_least_same a b cost zero same = refl
first_least_same a b cost (suc number) same = ap (or_lower a cost number) (first_least_same a b cost number same) ∙ step (first_least b cost number)
  where
    step : (found : Option ℕ) → or_lower a cost number found ≡ or_lower b cost number found
    step None = ap (λ passes. if passes then Some number else None) (same number)
    step (Some least) = ap (λ passes. if passes && nat_lt (cost number) (cost least) then Some number else Some least) (same number)

-- a movable cell is a candidate, where the areas held are those of the dies
movable_is : (p : Netlist) (held : Held) (g : Gained) (cell : ℕ) → held ≡ held_by p g.dies → is_movable p held g cell ≡ is_candidate p g.dies g.locked cell
unfolding may_move
movable_is p held g cell is = ap (λ taken. not (is_moved g.locked cell) && (fits p cell far && keeps p.plan far (taken + area p cell far))) (ap (λ h. held_on h far) is ∙ by far)
  where
    far : Die
    far = far_die g.dies cell

    by : (die : Die) → held_on (held_by p g.dies) die ≡ area_on p die g.dies
    by Top = refl
    by Bottom = refl

pub next_from_best : (p : Netlist) (held : Held) (g : Gained) → held ≡ held_by p g.dies
    → first_least (is_movable p held g) (λ cell. cut p (flipped g.dies cell)) (length p.cells) ≡ next_move p g.dies g.locked
unfolding next_move
next_from_best p held g is =
    first_least_same (is_movable p held g) (is_candidate p g.dies g.locked) (λ cell. cut p (flipped g.dies cell)) (length p.cells) (λ cell. movable_is p held g cell is)
