-- How long a cut net is with its terminal somewhere.
use Rattle.std.proofs.Common.{◌≡◌, ◌^◌, ℤ, pos, negsuc, ◌+ℤ◌, ◌-ℤ◌, ◌≤ℤ◌, unsigned_abs, refl, subst, arith}
use Rattle.std.specs.Int.{int_min, int_max}
use Rattle.std.proofs.lemmas.Int.{ints, clamps, by_lt_z}
use Rattle.fp_base.specs.declared.ids.Point.{Point}
use Rattle.fp_score.specs.declared.reach.Reach.{Reach}
use Rattle.fp_score.specs.Score.{stretched, half_perimeter}
use Rattle.fp_score.specs.Reaches.{IsNear, IsNearReach}
use Rattle.fp_score.specs.ScoreLaws.{stretched_near}
use Rattle.fp_slots.specs.declared.cut_net.CutNet.{CutNet}
use Rattle.fp_slots.specs.CutNets.{width_with, height_with, length_with, best_x, IsLeastWidth, IsNearNet}

-- a number from 0 on is its absolute value
pub pos_abs : (z : ℤ) → pos 0 ≤ℤ z → pos (unsigned_abs z) ≡ z
pos_abs (pos n) least = refl
pos_abs (negsuc n) least = absurd (omega (arith, ints))

-- the half perimeters of both dies are the lengths in x and in y
by_axes : (a b c d e f g h : ℤ) → ((a -ℤ b) +ℤ (c -ℤ d)) +ℤ ((e -ℤ f) +ℤ (g -ℤ h)) ≡ ((a -ℤ b) +ℤ (e -ℤ f)) +ℤ ((c -ℤ d) +ℤ (g -ℤ h))
by_axes a b c d e f g h = omega (arith, ints)

pub length_by_axes : (it : CutNet) (centre : Point) → half_perimeter (stretched it.top centre) +ℤ half_perimeter (stretched it.bottom centre) ≡ length_with it centre
length_by_axes it centre =
    by_axes (int_max it.top.right centre.x) (int_min it.top.left centre.x) (int_max it.top.high centre.y) (int_min it.top.low centre.y)
    (int_max it.bottom.right centre.x) (int_min it.bottom.left centre.x) (int_max it.bottom.high centre.y) (int_min it.bottom.low centre.y)

-- a length is from 0 to 2^33
half_near : (reach : Reach) → IsNearReach reach → (pos 0 ≤ℤ half_perimeter reach) × (half_perimeter reach ≤ℤ pos (2 ^ 32))
half_near reach is = (omega (arith, ints, is.wide, is.tall), omega (arith, ints, is.left, is.right, is.low, is.high))

sum_near : (a b : ℤ) → (pos 0 ≤ℤ a) × (a ≤ℤ pos (2 ^ 32)) → (pos 0 ≤ℤ b) × (b ≤ℤ pos (2 ^ 32)) → (pos 0 ≤ℤ (a +ℤ b)) × ((a +ℤ b) ≤ℤ pos (2 ^ 33))
sum_near a b least most = (omega (arith, ints, least.0, most.0), omega (arith, ints, least.1, most.1))

pub length_near : (it : CutNet) (centre : Point) → IsNearNet it → IsNear centre → (pos 0 ≤ℤ length_with it centre) × (length_with it centre ≤ℤ pos (2 ^ 33))
length_near it centre is near =
    let both = sum_near (half_perimeter (stretched it.top centre)) (half_perimeter (stretched it.bottom centre))
    (half_near (stretched it.top centre) (stretched_near it.top centre is.top near))
    (half_near (stretched it.bottom centre) (stretched_near it.bottom centre is.bottom near)) in
    let same = length_by_axes it centre in
    (let P : ℤ → Type 0 = λ z. (pos 0 ≤ℤ z) × (z ≤ℤ pos (2 ^ 33)) in subst P same both)

-- how wide an interval is with one more number
abbrev pub span : ℤ → ℤ → ℤ → ℤ
span l r x = int_max r x -ℤ int_min l x

pub record IsWide (l r x width : ℤ) : Type 0 where
  pub whole : (r -ℤ l) ≤ℤ width
  pub from_left : (x -ℤ l) ≤ℤ width
  pub to_right : (r -ℤ x) ≤ℤ width

pub wide : (l r x : ℤ) → IsWide l r x (span l r x)
wide l r x = record {
  whole = omega (arith, ints, clamps);
  from_left = omega (arith, ints, clamps);
  to_right = omega (arith, ints, clamps);
}

-- an interval with a number past its left end goes from there to its right end or to the number
within : (l r b : ℤ) → l ≤ℤ b → b ≤ℤ r → span l r b ≡ r -ℤ l
within l r b after before = omega (arith, ints, clamps)

beyond : (l r b : ℤ) → l ≤ℤ b → r ≤ℤ b → span l r b ≡ b -ℤ l
beyond l r b after before = omega (arith, ints, clamps)

-- no number is less far from two intervals together than the greater one of their left ends
first_least : (l r m s x : ℤ) → l ≤ℤ r → m ≤ℤ s → m ≤ℤ l → (span l r l +ℤ span m s l) ≤ℤ (span l r x +ℤ span m s x)
first_least l r m s x first second later =
    by_lt_z l s
    (λ before. omega (arith, ints, within l r l (omega (arith, ints)) first, within m s l later (omega (arith, ints)), (wide l r x).whole, (wide m s x).whole))
    (λ after. omega (arith, ints, within l r l (omega (arith, ints)) first, beyond m s l later after, (wide l r x).to_right, (wide m s x).from_left))

no_less : (l r m s x : ℤ) → l ≤ℤ r → m ≤ℤ s → (span l r (int_max l m) +ℤ span m s (int_max l m)) ≤ℤ (span l r x +ℤ span m s x)
no_less l r m s x first second =
    by_lt_z m l
    (λ less. let P : ℤ → Type 0 = λ b. (span l r b +ℤ span m s b) ≤ℤ (span l r x +ℤ span m s x) in
    let same : l ≡ int_max l m = omega (arith, ints, clamps) in
    subst P same (first_least l r m s x first second (omega (arith, ints))))
    (λ more. let P : ℤ → Type 0 = λ b. (span l r b +ℤ span m s b) ≤ℤ (span l r x +ℤ span m s x) in
    let same : m ≡ int_max l m = omega (arith, ints, clamps) in
    subst P same (swapped (span m s m) (span l r m) (span m s x) (span l r x) (first_least m s l r x second first more)))
  where
    swapped : (a b c d : ℤ) → (a +ℤ b) ≤ℤ (c +ℤ d) → (b +ℤ a) ≤ℤ (d +ℤ c)
    swapped a b c d less = omega (arith, ints)

pub least_width : (it : CutNet) → IsNearNet it → IsLeastWidth it (width_with it (best_x it))
least_width it is = record {
  attained = (best_x it, refl);
  least = λ x. no_less it.top.left it.top.right it.bottom.left it.bottom.right x is.top.wide is.bottom.wide;
}

-- at no x is the net shorter than at the best one
pub least_length : (it : CutNet) (x y : ℤ) → IsNearNet it → length_with it (record { x = best_x it; y = y }) ≤ℤ length_with it (record { x = x; y = y })
least_length it x y is = added (width_with it (best_x it)) (width_with it x) (height_with it y) ((least_width it is).least x)
  where
    added : (a b c : ℤ) → a ≤ℤ b → (a +ℤ c) ≤ℤ (b +ℤ c)
    added a b c less = omega (arith, ints)

-- the best x is in range
pub best_near : (it : CutNet) (centre : Point) → IsNearNet it → IsNear centre → IsNear (record { x = best_x it; y = centre.y })
best_near it centre is near = record {
  left = omega (arith, ints, clamps, is.top.left);
  right = omega (arith, ints, clamps, is.top.wide, is.top.right, is.bottom.wide, is.bottom.right);
  low = near.low;
  high = near.high;
}
