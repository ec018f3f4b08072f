-- Where in x a terminal may make a net shorter than a limit.
use Rattle.std.proofs.Common.{◌≡◌, ℕ, ◌+◌, ◌<◌, ◌≤◌, ◌^◌, ℤ, pos, ◌+ℤ◌, ◌-ℤ◌, ◌≤ℤ◌, ◌<ℤ◌, ◌⊎◌, inl, inr, unsigned_abs, ap, ◌∙◌, arith}
use Rattle.std.specs.Int.{int_min, int_max}
use Rattle.std.proofs.lemmas.Int.{ints, clamps, int_max_is, int_min_is}
use Rattle.fp_score.specs.declared.reach.Reach.{Reach}
use Rattle.fp_score.specs.Reaches.{IsNearReach}
use Rattle.fp_score.specs.ScoreLaws.{stretched_near}
use Rattle.fp_score.specs.Score.{stretched, half_perimeter}
use Rattle.fp_slots.specs.declared.cut_net.CutNet.{CutNet}
use Rattle.fp_slots.specs.CutNets.{width_with, height_with, fixed_length, IsNearNet, IsWindow}
use Rattle.fp_slots.proofs.Lengths.{pos_abs, span, wide}

-- a terminal at a bounding box's left end adds nothing in x
left_adds_none : (l r m s a b : ℤ) → l ≤ℤ r → m ≤ℤ s → (span l r l +ℤ a) +ℤ (span m s m +ℤ b) ≡ ((r -ℤ l) +ℤ (s -ℤ m)) +ℤ (a +ℤ b)
left_adds_none l r m s a b first second = omega (arith, ints, clamps)

pub left_near : (reach : Reach) (y : ℤ) → IsNearReach reach → pos 0 ≤ℤ y → y ≤ℤ pos (2 ^ 31) → IsNearReach (stretched reach (record { x = reach.left; y = y }))
left_near reach y is least most = stretched_near reach (record { x = reach.left; y = y }) is (record {
  left = is.left;
  right = omega (arith, ints, is.wide, is.right);
  low = least;
  high = most;
})

pub fixed_by_axes : (it : CutNet) (y : ℤ) → IsNearNet it
    → half_perimeter (stretched it.top (record { x = it.top.left; y = y })) +ℤ half_perimeter (stretched it.bottom (record { x = it.bottom.left; y = y }))
    ≡ fixed_length it y
fixed_by_axes it y is =
    left_adds_none it.top.left it.top.right it.bottom.left it.bottom.right (int_max it.top.high y -ℤ int_min it.top.low y) (int_max it.bottom.high y -ℤ int_min it.bottom.low y)
    is.top.wide is.bottom.wide

-- a terminal adds at least how far it is from either bounding box
before_adds : (l r m s x : ℤ) (slack : ℕ) → (x +ℤ pos slack) ≤ℤ int_max l m → (((r -ℤ l) +ℤ (s -ℤ m)) +ℤ pos slack) ≤ℤ (span l r x +ℤ span m s x)
before_adds l r m s x slack far =
    omega (arith, ints, int_max_is l m, far, (wide l r x).whole, (wide l r x).to_right, (wide m s x).whole, (wide m s x).to_right)

after_adds : (l r m s x : ℤ) (slack : ℕ) → (int_min r s +ℤ pos slack) ≤ℤ x → (((r -ℤ l) +ℤ (s -ℤ m)) +ℤ pos slack) ≤ℤ (span l r x +ℤ span m s x)
after_adds l r m s x slack far =
    omega (arith, ints, int_min_is r s, far, (wide l r x).whole, (wide l r x).from_left, (wide m s x).whole, (wide m s x).from_left)

none_less : (l r m s x : ℤ) → ((r -ℤ l) +ℤ (s -ℤ m)) ≤ℤ (span l r x +ℤ span m s x)
none_less l r m s x = omega (arith, ints, (wide l r x).whole, (wide m s x).whole)

-- with the height, what is added leaves nothing below the limit
reached : (widths width height : ℤ) (limit fixed slack : ℕ) → pos fixed ≡ widths +ℤ height → limit ≤ fixed + slack → (widths +ℤ pos slack) ≤ℤ width
    → pos limit ≤ℤ (width +ℤ height)
reached widths width height limit fixed slack is enough added = omega (arith, ints)

-- nowhere is near where the fixed length reaches the limit
pub no_window : (it : CutNet) (y : ℤ) (limit fixed : ℕ) → pos fixed ≡ fixed_length it y → limit ≤ fixed → IsWindow it y limit 0 0
no_window it y limit fixed is enough = record {
  before = λ x less. absurd (omega arith);
  inside = λ x from to. absurd (omega arith);
  after = λ x most from. reached ((it.top.right -ℤ it.top.left) +ℤ (it.bottom.right -ℤ it.bottom.left)) (width_with it (pos x)) (height_with it y) limit fixed 0
      is (omega (arith, enough)) (none (none_less it.top.left it.top.right it.bottom.left it.bottom.right (pos x)));
}
  where
    none : {a b : ℤ} → a ≤ℤ b → (a +ℤ pos 0) ≤ℤ b
    none {a} {b} less = omega (arith, ints, less)

-- what is less than the slack from a bounding box adds less
adds_less : (l r fixed : ℤ) (x limit slack left right : ℕ) → l ≤ℤ r → pos limit ≡ fixed +ℤ pos slack → 0 < slack → l ≤ℤ pos left → pos right ≤ℤ r
    → left < x + slack → x < right + slack → (fixed +ℤ (span l r (pos x) -ℤ (r -ℤ l))) <ℤ pos limit
adds_less l r fixed x limit slack left right wide is some left_is right_is after before = omega (arith, ints, clamps)

-- left or right of both bounding boxes a terminal adds how far it is from both
both_before : (l r m s x : ℤ) (slack : ℕ) → ((x +ℤ x) +ℤ pos slack) ≤ℤ (l +ℤ m) → (((r -ℤ l) +ℤ (s -ℤ m)) +ℤ pos slack) ≤ℤ (span l r x +ℤ span m s x)
both_before l r m s x slack far = omega (arith, ints, far, (wide l r x).to_right, (wide m s x).to_right)

both_after : (l r m s x : ℤ) (slack : ℕ) → ((r +ℤ s) +ℤ pos slack) ≤ℤ (x +ℤ x) → (((r -ℤ l) +ℤ (s -ℤ m)) +ℤ pos slack) ≤ℤ (span l r x +ℤ span m s x)
both_after l r m s x slack far = omega (arith, ints, far, (wide l r x).from_left, (wide m s x).from_left)

-- where a window may begin and end, by the slack and the ends of both bounding boxes
pub record AreEnds (slack left right lefts rights start end : ℕ) : Type 0 where
  pub before : (x : ℕ) → x < start → (x + slack ≤ left) ⊎ (x + x + slack ≤ lefts)
  pub past : (x : ℕ) → start ≤ x → left < x + slack
  pub after : (x : ℕ) → x ≤ 2 ^ 31 → end ≤ x → (right + slack ≤ x) ⊎ (rights + slack ≤ x + x)
  pub within : (x : ℕ) → x < end → x < right + slack

-- the x that are less than the slack from both bounding boxes are a window
pub is_window : (it : CutNet) (y : ℤ) (limit fixed slack left right lefts rights start end : ℕ) → IsNearNet it → pos fixed ≡ fixed_length it y
    → limit ≡ fixed + slack → 0 < slack
    → pos left ≡ int_max it.top.left it.bottom.left → pos right ≡ int_min it.top.right it.bottom.right
    → pos lefts ≡ it.top.left +ℤ it.bottom.left → pos rights ≡ it.top.right +ℤ it.bottom.right
    → AreEnds slack left right lefts rights start end → IsWindow it y limit start end
is_window it y limit fixed slack left right lefts rights start end near is all some left_is right_is lefts_are rights_are ends = record {
  before = λ x less. reached widths (width_with it (pos x)) (height_with it y) limit fixed slack is enough (elim (ends.before x less) [
    | inl one ↦ before_adds it.top.left it.top.right it.bottom.left it.bottom.right (pos x) slack (to_left x (int_max it.top.left it.bottom.left) left_is one)
    | inr both ↦ both_before it.top.left it.top.right it.bottom.left it.bottom.right (pos x) slack (to_lefts x (it.top.left +ℤ it.bottom.left) lefts_are both)
  ]);
  after = λ x most from. reached widths (width_with it (pos x)) (height_with it y) limit fixed slack is enough (elim (ends.after x most from) [
    | inl one ↦ after_adds it.top.left it.top.right it.bottom.left it.bottom.right (pos x) slack (to_right x (int_min it.top.right it.bottom.right) right_is one)
    | inr both ↦ both_after it.top.left it.top.right it.bottom.left it.bottom.right (pos x) slack (to_rights x (it.top.right +ℤ it.bottom.right) rights_are both)
  ]);
  inside = λ x from to.
      let after : left < x + slack = ends.past x from in
      record {
        top = adds_less it.top.left it.top.right (fixed_length it y) x limit slack left right near.top.wide limit_is some
            (omega (arith, ints, int_max_is it.top.left it.bottom.left, left_is)) (omega (arith, ints, int_min_is it.top.right it.bottom.right, right_is)) after (ends.within x to);
        bottom = adds_less it.bottom.left it.bottom.right (fixed_length it y) x limit slack left right near.bottom.wide limit_is some
            (omega (arith, ints, int_max_is it.top.left it.bottom.left, left_is)) (omega (arith, ints, int_min_is it.top.right it.bottom.right, right_is)) after (ends.within x to);
      };
}
  where
    widths : ℤ
    widths = (it.top.right -ℤ it.top.left) +ℤ (it.bottom.right -ℤ it.bottom.left)

    enough : limit ≤ fixed + slack
    enough = omega (arith, all)

    limit_is : pos limit ≡ fixed_length it y +ℤ pos slack
    limit_is = ap pos all ∙ ap (λ z. z +ℤ pos slack) is

    to_lefts : (x : ℕ) (z : ℤ) → pos lefts ≡ z → x + x + slack ≤ lefts → ((pos x +ℤ pos x) +ℤ pos slack) ≤ℤ z
    to_lefts x z is less = omega (arith, ints)

    to_rights : (x : ℕ) (z : ℤ) → pos rights ≡ z → rights + slack ≤ x + x → (z +ℤ pos slack) ≤ℤ (pos x +ℤ pos x)
    to_rights x z is less = omega (arith, ints)

    to_left : (x : ℕ) (z : ℤ) → pos left ≡ z → x + slack ≤ left → (pos x +ℤ pos slack) ≤ℤ z
    to_left x z is less = omega (arith, ints)

    to_right : (x : ℕ) (z : ℤ) → pos right ≡ z → right + slack ≤ x → (z +ℤ pos slack) ≤ℤ pos x
    to_right x z is less = omega (arith, ints)

-- the further left end and the nearer right end are numbers from 0 on
pub left_found : (it : CutNet) (z : ℤ) (left : ℕ) → IsNearNet it → z ≡ int_max it.top.left it.bottom.left → left ≡ unsigned_abs z
    → pos left ≡ int_max it.top.left it.bottom.left
left_found it z left near is left_is = ap pos left_is ∙ pos_abs z (omega (arith, ints, clamps, is, near.top.left)) ∙ is

pub right_found : (it : CutNet) (z : ℤ) (right : ℕ) → IsNearNet it → z ≡ int_min it.top.right it.bottom.right → right ≡ unsigned_abs z
    → pos right ≡ int_min it.top.right it.bottom.right
right_found it z right near is right_is =
    ap pos right_is ∙ pos_abs z (omega (arith, ints, clamps, is, near.top.left, near.top.wide, near.bottom.left, near.bottom.wide)) ∙ is

-- the sum of two ends, each a number from 0 on
pub ends_found : (a b : ℤ) (first second : ℕ) → pos 0 ≤ℤ a → pos 0 ≤ℤ b → first ≡ unsigned_abs a → second ≡ unsigned_abs b → pos (first + second) ≡ a +ℤ b
ends_found a b first second a_least b_least first_is second_is =
    let one : pos first ≡ a = ap pos first_is ∙ pos_abs a a_least in
    let two : pos second ≡ b = ap pos second_is ∙ pos_abs b b_least in
    omega (arith, ints, one, two)
