-- The least level from which the cost of a cluster rises, by a division.
use Rattle.std.proofs.Common.{◌≡◌, ℕ, ◌*◌, ◌^◌, ◌<◌, ℤ, pos, negsuc, neg_ℤ, ◌+ℤ◌, ◌-ℤ◌, ◌*ℤ◌, ◌≤ℤ◌, ◌<ℤ◌, FitsSigned, w64, arith, ap, ◌∙◌, lit<}
use Rattle.std.proofs.lemmas.Int.{ints}
use Rattle.std.proofs.Math.Nat.{div-le_self}
use Rattle.std.specs.Int.{int_div_euclid}
use Rattle.fp_rows.specs.Products.{mul-add, mul-neg, mul-assoc, mul-le_by}
use Rattle.fp_rows.specs.Ranges.{product_fits}
use Rattle.fp_abacus.specs.Stacks.{slope, IsLevel, IsMoment}

record IsFloor (n : ℤ) (k : ℕ) (q : ℤ) : Type 0 where
  pub low : (pos k *ℤ q) ≤ℤ n
  pub high : n <ℤ (pos k *ℤ q +ℤ pos k)

floor : (n : ℤ) (k : ℕ) → 0 < k → IsFloor n k (int_div_euclid n (pos k))
floor (pos a) k some = record { low = omega (arith, ints); high = omega (arith, ints) }
floor (negsuc a) k some = record { low = omega (arith, ints); high = omega (arith, ints) }

pub quotient_low : (n : ℤ) (k : ℕ) (m : ℕ) → neg_ℤ (pos m) ≤ℤ n → n ≤ℤ pos m → (neg_ℤ (pos m) ≤ℤ int_div_euclid n (pos k)) × (int_div_euclid n (pos k) ≤ℤ pos m)
quotient_low (pos a) k m low high = let d = div-le_self a k in (omega (arith, ints), omega (arith, ints))
quotient_low (negsuc a) k m low high = let d = div-le_self a k in (omega (arith, ints), omega (arith, ints))

-- twice the weight times the level, in the slope
slope-is : (e : ℕ) (moment v : ℤ) → slope (pos e) moment v ≡ (pos (2 * e) *ℤ v +ℤ pos e) -ℤ pos 2 *ℤ moment
slope-is e moment v =
    let a = mul-add (pos e) (pos 2 *ℤ v) (pos 1) in
    let b = mul-assoc (pos e) (pos 2) v in
    omega (arith, ints)

level_of : (e : ℕ) (moment q : ℤ) → 0 < e → IsFloor (pos e -ℤ pos 2 *ℤ moment) (2 * e) q → IsLevel (pos e) moment (pos 0 -ℤ q)
level_of e moment q some f =
    let v = pos 0 -ℤ q in
    let here = slope-is e moment v in
    let left = slope-is e moment (v -ℤ pos 1) in
    let turn : v ≡ neg_ℤ q = omega (arith, ints) in
    let turned : pos (2 * e) *ℤ v ≡ neg_ℤ (pos (2 * e) *ℤ q) = ap (λ z. pos (2 * e) *ℤ z) turn ∙ mul-neg (pos (2 * e)) q in
    let step = mul-add (pos (2 * e)) v (neg_ℤ (pos 1)) in
    let low = f.low in
    let high = f.high in
    record { below = omega (arith, ints); reached = omega (arith, ints) }

pub level_is_least : (weight moment : ℤ) → IsMoment weight moment → IsLevel weight moment (pos 0 -ℤ int_div_euclid (weight -ℤ pos 2 *ℤ moment) (pos 2 *ℤ weight))
level_is_least (pos e) moment h =
    let some : 0 < e = omega (arith, ints, h.some) in
    level_of e moment (int_div_euclid (pos e -ℤ pos 2 *ℤ moment) (pos (2 * e))) some (floor (pos e -ℤ pos 2 *ℤ moment) (2 * e) (omega arith))
level_is_least (negsuc e) moment h = absurd (omega (arith, ints, h.some))

pub level_fits : (weight moment : ℤ) → IsMoment weight moment → FitsSigned w64 (pos 0 -ℤ int_div_euclid (weight -ℤ pos 2 *ℤ moment) (pos 2 *ℤ weight))
level_fits (pos e) moment h =
    let q = quotient_low (pos e -ℤ pos 2 *ℤ moment) (2 * e) (2 ^ 57) (omega (arith, ints, h.some, h.light, h.low, h.high)) (omega (arith, ints, h.some, h.light, h.low, h.high)) in
    omega (arith, ints, q.0, q.1)
level_fits (negsuc e) moment h = absurd (omega (arith, ints, h.some))

-- ---- the moment of one cell
pub moment_fits : (w d : ℤ) → pos 1 ≤ℤ w → w ≤ℤ pos (2 ^ 22) → neg_ℤ (pos (2 ^ 33)) ≤ℤ d → d ≤ℤ pos (2 ^ 33) → FitsSigned w64 (w *ℤ d)
moment_fits w d a b low high = product_fits w64 w d (2 ^ 22) (2 ^ 33) (omega (arith, ints)) b low high (lit< tt)

pub moment_of_one : (w d : ℤ) → pos 1 ≤ℤ w → w ≤ℤ pos (2 ^ 22) → neg_ℤ (pos (2 ^ 33)) ≤ℤ d → d ≤ℤ pos (2 ^ 33) → IsMoment w (w *ℤ d)
moment_of_one w d a b low high =
    let least = mul-le_by w (neg_ℤ (pos (2 ^ 33))) d (omega (arith, ints)) low in
    let most = mul-le_by w d (pos (2 ^ 33)) (omega (arith, ints)) high in
    record { some = a; light = b; low = omega (arith, ints); high = most }
