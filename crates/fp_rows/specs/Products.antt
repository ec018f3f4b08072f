-- Products of signed numbers, as equations and orders between them.
use Rattle.std.proofs.Common.{◌≡◌, ℕ, suc, ◌+◌, ◌*◌, ℤ, pos, negsuc, neg_ℤ, ◌+ℤ◌, ◌-ℤ◌, ◌*ℤ◌, ◌≤ℤ◌, arith, ap, ◌∙◌}
use Rattle.std.proofs.lemmas.Int.{ints}
use Rattle.std.proofs.Math.Nat.{mul-le-mul_left}
use borrow.Author.Differences.{up, down, sum_is_lem, product_is, le_out, neg_is}

sum_is : (a b : ℤ) → up (a +ℤ b) + (down a + down b) ≡ down (a +ℤ b) + (up a + up b)
sum_is a b = omega (arith, sum_is_lem a b)

pub mul-add : (w a b : ℤ) → w *ℤ (a +ℤ b) ≡ w *ℤ a +ℤ w *ℤ b
mul-add w a b = omega (arith, ints, ap (λ n. up w * n) (sum_is a b), ap (λ n. down w * n) (sum_is a b))

pub mul_comm : (a b : ℤ) → a *ℤ b ≡ b *ℤ a
mul_comm a b = omega (arith, ints)

pub add-mul : (a b w : ℤ) → (a +ℤ b) *ℤ w ≡ a *ℤ w +ℤ b *ℤ w
add-mul a b w = omega (arith, ints, ap (λ n. up w * n) (sum_is a b), ap (λ n. down w * n) (sum_is a b))

pub mul-neg : (w a : ℤ) → w *ℤ neg_ℤ a ≡ neg_ℤ (w *ℤ a)
mul-neg w a = omega (arith, ints, ap (λ n. up w * n) (neg_is a).0, ap (λ n. up w * n) (neg_is a).1, ap (λ n. down w * n) (neg_is a).0, ap (λ n. down w * n) (neg_is a).1)

pub mul-assoc : (a b c : ℤ) → (a *ℤ b) *ℤ c ≡ a *ℤ (b *ℤ c)
mul-assoc a b c =
    let p = product_is a b in
    let q = product_is b c in
    omega (arith, ints, ap (λ n. n * up c) p.0, ap (λ n. n * down c) p.0, ap (λ n. n * up c) p.1, ap (λ n. n * down c) p.1, ap (λ n. up a * n) q.0, ap (λ n. down a * n) q.0, ap (λ n. up a * n) q.1, ap (λ n. down a * n) q.1)

pub mul-le : (n : ℕ) (a b : ℤ) → a ≤ℤ b → (pos n *ℤ a) ≤ℤ (pos n *ℤ b)
mul-le n a b h = omega (arith, ints, mul-le-mul_left n (le_out a b h))

pub sub-mul : (a b w : ℤ) → (a -ℤ b) *ℤ w ≡ a *ℤ w -ℤ b *ℤ w
sub-mul a b w =
    let e = add-mul a (neg_ℤ b) w in
    let f = mul_comm (neg_ℤ b) w ∙ mul-neg w b ∙ ap neg_ℤ (mul_comm w b) in
    omega (arith, ints, e, f)

pub mul-suc : (a : ℤ) (k : ℕ) → a *ℤ pos (suc k) ≡ a *ℤ pos k +ℤ a
mul-suc a k = omega (arith, ints)

pub mul-le_by : (w a b : ℤ) → pos 0 ≤ℤ w → a ≤ℤ b → (w *ℤ a) ≤ℤ (w *ℤ b)
mul-le_by (pos n) a b h le = mul-le n a b le
mul-le_by (negsuc n) a b h le = absurd (omega (arith, ints))
