-- Products that fit their width, and what a cell's cost and rise can be.
use Rattle.std.proofs.Common.{ℕ, ◌*◌, ◌^◌, ◌<◌, ◌≤◌, suc, ℤ, pos, negsuc, neg_ℤ, ◌+ℤ◌, ◌-ℤ◌, ◌*ℤ◌, ◌≤ℤ◌, FitsSigned, w64, arith, lit<}
use Rattle.std.specs.Int.RustNames.{unsigned_abs}
use Rattle.std.proofs.lemmas.Int.{ints, fits_signed_mul}
use Rattle.std.proofs.Math.Nat.{mul-le-mul_left}
use Rattle.fp_rows.specs.declared.RowCell.{RowCell}
use Rattle.fp_rows.specs.Squares.{IsCell, IsPlace, squared_cost}
use Rattle.fp_rows.specs.Products.{mul-le_by}
use mir.Syntax.{Width, w128}
use mir.Val.{hbits}

abs-le : (a : ℤ) (m : ℕ) → neg_ℤ (pos m) ≤ℤ a → a ≤ℤ pos m → unsigned_abs a ≤ m
abs-le a m low high = omega (arith, ints)

pub product_fits : (w : Width) (a b : ℤ) (m n : ℕ) → neg_ℤ (pos m) ≤ℤ a → a ≤ℤ pos m → neg_ℤ (pos n) ≤ℤ b → b ≤ℤ pos n → m * n < 2 ^ hbits w → FitsSigned w (a *ℤ b)
product_fits w a b m n la ha lb hb small = fits_signed_mul w a b m n (abs-le a m la ha) (abs-le b n lb hb) small

pub rise_fits : (w x t : ℤ) → pos 1 ≤ℤ w → w ≤ℤ pos (2 ^ 22) → neg_ℤ (pos 1) ≤ℤ x → x ≤ℤ pos (2 ^ 31) → neg_ℤ (pos (2 ^ 32)) ≤ℤ t → t ≤ℤ pos (2 ^ 32) → FitsSigned w64 (w *ℤ (pos 2 *ℤ (x -ℤ t) +ℤ pos 1))
rise_fits w x t a b c d e f =
    product_fits w64 w (pos 2 *ℤ (x -ℤ t) +ℤ pos 1) (2 ^ 22) (2 ^ 34) (omega (arith, ints)) b (omega (arith, ints)) (omega (arith, ints)) (lit< tt)

pub square_fits : (d : ℤ) → neg_ℤ (pos (2 ^ 33)) ≤ℤ d → d ≤ℤ pos (2 ^ 33) → FitsSigned w128 (d *ℤ d)
square_fits d a b = product_fits w128 d d (2 ^ 33) (2 ^ 33) a b a b (lit< tt)

pub square_range : (d : ℤ) → neg_ℤ (pos (2 ^ 33)) ≤ℤ d → d ≤ℤ pos (2 ^ 33) → (pos 0 ≤ℤ (d *ℤ d)) × ((d *ℤ d) ≤ℤ pos (2 ^ 66))
square_range (pos n) low high =
    let small : n ≤ 2 ^ 33 = omega (arith, ints) in
    (omega (arith, ints), omega (arith, ints, mul-le-mul_left n small))
square_range (negsuc n) low high =
    let small : suc n ≤ 2 ^ 33 = omega (arith, ints) in
    (omega (arith, ints), omega (arith, ints, mul-le-mul_left (suc n) small))

pub cost_fits : (w d : ℤ) → pos 1 ≤ℤ w → w ≤ℤ pos (2 ^ 22) → neg_ℤ (pos (2 ^ 33)) ≤ℤ d → d ≤ℤ pos (2 ^ 33) → FitsSigned w128 (w *ℤ (d *ℤ d))
cost_fits w d a b low high =
    let s = square_range d low high in
    product_fits w128 w (d *ℤ d) (2 ^ 22) (2 ^ 66) (omega (arith, ints)) b (omega (arith, ints)) s.1 (lit< tt)

pub cost_range : (c : RowCell) (x : ℤ) → IsCell c → IsPlace x → (pos 0 ≤ℤ squared_cost c x) × (squared_cost c x ≤ℤ (c.weight *ℤ pos (2 ^ 66)))
unfolding squared_cost
cost_range c x h p = range c.weight (x -ℤ c.target) (omega (arith, ints)) (omega (arith, ints)) (omega (arith, ints))
  where
    range : (w d : ℤ) → pos 0 ≤ℤ w → neg_ℤ (pos (2 ^ 33)) ≤ℤ d → d ≤ℤ pos (2 ^ 33) → (pos 0 ≤ℤ (w *ℤ (d *ℤ d))) × ((w *ℤ (d *ℤ d)) ≤ℤ (w *ℤ pos (2 ^ 66)))
    range w d a low high =
        let s = square_range d low high in
        let least = mul-le_by w (pos 0) (d *ℤ d) a s.0 in
        (omega (arith, ints), mul-le_by w (d *ℤ d) (pos (2 ^ 66)) a s.1)
