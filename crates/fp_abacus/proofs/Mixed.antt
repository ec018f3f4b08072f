-- Many cells, made one after the other.
use Rattle.std.proofs.Common.{◌≡◌, ℕ, ◌+◌, ◌*◌, ◌^◌, ◌≤◌, pos, ◌+ℤ◌, ◌≤ℤ◌, List, [], ◌∷◌, ◌++◌, length, refl, arith}
use Rattle.std.proofs.lemmas.Int.{ints}
use Rattle.std.proofs.lemmas.List.Elements.{All-from_recursion}
use Rattle.std.specs.List.{AllByRecursion}
use Rattle.fp_rows.specs.declared.RowCell.{RowCell}
use Rattle.fp_rows.specs.Squares.{IsCell, IsRow, total_weight, total_width}

-- so many cells, of widths up to 5 and weights up to 3
pub record AreMixed (cells : List RowCell) (n : ℕ) : Type 0 where
  pub size : length cells ≡ n
  pub each : AllByRecursion IsCell cells
  pub weight : total_weight cells ≤ℤ pos (3 * n)
  pub width : total_width cells ≤ℤ pos (5 * n)

pub none_mixed : AreMixed [] 0
none_mixed = record { size = omega arith; each = tt; weight = omega (arith, ints); width = omega (arith, ints) }

more : (cells : List RowCell) (c : RowCell) (n : ℕ) → length cells ≡ n → AllByRecursion IsCell cells → IsCell c → (length (cells ++ c ∷ []) ≡ n + 1) × AllByRecursion IsCell (cells ++ c ∷ []) × (total_weight (cells ++ c ∷ []) ≡ total_weight cells +ℤ c.weight) × (total_width (cells ++ c ∷ []) ≡ total_width cells +ℤ c.width)
more [] c n size each one = (omega arith, (one, tt), omega (arith, ints), omega (arith, ints))
more (x ∷ xs) c n size each one =
    let m = more xs c (length xs) refl each.1 one in
    (omega (arith, m.0), (each.0, m.1), omega (arith, ints, m.2), omega (arith, ints, m.3))

pub one_mixed : (cells : List RowCell) (c : RowCell) (n : ℕ) → IsCell c → c.weight ≤ℤ pos 3 → c.width ≤ℤ pos 5 → AreMixed cells n → AreMixed (cells ++ c ∷ []) (n + 1)
one_mixed cells c n one weight width h =
    let m = more cells c n h.size h.each one in
    record { size = m.0; each = m.1; weight = omega (arith, ints, m.2, h.weight); width = omega (arith, ints, m.3, h.width) }

pub mixed_row : (cells : List RowCell) (n : ℕ) → n ≤ 100000 → AreMixed cells n → IsRow cells (pos 0) (pos (2 ^ 20))
mixed_row cells n few h = record {
  each = record { each = All-from_recursion IsCell cells h.each; weight = omega (arith, ints, h.weight) };
  start = omega (arith, ints);
  ordered = omega (arith, ints);
  finish = omega (arith, ints);
  room = omega (arith, ints, h.width);
}
