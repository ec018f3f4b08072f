-- Rows that are tried in a scratch.
use Rattle.std.proofs.Common.{◌≡◌, ℕ, List, ℤ, ◌+ℤ◌, to_z, of_z, w64, sym, subst, arith}
use Rattle.std.specs.Prelude.{Bool, IsTrue, ◌↔◌}
use Rattle.std.proofs.lemmas.Int.{ints}
use Rattle.fp_tech.specs.declared.dies.Segment.{Segment}
use Rattle.fp_rows.specs.declared.RowCell.{RowCell}
use Rattle.fp_rows.specs.Squares.{IsRow}
use Rattle.fp_check.specs.declared.rows.Asked.{Asked}
use Rattle.fp_check.specs.Rooms.{MeetsAt}

-- a segment that has room for a row starts and ends at numbers that fit
pub starts_at : (cells : List RowCell) (segment : Segment) → IsRow cells segment.start (segment.start +ℤ segment.length) → to_z w64 (of_z w64 segment.start) ≡ segment.start
starts_at cells segment room = omega (arith, ints, room.start, room.ordered, room.finish)

pub ends_at : (cells : List RowCell) (segment : Segment) → IsRow cells segment.start (segment.start +ℤ segment.length)
    → to_z w64 (of_z w64 (to_z w64 (of_z w64 segment.start) +ℤ to_z w64 (of_z w64 segment.length))) ≡ segment.start +ℤ segment.length
ends_at cells segment room = omega (arith, ints, room.start, room.ordered, room.finish)

-- a row and what is asked of it, by terms that say the same
pub row_at : (cells others : List RowCell) (from a to b : ℤ) → cells ≡ others → from ≡ a → to ≡ b → IsRow others a b → IsRow cells from to
row_at cells others from a to b same starts ends is =
    subst (λ (list : List RowCell). IsRow list from to) (sym same) (subst (λ (x : ℤ). IsRow others x to) (sym starts) (subst (λ (x : ℤ). IsRow others a x) (sym ends) is))

pub met_at : (r : Bool) (asked : Asked) (cells others : List RowCell) (from a to b : ℤ) (xs zs : List ℤ) (duals more : List ℕ) → cells ≡ others → from ≡ a → to ≡ b → xs ≡ zs → duals ≡ more
    → IsTrue r ↔ MeetsAt asked cells from to xs duals → IsTrue r ↔ MeetsAt asked others a b zs more
met_at r asked cells others from a to b xs zs duals more same starts ends places prices told =
    subst (λ (list : List ℕ). IsTrue r ↔ MeetsAt asked others a b zs list) prices
    (subst (λ (list : List ℤ). IsTrue r ↔ MeetsAt asked others a b list duals) places
    (subst (λ (x : ℤ). IsTrue r ↔ MeetsAt asked others a x xs duals) ends
    (subst (λ (x : ℤ). IsTrue r ↔ MeetsAt asked others x to xs duals) starts
    (subst (λ (list : List RowCell). IsTrue r ↔ MeetsAt asked list from to xs duals) same told))))
