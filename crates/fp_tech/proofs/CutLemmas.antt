-- The segments of a die grow row by row, so that too many of some rows are too many of all.
use Rattle.std.proofs.Common.{◌≡◌, ℕ, zero, suc, ◌+◌, ◌-◌, ◌<◌, ◌≤◌, ◌^◌, false, List, [], ◌++◌, length, flat_map, refl, sym, ap, ◌∙◌, append_assoc, append-nil, length-append, arith}
use Rattle.std.specs.Prelude.{nat_le}
use Rattle.std.specs.List.{range_with_len}
use Rattle.std.proofs.lemmas.Bool.{lt-leb}
use Rattle.fp_base.specs.declared.ids.Die.{Die}
use Rattle.fp_tech.specs.declared.dies.Block.{Block}
use Rattle.fp_tech.specs.declared.dies.DieSpec.{DieSpec}
use Rattle.fp_tech.specs.declared.dies.Segment.{Segment}
use Rattle.fp_tech.specs.Cutting.{AreOwn, pieces, all_cut}
use Rattle.fp_tech.specs.Plan.{most_segments}
use Rattle.fp_tech.specs.Rows.{row_segments}
use Rattle.fp_tech.proofs.SweepLemmas.{row_is}

-- The lists of the first numbers come before those of the numbers behind them.
front_and_rest : {A : Type 0} (f : ℕ → List A) (a n m k : ℕ) → n + m ≡ k
    → flat_map f (range_with_len a k) ≡ flat_map f (range_with_len a n) ++ flat_map f (range_with_len (a + n) m)
front_and_rest f a zero m k e = let same : k ≡ m = omega (arith, e) in let from : a ≡ a + 0 = omega arith in
    ap (λ n. flat_map f (range_with_len a n)) same ∙ ap (λ b. flat_map f (range_with_len b m)) from
front_and_rest f a (suc n) m zero e = absurd (omega (arith, e))
front_and_rest f a (suc n) m (suc k) e =
    let from : (a + 1) + n ≡ a + suc n = omega arith in
    ap (λ rest. f a ++ rest) (front_and_rest f (a + 1) n m k (omega (arith, e)))
    ∙ ap (λ b. f a ++ (flat_map f (range_with_len (a + 1) n) ++ flat_map f (range_with_len b m))) from
    ∙ sym (append_assoc (f a) (flat_map f (range_with_len (a + 1) n)) (flat_map f (range_with_len (a + suc n) m)))

-- These are the segments of so many rows from the lowest up.
abbrev pub rows_cut : DieSpec → Die → List Block → ℕ → List Segment
rows_cut spec die blocks row = flat_map (row_segments spec die blocks) (range_with_len 0 row)

-- One more row adds its segments.
pub row_more : (spec : DieSpec) (die : Die) (blocks own given : List Block) (row : ℕ) (old new : List Segment) → AreOwn die blocks own → given ≡ own
    → old ≡ rows_cut spec die blocks row → new ≡ old ++ pieces spec given row → new ≡ rows_cut spec die blocks (row + 1)
row_more spec die blocks own given row old new is as_given before added =
    let here : 0 + row ≡ row = omega arith in
    let last : row_segments spec die blocks (0 + row) ++ [] ≡ row_segments spec die blocks row = append-nil (row_segments spec die blocks (0 + row)) ∙ ap (row_segments spec die blocks) here in
    added ∙ ap (λ list. old ++ pieces spec list row) as_given ∙ ap (λ list. list ++ pieces spec own row) before ∙ ap (λ list. rows_cut spec die blocks row ++ list) (row_is spec die blocks own row is ∙ sym last)
    ∙ sym (front_and_rest (row_segments spec die blocks) 0 row 1 (row + 1) refl)

-- Where the first rows have too many segments, all rows have.
pub too_many : (spec : DieSpec) (die : Die) (blocks : List Block) (row : ℕ) (list : List Segment) → row ≤ spec.repeat → list ≡ rows_cut spec die blocks row
    → 2 ^ 16 < length list → nat_le (length (all_cut spec die blocks)) most_segments ≡ false
too_many spec die blocks row list within is many =
    let e = front_and_rest (row_segments spec die blocks) 0 row (spec.repeat - row) spec.repeat (omega arith) in
    lt-leb (length (all_cut spec die blocks)) most_segments
    (omega (arith, many, ap length is, ap length e, length-append (rows_cut spec die blocks row) (flat_map (row_segments spec die blocks) (range_with_len (0 + row) (spec.repeat - row)))))
