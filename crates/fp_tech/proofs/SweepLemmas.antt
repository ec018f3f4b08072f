-- One sweep over the blockages of a die by their left edge gives the segments of a row.
use Rattle.std.proofs.Common.{◌≡◌, ℕ, suc, ◌+◌, ◌-◌, ◌<◌, ◌≤◌, min, max, Bool, true, false, ◌&&◌, ◌||◌, not, List, [], ◌∷◌, ◌++◌, length, map, filter, get_or, drop, if◌then◌else◌, refl, sym, ap, ◌∙◌, inl, inr, ◌⊎◌, arith}
use Rattle.std.specs.Prelude.{nat_le, nat_lt, All}
use Rattle.std.specs.List.{list_any}
use Rattle.std.specs.List.Sorted.{IsNonDecreasingBy}
use Rattle.std.proofs.lemmas.List.{map-append, drop_all}
use Rattle.std.proofs.lemmas.Bool.{cases_lt, lt-ltb, le-ltb, lt-leb, le-leb}
use Rattle.std.proofs.lemmas.List.Elements.{All-head, All-tail, All-filter}
use Rattle.std.proofs.lemmas.List.Sorted.{list_any-IsPermutation, All-permutation}
use Rattle.fp_base.specs.declared.ids.Die.{Die}
use Rattle.fp_tech.specs.declared.dies.Block.{Block}
use Rattle.fp_tech.specs.declared.dies.DieSpec.{DieSpec}
use Rattle.fp_tech.specs.declared.dies.Segment.{Segment}
use Rattle.fp_tech.specs.Plan.{IsBlock}
use Rattle.fp_tech.specs.Rows.{Run, same_die, base_of, meets, covers, is_clear, runs, segment_of, row_segments}
use Rattle.fp_tech.specs.Cutting.{AreOwn, spans, is_free, piece, pieces}
use Rattle.fp_tech.specs.RunsLaws.{runs_same}
use Rattle.fp_tech.proofs.RunLemmas.{between, none_left, covered, one_interval}

-- A sweep that has come to a place, with these blockages left, adds these segments.
abbrev pub parts : DieSpec → ℕ → ℕ → ℕ → List Block → List Segment
parts spec row end at [] = piece (base_of spec row) at end
parts spec row end at (block ∷ blocks) =
    if meets spec row block then piece (base_of spec row) at (min block.llx end) ++ parts spec row end (max at block.urx) blocks else parts spec row end at blocks

-- No blockage begins before a place.
abbrev StartFrom : ℕ → List Block → Type 0
StartFrom at [] = Unit {0}
StartFrom at (block ∷ blocks) = (at ≤ block.llx) × StartFrom at blocks

-- Blockages, each at least one wide, stand by rising left edge.
abbrev pub InOrder : List Block → Type 0
InOrder [] = Unit {0}
InOrder (block ∷ blocks) = (block.llx < block.urx) × StartFrom block.llx blocks × InOrder blocks

start_from : (at : ℕ) (d : Block) (blocks : List Block) → ((k : ℕ) → k < length blocks → at ≤ (get_or blocks k d).llx) → StartFrom at blocks
start_from at d [] each = tt
start_from at d (block ∷ blocks) each = (each 0 (omega arith), start_from at d blocks (λ k within. each (suc k) (omega arith)))

pub in_order : (blocks : List Block) → All IsBlock blocks → IsNonDecreasingBy (λ (block : Block). block.llx) blocks → InOrder blocks
in_order [] all up = tt
in_order (block ∷ blocks) all up =
    let one : IsBlock block = All-head IsBlock block blocks all in (
      one.wide,
      start_from block.llx block blocks (λ k within. up 0 (suc k) block (omega arith) (omega arith)),
      in_order blocks (All-tail IsBlock block blocks all) (λ i j d le within. up (suc i) (suc j) d (omega arith) (omega arith)),
    )

-- A blockage covers no place before its left edge, nor one from its right edge on.
spans_none : (spec : DieSpec) (row x : ℕ) (block : Block) → (x < block.llx) ⊎ (block.urx ≤ x) → spans spec row x block ≡ false
spans_none spec row x block where_is = by (meets spec row block) (outside where_is)
  where
    outside : (x < block.llx) ⊎ (block.urx ≤ x) → (nat_le block.llx x && nat_lt x block.urx) ≡ false
    outside (inl before) = rw (lt-leb block.llx x before) refl
    outside (inr past) = rw (le-ltb x block.urx past) (none (nat_le block.llx x))
      where
        none : (b : Bool) → (b && false) ≡ false
        none true = refl
        none false = refl

    by : (b : Bool) → (nat_le block.llx x && nat_lt x block.urx) ≡ false → (b && (nat_le block.llx x && nat_lt x block.urx)) ≡ false
    by true e = e
    by false e = refl

spans_some : (spec : DieSpec) (row x : ℕ) (block : Block) → meets spec row block ≡ true → block.llx ≤ x → x < block.urx → spans spec row x block ≡ true
spans_some spec row x block met from below = rw (met, le-leb block.llx x from, lt-ltb x block.urx below) refl

none_before : (spec : DieSpec) (row x at : ℕ) (blocks : List Block) → StartFrom at blocks → x < at → list_any (spans spec row x) blocks ≡ false
none_before spec row x at [] from less = refl
none_before spec row x at (block ∷ blocks) from less =
    ap (λ b. b || list_any (spans spec row x) blocks) (spans_none spec row x block (inl (omega (arith, from.0))))
    ∙ none_before spec row x at blocks from.1 less

-- A place that the first blockage does not cover is free where the others leave it free.
left_out : (spec : DieSpec) (row x : ℕ) (block : Block) (blocks : List Block) → spans spec row x block ≡ false → is_free spec (block ∷ blocks) row x ≡ is_free spec blocks row x
left_out spec row x block blocks e = ap (λ b. not (b || list_any (spans spec row x) blocks)) e

taken : (spec : DieSpec) (row x : ℕ) (block : Block) (blocks : List Block) → spans spec row x block ≡ true → is_free spec (block ∷ blocks) row x ≡ false
taken spec row x block blocks e = ap (λ b. not (b || list_any (spans spec row x) blocks)) e

abbrev run_up_to : ℕ → ℕ → List Run
run_up_to at to = if nat_lt at to then record { start = at; count = to - at } ∷ [] else []

as_piece : (y at to : ℕ) → piece y at to ≡ map (segment_of y) (run_up_to at to)
as_piece y at to = by (nat_lt at to)
  where
    by : (b : Bool) → (if b then segment_of y (record { start = at; count = to - at }) ∷ [] else []) ≡ map (segment_of y) (if b then record { start = at; count = to - at } ∷ [] else [])
    by true = refl
    by false = refl

-- Where the first blockage meets the row, the places before it are an interval, and the rest begins at its right edge.
first_met : (spec : DieSpec) (row end at : ℕ) (block : Block) (blocks : List Block) → InOrder (block ∷ blocks) → meets spec row block ≡ true
    → between (is_free spec (block ∷ blocks) row) at end
    ≡ run_up_to at (min block.llx end) ++ between (is_free spec (block ∷ blocks) row) (max at block.urx) end
first_met spec row end at block blocks order met = by (cases_lt at (min block.llx end))
  where
    before : (x : ℕ) → x < block.llx → is_free spec (block ∷ blocks) row x ≡ true
    before x less = ap not (none_before spec row x block.llx (block ∷ blocks) (omega arith, order.1) less)

    within : (x : ℕ) → block.llx ≤ x → x < block.urx → is_free spec (block ∷ blocks) row x ≡ false
    within x from below = taken spec row x block blocks (spans_some spec row x block met from below)

    by : (at < min block.llx end) ⊎ (min block.llx end ≤ at) → between (is_free spec (block ∷ blocks) row) at end
        ≡ run_up_to at (min block.llx end) ++ between (is_free spec (block ∷ blocks) row) (max at block.urx) end
    by (inl less) =
        let wide = order.0 in
        rw (lt-ltb at (min block.llx end) less)
        (one_interval (is_free spec (block ∷ blocks) row) at (min block.llx end) end less (omega arith) (λ x from below. before x (omega arith)) (λ short. within (min block.llx end) (omega arith) (omega arith))
        ∙ ap (λ rest. record { start = at; count = min block.llx end - at } ∷ rest)
        (covered (is_free spec (block ∷ blocks) row) (min block.llx end) (max at block.urx) end (omega arith) (λ x from below inside. within x (omega arith) (omega arith))))
    by (inr past) =
        rw (le-ltb at (min block.llx end) past)
        (covered (is_free spec (block ∷ blocks) row) at (max at block.urx) end (omega arith) (λ x from below inside. within x (omega arith) (omega arith)))

-- Without blockages the rest of the row is one interval.
all_free : (spec : DieSpec) (row end at : ℕ) → between (is_free spec [] row) at end ≡ run_up_to at end
all_free spec row end at = by (cases_lt at end)
  where
    by : (at < end) ⊎ (end ≤ at) → between (is_free spec [] row) at end ≡ run_up_to at end
    by (inl less) =
        rw (lt-ltb at end less)
        (one_interval (is_free spec [] row) at end end less (omega arith) (λ x from below. refl) (λ short. absurd (omega (arith, short)))
        ∙ ap (λ rest. record { start = at; count = end - at } ∷ rest) (none_left (is_free spec [] row) end end (omega arith)))
    by (inr past) = rw (le-ltb at end past) (none_left (is_free spec [] row) at end past)

-- A blockage that does not meet the row covers none of its places.
missed : (spec : DieSpec) (row x : ℕ) (block : Block) → meets spec row block ≡ false → spans spec row x block ≡ false
missed spec row x block e = ap (λ b. b && (nat_le block.llx x && nat_lt x block.urx)) e

-- A sweep adds the segments of the rest of the row.
pub sweep : (spec : DieSpec) (row end at : ℕ) (blocks : List Block) → InOrder blocks
    → parts spec row end at blocks ≡ map (segment_of (base_of spec row)) (between (is_free spec blocks row) at end)
sweep spec row end at [] order = as_piece (base_of spec row) at end ∙ sym (ap (map (segment_of (base_of spec row))) (all_free spec row end at))
sweep spec row end at (block ∷ blocks) order =
    by (meets spec row block) refl (sweep spec row end (max at block.urx) blocks order.2) (sweep spec row end at blocks order.2)
  where
    by : (b : Bool) → meets spec row block ≡ b
        → parts spec row end (max at block.urx) blocks ≡ map (segment_of (base_of spec row)) (between (is_free spec blocks row) (max at block.urx) end)
        → parts spec row end at blocks ≡ map (segment_of (base_of spec row)) (between (is_free spec blocks row) at end)
        → (if b then piece (base_of spec row) at (min block.llx end) ++ parts spec row end (max at block.urx) blocks else parts spec row end at blocks)
        ≡ map (segment_of (base_of spec row)) (between (is_free spec (block ∷ blocks) row) at end)
    by true met behind here =
        let same : between (is_free spec (block ∷ blocks) row) (max at block.urx) end ≡ between (is_free spec blocks row) (max at block.urx) end =
        runs_same (is_free spec (block ∷ blocks) row) (is_free spec blocks row) (max at block.urx) (end - max at block.urx)
        (λ x from below. left_out spec row x block blocks (spans_none spec row x block (inr (omega (arith, from))))) in
        ap (λ first. first ++ parts spec row end (max at block.urx) blocks) (as_piece (base_of spec row) at (min block.llx end))
        ∙ ap (λ rest. map (segment_of (base_of spec row)) (run_up_to at (min block.llx end)) ++ rest) (behind ∙ ap (map (segment_of (base_of spec row))) (sym same))
        ∙ sym (map-append (segment_of (base_of spec row)) (run_up_to at (min block.llx end)) (between (is_free spec (block ∷ blocks) row) (max at block.urx) end))
        ∙ ap (map (segment_of (base_of spec row))) (sym (first_met spec row end at block blocks order met))
    by false not_met behind here =
        here ∙ ap (map (segment_of (base_of spec row))) (sym (runs_same (is_free spec (block ∷ blocks) row) (is_free spec blocks row) at (end - at)
        (λ x from below. left_out spec row x block blocks (missed spec row x block not_met))))

-- A sweep of a whole row adds its segments.
pub row_swept : (spec : DieSpec) (row end : ℕ) (own : List Block) → All IsBlock own → IsNonDecreasingBy (λ (block : Block). block.llx) own → end ≡ spec.start_x + spec.length
    → parts spec row end spec.start_x own ≡ pieces spec own row
row_swept spec row end own all up e =
    let long : end - spec.start_x ≡ spec.length = omega (arith, e) in
    sweep spec row end spec.start_x own (in_order own all up)
    ∙ ap (λ n. map (segment_of (base_of spec row)) (runs (is_free spec own row) spec.start_x n)) long

-- At the end of a sweep the segments of the row have been added.
pub row_done : (spec : DieSpec) (row y end at k : ℕ) (own : List Block) (old now new : List Segment) → All IsBlock own → IsNonDecreasingBy (λ (block : Block). block.llx) own
    → y ≡ base_of spec row → end ≡ spec.start_x + spec.length → length own ≤ k → now ++ parts spec row end at (drop k own) ≡ old ++ parts spec row end spec.start_x own
    → new ≡ now ++ piece y at end → new ≡ old ++ pieces spec own row
row_done spec row y end at k own old now new all up low e past kept added =
    let nothing : drop k own ≡ [] = drop_all k own past in
    added ∙ ap (λ base. now ++ piece base at end) low ∙ ap (λ left. now ++ parts spec row end at left) (sym nothing) ∙ kept ∙ ap (λ list. old ++ list) (row_swept spec row end own all up e)

-- A die's own blockages cover a place of it exactly where the given ones do.
own_covers : (spec : DieSpec) (die : Die) (row x : ℕ) (blocks : List Block)
    → list_any (spans spec row x) (filter (λ (block : Block). same_die block.die die) blocks) ≡ list_any (covers spec die row x) blocks
own_covers spec die row x [] = refl
own_covers spec die row x (block ∷ blocks) = by (same_die block.die die) (own_covers spec die row x blocks)
  where
    by : (b : Bool) → list_any (spans spec row x) (filter (λ (block : Block). same_die block.die die) blocks) ≡ list_any (covers spec die row x) blocks
        → list_any (spans spec row x) (if b then block ∷ filter (λ (block : Block). same_die block.die die) blocks else filter (λ (block : Block). same_die block.die die) blocks)
        ≡ ((b && spans spec row x block) || list_any (covers spec die row x) blocks)
    by true rest = ap (λ others. spans spec row x block || others) rest
    by false rest = rest

-- The pieces of a row that the die's own blockages leave are its segments.
pub row_is : (spec : DieSpec) (die : Die) (blocks own : List Block) (row : ℕ) → AreOwn die blocks own → pieces spec own row ≡ row_segments spec die blocks row
row_is spec die blocks own row is = ap (map (segment_of (base_of spec row)))
    (runs_same (is_free spec own row) (is_clear spec die blocks row) spec.start_x spec.length (λ x from below.
    ap not (sym (list_any-IsPermutation (spans spec row x) (filter (λ (block : Block). same_die block.die die) blocks) own is.kept) ∙ own_covers spec die row x blocks)))

-- A die's own blockages are within the input's ranges.
pub own_are : (die : Die) (blocks own : List Block) → All IsBlock blocks → AreOwn die blocks own → All IsBlock own
own_are die blocks own all is = All-permutation IsBlock (filter (λ (block : Block). same_die block.die die) blocks) own is.kept (All-filter (λ (block : Block). same_die block.die die) IsBlock blocks all)
