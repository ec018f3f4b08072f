-- Laws of the segments of dies.
use Rattle.std.specs.Prelude.{◌≡◌, ℕ, ◌+◌, ◌*◌, ◌<◌, ◌≤◌, ◌^◌, true, ◌&&◌, nat_le, nat_lt, ℤ, pos, negsuc, ◌+ℤ◌, ◌≤ℤ◌, ◌<ℤ◌, List, [], ◌∷◌, ◌++◌, length, map, flat_map, Some, slice_get}
use Rattle.std.specs.List.{range_with_len, list_any}
use Rattle.std.proofs.Common.{refl, ap, sym, subst, ◌∙◌, inl, inr, arith}
use Rattle.std.proofs.lemmas.Bool.{leb-true, le-leb, lt-ltb, and_from, not-true, both_ways}
use Rattle.std.proofs.lemmas.Int.{ints, by_lt_z}
use Rattle.std.proofs.lemmas.Nat.{mul-le}
use Rattle.std.proofs.lemmas.List.FromFn.{length-map-range_with_len}
use Rattle.std.proofs.lemmas.List.Folds.{list_any_at}
use Rattle.std.proofs.lemmas.Option.{slice_get_within, get_or_from_slice_get}
use Rattle.fp_base.specs.declared.ids.Die.{Die}
use Rattle.fp_base.specs.declared.ids.Die.TheVariants.{Top, Bottom}
use Rattle.fp_tech.specs.declared.dies.Block.{Block}
use Rattle.fp_tech.specs.declared.dies.DieSpec.{DieSpec}
use Rattle.fp_tech.specs.declared.dies.Segment.{Segment}
use Rattle.fp_tech.specs.Rows.{Run, runs, base_of, is_clear, segment_of, row_segments, row_at, same_die, meets, covers, KeepsOff}
use Rattle.fp_tech.specs.RunsLaws.{HasRun, run_is, run_with, runs_rise, runs_whole}
use Rattle.fp_tech.specs.RowByRowLaws.{IsAt, image, imaged, of_row, row_laid, rows_in_turn}
use Rattle.fp_tech.specs.Plan.{Plan, spec_of, segments, IsDieSpec, IsSetup, IsPlan, IsFreePiece, HasPlace, ComesBehind, AreGreatest, has_few}

-- A die has at most 2^16 segments.
pub few_segments : (plan : Plan) → IsPlan plan → (die : Die) → length (segments plan die) ≤ 2 ^ 16
few_segments plan is Top = leb-true (length (segments plan Top)) (2 ^ 16) is.top_few
few_segments plan is Bottom = leb-true (length (segments plan Bottom)) (2 ^ 16) is.bottom_few

module _ (plan : Plan) (die : Die) where
  abbrev row_runs : ℕ → List Run
  row_runs row = runs (is_clear (spec_of plan die) die plan.blocks row) (spec_of plan die).start_x (spec_of plan die).length

  -- Each run of clear places of a row is a free piece of it, and so is each segment of the row.
  run_free : (row number : ℕ) (run : Run) → row < (spec_of plan die).repeat → slice_get (row_runs row) number ≡ Some run
      → IsFreePiece plan die row (segment_of (base_of (spec_of plan die) row) run)
  run_free row number run row_in at =
      let is = run_is (is_clear (spec_of plan die) die plan.blocks row) (spec_of plan die).start_x (spec_of plan die).length number run at in
      record {
        row_in = row_in;
        y_is = refl;
        from = omega (arith, ints, is.from);
        some = omega (arith, ints, is.some);
        to = omega (arith, ints, is.to);
        clear = λ x from to. is.passing x (omega (arith, ints, from)) (omega (arith, ints, to));
      }

  piece_free : (row : ℕ) (segment : Segment) → row < (spec_of plan die).repeat → IsAt (row_segments (spec_of plan die) die plan.blocks row) segment
      → IsFreePiece plan die row segment
  piece_free row segment row_in is =
      let of = image (segment_of (base_of (spec_of plan die) row)) (row_runs row) is.number segment is.at in
      subst (IsFreePiece plan die row) of.is (run_free row is.number of.x row_in of.at)

  -- A place of a row that lies in a run lies in a segment of the die.
  place_laid : (row x : ℕ) → row < (spec_of plan die).repeat → HasRun x (row_runs row)
      → (k : ℕ) × (segment : Segment) × (slice_get (segments plan die) k ≡ Some segment) × HasPlace (spec_of plan die) row x segment
  unfolding segments
  place_laid row x row_in has =
      let segment = segment_of (base_of (spec_of plan die) row) has.run in
      let at : slice_get (row_segments (spec_of plan die) die plan.blocks row) has.number ≡ Some segment =
      imaged (segment_of (base_of (spec_of plan die) row)) (row_runs row) has.number has.run has.at in
      let laid = row_laid (row_segments (spec_of plan die) die plan.blocks) 0 (spec_of plan die).repeat segment
      (record { row = row; from = omega arith; to = omega (arith, row_in); in_row = record { number = has.number; at = at } }) in
      (laid.number, segment, laid.at, record { y_is = refl; from = omega (arith, ints, has.from); to = omega (arith, ints, has.to) })

  -- Of two segments of a row the later one stands behind the other.
  behind : (row j k : ℕ) (a b : Segment) → j < k → slice_get (row_segments (spec_of plan die) die plan.blocks row) j ≡ Some a
      → slice_get (row_segments (spec_of plan die) die plan.blocks row) k ≡ Some b → ComesBehind (spec_of plan die) a b
  behind row j k a b less is_a is_b =
      let of_a = image (segment_of (base_of (spec_of plan die) row)) (row_runs row) j a is_a in
      let of_b = image (segment_of (base_of (spec_of plan die) row)) (row_runs row) k b is_b in
      let rise : of_a.x.start + of_a.x.count < of_b.x.start =
      runs_rise (is_clear (spec_of plan die) die plan.blocks row) (spec_of plan die).start_x (spec_of plan die).length j k of_a.x of_b.x less of_a.at of_b.at in
      inr (
        sym (ap (λ (s : Segment). s.y) of_a.is) ∙ ap (λ (s : Segment). s.y) of_b.is,
        omega (arith, ints, rise, ap (λ (s : Segment). s.start) of_a.is, ap (λ (s : Segment). s.length) of_a.is, ap (λ (s : Segment). s.start) of_b.is),
      )

  -- A segment of a higher row stands at least a row's height above one of a lower row.
  above : (low high : ℕ) (a b : Segment) → low < high → IsAt (row_segments (spec_of plan die) die plan.blocks low) a
      → IsAt (row_segments (spec_of plan die) die plan.blocks high) b → ComesBehind (spec_of plan die) a b
  above low high a b less is_a is_b =
      let of_a = image (segment_of (base_of (spec_of plan die) low)) (row_runs low) is_a.number a is_a.at in
      let of_b = image (segment_of (base_of (spec_of plan die) high)) (row_runs high) is_b.number b is_b.at in
      let stacked : (low + 1) * (spec_of plan die).height ≤ high * (spec_of plan die).height =
      mul-le (low + 1) (spec_of plan die).height high (spec_of plan die).height (omega (arith, less)) (omega arith) in
      inl (omega (arith, ints, stacked, ap (λ (s : Segment). s.y) of_a.is, ap (λ (s : Segment). s.y) of_b.is))

-- A die's segments are the greatest pieces of its rows that no blockage of it covers.
pub greatest : (plan : Plan) (die : Die) → AreGreatest plan die (segments plan die)
unfolding segments
greatest plan die = record {
  free = λ k segment at.
      let of = of_row (row_segments (spec_of plan die) die plan.blocks) 0 (spec_of plan die).repeat k segment at in
      (of.row, piece_free plan die of.row segment (omega (arith, of.to)) of.in_row);
  whole = λ row x row_in from to passing. place_laid plan die row x row_in
      (run_with (is_clear (spec_of plan die) die plan.blocks row) (spec_of plan die).start_x (spec_of plan die).length x from to passing);
  rise = λ j k a b less is_a is_b. rows_in_turn (ComesBehind (spec_of plan die)) (row_segments (spec_of plan die) die plan.blocks)
      (record { within = behind plan die; across = above plan die }) 0 (spec_of plan die).repeat j k a b less is_a is_b;
}

-- The same for a list that equals them, as a function that returns them says.
pub are_greatest : (plan : Plan) (die : Die) (list : List Segment) → list ≡ segments plan die → AreGreatest plan die list
are_greatest plan die list same = subst (AreGreatest plan die) (sym same) (greatest plan die)

-- Without blockages each row is one segment.
whole_row : (spec : DieSpec) (die : Die) (blocks : List Block) (row : ℕ) → blocks ≡ [] → 1 ≤ spec.length → row_segments spec die blocks row ≡ row_at spec row ∷ []
whole_row spec die blocks row free some =
    ap (map (segment_of (base_of spec row))) (runs_whole (is_clear spec die blocks row) spec.start_x spec.length some
    (λ x _ _. ap (λ (list : List Block). is_clear spec die list row x) free))

whole_rows : (spec : DieSpec) (die : Die) (blocks : List Block) (rows : List ℕ) → blocks ≡ [] → 1 ≤ spec.length
    → flat_map (row_segments spec die blocks) rows ≡ map (row_at spec) rows
whole_rows spec die blocks [] free some = refl
whole_rows spec die blocks (row ∷ rows) free some =
    ap (λ list. list ++ flat_map (row_segments spec die blocks) rows) (whole_row spec die blocks row free some)
    ∙ ap (λ list. row_at spec row ∷ list) (whole_rows spec die blocks rows free some)

pub no_blocks : (plan : Plan) (die : Die) → plan.blocks ≡ [] → 1 ≤ (spec_of plan die).length
    → segments plan die ≡ map (row_at (spec_of plan die)) (range_with_len 0 (spec_of plan die).repeat)
unfolding segments
no_blocks plan die free some = whole_rows (spec_of plan die) die plan.blocks (range_with_len 0 (spec_of plan die).repeat) free some

-- Without blockages a die has as many segments as rows.
pub as_many : (plan : Plan) (die : Die) → plan.blocks ≡ [] → 1 ≤ (spec_of plan die).length → length (segments plan die) ≡ (spec_of plan die).repeat
as_many plan die free some = ap length (no_blocks plan die free some) ∙ length-map-range_with_len (row_at (spec_of plan die)) 0 (spec_of plan die).repeat

spec_within : (plan : Plan) → IsSetup plan → (die : Die) → IsDieSpec (length plan.book.techs) (spec_of plan die)
spec_within plan is Top = is.top
spec_within plan is Bottom = is.bottom

-- Without blockages no die has too many segments, since it has at most 2^16 rows.
pub few_without_blocks : (plan : Plan) → plan.blocks ≡ [] → IsSetup plan → (die : Die) → has_few plan die ≡ true
few_without_blocks plan free is die =
    let within = spec_within plan is die in
    le-leb (length (segments plan die)) (2 ^ 16) (omega (arith, within.rows, as_many plan die free within.some_length))

-- Each segment is a free piece of a row.
pub segment_on : (plan : Plan) (die : Die) (k : ℕ) (segment : Segment) → slice_get (segments plan die) k ≡ Some segment → (row : ℕ) × IsFreePiece plan die row segment
segment_on plan die = (greatest plan die).free

-- Of two segments the later one comes behind the other.
pub segments_rise : (plan : Plan) (die : Die) (j k : ℕ) (a b : Segment) → j < k → slice_get (segments plan die) j ≡ Some a
    → slice_get (segments plan die) k ≡ Some b → ComesBehind (spec_of plan die) a b
segments_rise plan die = (greatest plan die).rise

-- An integer that is at least a natural number is one.
natural : (a : ℕ) (z : ℤ) → pos a ≤ℤ z → (n : ℕ) × (z ≡ pos n)
natural a (pos n) _ = (n, refl)
natural a (negsuc n) less = absurd (omega (arith, ints, less))

same_die_itself : (die : Die) → same_die die die ≡ true
same_die_itself Top = refl
same_die_itself Bottom = refl

module _ (plan : Plan) (die : Die) (row : ℕ) (segment : Segment) (is : IsFreePiece plan die row segment) (block : Block) where
  -- No place of a free piece is covered by a blockage that meets the row.
  no_common_place : (j : ℕ) → slice_get plan.blocks j ≡ Some block → block.die ≡ die → block.lly < base_of (spec_of plan die) row + (spec_of plan die).height
      → base_of (spec_of plan die) row < block.ury → (x : ℕ) → segment.start ≤ℤ pos x → pos x <ℤ (segment.start +ℤ segment.length) → block.llx ≤ x → x < block.urx → ⊥
  no_common_place j at of low high x from to left right =
      let lower = base_of (spec_of plan die) row in
      let upper = base_of (spec_of plan die) row + (spec_of plan die).height in
      let of_die : same_die block.die die ≡ true = subst (λ other. same_die other die ≡ true) (sym of) (same_die_itself die) in
      let met : meets (spec_of plan die) row block ≡ true =
      and_from (nat_lt block.lly upper) (nat_lt lower block.ury) (lt-ltb block.lly upper low) (lt-ltb lower block.ury high) in
      let across : (nat_le block.llx x && nat_lt x block.urx) ≡ true =
      and_from (nat_le block.llx x) (nat_lt x block.urx) (le-leb block.llx x left) (lt-ltb x block.urx right) in
      let covered : covers (spec_of plan die) die row x block ≡ true =
      and_from (same_die block.die die) (meets (spec_of plan die) row block && (nat_le block.llx x && nat_lt x block.urx)) of_die
      (and_from (meets (spec_of plan die) row block) (nat_le block.llx x && nat_lt x block.urx) met across) in
      let some : list_any (covers (spec_of plan die) die row x) plan.blocks ≡ true =
      list_any_at (covers (spec_of plan die) die row x) plan.blocks j block (slice_get_within plan.blocks j block at)
      (subst (λ other. covers (spec_of plan die) die row x other ≡ true) (sym (get_or_from_slice_get plan.blocks j block block at)) covered) in
      both_ways (list_any (covers (spec_of plan die) die row x) plan.blocks) (not-true (list_any (covers (spec_of plan die) die row x) plan.blocks) (is.clear x from to)) some

  piece_keeps_off : (j : ℕ) → slice_get plan.blocks j ≡ Some block → block.die ≡ die → block.llx < block.urx
      → KeepsOff segment.start segment.y segment.length (pos (spec_of plan die).height) block
  piece_keeps_off j at of wide =
      by_lt_z (pos block.llx) (segment.start +ℤ segment.length) (λ left.
      by_lt_z segment.start (pos block.urx) (λ right.
      by_lt_z (pos block.lly) (segment.y +ℤ pos (spec_of plan die).height) (λ low.
      by_lt_z segment.y (pos block.ury) (λ high.
      let common = no_common_place j at of (omega (arith, ints, low, is.y_is)) (omega (arith, ints, high, is.y_is)) in
      by_lt_z (pos block.llx) segment.start
      (λ later. let start = natural (spec_of plan die).start_x segment.start is.from in
      absurd (common start.0 (omega (arith, ints, start.1)) (omega (arith, ints, start.1, is.some)) (omega (arith, ints, start.1, later)) (omega (arith, ints, start.1, right))))
      (λ earlier. absurd (common block.llx earlier left (omega arith) wide)))
      (λ below. inr (inr below))) (λ above. inr (inl above))) (λ past. inl (inr past))) (λ before. inl (inl before))

-- The strip of a row's height above a segment keeps off each blockage of its die.
pub segment_clear : (plan : Plan) (die : Die) (k j : ℕ) (segment : Segment) (block : Block) → slice_get (segments plan die) k ≡ Some segment
    → slice_get plan.blocks j ≡ Some block → block.die ≡ die → block.llx < block.urx
    → KeepsOff segment.start segment.y segment.length (pos (spec_of plan die).height) block
segment_clear plan die k j segment block is at of wide =
    let free = segment_on plan die k segment is in
    piece_keeps_off plan die free.0 segment free.1 block j at of wide

-- What lies inside of a rectangle that keeps off a blockage keeps off it too, as a cell that stands on a segment.
pub inside_keeps_off : (x y width height left low across up : ℤ) (block : Block) → x ≤ℤ left → (left +ℤ across) ≤ℤ (x +ℤ width) → y ≤ℤ low
    → (low +ℤ up) ≤ℤ (y +ℤ height) → KeepsOff x y width height block → KeepsOff left low across up block
inside_keeps_off x y width height left low across up block starts ends lower upper (inl (inl before)) = inl (inl (omega (arith, ints, ends, before)))
inside_keeps_off x y width height left low across up block starts ends lower upper (inl (inr past)) = inl (inr (omega (arith, ints, starts, past)))
inside_keeps_off x y width height left low across up block starts ends lower upper (inr (inl above)) = inr (inl (omega (arith, ints, upper, above)))
inside_keeps_off x y width height left low across up block starts ends lower upper (inr (inr below)) = inr (inr (omega (arith, ints, lower, below)))
