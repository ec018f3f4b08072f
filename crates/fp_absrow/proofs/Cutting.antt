-- Cells that touch, looked at from the first to the last, in two runs.
use Rattle.std.proofs.Common.{◌≡◌, ℕ, ◌+◌, ◌*◌, ◌^◌, ◌<◌, ◌≤◌, ℤ, pos, neg_ℤ, ◌+ℤ◌, ◌≤ℤ◌, ◌<ℤ◌, List, [], ◌∷◌, ◌++◌, length, drop, arith, ap, sym, ◌∙◌, refl, append_assoc}
use Rattle.std.proofs.lemmas.Int.{ints}
use Rattle.std.proofs.lemmas.List.{length-append, append-nil, length-take, length-drop, get_or-take, get_or-drop}
use Rattle.std.specs.List.{AllByRecursion}
use Rattle.fp_rows.specs.Lists.{drop-at, drop-all, drop_at, all_front, all_behind}
use Rattle.fp_rows.specs.Runs.{FirstsAtMostZero, LastsAtLeastZero, rises, span, total}
use Rattle.fp_rows.specs.RunsLaws.{IsSized, span_low, span-append, rises-append}
use Rattle.fp_rows.specs.SumsLaws.{total-append, same_below, lasts_above, firsts-append, lasts-append, lasts_from_firsts}
use Rattle.fp_absrow.specs.ConvexCells.{ConvexCell, width_of, rise_of, cell_at, no_cell}
use Rattle.fp_absrow.specs.Spans.{some_cells, IsCut}

-- of the first i cells, those before `cut` and the others, which a walk has left with an excess at the position of the next
pub record IsCutting (cells : List ConvexCell) (position : ℤ) (i cut : ℕ) (excess at : ℤ) : Type 0 where
  pub front : List ConvexCell
  pub behind : List ConvexCell
  pub rest : List ConvexCell
  pub parts : cells ≡ (front ++ behind) ++ rest
  pub count : length front ≡ cut
  pub size : cut + length behind ≡ i
  pub here : at ≡ (position +ℤ span width_of front) +ℤ span width_of behind
  pub lasts : LastsAtLeastZero (pos 0) (rises width_of rise_of position front)
  pub firsts : FirstsAtMostZero (pos 0) (rises width_of rise_of (position +ℤ span width_of front) behind)
  pub sum : excess ≡ total (rises width_of rise_of (position +ℤ span width_of front) behind)
  pub low : neg_ℤ (pos (i * 2 ^ 57)) ≤ℤ excess
  pub high : excess ≤ℤ pos 0

pub cutting_start : (cells : List ConvexCell) (position : ℤ) → IsCutting cells position 0 0 (pos 0) position
cutting_start cells position = record {
  front = [];
  behind = [];
  rest = cells;
  parts = refl;
  count = refl;
  size = refl;
  here = omega (arith, ints);
  lasts = tt;
  firsts = tt;
  sum = refl;
  low = omega (arith, ints);
  high = omega (arith, ints);
}

-- what is left is the cells from i on
left_is : (cells : List ConvexCell) (position : ℤ) (i cut : ℕ) (excess at : ℤ) → (h : IsCutting cells position i cut excess at) → drop i cells ≡ h.rest
left_is cells position i cut excess at h =
    let e = length-append h.front h.behind in
    rw h.parts (drop_at (h.front ++ h.behind) h.rest i (omega (arith, h.count, h.size)))

next_is : (cells : List ConvexCell) (position : ℤ) (i cut : ℕ) (excess at : ℤ) → i < length cells → (h : IsCutting cells position i cut excess at) → h.rest ≡ cell_at cells i ∷ drop (i + 1) cells
next_is cells position i cut excess at lt h = sym (left_is cells position i cut excess at h) ∙ drop-at cells i no_cell lt

more_parts : (front behind rest others : List ConvexCell) (c : ConvexCell) (cells : List ConvexCell) → cells ≡ (front ++ behind) ++ rest → rest ≡ c ∷ others → cells ≡ (front ++ (behind ++ c ∷ [])) ++ others
more_parts front behind rest others c cells parts next =
    let e = append_assoc front behind rest in
    let f = append_assoc front (behind ++ c ∷ []) others in
    let g = append_assoc behind (c ∷ []) others in
    parts ∙ append_assoc front behind rest ∙ ap (λ r. front ++ (behind ++ r)) next ∙ ap (λ r. front ++ r) (sym g) ∙ sym f

cut_parts : (front behind others : List ConvexCell) (c : ConvexCell) (cells : List ConvexCell) → cells ≡ (front ++ (behind ++ c ∷ [])) ++ others → cells ≡ ((front ++ (behind ++ c ∷ [])) ++ []) ++ others
cut_parts front behind others c cells parts = rw append-nil parts

-- what the cells behind the cut and one more rise by
rises_more : (behind : List ConvexCell) (c : ConvexCell) (x y : ℤ) → y ≡ x +ℤ span width_of behind → rises width_of rise_of x (behind ++ c ∷ []) ≡ rises width_of rise_of x behind ++ c.rise y ∷ []
rises_more behind c x y e = rises-append width_of rise_of behind (c ∷ []) x y e

total_more : (rs : List ℤ) (r excess : ℤ) → excess ≡ total rs → total (rs ++ r ∷ []) ≡ excess +ℤ r
total_more rs r excess e =
    let f = total-append rs (r ∷ []) in
    omega (arith, ints)

-- the excess stays below 0: the cut stays where it is
pub cutting_stays : (cells : List ConvexCell) (position : ℤ) (i cut : ℕ) (excess at : ℤ) → i < length cells → IsCutting cells position i cut excess at → neg_ℤ (pos (2 ^ 57)) ≤ℤ (cell_at cells i).rise at → (excess +ℤ (cell_at cells i).rise at) <ℤ pos 0 → IsCutting cells position (i + 1) cut (excess +ℤ (cell_at cells i).rise at) (at +ℤ (cell_at cells i).width)
cutting_stays cells position i cut excess at lt h range under =
    let c = cell_at cells i in
    let next = next_is cells position i cut excess at lt h in
    let middle = position +ℤ span width_of h.front in
    let spans = span-append width_of h.behind (c ∷ []) in
    let more = rises_more h.behind c middle at h.here in
    let rs = rises width_of rise_of middle h.behind in
    let here = h.here in
    let low = h.low in
    let count = length-append h.behind (c ∷ []) in
    let size = h.size in
    let sum = h.sum in
    record {
      front = h.front;
      behind = h.behind ++ c ∷ [];
      rest = drop (i + 1) cells;
      parts = more_parts h.front h.behind h.rest (drop (i + 1) cells) c cells h.parts next;
      count = h.count;
      size = omega arith;
      here = omega (arith, ints);
      lasts = h.lasts;
      firsts = rw more (firsts-append (pos 0) rs (c.rise at ∷ []) h.firsts (omega (arith, ints), tt));
      sum = rw more (sym (total_more rs (c.rise at) excess h.sum));
      low = omega (arith, ints);
      high = omega (arith, ints);
    }

-- it does not: all cells so far are before the cut
pub cutting_moves : (cells : List ConvexCell) (position : ℤ) (i cut : ℕ) (excess at : ℤ) → i < length cells → IsCutting cells position i cut excess at → pos 0 ≤ℤ (excess +ℤ (cell_at cells i).rise at) → IsCutting cells position (i + 1) (i + 1) (pos 0) (at +ℤ (cell_at cells i).width)
cutting_moves cells position i cut excess at lt h over =
    let c = cell_at cells i in
    let next = next_is cells position i cut excess at lt h in
    let middle = position +ℤ span width_of h.front in
    let run = h.behind ++ c ∷ [] in
    let spans = span-append width_of h.behind (c ∷ []) in
    let all = span-append width_of h.front run in
    let more = rises_more h.behind c middle at h.here in
    let rs = rises width_of rise_of middle h.behind in
    let here = h.here in
    let count = length-append h.behind (c ∷ []) in
    let count2 = length-append h.front run in
    let size = h.size in
    let front = h.count in
    let sum = h.sum in
    let high = h.high in
    let r = c.rise at in
    let last : LastsAtLeastZero (pos 0) (r ∷ []) = (omega (arith, ints), tt) in
    let segment : LastsAtLeastZero (pos 0) (rs ++ r ∷ []) = lasts-append (pos 0) rs (r ∷ []) (lasts_from_firsts (pos 0) (total (r ∷ []) +ℤ pos 0) rs (omega (arith, ints)) (omega (arith, ints)) h.firsts) last in
    let sums = total_more rs r excess h.sum in
    let others : LastsAtLeastZero (total (rs ++ r ∷ []) +ℤ pos 0) (rises width_of rise_of position h.front) = lasts_above (pos 0) (total (rs ++ r ∷ []) +ℤ pos 0) (rises width_of rise_of position h.front) (rises width_of rise_of position h.front) (omega (arith, ints)) (same_below (rises width_of rise_of position h.front)) h.lasts in
    let whole = rises-append width_of rise_of h.front run position middle refl in
    let parts = more_parts h.front h.behind h.rest (drop (i + 1) cells) c cells h.parts next in
    record {
      front = h.front ++ run;
      behind = [];
      rest = drop (i + 1) cells;
      parts = cut_parts h.front h.behind (drop (i + 1) cells) c cells parts;
      count = omega arith;
      size = omega arith;
      here = omega (arith, ints);
      lasts = rw (whole, more) (lasts-append (pos 0) (rises width_of rise_of position h.front) (rs ++ r ∷ []) others segment);
      firsts = tt;
      sum = refl;
      low = omega (arith, ints);
      high = omega (arith, ints);
    }

pub cutting_end : (cells : List ConvexCell) (position : ℤ) (i cut : ℕ) (excess at : ℤ) → length cells ≤ i → i ≤ length cells → IsCutting cells position i cut excess at → IsCut cells position cut
cutting_end cells position i cut excess at l g h =
    let none : h.rest ≡ [] = sym (left_is cells position i cut excess at h) ∙ drop-all cells cells i refl l g in
    record {
      front = h.front;
      behind = h.behind;
      parts = h.parts ∙ ap (λ r. (h.front ++ h.behind) ++ r) none ∙ append-nil (h.front ++ h.behind);
      count = h.count;
      lasts = h.lasts;
      firsts = h.firsts;
    }

-- ---- so many cells of a row
pub some_count : (cells : List ConvexCell) (first count : ℕ) → first + count ≤ length cells → length (some_cells first count cells) ≡ count
some_count cells first count room =
    let e = length-take count (drop first cells) in
    let f = length-drop first cells in
    omega arith

pub some_at : (cells : List ConvexCell) (first count i : ℕ) → i < count → cell_at (some_cells first count cells) i ≡ cell_at cells (first + i)
some_at cells first count i lt = get_or-take count (drop first cells) i no_cell lt ∙ get_or-drop first cells i no_cell

-- where the walk is
pub cutting_range : (cells : List ConvexCell) (position : ℤ) (i cut : ℕ) (excess at : ℤ) → AllByRecursion (IsSized width_of) cells → IsCutting cells position i cut excess at → (position ≤ℤ at) × (at ≤ℤ (position +ℤ span width_of cells))
cutting_range cells position i cut excess at sized h =
    let all : AllByRecursion (IsSized width_of) ((h.front ++ h.behind) ++ h.rest) = rw h.parts at sized in
    let done = all_front (IsSized width_of) (h.front ++ h.behind) h.rest all in
    let first = span_low width_of h.front (all_front (IsSized width_of) h.front h.behind done) in
    let second = span_low width_of h.behind (all_behind (IsSized width_of) h.front h.behind done) in
    let third = span_low width_of h.rest (all_behind (IsSized width_of) (h.front ++ h.behind) h.rest all) in
    let sum = span-append width_of (h.front ++ h.behind) h.rest in
    let sum2 = span-append width_of h.front h.behind in
    let whole = ap (span width_of) h.parts in
    let here = h.here in
    (omega (arith, ints), omega (arith, ints))

pub cut_in : (cells : List ConvexCell) (position : ℤ) (cut : ℕ) → IsCut cells position cut → cut ≤ length cells
cut_in cells position cut h =
    let sizes = length-append h.front h.behind in
    let whole = ap length h.parts in
    let count = h.count in
    omega arith
