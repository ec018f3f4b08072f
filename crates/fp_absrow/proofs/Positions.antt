-- Positions that are set span by span.
use Rattle.std.proofs.Common.{◌≡◌, ℕ, ◌+◌, ◌<◌, ◌≤◌, ℤ, pos, ◌+ℤ◌, ◌-ℤ◌, ◌≤ℤ◌, ◌<ℤ◌, List, [], ◌∷◌, ◌++◌, length, take, drop, arith, ap, sym, ◌∙◌, refl, append_assoc}
use Rattle.std.proofs.lemmas.Int.{ints}
use Rattle.std.proofs.lemmas.List.{length-append, length-drop, append-nil, take_at, take_all}
use Rattle.std.specs.List.{AllByRecursion}
use Rattle.fp_rows.specs.Lists.{drop-at, drop-all, drop_run, all_front, all_behind}
use Rattle.fp_rows.specs.Runs.{rises, span, packed}
use Rattle.fp_rows.specs.RunsLaws.{IsSized, span-append, span_low}
use Rattle.fp_rows.specs.LeastDuals.{need}
use Rattle.fp_rows.specs.TightLaws.{Tight, tight_end, tight_gap, tight_first, need_before_run, left_over, nothing_left, tight_run}
use Rattle.fp_absrow.specs.ConvexCells.{ConvexCell, width_of, rise_of}
use Rattle.fp_absrow.specs.Spans.{some_cells, IsCut, IsBlock, ArePending, parts_of, span_at}
use Rattle.fp_absrow.specs.Tight.{AreTight}
use Rattle.fp_absrow.specs.declared.span.Span.{Span}
use Rattle.fp_absrow.proofs.Pending.{pending_parted, pending_count}

-- positions of the cells from a level on, which are tight whatever dual is left before them, and of which no dual is needed there
pub record IsGood (lo top hi from offset : ℤ) (cells : List ConvexCell) (ys : List ℤ) : Type 0 where
  pub tight : (spare : ℕ) → (from <ℤ top → spare ≡ 0) → Tight width_of rise_of (from +ℤ offset) hi spare cells ys
  pub unneeded : lo <ℤ from → need rise_of cells ys ≡ 0

good_end : (lo top hi from offset : ℤ) → from ≤ℤ top → hi ≡ top +ℤ offset → IsGood lo top hi from offset [] []
good_end lo top hi from offset le end = record {
  tight = λ spare left. tight_end (lo +ℤ offset) (top +ℤ offset) (from +ℤ offset) hi (from +ℤ offset) spare (omega (arith, ints)) refl end (λ lt. left (omega (arith, ints)));
  unneeded = λ lt. refl;
}

good_run : (lo top hi from at offset : ℤ) (run rest : List ConvexCell) (ys : List ℤ) → 0 < length run → lo ≤ℤ from → from ≤ℤ at → at ≤ℤ top → IsBlock lo top offset at at run → IsGood lo top hi at (offset +ℤ span width_of run) rest ys → IsGood lo top hi from offset (run ++ rest) (packed width_of (at +ℤ offset) run ++ ys)
good_run lo top hi from at offset run rest ys some low rising ends block h =
    let none : lo <ℤ at → need rise_of (run ++ rest) (packed width_of (at +ℤ offset) run ++ ys) ≡ 0 =
    λ lt. (let e = need_before_run width_of rise_of run rest ys (at +ℤ offset) ((at -ℤ pos 1) +ℤ offset) (pos 0) (omega (arith, ints)) (omega (arith, ints)) (block.firsts lt) (h.unneeded lt) in omega (arith, ints)) in
    let tight : (spare : ℕ) → (from <ℤ top → spare ≡ 0) → Tight width_of rise_of (from +ℤ offset) hi spare (run ++ rest) (packed width_of (at +ℤ offset) run ++ ys) =
    λ spare left.
    let rs = rises width_of rise_of (at +ℤ offset) run in
    let nothing : at <ℤ top → left_over spare rs ≡ 0 = λ lt. (let free = left (omega (arith, ints)) in rw free (nothing_left rs (block.lasts lt))) in
    let there : at +ℤ (offset +ℤ span width_of run) ≡ (at +ℤ offset) +ℤ span width_of run = omega (arith, ints) in
    let behind = tight_run width_of rise_of run rest ys (at +ℤ offset) (at +ℤ (offset +ℤ span width_of run)) hi spare there (h.tight (left_over spare rs) nothing) in
    let touching = tight_gap lo top from at (from +ℤ offset) offset spare (need rise_of (run ++ rest) (packed width_of (at +ℤ offset) run ++ ys)) low ends rising refl left none in
    tight_first width_of rise_of run rest ys (from +ℤ offset) (at +ℤ offset) hi spare some (omega (arith, ints)) touching behind in
    record { tight = tight; unneeded = λ lt. none (omega (arith, ints)) }

-- the first cells have their positions, and the others are the spans of the stack
pub record IsPlacing (lo top : ℤ) (cells : List ConvexCell) (work : List Span) (xs : List ℤ) (first placed : ℕ) (before : ℤ) : Type 0 where
  pub from : ℤ
  pub pending : ArePending lo top from before (drop placed cells) (drop first work)
  pub from_lo : lo ≤ℤ from
  pub from_top : from ≤ℤ top
  pub placed_in : placed ≤ length cells
  pub first_in : first ≤ length work
  pub stack : length work ≡ length cells
  pub places : length xs ≡ length cells
  pub sized : AllByRecursion (IsSized width_of) (drop placed cells)
  pub whole : before +ℤ span width_of (drop placed cells) ≡ span width_of cells
  pub low : pos 0 ≤ℤ before
  pub so_far : (ys : List ℤ) → IsGood lo top (top +ℤ span width_of cells) from before (drop placed cells) ys → IsGood lo top (top +ℤ span width_of cells) lo (pos 0) cells (take placed xs ++ ys)

pub placing_start : (lo top : ℤ) (cells : List ConvexCell) (work : List Span) (xs : List ℤ) (first : ℕ) → AllByRecursion (IsSized width_of) cells → lo ≤ℤ top → length work ≡ length cells → length xs ≡ length cells → first < length work → drop first work ≡ record { cells = length work; low = lo; high = top } ∷ [] → IsPlacing lo top cells work xs first 0 (pos 0)
placing_start lo top cells work xs first sized le stack places lt laid =
    let all : ArePending lo top lo (pos 0) cells (record { cells = length work; low = lo; high = top } ∷ []) = record {
      run = cells;
      rest = [];
      parts = sym (append-nil cells);
      count = sym stack;
      some = omega arith;
      rising = omega (arith, ints);
      ordered = le;
      ends = omega (arith, ints);
      block = record { firsts = λ a. absurd (omega (arith, ints)); lasts = λ a. absurd (omega (arith, ints)) };
      behind = refl;
    } in
    record {
      from = lo;
      pending = rw laid all;
      from_lo = omega (arith, ints);
      from_top = le;
      placed_in = omega arith;
      first_in = omega arith;
      stack = stack;
      places = places;
      sized = sized;
      whole = omega (arith, ints);
      low = omega (arith, ints);
      so_far = λ ys good. good;
    }

-- the span whose turn it is
pub record IsHead (lo top : ℤ) (cells : List ConvexCell) (first placed : ℕ) (before : ℤ) (s : Span) (run rest : List ConvexCell) : Type 0 where
  pub slice : some_cells placed s.cells cells ≡ run
  pub parts : drop placed cells ≡ run ++ rest
  pub count : length run ≡ s.cells
  pub some : 0 < s.cells
  pub room : placed + s.cells ≤ length cells
  pub low : lo ≤ℤ s.low
  pub ordered : s.low ≤ℤ s.high
  pub ends : s.high ≤ℤ top
  pub wide : pos 0 ≤ℤ span width_of run
  pub within : (before +ℤ span width_of run) ≤ℤ span width_of cells
  pub stack : 1 < s.cells → 0 < first

pub record Head (lo top : ℤ) (cells : List ConvexCell) (first placed : ℕ) (before : ℤ) (s : Span) : Type 0 where
  pub run : List ConvexCell
  pub rest : List ConvexCell
  pub is : IsHead lo top cells first placed before s run rest

pub pending_here : (lo top : ℤ) (cells : List ConvexCell) (work : List Span) (xs : List ℤ) (first placed : ℕ) (before : ℤ) → first < length work → (h : IsPlacing lo top cells work xs first placed before) → ArePending lo top h.from before (drop placed cells) (span_at work first ∷ drop (first + 1) work)
pending_here lo top cells work xs first placed before lt h = rw (drop-at work first (record { cells = 0; low = pos 0; high = pos 0 }) lt) at h.pending

pub head_of : (lo top : ℤ) (cells : List ConvexCell) (work : List Span) (xs : List ℤ) (first placed : ℕ) (before : ℤ) → first < length work → IsPlacing lo top cells work xs first placed before → Head lo top cells first placed before (span_at work first)
head_of lo top cells work xs first placed before lt h =
    let p = pending_here lo top cells work xs first placed before lt h in
    let s = span_at work first in
    let parts = p.parts in
    let all = length-append p.run p.rest in
    let left = length-drop placed cells in
    let same = ap length parts in
    let sum = span-append width_of p.run p.rest in
    let sums = ap (span width_of) parts in
    let placed_in = h.placed_in in
    let stack = h.stack in
    let count = p.count in
    let some = p.some in
    let sized : AllByRecursion (IsSized width_of) (p.run ++ p.rest) = rw parts at h.sized in
    let wide = span_low width_of p.run (all_front (IsSized width_of) p.run p.rest sized) in
    let wide2 = span_low width_of p.rest (all_behind (IsSized width_of) p.run p.rest sized) in
    let whole = h.whole in
    let from = h.from_lo in
    let rising = p.rising in
    let more = pending_count lo top s.high (before +ℤ span width_of p.run) p.rest (drop (first + 1) work) p.behind in
    let spans = length-drop (first + 1) work in
    record {
      run = p.run;
      rest = p.rest;
      is = record {
        slice = rw parts (take_at p.run p.rest s.cells p.count);
        parts = parts;
        count = p.count;
        some = p.some;
        room = omega arith;
        low = omega (arith, ints);
        ordered = p.ordered;
        ends = p.ends;
        wide = wide;
        within = omega (arith, ints);
        stack = λ two. omega arith;
      };
    }

-- the cells of a span of one level have their positions
pub placed_more : (lo top : ℤ) (cells : List ConvexCell) (work : List Span) (xs : List ℤ) (first placed : ℕ) (before : ℤ) → first < length work → IsPlacing lo top cells work xs first placed before → (span_at work first).low ≡ (span_at work first).high → (ys : List ℤ) → length ys ≡ length xs → take (placed + (span_at work first).cells) ys ≡ take placed xs ++ packed width_of ((span_at work first).low +ℤ before) (some_cells placed (span_at work first).cells cells) → IsPlacing lo top cells work ys (first + 1) (placed + (span_at work first).cells) (before +ℤ span width_of (some_cells placed (span_at work first).cells cells))
placed_more lo top cells work xs first placed before lt h one ys same set =
    let p = pending_here lo top cells work xs first placed before lt h in
    let head = head_of lo top cells work xs first placed before lt h in
    let s = span_at work first in
    let parts = p.parts in
    let slice : some_cells placed s.cells cells ≡ p.run = rw parts (take_at p.run p.rest s.cells p.count) in
    let left : drop (placed + s.cells) cells ≡ p.rest = drop_run cells p.run p.rest placed s.cells parts p.count in
    let sized : AllByRecursion (IsSized width_of) (p.run ++ p.rest) = rw parts at h.sized in
    let sum = span-append width_of p.run p.rest in
    let whole : before +ℤ span width_of (p.run ++ p.rest) ≡ span width_of cells = rw parts at h.whole in
    let set2 : take (placed + s.cells) ys ≡ take placed xs ++ packed width_of (s.low +ℤ before) p.run = rw slice at set in
    let some : 0 < length p.run = (let a = p.some in let b = p.count in omega arith) in
    let ends = p.ends in
    let rising = p.rising in
    let from = h.from_lo in
    let wide = head.is.wide in
    let low = h.low in
    let within = head.is.room in
    let stack = h.stack in
    let places = h.places in
    let block : IsBlock lo top before s.low s.low p.run = rw (sym one) at p.block in
    let behind : ArePending lo top s.low (before +ℤ span width_of p.run) p.rest (drop (first + 1) work) = rw (sym one) at p.behind in
    let widths = span_low width_of p.run (all_front (IsSized width_of) p.run p.rest sized) in
    rw slice (record {
      from = s.low;
      pending = rw left behind;
      from_lo = omega (arith, ints);
      from_top = omega (arith, ints);
      placed_in = within;
      first_in = omega arith;
      stack = h.stack;
      places = same ∙ h.places;
      sized = rw left (all_behind (IsSized width_of) p.run p.rest sized);
      whole = rw left (omega (arith, ints));
      low = omega (arith, ints);
      so_far = λ zs good.
          let on = good_run lo top (top +ℤ span width_of cells) h.from s.low before p.run p.rest zs some h.from_lo p.rising (omega (arith, ints)) block (rw left at good) in
          let all = h.so_far (packed width_of (s.low +ℤ before) p.run ++ zs) (rw parts on) in
          rw set2 (rw (← append_assoc (take placed xs) (packed width_of (s.low +ℤ before) p.run) zs) at all);
    })

-- a span is parted
pub parted_more : (lo top : ℤ) (cells : List ConvexCell) (work : List Span) (xs : List ℤ) (first placed : ℕ) (before : ℤ) → first < length work → IsPlacing lo top cells work xs first placed before → (level : ℤ) (cut : ℕ) → (span_at work first).low ≤ℤ level → level <ℤ (span_at work first).high → IsCut (some_cells placed (span_at work first).cells cells) (level +ℤ before) cut → (work2 : List Span) (first2 : ℕ) → length work2 ≡ length work → first2 ≤ length work2 → drop first2 work2 ≡ parts_of (span_at work first) cut level (drop (first + 1) work) → IsPlacing lo top cells work2 xs first2 placed before
parted_more lo top cells work xs first placed before lt h level cut low high cutting work2 first2 same within parted =
    let p = pending_here lo top cells work xs first placed before lt h in
    let parts = pending_parted lo top h.from before level (drop placed cells) (span_at work first) (drop (first + 1) work) cut p low high cutting in
    record {
      from = h.from;
      pending = rw parted parts;
      from_lo = h.from_lo;
      from_top = h.from_top;
      placed_in = h.placed_in;
      first_in = within;
      stack = same ∙ h.stack;
      places = h.places;
      sized = h.sized;
      whole = h.whole;
      low = h.low;
      so_far = h.so_far;
    }

pub placing_end : (lo top : ℤ) (cells : List ConvexCell) (work : List Span) (xs : List ℤ) (first placed : ℕ) (before : ℤ) → length work ≤ first → IsPlacing lo top cells work xs first placed before → AreTight cells lo (top +ℤ span width_of cells) xs
placing_end lo top cells work xs first placed before done h =
    let first_in = h.first_in in
    let none : drop first work ≡ [] = drop-all work work first refl done first_in in
    let left : drop placed cells ≡ [] = rw none at h.pending in
    let count = length-drop placed cells in
    let same = ap length left in
    let placed_in = h.placed_in in
    let places = h.places in
    let whole : before +ℤ span width_of [] ≡ span width_of cells = rw left at h.whole in
    let end = good_end lo top (top +ℤ span width_of cells) h.from before h.from_top (omega (arith, ints)) in
    let all = h.so_far [] (rw left end) in
    let every : take placed xs ++ [] ≡ xs = append-nil (take placed xs) ∙ take_all placed xs (omega arith) in
    let tight = (rw every at all).tight 0 (λ lt. refl) in
    let start : lo +ℤ pos 0 ≡ lo = omega (arith, ints) in
    rw start at tight
