-- Runs of cells that touch: their widths, what their costs rise by, and how their positions are written one after the other. Nothing here knows
-- what kind of cell it is.
use Rattle.std.proofs.Common.{◌≡◌, ℕ, ◌+◌, ◌<◌, ◌≤◌, ℤ, pos, ◌+ℤ◌, ◌≤ℤ◌, List, [], ◌∷◌, ◌++◌, length, take, drop, set, get_or, arith, ap, ◌∙◌, refl, append_assoc}
use Rattle.std.proofs.lemmas.Int.{ints}
use Rattle.std.proofs.lemmas.List.{take_more_set, append-nil}
use Rattle.std.proofs.Math.Seq.{drop-length}
use Rattle.std.specs.List.{AllByRecursion}
use Rattle.fp_rows.specs.Runs.{span, packed, rises}
use Rattle.fp_rows.specs.Lists.{drop-at, drop-all}

pub span-append : {Cell : Type 0} (width : Cell → ℤ) (run others : List Cell) → span width (run ++ others) ≡ span width run +ℤ span width others
span-append width [] others = omega (arith, ints)
span-append width (c ∷ cs) others =
    let e = span-append width cs others in
    omega (arith, ints)

pub rises-append : {Cell : Type 0} (width : Cell → ℤ) (rise : Cell → ℤ → ℤ) (run others : List Cell) (x y : ℤ) → y ≡ x +ℤ span width run → rises width rise x (run ++ others) ≡ rises width rise x run ++ rises width rise y others
rises-append width rise [] others x y e =
    let here : x ≡ y = omega (arith, ints) in
    ap (λ z. rises width rise z others) here
rises-append width rise (c ∷ cs) others x y e = ap (λ rs. rise c x ∷ rs) (rises-append width rise cs others (x +ℤ width c) y (omega (arith, ints)))

-- ---- widths
abbrev pub IsSized : {Cell : Type 0} → (Cell → ℤ) → Cell → Type 0
IsSized width c = pos 0 ≤ℤ width c

pub span_low : {Cell : Type 0} (width : Cell → ℤ) (cells : List Cell) → AllByRecursion (IsSized width) cells → pos 0 ≤ℤ span width cells
span_low width [] h = omega (arith, ints)
span_low width (c ∷ cs) h =
    let others = span_low width cs h.1 in
    omega (arith, ints, h.0)

-- the width of the cells before i
pub record IsWide {Cell : Type 0} (width : Cell → ℤ) (cells : List Cell) (i : ℕ) (sum : ℤ) : Type 0 where
  pub each : AllByRecursion (IsSized width) (drop i cells)
  pub whole : sum +ℤ span width (drop i cells) ≡ span width cells
  pub low : pos 0 ≤ℤ sum

pub wide_start : {Cell : Type 0} (width : Cell → ℤ) (cells : List Cell) → AllByRecursion (IsSized width) cells → IsWide width cells 0 (pos 0)
wide_start width cells h = record { each = h; whole = omega (arith, ints); low = omega (arith, ints) }

wide_cons : {Cell : Type 0} (width : Cell → ℤ) (c : Cell) (cs : List Cell) (sum all : ℤ) → AllByRecursion (IsSized width) (c ∷ cs) → sum +ℤ span width (c ∷ cs) ≡ all → pos 0 ≤ℤ sum → AllByRecursion (IsSized width) cs × ((sum +ℤ width c) +ℤ span width cs ≡ all) × (pos 0 ≤ℤ (sum +ℤ width c))
wide_cons width c cs sum all h whole low = (h.1, omega (arith, ints), omega (arith, ints, h.0))

pub wide_next : {Cell : Type 0} (width : Cell → ℤ) (cells : List Cell) (i : ℕ) (sum : ℤ) (d : Cell) → i < length cells → IsWide width cells i sum → IsWide width cells (i + 1) (sum +ℤ width (get_or cells i d))
wide_next width cells i sum d lt h =
    let cut = drop-at cells i d lt in
    let m = wide_cons width (get_or cells i d) (drop (i + 1) cells) sum (span width cells) (rw cut at h.each) (rw cut at h.whole) h.low in
    record { each = m.0; whole = m.1; low = m.2 }

pub wide_most : {Cell : Type 0} (width : Cell → ℤ) (cells : List Cell) (i : ℕ) (sum : ℤ) → IsWide width cells i sum → sum ≤ℤ span width cells
wide_most width cells i sum h =
    let others = span_low width (drop i cells) h.each in
    omega (arith, ints, h.whole)

pub wide_end : {Cell : Type 0} (width : Cell → ℤ) (cells : List Cell) (i : ℕ) (sum : ℤ) → length cells ≤ i → i ≤ length cells → IsWide width cells i sum → sum ≡ span width cells
wide_end width cells i sum l g h =
    let cut : drop i cells ≡ [] = drop-all cells cells i refl l g in
    let whole = rw cut at h.whole in
    omega (arith, ints)

-- ---- positions, written from a place of the list on
pub record IsPacking {Cell : Type 0} (width : Cell → ℤ) (run : List Cell) (position : ℤ) (old xs : List ℤ) (start i : ℕ) (end : ℤ) : Type 0 where
  pub each : AllByRecursion (IsSized width) (drop i run)
  pub whole : end +ℤ span width (drop i run) ≡ position +ℤ span width run
  pub low : pos 0 ≤ℤ end
  pub placed : take (start + i) xs ++ packed width end (drop i run) ≡ take start old ++ packed width position run

pub packing_start : {Cell : Type 0} (width : Cell → ℤ) (run : List Cell) (position : ℤ) (xs : List ℤ) (start : ℕ) → AllByRecursion (IsSized width) run → pos 0 ≤ℤ position → IsPacking width run position xs xs start 0 position
packing_start width run position xs start each low =
    let here : start + 0 ≡ start = omega arith in
    record { each = each; whole = refl; low = low; placed = rw here refl }

pub packing_most : {Cell : Type 0} (width : Cell → ℤ) (run : List Cell) (position : ℤ) (old xs : List ℤ) (start i : ℕ) (end : ℤ) → IsPacking width run position old xs start i end → end ≤ℤ (position +ℤ span width run)
packing_most width run position old xs start i end h =
    let others = span_low width (drop i run) h.each in
    omega (arith, ints, h.whole)

packing_cons : {Cell : Type 0} (width : Cell → ℤ) (c : Cell) (cs : List Cell) (end all : ℤ) (front : List ℤ) (placed : List ℤ) → AllByRecursion (IsSized width) (c ∷ cs) → end +ℤ span width (c ∷ cs) ≡ all → pos 0 ≤ℤ end → front ++ packed width end (c ∷ cs) ≡ placed → AllByRecursion (IsSized width) cs × ((end +ℤ width c) +ℤ span width cs ≡ all) × (pos 0 ≤ℤ (end +ℤ width c)) × ((front ++ end ∷ []) ++ packed width (end +ℤ width c) cs ≡ placed)
packing_cons width c cs end all front placed each whole low same = (each.1, omega (arith, ints), omega (arith, ints, each.0), append_assoc front (end ∷ []) (packed width (end +ℤ width c) cs) ∙ same)

pub packing_next : {Cell : Type 0} (width : Cell → ℤ) (run : List Cell) (position : ℤ) (old xs : List ℤ) (start i : ℕ) (end : ℤ) (d : Cell) → i < length run → start + length run ≤ length xs → IsPacking width run position old xs start i end → IsPacking width run position old (set xs (start + i) end) start (i + 1) (end +ℤ width (get_or run i d))
packing_next width run position old xs start i end d lt room h =
    let cut = drop-at run i d lt in
    let m = packing_cons width (get_or run i d) (drop (i + 1) run) end (position +ℤ span width run) (take (start + i) xs) (take start old ++ packed width position run) (rw cut at h.each) (rw cut at h.whole) h.low (rw cut at h.placed) in
    let here : start + (i + 1) ≡ (start + i) + 1 = omega arith in
    let more = take_more_set xs (start + i) end (omega arith) in
    record { each = m.0; whole = m.1; low = m.2; placed = rw (here, more) m.3 }

pub packing_end : {Cell : Type 0} (width : Cell → ℤ) (run : List Cell) (position : ℤ) (old xs : List ℤ) (start i : ℕ) (end : ℤ) → length run ≤ i → i ≤ length run → IsPacking width run position old xs start i end → (end ≡ position +ℤ span width run) × (take (start + length run) xs ≡ take start old ++ packed width position run)
packing_end width run position old xs start i end l g h =
    let here : i ≡ length run = omega arith in
    let cut : drop (length run) run ≡ [] = drop-length run in
    let whole = rw (here, cut) at h.whole in
    let placed = rw (here, cut, append-nil) at h.placed in
    (omega (arith, ints), placed)
