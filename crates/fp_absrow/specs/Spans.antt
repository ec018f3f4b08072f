-- Spans of a row's cells, one behind the other, each with the levels between which all its cells have a best one.
use Rattle.std.specs.Prelude.{◌≡◌, ℕ, zero, suc, ◌-◌, ◌<◌, ◌≤◌, ℤ, pos, ◌+ℤ◌, ◌-ℤ◌, ◌≤ℤ◌, ◌<ℤ◌, List, [], ◌∷◌, ◌++◌, length, take, drop, get_or}
use Rattle.fp_rows.specs.Runs.{FirstsAtMostZero, LastsAtLeastZero, rises, span}
use Rattle.fp_absrow.specs.ConvexCells.{ConvexCell, width_of, rise_of}
use Rattle.fp_absrow.specs.declared.span.Span.{Span}

-- so many cells from the first on
abbrev pub some_cells : ℕ → ℕ → List ConvexCell → List ConvexCell
some_cells first count cells = take count (drop first cells)

-- Cells that touch, the first at the position, in two runs: of the first run no last few would cost less further left, and of the second no first
-- few would cost less, or as much, where they are.
pub record IsCut (cells : List ConvexCell) (position : ℤ) (cut : ℕ) : Type 0 where
  pub front : List ConvexCell
  pub behind : List ConvexCell
  pub parts : cells ≡ front ++ behind
  pub count : length front ≡ cut
  pub lasts : LastsAtLeastZero (pos 0) (rises width_of rise_of position front)
  pub firsts : FirstsAtMostZero (pos 0) (rises width_of rise_of (position +ℤ span width_of front) behind)

-- For a run of cells, the first of them `offset` behind its level, there are best levels from low to high: the costs of its first few do not rise
-- up to low, nor do those of its last few fall from high, unless these are the ends, lo and top.
pub record IsBlock (lo top offset low high : ℤ) (run : List ConvexCell) : Type 0 where
  pub firsts : lo <ℤ low → FirstsAtMostZero (pos 0) (rises width_of rise_of ((low -ℤ pos 1) +ℤ offset) run)
  pub lasts : high <ℤ top → LastsAtLeastZero (pos 0) (rises width_of rise_of (high +ℤ offset) run)

-- the first cells are the span, and something is so of the others
pub record IsPending (lo top from offset : ℤ) (cells : List ConvexCell) (s : Span) (others : ℤ → List ConvexCell → Type 0) : Type 0 where
  pub run : List ConvexCell
  pub rest : List ConvexCell
  pub parts : cells ≡ run ++ rest
  pub count : length run ≡ s.cells
  pub some : 0 < s.cells
  pub rising : from ≤ℤ s.low
  pub ordered : s.low ≤ℤ s.high
  pub ends : s.high ≤ℤ top
  pub block : IsBlock lo top offset s.low s.high run
  pub behind : others (offset +ℤ span width_of run) rest

-- the cells are these spans, whose levels do not fall, from a level on
abbrev pub ArePending : ℤ → ℤ → ℤ → ℤ → List ConvexCell → List Span → Type 0
ArePending lo top from offset cells [] = cells ≡ []
ArePending lo top from offset cells (s ∷ ss) = IsPending lo top from offset cells s (λ o rest. ArePending lo top s.high o rest ss)

-- the first cells of a span, up to a level, where there are some
unfoldable pub front_of : Span → ℤ → ℕ → List Span
front_of s level zero = []
front_of s level (suc n) = record { cells = suc n; low = s.low; high = level } ∷ []

-- its last cells, above the level, where there are some
unfoldable pub back_of : Span → ℤ → ℕ → List Span
back_of s level zero = []
back_of s level (suc n) = record { cells = suc n; low = level +ℤ pos 1; high = s.high } ∷ []

-- the span at the level: those of its first cells, and of its last
abbrev pub parts_of : Span → ℕ → ℤ → List Span → List Span
parts_of s cut level others = front_of s level cut ++ (back_of s level (s.cells - cut) ++ others)

abbrev pub span_at : List Span → ℕ → Span
span_at spans i = get_or spans i (record { cells = 0; low = pos 0; high = pos 0 })

-- a span that can be parted there, with room in front of it for one more where there are two parts
pub record CanPart (spans : List Span) (first cut : ℕ) (level : ℤ) : Type 0 where
  pub within : first < length spans
  pub some : 0 < (span_at spans first).cells
  pub cells : cut ≤ (span_at spans first).cells
  pub below : level <ℤ (span_at spans first).high
  pub room : 0 < cut → cut < (span_at spans first).cells → 0 < first
