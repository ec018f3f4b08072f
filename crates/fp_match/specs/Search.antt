-- A search for a shortest augmenting path for one more row: what is known in its course, and what its steps do.
use Rattle.std.specs.Prelude.{◌≡◌, ◌≢◌, ℕ, ◌+◌, ◌*◌, ◌^◌, ◌<◌, ◌≤◌, ◌⊎◌, nat_lt, if◌then◌else◌, min, List, length, slice_index, slice_set}
use Rattle.fp_match.specs.declared.labels.Labels.{Labels}
use Rattle.fp_match.specs.declared.matching.Matching.{Matching}
use Rattle.fp_match.specs.declared.closed.Closed.{Closed}
use Rattle.fp_match.specs.declared.scan.Turn.{Turn}
use Rattle.fp_match.specs.Prices.{AreDistinctBelow, IsBest}
use Rattle.fp_match.specs.Owners.{Agree, unused}

-- the label of a row that is not reached
abbrev pub far : ℕ
far = 2 ^ 62

abbrev pub label_of : Labels → ℕ → ℕ
label_of l n = slice_index l.label.items n

abbrev pub row_at : Labels → ℕ → ℕ
row_at l k = slice_index l.reached.items k

abbrev pub parent_of : Labels → ℕ → ℕ
parent_of l n = slice_index l.parent.items n

abbrev pub owner_of : Matching → ℕ → ℕ
owner_of m s = slice_index m.owner.items s

abbrev pub column_of : Matching → ℕ → ℕ
column_of m n = slice_index m.column_of.items n

abbrev pub price_of : Matching → ℕ → ℕ
price_of m s = slice_index m.prices.items s

-- there is room for the row
pub record HasRoom (row : ℕ) (l : Labels) : Type 0 where
  pub labels : row < length l.label.items
  pub parents : row < length l.parent.items
  pub places : row < length l.reached.items

pub record Fits (columns row : ℕ) (m : Matching) : Type 0 where
  pub chosen : row < length m.column_of.items
  pub owners : columns ≤ length m.owner.items
  pub prices : columns ≤ length m.prices.items

-- The first rows have columns of their own, and with these prices each has its best.
pub record IsMatching (cost : ℕ → ℕ → ℕ) (columns rows : ℕ) (m : Matching) : Type 0 where
  pub agree : Agree columns rows m.column_of.items m.owner.items
  pub free : (s : ℕ) → s < columns → rows ≤ owner_of m s → price_of m s ≡ 0
  pub best : (n : ℕ) → n < rows → IsBest cost columns m.prices.items n (column_of m n)
  pub capped : (s : ℕ) → s < columns → price_of m s ≤ 2 ^ 36

-- the cost and price of the row's column, 0 where it has none
unfoldable pub least_of : (ℕ → ℕ → ℕ) → ℕ → Matching → ℕ → ℕ
least_of cost row m n = if nat_lt n row then cost n (column_of m n) + price_of m (column_of m n) else 0

-- From row n column s lies no nearer than its label, or than the level.
pub record Covered (cost : ℕ → ℕ → ℕ) (row : ℕ) (m : Matching) (l : Labels) (n s : ℕ) : Type 0 where
  pub free : row ≤ owner_of m s → l.level + least_of cost row m n ≤ label_of l n + (cost n s + price_of m s)
  pub held : owner_of m s < row
      → min l.level (label_of l (owner_of m s)) + least_of cost row m n ≤ label_of l n + (cost n s + price_of m s)

-- the row at place k lies as far as its parent says
pub record IsLink (cost : ℕ → ℕ → ℕ) (row : ℕ) (m : Matching) (l : Labels) (k : ℕ) : Type 0 where
  pub earlier : parent_of l (row_at l k) < k
  pub settled : parent_of l (row_at l k) ≤ l.at
  pub tight : label_of l (row_at l k) + least_of cost row m (row_at l (parent_of l (row_at l k)))
      ≡ label_of l (row_at l (parent_of l (row_at l k)))
      + (cost (row_at l (parent_of l (row_at l k))) (column_of m (row_at l k)) + price_of m (column_of m (row_at l k)))

-- an unused column lies at the level
pub record IsSink (cost : ℕ → ℕ → ℕ) (columns row : ℕ) (m : Matching) (l : Labels) : Type 0 where
  pub within : l.sink < columns
  pub free : row ≤ owner_of m l.sink
  pub settled : l.last ≤ l.at
  pub tight : l.level + least_of cost row m (row_at l l.last)
      ≡ label_of l (row_at l l.last) + (cost (row_at l l.last) l.sink + price_of m l.sink)

-- A row that has no label, or that stands among those reached.
abbrev pub IsFound : Labels → ℕ → Type 0
IsFound l n = (k : ℕ) × (k < l.count) × (row_at l k ≡ n)

-- what the search for the row knows, but for the columns that the row settled last reaches
pub record IsTree (cost : ℕ → ℕ → ℕ) (columns row : ℕ) (m : Matching) (l : Labels) : Type 0 where
  pub room : HasRoom row l
  pub start : row_at l 0 ≡ row
  pub start_label : label_of l row ≡ 0
  pub within : l.at < l.count
  pub places : l.count ≤ length l.reached.items
  pub reached : (k : ℕ) → k < l.count → row_at l k ≤ row
  pub near : (k : ℕ) → k < l.count → label_of l (row_at l k) < far
  pub distinct : AreDistinctBelow l.count l.reached.items
  pub found : (n : ℕ) → n < length l.label.items → (label_of l n ≡ far) ⊎ IsFound l n
  pub before : (k : ℕ) → k ≤ l.at → label_of l (row_at l k) ≤ label_of l (row_at l l.at)
  pub after : (k : ℕ) → l.at < k → k < l.count → label_of l (row_at l l.at) ≤ label_of l (row_at l k)
  pub level_most : l.level ≤ far
  pub level_after : label_of l (row_at l l.at) ≤ l.level
  pub covered : (k s : ℕ) → k < l.at → s < columns → Covered cost row m l (row_at l k) s
  pub linked : (k : ℕ) → 0 < k → k < l.count → IsLink cost row m l k
  pub sunk : l.level < far → IsSink cost columns row m l

-- the column's row lies no farther than the row settled last
pub record IsClosed (row : ℕ) (m : Matching) (l : Labels) (s : ℕ) : Type 0 where
  pub held : owner_of m s < row
  pub near : label_of l (owner_of m s) ≤ label_of l (row_at l l.at)

abbrev pub mark_of : Closed → ℕ → ℕ
mark_of c s = slice_index c.search.items s

abbrev pub next_of : Closed → ℕ → ℕ
next_of c s = slice_index c.next.items s

-- there is a mark for each column
pub record HasMarks (m : Matching) (c : Closed) : Type 0 where
  pub searches : length c.search.items ≡ length m.owner.items
  pub nexts : length c.next.items ≡ length m.owner.items

-- only searches from the first rows have marked columns
pub record AreMarks (rows : ℕ) (m : Matching) (c : Closed) : Type 0 where
  pub room : HasMarks m c
  pub earlier : (s : ℕ) → s < length c.search.items → mark_of c s ≤ rows

-- from a column that the search for the row has marked all are closed up to the next one
pub record AreRuns (row : ℕ) (m : Matching) (l : Labels) (c : Closed) : Type 0 where
  pub marks : AreMarks (row + 1) m c
  pub behind : (s : ℕ) → s < length c.search.items → mark_of c s ≡ row + 1 → s < next_of c s
  pub closed : (s t : ℕ) → s < length c.search.items → mark_of c s ≡ row + 1 → s ≤ t → t < next_of c s → IsClosed row m l t

-- the columns from `from` up to `to` are covered from the row settled last
abbrev pub AreCovered : (ℕ → ℕ → ℕ) → ℕ → Matching → Labels → ℕ → ℕ → Type 0
AreCovered cost row m l from to = (s : ℕ) → from ≤ s → s < to → Covered cost row m l (row_at l l.at) s

-- More is known than before: nothing lies farther, and settled rows stay.
pub record Grown (old new : Labels) : Type 0 where
  pub at : new.at ≡ old.at
  pub level : new.level ≤ old.level
  pub size : length new.label.items ≡ length old.label.items
  pub sizes : (length new.parent.items ≡ length old.parent.items) × (length new.reached.items ≡ length old.reached.items)
  pub rows : (k : ℕ) → k ≤ old.at → row_at new k ≡ row_at old k
  pub labels : (n : ℕ) → label_of new n ≤ label_of old n
  pub settled : (k : ℕ) → k ≤ old.at → label_of new (row_at old k) ≡ label_of old (row_at old k)

-- what is known after columns were looked at
pub record Scanned (cost : ℕ → ℕ → ℕ) (columns row : ℕ) (m : Matching) (old new : Labels) (from to : ℕ) : Type 0 where
  pub tree : IsTree cost columns row m new
  pub grown : Grown old new
  pub covered : AreCovered cost row m new from to

-- the columns of a stripe are covered from the row settled last
abbrev pub StripeCovered : (ℕ → ℕ → ℕ) → ℕ → ℕ → ℕ → Matching → Labels → ℕ → Type 0
StripeCovered cost columns width row m l stripe =
    AreCovered cost row m l (stripe * width) (min (stripe * width + width) columns)

abbrev pub StripeScanned : (ℕ → ℕ → ℕ) → ℕ → ℕ → ℕ → Matching → Labels → Labels → ℕ → Type 0
StripeScanned cost columns width row m old new stripe =
    Scanned cost columns row m old new (stripe * width) (min (stripe * width + width) columns)

-- a column that the row settled last reaches at the label
pub record IsOffer (cost : ℕ → ℕ → ℕ) (columns row : ℕ) (m : Matching) (l : Labels) (s label : ℕ) : Type 0 where
  pub within : s < columns
  pub lower : label < l.level
  pub after : label_of l (row_at l l.at) ≤ label
  pub tight : label + least_of cost row m (row_at l l.at)
      ≡ label_of l (row_at l l.at) + (cost (row_at l l.at) s + price_of m s)
  pub agree : Agree columns row m.column_of.items m.owner.items
  pub few : row < unused

pub record Offered (cost : ℕ → ℕ → ℕ) (columns row : ℕ) (m : Matching) (old new : Labels) (s : ℕ) : Type 0 where
  pub tree : IsTree cost columns row m new
  pub grown : Grown old new
  pub covered : Covered cost row m new (row_at new new.at) s

-- the row settled last, its label and its least cost
pub record IsTurn (cost : ℕ → ℕ → ℕ) (row : ℕ) (m : Matching) (l : Labels) (t : Turn) : Type 0 where
  pub row_is : t.row ≡ row_at l l.at
  pub depth_is : t.depth ≡ label_of l (row_at l l.at)
  pub least_is : t.least ≡ least_of cost row m (row_at l l.at)

-- a row's label lowered, and its parent set to the row settled last
pub record IsLabelled (old new : Labels) (h v : ℕ) : Type 0 where
  pub label : new.label.items ≡ slice_set old.label.items h v
  pub parent : new.parent.items ≡ slice_set old.parent.items h old.at
  pub at : new.at ≡ old.at
  pub level : new.level ≡ old.level
  pub sink : new.sink ≡ old.sink
  pub last : new.last ≡ old.last

pub record IsLowered (old new : Labels) (h v : ℕ) : Type 0 where
  pub labelled : IsLabelled old new h v
  pub reached : new.reached.items ≡ old.reached.items
  pub count : new.count ≡ old.count

pub record IsEntered (old new : Labels) (h v : ℕ) : Type 0 where
  pub labelled : IsLabelled old new h v
  pub reached : new.reached.items ≡ slice_set old.reached.items old.count h
  pub count : new.count ≡ old.count + 1

pub record IsStarted (row : ℕ) (old new : Labels) : Type 0 where
  pub label : new.label.items ≡ slice_set old.label.items row 0
  pub parent : new.parent.items ≡ old.parent.items
  pub reached : new.reached.items ≡ slice_set old.reached.items 0 row
  pub count : new.count ≡ 1
  pub at : new.at ≡ 0
  pub level : new.level ≡ far

-- the places and labels of rows reached are in range, and none that waits lies nearer than the row settled last
pub record CanTake (l : Labels) : Type 0 where
  pub after : (k : ℕ) → l.at < k → k < l.count → label_of l (row_at l l.at) ≤ label_of l (row_at l k)
  pub within : l.at < l.count
  pub places : l.count ≤ length l.reached.items
  pub labels : (k : ℕ) → k < l.count → row_at l k < length l.label.items

-- the rows behind the first have columns
pub record HasPrices (m : Matching) (l : Labels) : Type 0 where
  pub rows : (k : ℕ) → 0 < k → k < l.count → row_at l k < length m.column_of.items
  pub columns : (k : ℕ) → 0 < k → k < l.count → column_of m (row_at l k) < length m.prices.items

-- the place of the nearest row that waits, if one does
pub record IsNearest (l : Labels) (k : ℕ) : Type 0 where
  pub waits : l.at < k
  pub none : l.count ≤ k → l.count ≤ l.at + 1
  pub least : k < l.count → (j : ℕ) → l.at < j → j < l.count → label_of l (row_at l k) ≤ label_of l (row_at l j)

-- no row waits nearer than the level
abbrev pub HasReached : Labels → Type 0
HasReached l = (k : ℕ) → l.at < k → k < l.count → l.level ≤ label_of l (row_at l k)

-- the row at place k was the nearest that waits, and is settled
pub record IsSettled (old new : Labels) (k : ℕ) : Type 0 where
  pub nearest : IsNearest old k
  pub waiting : k < old.count
  pub near : label_of old (row_at old k) < old.level
  pub label : new.label.items ≡ old.label.items
  pub parent : new.parent.items ≡ old.parent.items
  pub reached : new.reached.items ≡ slice_set (slice_set old.reached.items k (row_at old (old.at + 1))) (old.at + 1) (row_at old k)
  pub at : new.at ≡ old.at + 1
  pub count : new.count ≡ old.count
  pub level : new.level ≡ old.level
  pub sink : new.sink ≡ old.sink
  pub last : new.last ≡ old.last

abbrev pub IsTaken : Labels → Labels → Type 0
IsTaken old new = (k : ℕ) × IsSettled old new k

-- no row has a label
abbrev pub AreFar : Labels → Type 0
AreFar l = (n : ℕ) → n < length l.label.items → label_of l n ≡ far

pub record CanReset (l : Labels) : Type 0 where
  pub places : l.count ≤ length l.reached.items
  pub labels : (k : ℕ) → k < l.count → row_at l k < length l.label.items
  pub found : (n : ℕ) → n < length l.label.items → (label_of l n ≡ far) ⊎ IsFound l n

pub record IsReset (old new : Labels) : Type 0 where
  pub all_far : AreFar new
  pub size : length new.label.items ≡ length old.label.items
  pub sizes : (length new.parent.items ≡ length old.parent.items) × (length new.reached.items ≡ length old.reached.items)

-- the settled rows behind the first have columns of their own, and no label above the level
pub record CanRaise (chosen prices : List ℕ) (l : Labels) : Type 0 where
  pub places : l.at < length l.reached.items
  pub rows : (k : ℕ) → k ≤ l.at → 0 < k → (row_at l k < length chosen) × (row_at l k < length l.label.items)
  pub columns : (k : ℕ) → k ≤ l.at → 0 < k → slice_index chosen (row_at l k) < length prices
  pub apart : (i j : ℕ) → 0 < i → i < j → j ≤ l.at → slice_index chosen (row_at l i) ≢ slice_index chosen (row_at l j)
  pub near : (k : ℕ) → k ≤ l.at → label_of l (row_at l k) ≤ l.level
  pub level_most : l.level ≤ 2 ^ 36
  pub capped : (k : ℕ) → k ≤ l.at → 0 < k → slice_index prices (slice_index chosen (row_at l k)) ≤ 2 ^ 36

-- the prices of the first places are raised, the others stay
pub record AreRaised (chosen old new : List ℕ) (l : Labels) (places : ℕ) : Type 0 where
  pub size : length new ≡ length old
  pub raised : (k : ℕ) → 0 < k → k < places
      → slice_index new (slice_index chosen (row_at l k)) + label_of l (row_at l k)
      ≡ slice_index old (slice_index chosen (row_at l k)) + l.level
  pub same : (s : ℕ) → ((k : ℕ) → 0 < k → k < places → slice_index chosen (row_at l k) ≢ s) → slice_index new s ≡ slice_index old s
  pub rises : (s : ℕ) → slice_index old s ≤ slice_index new s

abbrev pub IsRaised : List ℕ → List ℕ → List ℕ → Labels → Type 0
IsRaised chosen old new l = AreRaised chosen old new l (l.at + 1)

-- As a matching of the first rows, but that nobody has the one column, which may still be marked as owned.
pub record IsHole (cost : ℕ → ℕ → ℕ) (columns row : ℕ) (m : Matching) (hole : ℕ) : Type 0 where
  pub space : Fits columns row m
  pub few : row < unused
  pub within : hole < columns
  pub in_range : (n : ℕ) → n < row → column_of m n < columns
  pub owned : (n : ℕ) → n < row → owner_of m (column_of m n) ≡ n
  pub vacant : (n : ℕ) → n < row → column_of m n ≢ hole
  pub holds : (s : ℕ) → s < columns → s ≢ hole → owner_of m s < row → column_of m (owner_of m s) ≡ s
  pub free : (s : ℕ) → s < columns → s ≢ hole → row ≤ owner_of m s → (owner_of m s ≡ unused) × (price_of m s ≡ 0)
  pub best : (n : ℕ) → n < row → IsBest cost columns m.prices.items n (column_of m n)

-- the matching is augmented: the row has a column too
pub record IsAugmented (cost : ℕ → ℕ → ℕ) (columns row : ℕ) (old new : Matching) : Type 0 where
  pub agree : Agree columns (row + 1) new.column_of.items new.owner.items
  pub free : (s : ℕ) → s < columns → row + 1 ≤ owner_of new s → price_of new s ≡ 0
  pub best : (n : ℕ) → n < row + 1 → IsBest cost columns new.prices.items n (column_of new n)
  pub prices : new.prices.items ≡ old.prices.items
  pub sizes : (length new.column_of.items ≡ length old.column_of.items) × (length new.owner.items ≡ length old.owner.items)

-- the augmenting path from the row that the search began at to the sink
pub record IsPath (cost : ℕ → ℕ → ℕ) (columns row : ℕ) (m : Matching) (l : Labels) : Type 0 where
  pub matched : IsHole cost columns row m l.sink
  pub room : row < length l.parent.items
  pub places : l.last < length l.reached.items
  pub start : row_at l 0 ≡ row
  pub rows : (k : ℕ) → 0 < k → k ≤ l.last → row_at l k < row
  pub distinct : (i j : ℕ) → i < j → j ≤ l.last → row_at l i ≢ row_at l j
  pub parents : (k : ℕ) → 0 < k → k ≤ l.last → parent_of l (row_at l k) < k
  pub best : (k : ℕ) → 0 < k → k ≤ l.last
      → IsBest cost columns m.prices.items (row_at l (parent_of l (row_at l k))) (column_of m (row_at l k))
  pub last : IsBest cost columns m.prices.items (row_at l l.last) l.sink

-- the whole tree is known as far as the level
pub record IsGrown (cost : ℕ → ℕ → ℕ) (columns row : ℕ) (m : Matching) (l : Labels) : Type 0 where
  pub tree : IsTree cost columns row m l
  pub covered : AreCovered cost row m l 0 columns
  pub reached : HasReached l

pub record SameSizes (old new : Matching) : Type 0 where
  pub chosen : length new.column_of.items ≡ length old.column_of.items
  pub owners : length new.owner.items ≡ length old.owner.items
  pub prices : length new.prices.items ≡ length old.prices.items

pub record SameRooms (old new : Labels) : Type 0 where
  pub labels : length new.label.items ≡ length old.label.items
  pub parents : length new.parent.items ≡ length old.parent.items
  pub places : length new.reached.items ≡ length old.reached.items

-- no column is used and none has a price
pub record IsCleared (m : Matching) : Type 0 where
  pub owners : (s : ℕ) → s < length m.owner.items → owner_of m s ≡ unused
  pub prices : (s : ℕ) → s < length m.prices.items → price_of m s ≡ 0

-- there is room for a problem of this size
pub record IsRoomy (rows columns : ℕ) (m : Matching) (l : Labels) : Type 0 where
  pub chosen : rows ≤ length m.column_of.items
  pub owners : columns ≤ length m.owner.items
  pub prices : columns ≤ length m.prices.items
  pub labels : rows ≤ length l.label.items
  pub parents : rows ≤ length l.parent.items
  pub places : rows ≤ length l.reached.items
