-- Buckets as wide and as high as a pitch: terminals in buckets that do not touch are apart.
use Rattle.std.specs.Prelude.{◌≡◌, ◌≢◌, ◌⊎◌, ℤ, pos, ◌+ℤ◌, ◌≤ℤ◌, ℕ, ◌+◌, ◌-◌, ◌*◌, ◌/◌, ◌≤◌, ◌^◌, List, All, Option, Some, None, get_or, unsigned_abs}
use Rattle.std.specs.List.{Contains}
use Rattle.std.specs.List.Sorted.{IsNonDecreasingBy}
use Rattle.fp_base.specs.declared.ids.Point.{Point}
use Rattle.fp_tech.specs.declared.dies.TermSpec.{TermSpec}
use Rattle.fp_tech.specs.Slots.{AreApart, pitch_x, pitch_y}
use Rattle.fp_place.specs.declared.close.Entry.{Entry}
use Rattle.fp_place.specs.Placed.{IsCentre}

-- coordinates are a pitch or more apart
abbrev pub AreFar : ℕ → ℤ → ℤ → Type 0
AreFar pitch a b = ((a +ℤ pos pitch) ≤ℤ b) ⊎ ((b +ℤ pos pitch) ≤ℤ a)

-- the column and the row of buckets of a centre
unfoldable pub column : TermSpec → Point → ℕ
column terminal centre = unsigned_abs centre.x / pitch_x terminal

unfoldable pub row : TermSpec → Point → ℕ
row terminal centre = unsigned_abs centre.y / pitch_y terminal

-- buckets are numbered row by row, with so many numbers in a row
abbrev pub row_length : ℕ
row_length = 2 ^ 31

abbrev pub bucket : TermSpec → Point → ℕ
bucket terminal centre = row terminal centre * row_length + column terminal centre

abbrev pub entry_of : TermSpec → ℕ → Point → Entry
entry_of terminal net centre = record { bucket = bucket terminal centre; net = net; centre = centre }

-- an entry stands in its centre's bucket
pub record IsPlaced (terminal : TermSpec) (entry : Entry) : Type 0 where
  pub centre : IsCentre entry.centre
  pub bucket_is : entry.bucket ≡ bucket terminal entry.centre

-- an entry says where its net's terminal stands
pub record IsEntry (terminal : TermSpec) (centres : List (Option Point)) (entry : Entry) : Type 0 where
  pub there : get_or centres entry.net None ≡ Some entry.centre
  pub placed : IsPlaced terminal entry

-- there are entries of these nets and of no others
pub record AreEntries (terminal : TermSpec) (centres : List (Option Point)) (entries : List Entry) : Type 0 where
  pub each : All (IsEntry terminal centres) entries
  pub all : (net : ℕ) (centre : Point) → get_or centres net None ≡ Some centre → Contains entries (entry_of terminal net centre)

-- entries stand in the order of their buckets
abbrev pub AreInOrder : List Entry → Type 0
AreInOrder entries = IsNonDecreasingBy (λ entry. entry.bucket) entries

-- an entry stands in this row of buckets, in the centre's column or one beside it
pub record StandsNear (terminal : TermSpec) (centre : Point) (number : ℕ) (entry : Entry) : Type 0 where
  pub low : number * row_length + (column terminal centre - 1) ≤ entry.bucket
  pub high : entry.bucket ≤ number * row_length + (column terminal centre + 1)

-- an entry of another net is not apart from a net's terminal
pub record IsTooClose (terminal : TermSpec) (net : ℕ) (centre : Point) (entry : Entry) : Type 0 where
  pub other : entry.net ≢ net
  pub close : AreApart terminal centre entry.centre → ⊥
