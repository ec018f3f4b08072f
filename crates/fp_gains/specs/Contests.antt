-- Leaders, and a tournament of their ranks in one list, four to a match: node k holds the greatest of the nodes 4k + 1 to 4k + 4, behind
-- the inner nodes stand the slots, and behind these as many nodes of 0 as fill the last match.
use Rattle.std.specs.Prelude.{◌≡◌, ℕ, ◌+◌, ◌-◌, ◌*◌, ◌/◌, ◌%◌, ◌^◌, ◌<◌, ◌≤◌, ◌⊎◌, List, length, get_or, set, map, take, drop, Option, Some, None}
use Rattle.fp_base.specs.declared.ids.CellId.{CellId}
use Rattle.fp_gains.specs.declared.tournament.Leader.{Leader}

abbrev pub nobody : Leader
nobody = record { cell = record { 0 = 0 }; key = 0 }

abbrev pub leader_at : List Leader → ℕ → Leader
leader_at leaders place = get_or leaders place nobody

-- a cell that has no key yet
abbrev pub unkeyed : CellId → Leader
unkeyed cell = record { cell = cell; key = 0 }

-- a leader with another key
abbrev pub keyed : Leader → ℕ → Leader
keyed leader key = record leader { key = key }

-- a slot with another key
abbrev pub rekeyed : List Leader → ℕ → ℕ → List Leader
rekeyed leaves slot key = set leaves slot (keyed (leader_at leaves slot) key)

-- a leader with the key that its cell has in a list of keys by cell
abbrev pub dealt : List ℕ → Leader → Leader
dealt keys leaf = keyed leaf (get_or keys leaf.cell.0 0)

-- the first does not win against the second
pub record IsBehind (one other : Leader) : Type 0 where
  pub key : one.key ≤ other.key
  pub cell : one.key ≡ other.key → other.cell.0 ≤ one.cell.0

-- the better of two
pub record IsWinner (one other best : Leader) : Type 0 where
  pub among : (best ≡ one) ⊎ (best ≡ other)
  pub one_behind : IsBehind one best
  pub other_behind : IsBehind other best

-- whose rank it is: a rank is 2^18 times the key, and how far the cell is below the last cell that there may be
abbrev pub leader_of : ℕ → Leader
leader_of rank = record { cell = record { 0 = 262143 - rank % 262144 }; key = rank / 262144 }

-- the rank of a cell that has no key yet
abbrev pub unkeyed_rank : CellId → ℕ
unkeyed_rank cell = 262143 - cell.0

-- a rank with another key
abbrev pub keyed_rank : ℕ → ℕ → ℕ
keyed_rank rank key = key * 262144 + rank % 262144

abbrev pub rank_at : List ℕ → ℕ → ℕ
rank_at ranks place = get_or ranks place 0

-- the greatest of four nodes at most, from one on and up to another
pub record IsMost (nodes : List ℕ) (start last best : ℕ) : Type 0 where
  pub node : ℕ
  pub from : start ≤ node
  pub upto : node ≤ last
  pub near : node ≤ start + 3
  pub there : rank_at nodes node ≡ best
  pub ahead : (other : ℕ) → start ≤ other → other ≤ last → other ≤ start + 3 → rank_at nodes other ≤ best

-- the greatest of the four nodes below a node
pub record IsGreatest (nodes : List ℕ) (node best : ℕ) : Type 0 where
  pub child : ℕ
  pub from : 4 * node + 1 ≤ child
  pub upto : child ≤ 4 * node + 4
  pub there : rank_at nodes child ≡ best
  pub ahead : (other : ℕ) → 4 * node + 1 ≤ other → other ≤ 4 * node + 4 → rank_at nodes other ≤ best

-- a node holds the greatest of those below it
abbrev pub IsWon : List ℕ → ℕ → Type 0
IsWon nodes node = IsGreatest nodes node (rank_at nodes node)

-- each inner node has four below it, each node but the first has one above it, and each rank has a key of 32 bits
pub record IsLaidOut (inner : ℕ) (nodes : List ℕ) : Type 0 where
  pub full : length nodes ≡ 4 * inner + 1
  pub small : (place : ℕ) → rank_at nodes place < 2 ^ 50

-- all inner nodes hold the greatest of those below them
pub record IsTree (inner : ℕ) (nodes : List ℕ) : Type 0 where
  pub laid : IsLaidOut inner nodes
  pub won : (node : ℕ) → node < inner → IsWon nodes node

-- so many slots stand behind the inner nodes, the first node below each inner node is no padding, and behind the slots all is 0
pub record IsPadded (inner slots : ℕ) (nodes : List ℕ) : Type 0 where
  pub many : 3 * inner ≤ slots + 2
  pub few : slots ≤ 3 * inner + 1
  pub behind : (place : ℕ) → inner + slots ≤ place → rank_at nodes place ≡ 0

-- a tournament of so many slots
pub record IsKept (inner slots : ℕ) (nodes : List ℕ) : Type 0 where
  pub tree : IsTree inner nodes
  pub padded : IsPadded inner slots nodes

-- the leaders of the slots
abbrev pub leaders_in : ℕ → ℕ → List ℕ → List Leader
leaders_in inner slots nodes = map leader_of (take slots (drop inner nodes))

-- a place is not below a node
abbrev pub IsElsewhere : ℕ → ℕ → Type 0
IsElsewhere place node = (place < 4 * node + 1) ⊎ (4 * node + 4 < place)

-- all but the match that a changed node plays in are played, and that was played while the node held another rank
pub record IsWaiting (inner : ℕ) (nodes : List ℕ) (changed held : ℕ) : Type 0 where
  pub laid : IsLaidOut inner nodes
  pub inside : changed < length nodes
  pub won : (node : ℕ) → node < inner → IsElsewhere changed node → IsWon nodes node
  pub before : (node : ℕ) → node < inner → 4 * node + 1 ≤ changed → changed ≤ 4 * node + 4 → IsWon (set nodes changed held) node

-- the greatest of the first so many slots
pub record IsTop (inner : ℕ) (nodes : List ℕ) (count best : ℕ) : Type 0 where
  pub slot : ℕ
  pub within : slot < count
  pub there : rank_at nodes (inner + slot) ≡ best
  pub ahead : (other : ℕ) → other < count → rank_at nodes (inner + other) ≤ best

-- the greatest of the first four and the last four of some nodes
pub record IsOuter (nodes : List ℕ) (low high best : ℕ) : Type 0 where
  pub node : ℕ
  pub from : low ≤ node
  pub below : node < high
  pub there : rank_at nodes node ≡ best
  pub first : (other : ℕ) → low ≤ other → other < high → other ≤ low + 3 → rank_at nodes other ≤ best
  pub last : (other : ℕ) → low ≤ other → other < high → high ≤ other + 4 → rank_at nodes other ≤ best

-- the best of the first so many slots: one of them, which none of them beats
pub record IsBest (leaves : List Leader) (count : ℕ) (best : Leader) : Type 0 where
  pub slot : ℕ
  pub within : slot < count
  pub there : leader_at leaves slot ≡ best
  pub ahead : (other : ℕ) → other < count → IsBehind (leader_at leaves other) best

abbrev pub IsBestSlot : List Leader → ℕ → Option Leader → Type 0
IsBestSlot leaves count None = count ≡ 0
IsBestSlot leaves count (Some best) = IsBest leaves count best

-- the better of two that may be there
abbrev pub IsBetter : Option Leader → Option Leader → Option Leader → Type 0
IsBetter None second best = best ≡ second
IsBetter (Some one) None best = best ≡ Some one
IsBetter (Some one) (Some other) best = (leader : Leader) × (best ≡ Some leader) × IsWinner one other leader
