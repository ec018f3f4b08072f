-- The distinct cells of each net, and the distinct nets of each cell.
use Rattle.std.specs.Prelude.{◌≡◌, ℕ, ◌+◌, ◌<◌, ◌≤◌, ◌^◌, Bool, ◌==◌, if◌then◌else◌, List, [], ◌∷◌, ◌++◌, length, map, All, slice_index}
use Rattle.std.specs.List.{list_any, IsDistinct}
use Rattle.fp_netlist.specs.Netlist.{Netlist, conns_of_net, conns_of_cell}
use Rattle.fp_place.specs.Cut.{conn_at}
use Rattle.fp_gains.specs.Lists.{list_at}

-- a list has a key
abbrev pub holds : List ℕ → ℕ → Bool
holds keys key = list_any (λ other. key == other) keys

-- the keys with one more, if it is new
abbrev pub with_new : List ℕ → ℕ → List ℕ
with_new found key = if holds found key then found else found ++ key ∷ []

unfoldable pub with_all_new : List ℕ → List ℕ → List ℕ
with_all_new found [] = found
with_all_new found (key ∷ keys) = with_all_new (with_new found key) keys

-- each key once, in the order in which they first come
abbrev pub distinct : List ℕ → List ℕ
distinct keys = with_all_new [] keys

abbrev pub cells_of : Netlist → List ℕ → List ℕ
cells_of p conns = map (λ conn. (conn_at p conn).cell.0) conns

abbrev pub nets_of : Netlist → List ℕ → List ℕ
nets_of p conns = map (λ conn. (conn_at p conn).net.0) conns

-- the cells of a net, each once, though a cell may have several connections in it
unfoldable pub cells_of_net : Netlist → ℕ → List ℕ
cells_of_net p net = distinct (cells_of p (conns_of_net p net))

-- the nets of a cell, each once
unfoldable pub nets_of_cell : Netlist → ℕ → List ℕ
nets_of_cell p cell = distinct (nets_of p (conns_of_cell p cell))

-- the lists of all nets, and of all cells
pub record AreCellsByNet (p : Netlist) (lists : List (List ℕ)) : Type 0 where
  pub all_nets : length lists ≡ length p.nets
  pub each : (net : ℕ) → net < length p.nets → list_at lists net ≡ cells_of_net p net

pub record AreNetsByCell (p : Netlist) (lists : List (List ℕ)) : Type 0 where
  pub all_cells : length lists ≡ length p.cells
  pub each : (cell : ℕ) → cell < length p.cells → list_at lists cell ≡ nets_of_cell p cell

-- numbers below a bound that are found, under a mark
pub record Finding : Type 0 where
  pub room : ℕ
  pub mark : ℕ
  pub keys : List ℕ

abbrev pub with_key_new : Finding → ℕ → Finding
with_key_new f key = record f { keys = with_new f.keys key }

-- the next list is of these keys
pub record FindsKeys (keys : List ℕ) (old new : Finding) : Type 0 where
  pub room : new.room ≡ old.room
  pub mark : new.mark ≡ old.mark + 1
  pub found : new.keys ≡ keys

-- numbers are stamped with a mark exactly where a list has them
pub record AreStamped (stamps : List ℕ) (mark : ℕ) (found : List ℕ) : Type 0 where
  pub old : All (λ stamp. stamp ≤ mark) stamps
  pub within : All (λ key. key < length stamps) found
  pub marked : (key : ℕ) → key < length stamps → (slice_index stamps key == mark) ≡ holds found key

-- the cells of each net, each once
pub record AreMembers (members : List (List ℕ)) (cells : ℕ) : Type 0 where
  pub few_nets : length members ≤ 2 ^ 18
  pub few : (net : ℕ) → length (list_at members net) ≤ 2 ^ 21
  pub within : (net : ℕ) → All (λ cell. cell < cells) (list_at members net)
  pub once : (net : ℕ) → IsDistinct (λ a b. a == b) (list_at members net)

-- the nets of each cell, each once, of which it is a member
pub record AreLinks (members nets : List (List ℕ)) (cells : ℕ) : Type 0 where
  pub few_cells : cells ≤ 2 ^ 18
  pub all_cells : length nets ≡ cells
  pub within : (cell : ℕ) → All (λ net. net < length members) (list_at nets cell)
  pub once : (cell : ℕ) → IsDistinct (λ a b. a == b) (list_at nets cell)
  pub agree : (cell net : ℕ) → cell < cells → net < length members → holds (list_at nets cell) net ≡ holds (list_at members net) cell
