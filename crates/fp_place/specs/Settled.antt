-- Dies settled by passes of single moves, after Fiduccia and Mattheyses. In a pass each cell moves at most once; each move is one that
-- leaves the fewest nets cut, and the pass goes on until no cell may move. The first of its dies with the fewest cut nets are kept, and
-- passes go on as long as one lowers that number. Every number of cut nets is counted anew here.
use Rattle.std.specs.Prelude.{◌≡◌, ℕ, zero, suc, ◌+◌, ◌<◌, Bool, true, false, ◌&&◌, not, nat_lt, if◌then◌else◌, List, [], ◌∷◌, length, set, get_or, replicate, IsTrue, Option, Some, None}
use Rattle.fp_base.specs.declared.ids.Die.{Die}
use Rattle.fp_netlist.specs.Netlist.{Netlist}
use Rattle.fp_netlist.specs.Points.{area}
use Rattle.fp_place.specs.Places.{die_at, other_die}
use Rattle.fp_place.specs.Areas.{fits, keeps, area_on}
use Rattle.fp_place.specs.Cut.{cut}

-- the die that a cell does not stand on
abbrev pub far_die : List Die → ℕ → Die
far_die dies cell = other_die (die_at dies cell)

-- the dies with a cell moved to its other die
abbrev pub flipped : List Die → ℕ → List Die
flipped dies cell = set dies cell (far_die dies cell)

-- a cell may move: it fits the other die, whose percent holds with the cell added
unfoldable pub may_move : Netlist → List Die → ℕ → Bool
may_move p dies cell = fits p cell (far_die dies cell) && keeps p.plan (far_die dies cell) (area_on p (far_die dies cell) dies + area p cell (far_die dies cell))

-- one number more to choose from, where it passes and costs less than the best before it
abbrev pub or_lower : (ℕ → Bool) → (ℕ → ℕ) → ℕ → Option ℕ → Option ℕ
or_lower passes cost number None = if passes number then Some number else None
or_lower passes cost number (Some least) = if passes number && nat_lt (cost number) (cost least) then Some number else Some least

-- of the numbers below a bound that pass, one of least cost, the least among ties
unfoldable pub first_least : (ℕ → Bool) → (ℕ → ℕ) → ℕ → Option ℕ
first_least passes cost zero = None
first_least passes cost (suc number) = or_lower passes cost number (first_least passes cost number)

abbrev pub is_moved : List Bool → ℕ → Bool
is_moved moved cell = get_or moved cell false

-- the cells that a pass may move next: those that it did not move yet and that may move
abbrev pub is_candidate : Netlist → List Die → List Bool → ℕ → Bool
is_candidate p dies moved cell = not (is_moved moved cell) && may_move p dies cell

-- a pass's next move: of the candidates, one that leaves the fewest nets cut
unfoldable pub next_move : Netlist → List Die → List Bool → Option ℕ
next_move p dies moved = first_least (is_candidate p dies moved) (λ cell. cut p (flipped dies cell)) (length p.cells)

-- the dies after each of so many further moves, as far as there is a candidate
abbrev pub with_move : List Die → Option ℕ → (ℕ → List (List Die)) → List (List Die)
with_move dies None next = []
with_move dies (Some cell) next = flipped dies cell ∷ next cell

unfoldable pub moves : Netlist → ℕ → List Die → List Bool → List (List Die)
moves p zero dies moved = []
moves p (suc n) dies moved = with_move dies (next_move p dies moved) (λ cell. moves p n (flipped dies cell) (set moved cell true))

-- no cell moved yet
abbrev pub none_moved : Netlist → List Bool
none_moved p = replicate (length p.cells) false

-- the dies of a whole pass, after those that it begins with
unfoldable pub pass : Netlist → List Die → List (List Die)
pass p from = moves p (length p.cells) from (none_moved p)

-- the first dies, of these and those that follow, with the fewest cut nets
unfoldable pub first_fewest : Netlist → List Die → List (List Die) → List Die
first_fewest p kept [] = kept
first_fewest p kept (dies ∷ others) = first_fewest p (if nat_lt (cut p dies) (cut p kept) then dies else kept) others

-- what a pass keeps
abbrev pub best : Netlist → List Die → List Die
best p from = first_fewest p from (pass p from)

-- passes, at most so many, as long as one leaves fewer nets cut
unfoldable pub settled_in : Netlist → ℕ → List Die → List Die
settled_in p zero dies = dies
settled_in p (suc n) dies = if nat_lt (cut p (best p dies)) (cut p dies) then settled_in p n (best p dies) else dies

-- The dies settled from earlier ones. Each pass but the last leaves fewer nets cut, so there are at most as many such passes as cut nets.
unfoldable pub settled : Netlist → List Die → List Die
settled p from = settled_in p (suc (cut p from)) from

-- dies keep the rules: each cell fits its die, and both dies keep their percents
pub record KeepRules (p : Netlist) (dies : List Die) : Type 0 where
  pub cells : length dies ≡ length p.cells
  pub fitting : (cell : ℕ) → cell < length p.cells → IsTrue (fits p cell (die_at dies cell))
  pub percents : (die : Die) → IsTrue (keeps p.plan die (area_on p die dies))
