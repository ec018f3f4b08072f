-- A partition on its way through a pass: what is kept beside the dies, and what is left to do.
use Rattle.std.specs.Prelude.{◌≡◌, ℕ, ◌<◌, ◌≤◌, true, nat_lt, if◌then◌else◌, List, [], ◌∷◌, ◌++◌, length, set, take, All}
use Rattle.std.specs.List.{fold}
use Rattle.fp_base.specs.declared.ids.CellId.{CellId}
use Rattle.fp_base.specs.declared.ids.Die.{Die}
use Rattle.fp_netlist.specs.Netlist.{Netlist}
use Rattle.fp_place.specs.Cut.{cut}
use Rattle.fp_place.specs.Held.{held_by}
use Rattle.fp_place.specs.Settled.{flipped, none_moved, moves, first_fewest, best, KeepRules}
use Rattle.fp_gains.specs.Gained.{IsGainsOf}
use Rattle.fp_part.specs.declared.partition.Fewest.{Fewest}
use Rattle.fp_part.specs.declared.partition.Partition.{Partition}

-- the dies after moves
abbrev pub after_moves : List Die → List CellId → List Die
after_moves start cells = fold (λ dies (cell : CellId). flipped dies cell.0) start cells

-- the best prefix so far, or a longer one that leaves fewer nets cut
abbrev pub fewer : Fewest → ℕ → ℕ → Fewest
fewer fewest cut moves = if nat_lt cut fewest.cut then record { cut = cut; moves = moves } else fewest

-- the dies keep the rules, and the gains, areas and number of cut nets are theirs
pub record IsReady (p : Netlist) (partition : Partition) : Type 0 where
  pub gains_are : IsGainsOf p partition.gains
  pub locks : length partition.gains.locked ≡ length p.cells
  pub rules : KeepRules p partition.gains.dies
  pub held_is : partition.caps ≡ held_by p partition.gains.dies
  pub cut_is : partition.cut ≡ cut p partition.gains.dies

-- a pass begins: no cell is moved yet
pub record IsBegun (p : Netlist) (partition : Partition) : Type 0 where
  pub ready : IsReady p partition
  pub unlocked : partition.gains.locked ≡ none_moved p
  pub start_is : partition.start.items ≡ partition.gains.dies
  pub unmoved : partition.moved.items ≡ []
  pub fewest_is : partition.fewest ≡ record { cut = partition.cut; moves = 0 }

-- a cell is moved and locked
pub record IsMoved (p : Netlist) (cell : CellId) (old new : Partition) : Type 0 where
  pub ready : IsReady p new
  pub dies_are : new.gains.dies ≡ flipped old.gains.dies cell.0
  pub locked_are : new.gains.locked ≡ set old.gains.locked cell.0 true

-- a cell is moved and locked, and the move is remembered
pub record Advances (p : Netlist) (cell : CellId) (old new : Partition) : Type 0 where
  pub moved : IsMoved p cell old new
  pub start_is : new.start ≡ old.start
  pub moves_are : new.moved.items ≡ old.moved.items ++ cell ∷ []
  pub fewest_is : new.fewest ≡ fewer old.fewest new.cut (length new.moved.items)

-- the dies after the best prefix so far
abbrev pub fewest_dies : List Die → Partition → List Die
fewest_dies start partition = after_moves start (take partition.fewest.moves partition.moved.items)

-- a partition was made by the moves from the pass's first dies, and its best prefix leaves as many nets cut as it says
pub record IsInPass (p : Netlist) (start : List Die) (partition : Partition) : Type 0 where
  pub ready : IsReady p partition
  pub start_is : partition.start.items ≡ start
  pub dies_are : partition.gains.dies ≡ after_moves start partition.moved.items
  pub within : All (λ (cell : CellId). cell.0 < length p.cells) partition.moved.items
  pub kept : partition.fewest.moves ≤ length partition.moved.items
  pub fewest_is : partition.fewest.cut ≡ cut p (fewest_dies start partition)

-- of these and those after at most so many further moves, the first with the fewest cut nets are those that the pass keeps
pub record IsOnWay (p : Netlist) (start : List Die) (left : ℕ) (partition : Partition) : Type 0 where
  pub in_pass : IsInPass p start partition
  pub rest : first_fewest p (fewest_dies start partition) (moves p left partition.gains.dies partition.gains.locked) ≡ best p start

-- the best prefix of the whole pass is known
pub record IsRun (p : Netlist) (start : List Die) (partition : Partition) : Type 0 where
  pub in_pass : IsInPass p start partition
  pub best_is : fewest_dies start partition ≡ best p start
