-- A pass, move by move.
use Rattle.std.specs.Prelude.{◌≡◌, ℕ, zero, suc, ◌+◌, ◌<◌, ◌≤◌, Bool, true, false, nat_lt, if◌then◌else◌, List, [], ◌∷◌, ◌++◌, length, map, replicate, set, take, Some, None}
use Rattle.std.proofs.Common.{refl, ap, sym, subst, ◌∙◌, arith}
use Rattle.std.proofs.lemmas.Bool.{cond-true, cond-false}
use Rattle.std.proofs.lemmas.List.{length-set, length_push, take_all, take-append-le}
use Rattle.std.proofs.lemmas.List.Elements.{All-same, All-nil, All-push}
use Rattle.std.proofs.lemmas.List.Sums.{fold-append}
use Rattle.fp_base.specs.declared.ids.CellId.{CellId}
use Rattle.fp_base.specs.declared.ids.Die.{Die}
use Rattle.fp_netlist.specs.Netlist.{Netlist}
use Rattle.fp_place.specs.Cut.{cut}
use Rattle.fp_place.specs.Settled.{far_die, flipped, next_move, with_move, moves, pass, first_fewest, best}
use Rattle.fp_part.specs.declared.partition.Fewest.{Fewest}
use Rattle.fp_part.specs.declared.partition.Partition.{Partition}
use Rattle.fp_part.specs.SettledLaws.{next_is}
use Rattle.fp_part.specs.Partitions.{after_moves, fewest_dies, IsBegun, Advances, IsInPass, IsOnWay, IsRun}

abbrev flip_one : List Die → CellId → List Die
flip_one dies cell = flipped dies cell.0

pub after_append : (start : List Die) (first later : List CellId) → after_moves start (first ++ later) ≡ after_moves (after_moves start first) later
after_append start first later = fold-append flip_one start first later

pub length-after : (start : List Die) (cells : List CellId) → length (after_moves start cells) ≡ length start
length-after start [] = refl
length-after start (cell ∷ cells) = length-after (flipped start cell.0) cells ∙ length-set start cell.0 (far_die start cell.0)

-- where a pass begins, no move is made
pub begin : (p : Netlist) (partition : Partition) → IsBegun p partition → IsOnWay p partition.gains.dies (length p.cells) partition
unfolding pass
begin p partition is = record {
  in_pass = record {
    ready = is.ready;
    start_is = is.start_is;
    dies_are = sym (ap (after_moves dies) is.unmoved);
    within = All-same (λ (cell : CellId). cell.0 < length p.cells) partition.moved.items [] is.unmoved (All-nil (λ (cell : CellId). cell.0 < length p.cells));
    kept = subst (λ n. n ≤ length partition.moved.items) (sym none) (omega arith);
    fewest_is = ap (λ (f : Fewest). f.cut) is.fewest_is ∙ is.ready.cut_is ∙ ap (cut p) (sym first);
  };
  rest = ap (λ these. first_fewest p these (moves p (length p.cells) dies partition.gains.locked)) first
      ∙ ap (λ locked. first_fewest p dies (moves p (length p.cells) dies locked)) is.unlocked;
}
  where
    dies : List Die
    dies = partition.gains.dies

    none : partition.fewest.moves ≡ 0
    none = ap (λ (f : Fewest). f.moves) is.fewest_is

    first : fewest_dies dies partition ≡ dies
    first = ap (λ n. after_moves dies (take n partition.moved.items)) none

-- the fewest cut nets after one move more
record IsLower (p : Netlist) (start : List Die) (old new : Partition) : Type 0 where
  kept : new.fewest.moves ≤ length new.moved.items
  fewest_is : new.fewest.cut ≡ cut p (fewest_dies start new)
  dies_are : fewest_dies start new ≡ (if nat_lt (cut p new.gains.dies) (cut p (fewest_dies start old)) then new.gains.dies else fewest_dies start old)

now_after : (p : Netlist) (start : List Die) (cell : CellId) (old new : Partition) → IsInPass p start old → Advances p cell old new → new.gains.dies ≡ after_moves start new.moved.items
now_after p start cell old new in_pass is =
    is.moved.dies_are ∙ ap (λ dies. flipped dies cell.0) in_pass.dies_are ∙ sym (after_append start old.moved.items (cell ∷ [])) ∙ ap (after_moves start) (sym is.moves_are)

lower : (p : Netlist) (start : List Die) (cell : CellId) (old new : Partition) → IsInPass p start old → Advances p cell old new → IsLower p start old new
lower p start cell old new in_pass is = by (nat_lt new.cut old.fewest.cut) refl
  where
    same_test : nat_lt new.cut old.fewest.cut ≡ nat_lt (cut p new.gains.dies) (cut p (fewest_dies start old))
    same_test = ap (λ n. nat_lt n old.fewest.cut) is.moved.ready.cut_is ∙ ap (nat_lt (cut p new.gains.dies)) in_pass.fewest_is

    longer : length new.moved.items ≡ length old.moved.items + 1
    longer = ap length is.moves_are ∙ length_push old.moved.items cell

    by : (lowers : Bool) → nat_lt new.cut old.fewest.cut ≡ lowers → IsLower p start old new
    by true lowers =
        let fewest : new.fewest ≡ record { cut = new.cut; moves = length new.moved.items } =
        is.fewest_is ∙ cond-true (nat_lt new.cut old.fewest.cut) (record { cut = new.cut; moves = length new.moved.items }) old.fewest lowers in
        let many : new.fewest.moves ≡ length new.moved.items = ap (λ (f : Fewest). f.moves) fewest in
        let dies : fewest_dies start new ≡ new.gains.dies =
        ap (λ n. after_moves start (take n new.moved.items)) many ∙ ap (after_moves start) (take_all (length new.moved.items) new.moved.items (omega arith))
        ∙ sym (now_after p start cell old new in_pass is) in
        record {
          kept = omega (arith, many);
          fewest_is = ap (λ (f : Fewest). f.cut) fewest ∙ is.moved.ready.cut_is ∙ ap (cut p) (sym dies);
          dies_are = dies ∙ sym (cond-true (nat_lt (cut p new.gains.dies) (cut p (fewest_dies start old))) new.gains.dies (fewest_dies start old) (sym same_test ∙ lowers));
        }
    by false lowers =
        let fewest : new.fewest ≡ old.fewest =
        is.fewest_is ∙ cond-false (nat_lt new.cut old.fewest.cut) (record { cut = new.cut; moves = length new.moved.items }) old.fewest lowers in
        let many : new.fewest.moves ≡ old.fewest.moves = ap (λ (f : Fewest). f.moves) fewest in
        let dies : fewest_dies start new ≡ fewest_dies start old =
        ap (λ n. after_moves start (take n new.moved.items)) many ∙ ap (λ cells. after_moves start (take old.fewest.moves cells)) is.moves_are
        ∙ ap (after_moves start) (take-append-le old.fewest.moves old.moved.items (cell ∷ []) in_pass.kept) in
        record {
          kept = omega (arith, many, in_pass.kept, longer);
          fewest_is = ap (λ (f : Fewest). f.cut) fewest ∙ in_pass.fewest_is ∙ ap (cut p) (sym dies);
          dies_are = dies ∙ sym (cond-false (nat_lt (cut p new.gains.dies) (cut p (fewest_dies start old))) new.gains.dies (fewest_dies start old) (sym same_test ∙ lowers));
        }

-- one move more
pub move_on : (p : Netlist) (start : List Die) (left : ℕ) (cell : CellId) (old new : Partition) → IsOnWay p start (suc left) old
    → next_move p old.gains.dies old.gains.locked ≡ Some cell.0 → Advances p cell old new → IsOnWay p start left new
unfolding moves first_fewest
move_on p start left cell old new way next is = record {
  in_pass = record {
    ready = is.moved.ready;
    start_is = ap (λ v. v.items) is.start_is ∙ way.in_pass.start_is;
    dies_are = now_after p start cell old new way.in_pass is;
    within = All-same (λ (c : CellId). c.0 < length p.cells) new.moved.items (old.moved.items ++ cell ∷ []) is.moves_are
        (All-push (λ (c : CellId). c.0 < length p.cells) old.moved.items cell way.in_pass.within (next_is p old.gains.dies old.gains.locked cell.0 next).in_range);
    kept = lowered.kept;
    fewest_is = lowered.fewest_is;
  };
  rest = ap (λ these. first_fewest p these (moves p left new.gains.dies new.gains.locked)) lowered.dies_are
      ∙ ap (λ locked. first_fewest p (lower_of new.gains.dies) (moves p left new.gains.dies locked)) is.moved.locked_are
      ∙ ap (λ dies. first_fewest p (lower_of dies) (moves p left dies (set old.gains.locked cell.0 true))) is.moved.dies_are
      ∙ ap (λ after. first_fewest p before (with_move old.gains.dies after (λ c. moves p left (flipped old.gains.dies c) (set old.gains.locked c true)))) (sym next)
      ∙ way.rest;
}
  where
    before : List Die
    before = fewest_dies start old

    lower_of : List Die → List Die
    lower_of dies = if nat_lt (cut p dies) (cut p before) then dies else before

    lowered : IsLower p start old new
    lowered = lower p start cell old new way.in_pass is

-- no cell may move any more, or all moves are made
pub stop : (p : Netlist) (start : List Die) (left : ℕ) (partition : Partition) → IsOnWay p start left partition → next_move p partition.gains.dies partition.gains.locked ≡ None → IsRun p start partition
unfolding moves first_fewest
stop p start left partition way none = record { in_pass = way.in_pass; best_is = by left way.rest }
  where
    by : (n : ℕ) → first_fewest p (fewest_dies start partition) (moves p n partition.gains.dies partition.gains.locked) ≡ best p start → fewest_dies start partition ≡ best p start
    by zero rest = rest
    by (suc n) rest =
        ap (λ next. first_fewest p (fewest_dies start partition) (with_move partition.gains.dies next (λ c. moves p n (flipped partition.gains.dies c) (set partition.gains.locked c true)))) (sym none) ∙ rest

pub all_moved : (p : Netlist) (start : List Die) (partition : Partition) → IsOnWay p start 0 partition → IsRun p start partition
unfolding moves first_fewest
all_moved p start partition way = record { in_pass = way.in_pass; best_is = way.rest }

-- the moves up to the fewest cut nets lead to the dies that the pass keeps
pub at_best : (p : Netlist) (start : List Die) (run : Partition) (dies : List Die) (kept : List CellId) → IsRun p start run → kept ≡ take run.fewest.moves run.moved.items
    → dies ≡ after_moves run.start.items kept → dies ≡ best p start
at_best p start run dies kept is kept_is dies_are =
    dies_are ∙ ap (after_moves run.start.items) kept_is ∙ ap (λ first. after_moves first (take run.fewest.moves run.moved.items)) is.in_pass.start_is ∙ is.best_is

-- no cell is locked any more
pub all_unlocked : (locked : List Bool) (n : ℕ) → length locked ≡ n → map (λ (_ : Bool). false) locked ≡ replicate n false
all_unlocked [] zero many = refl
all_unlocked [] (suc n) many = absurd (omega (arith, many))
all_unlocked (first ∷ others) zero many = absurd (omega (arith, many))
all_unlocked (first ∷ others) (suc n) many = ap (λ rest. false ∷ rest) (all_unlocked others n (omega (arith, many)))
