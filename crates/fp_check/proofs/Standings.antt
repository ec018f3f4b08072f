-- The places of a trial's lines in one list: each line has one, so each cell is listed once exactly where it stands once on the segments.
use Rattle.std.proofs.Common.{◌≡◌, ℕ, zero, suc, ◌+◌, Bool, true, false, List, [], ◌∷◌, ◌++◌, length, map, replicate, slice_get, Option, Some, None, Result, Ok, Err, refl, sym, ap, subst, ◌∙◌, arith, inl, inr}
use Rattle.std.specs.Prelude.{◌⊎◌, ◌↔◌, ◌&&◌, IfOk, IsTrue, option_map}
use Rattle.std.specs.List.{list_all}
use Rattle.std.proofs.lemmas.Option.{same_Some, slice_get-map}
use Rattle.fp_base.specs.declared.ids.CellId.{CellId}
use Rattle.fp_base.specs.declared.ids.Die.{Die}
use Rattle.fp_base.specs.declared.ids.Die.TheVariants.{Top, Bottom}
use Rattle.fp_base.specs.declared.folder.NoMemory.{NoMemory}
use Rattle.fp_netlist.specs.Netlist.{Netlist}
use Rattle.fp_place.specs.Placed.{lanes_on, entry_at, StandOnce}
use Rattle.fp_cert.specs.declared.shown.CellShown.{CellShown}
use Rattle.fp_cert.specs.declared.shown.Ending.{Ending}
use Rattle.fp_cert.specs.declared.shown.Ending.TheVariants as endings
use Rattle.fp_cert.specs.Shown.{ShownRow, ShownTrial, rows_of}
use Rattle.fp_cert.specs.Standing.{Stand, stands_in, stands_on, stands, lanes_shown}
use Rattle.fp_cert.specs.StandingLaws.{entry_shown, line_of}
use Rattle.fp_check.specs.Conditions.{StandOnceShown, ListsOnce}
use Rattle.fp_check.specs.Marks.{marked, cells_in, cells_in_rows, cells_listed, Marks}
use Rattle.fp_check.proofs.Marking.{AreOnce, front_none, after_front, goes, stops, shows_once}

-- ---- places in two lists, one after the other

at_left : {A : Type 0} (first second : List A) (i : ℕ) (x : A) → slice_get first i ≡ Some x → slice_get (first ++ second) i ≡ Some x
at_left [] second i x at = absurd cc
at_left (y ∷ first) second zero x at = at
at_left (y ∷ first) second (suc i) x at = at_left first second i x at

at_right : {A : Type 0} (first second : List A) (i j : ℕ) → j ≡ length first + i → slice_get (first ++ second) j ≡ slice_get second i
at_right [] second i j is = let same : j ≡ i = omega (arith, is) in ap (slice_get second) same
at_right (y ∷ first) second i zero is = absurd (omega (arith, is))
at_right (y ∷ first) second i (suc j) is = at_right first second i j (omega (arith, is))

-- an element of two lists is one of the first, or of the second
record IsBehind {A : Type 0} (first second : List A) (j : ℕ) (x : A) : Type 0 where
  i : ℕ
  place : j ≡ length first + i
  at : slice_get second i ≡ Some x

either : {A : Type 0} (first second : List A) (j : ℕ) (x : A) → slice_get (first ++ second) j ≡ Some x → (slice_get first j ≡ Some x) ⊎ IsBehind first second j x
either [] second j x at = inr (record { i = j; place = omega arith; at = at })
either (y ∷ first) second zero x at = inl at
either {A = A} (y ∷ first) second (suc j) x at = further (either first second j x at)
  where
    further : (slice_get first j ≡ Some x) ⊎ IsBehind first second j x → (slice_get (y ∷ first) (suc j) ≡ Some x) ⊎ IsBehind (y ∷ first) second (suc j) x
    further (inl there) = inl there
    further (inr behind) = inr (record { i = behind.i; place = omega (arith, behind.place); at = behind.at })

-- ---- the lines of a segment

in_at : (die : Die) (segment rank : ℕ) (cells : List CellShown) (i place : ℕ) (shown : CellShown) → slice_get cells i ≡ Some shown → place ≡ rank + i
    → slice_get (stands_in die segment rank cells) i ≡ Some (record { die = die; segment = segment; rank = place; shown = shown })
unfolding stands_in
in_at die segment rank [] i place shown at is = absurd cc
in_at die segment rank (cell ∷ cells) zero place shown at is =
    let same : rank ≡ place = omega (arith, is) in
    let cell_is = same_Some cell shown at in
    λ i. Some (record { die = die; segment = segment; rank = same i; shown = cell_is i })
in_at die segment rank (cell ∷ cells) (suc i) place shown at is = in_at die segment (rank + 1) cells i place shown at (omega (arith, is))

-- a place in the lines of a segment is a rank
record IsOfSegment (die : Die) (segment rank : ℕ) (cells : List CellShown) (i : ℕ) (stand : Stand) : Type 0 where
  die_is : stand.die ≡ die
  segment_is : stand.segment ≡ segment
  rank_is : stand.rank ≡ rank + i
  at : slice_get cells i ≡ Some stand.shown

in_from : (die : Die) (segment rank : ℕ) (cells : List CellShown) (i : ℕ) (stand : Stand) → slice_get (stands_in die segment rank cells) i ≡ Some stand
    → IsOfSegment die segment rank cells i stand
unfolding stands_in
in_from die segment rank [] i stand is = absurd cc
in_from die segment rank (cell ∷ cells) zero stand is =
    let same = same_Some (record { die = die; segment = segment; rank = rank; shown = cell }) stand is in
    subst (IsOfSegment die segment rank (cell ∷ cells) zero) same (record { die_is = refl; segment_is = refl; rank_is = omega arith; at = refl })
in_from die segment rank (cell ∷ cells) (suc i) stand is =
    let rest = in_from die segment (rank + 1) cells i stand is in
    record { die_is = rest.die_is; segment_is = rest.segment_is; rank_is = omega (arith, rest.rank_is); at = rest.at }

-- ---- the lines of a die's segments

on_at : (die : Die) (number : ℕ) (rows : List ShownRow) (k rank place : ℕ) (row : ShownRow) (shown : CellShown) → slice_get rows k ≡ Some row → slice_get row.cells rank ≡ Some shown
    → place ≡ number + k → (i : ℕ) × (slice_get (stands_on die number rows) i ≡ Some (record { die = die; segment = place; rank = rank; shown = shown }))
unfolding stands_on
on_at die number [] k rank place row shown there at is = absurd cc
on_at die number (first ∷ rows) zero rank place row shown there at is =
    let same : number ≡ place = omega (arith, is) in
    let here = in_at die number 0 first.cells rank rank shown (ap (λ (r : ShownRow). slice_get r.cells rank) (same_Some first row there) ∙ at) (omega arith) in
    (rank, at_left (stands_in die number 0 first.cells) (stands_on die (number + 1) rows) rank _ here ∙ (λ i. Some (record { die = die; segment = same i; rank = rank; shown = shown })))
on_at die number (first ∷ rows) (suc k) rank place row shown there at is =
    let rest = on_at die (number + 1) rows k rank place row shown there at (omega (arith, is)) in
    (length (stands_in die number 0 first.cells) + rest.0, at_right (stands_in die number 0 first.cells) (stands_on die (number + 1) rows) rest.0 _ refl ∙ rest.1)

record IsOfDie (die : Die) (number : ℕ) (rows : List ShownRow) (stand : Stand) : Type 0 where
  k : ℕ
  row : ShownRow
  die_is : stand.die ≡ die
  segment_is : stand.segment ≡ number + k
  there : slice_get rows k ≡ Some row
  at : slice_get row.cells stand.rank ≡ Some stand.shown

on_from : (die : Die) (number : ℕ) (rows : List ShownRow) (i : ℕ) (stand : Stand) → slice_get (stands_on die number rows) i ≡ Some stand → IsOfDie die number rows stand
unfolding stands_on
on_from die number [] i stand is = absurd cc
on_from die number (first ∷ rows) i stand is =
    by (either (stands_in die number 0 first.cells) (stands_on die (number + 1) rows) i stand is) (λ j. on_from die (number + 1) rows j stand)
  where
    by : (slice_get (stands_in die number 0 first.cells) i ≡ Some stand) ⊎ IsBehind (stands_in die number 0 first.cells) (stands_on die (number + 1) rows) i stand
        → ((j : ℕ) → slice_get (stands_on die (number + 1) rows) j ≡ Some stand → IsOfDie die (number + 1) rows stand) → IsOfDie die number (first ∷ rows) stand
    by (inl here) later =
        let is = in_from die number 0 first.cells i stand here in
        let rank : i ≡ stand.rank = omega (arith, is.rank_is) in
        record {
          k = 0;
          row = first;
          die_is = is.die_is;
          segment_is = omega (arith, is.segment_is);
          there = refl;
          at = subst (λ r. slice_get first.cells r ≡ Some stand.shown) rank is.at;
        }
    by (inr behind) later =
        let rest = later behind.i behind.at in
        record { k = suc rest.k; row = rest.row; die_is = rest.die_is; segment_is = omega (arith, rest.segment_is); there = rest.there; at = rest.at }

-- one segment and rank have one place
on_one : (die : Die) (number : ℕ) (rows : List ShownRow) (i j : ℕ) (a b : Stand) → slice_get (stands_on die number rows) i ≡ Some a → slice_get (stands_on die number rows) j ≡ Some b
    → a.segment ≡ b.segment → a.rank ≡ b.rank → i ≡ j
unfolding stands_on
on_one die number [] i j a b first second segment rank = absurd cc
on_one die number (row ∷ rows) i j a b first second segment rank =
    by (either (stands_in die number 0 row.cells) (stands_on die (number + 1) rows) i a first) (either (stands_in die number 0 row.cells) (stands_on die (number + 1) rows) j b second)
    (λ k l here there. on_one die (number + 1) rows k l a b here there segment rank)
  where
    Place : ℕ → Stand → Type 0
    Place k stand = (slice_get (stands_in die number 0 row.cells) k ≡ Some stand) ⊎ IsBehind (stands_in die number 0 row.cells) (stands_on die (number + 1) rows) k stand

    by : (slice_get (stands_in die number 0 row.cells) i ≡ Some a) ⊎ IsBehind (stands_in die number 0 row.cells) (stands_on die (number + 1) rows) i a
        → (slice_get (stands_in die number 0 row.cells) j ≡ Some b) ⊎ IsBehind (stands_in die number 0 row.cells) (stands_on die (number + 1) rows) j b
        → ((k l : ℕ) → slice_get (stands_on die (number + 1) rows) k ≡ Some a → slice_get (stands_on die (number + 1) rows) l ≡ Some b → k ≡ l) → i ≡ j
    by (inl here) (inl there) later =
        let mine = in_from die number 0 row.cells i a here in
        let its = in_from die number 0 row.cells j b there in
        omega (arith, mine.rank_is, its.rank_is, rank)
    by (inl here) (inr behind) later =
        let mine = in_from die number 0 row.cells i a here in
        let its = on_from die (number + 1) rows behind.i b behind.at in
        absurd (omega (arith, mine.segment_is, its.segment_is, segment))
    by (inr behind) (inl there) later =
        let mine = on_from die (number + 1) rows behind.i a behind.at in
        let its = in_from die number 0 row.cells j b there in
        absurd (omega (arith, mine.segment_is, its.segment_is, segment))
    by (inr behind) (inr further) later = omega (arith, later behind.i further.i behind.at further.at, behind.place, further.place)

-- ---- the lines of a trial

trial_at : (trial : ShownTrial) (die : Die) (segment rank : ℕ) (row : ShownRow) (shown : CellShown) → slice_get (rows_of trial die) segment ≡ Some row → slice_get row.cells rank ≡ Some shown
    → (i : ℕ) × (slice_get (stands trial) i ≡ Some (record { die = die; segment = segment; rank = rank; shown = shown }))
trial_at trial Top segment rank row shown there at =
    let is = on_at Top 0 trial.top segment rank segment row shown there at (omega arith) in
    (is.0, at_left (stands_on Top 0 trial.top) (stands_on Bottom 0 trial.bottom) is.0 _ is.1)
trial_at trial Bottom segment rank row shown there at =
    let is = on_at Bottom 0 trial.bottom segment rank segment row shown there at (omega arith) in
    (length (stands_on Top 0 trial.top) + is.0, at_right (stands_on Top 0 trial.top) (stands_on Bottom 0 trial.bottom) is.0 _ refl ∙ is.1)

record IsOfTrial (trial : ShownTrial) (stand : Stand) : Type 0 where
  row : ShownRow
  there : slice_get (rows_of trial stand.die) stand.segment ≡ Some row
  at : slice_get row.cells stand.rank ≡ Some stand.shown

of_trial : (trial : ShownTrial) (die : Die) (stand : Stand) → IsOfDie die 0 (rows_of trial die) stand → IsOfTrial trial stand
of_trial trial die stand is =
    let segment : is.k ≡ stand.segment = omega (arith, is.segment_is) in
    record { row = is.row; there = (λ i. slice_get (rows_of trial (is.die_is i)) stand.segment) ∙ ap (slice_get (rows_of trial die)) (sym segment) ∙ is.there; at = is.at }

trial_from : (trial : ShownTrial) (i : ℕ) (stand : Stand) → slice_get (stands trial) i ≡ Some stand → IsOfTrial trial stand
trial_from trial i stand is = by (either (stands_on Top 0 trial.top) (stands_on Bottom 0 trial.bottom) i stand is)
  where
    by : (slice_get (stands_on Top 0 trial.top) i ≡ Some stand) ⊎ IsBehind (stands_on Top 0 trial.top) (stands_on Bottom 0 trial.bottom) i stand → IsOfTrial trial stand
    by (inl here) = of_trial trial Top stand (on_from Top 0 trial.top i stand here)
    by (inr behind) = of_trial trial Bottom stand (on_from Bottom 0 trial.bottom behind.i stand behind.at)

no_die : (die : Die) → die ≡ Top → die ≡ Bottom → ⊥
no_die die top bottom = let same : Top ≡ Bottom = sym top ∙ bottom in cc

-- one die, segment and rank have one place
trial_one : (trial : ShownTrial) (i j : ℕ) (a b : Stand) → slice_get (stands trial) i ≡ Some a → slice_get (stands trial) j ≡ Some b → a.die ≡ b.die → a.segment ≡ b.segment
    → a.rank ≡ b.rank → i ≡ j
trial_one trial i j a b first second die segment rank =
    by (either (stands_on Top 0 trial.top) (stands_on Bottom 0 trial.bottom) i a first) (either (stands_on Top 0 trial.top) (stands_on Bottom 0 trial.bottom) j b second)
  where
    by : (slice_get (stands_on Top 0 trial.top) i ≡ Some a) ⊎ IsBehind (stands_on Top 0 trial.top) (stands_on Bottom 0 trial.bottom) i a
        → (slice_get (stands_on Top 0 trial.top) j ≡ Some b) ⊎ IsBehind (stands_on Top 0 trial.top) (stands_on Bottom 0 trial.bottom) j b → i ≡ j
    by (inl here) (inl there) = on_one Top 0 trial.top i j a b here there segment rank
    by (inl here) (inr behind) =
        absurd (no_die b.die (sym die ∙ (on_from Top 0 trial.top i a here).die_is) (on_from Bottom 0 trial.bottom behind.i b behind.at).die_is)
    by (inr behind) (inl there) =
        absurd (no_die a.die (die ∙ (on_from Top 0 trial.top j b there).die_is) (on_from Bottom 0 trial.bottom behind.i a behind.at).die_is)
    by (inr behind) (inr further) = omega (arith, on_one Bottom 0 trial.bottom behind.i further.i a b behind.at further.at segment rank, behind.place, further.place)

-- ---- the cells that a trial lists

abbrev number_of : Stand → ℕ
number_of stand = stand.shown.cell.0

map_after : (first second : List Stand) → map number_of (first ++ second) ≡ map number_of first ++ map number_of second
map_after [] second = refl
map_after (stand ∷ first) second = ap (λ numbers. number_of stand ∷ numbers) (map_after first second)

numbers_in : (die : Die) (segment rank : ℕ) (cells : List CellShown) → map number_of (stands_in die segment rank cells) ≡ cells_in cells
unfolding stands_in
numbers_in die segment rank [] = refl
numbers_in die segment rank (cell ∷ cells) = ap (λ numbers. cell.cell.0 ∷ numbers) (numbers_in die segment (rank + 1) cells)

numbers_on : (die : Die) (number : ℕ) (rows : List ShownRow) → map number_of (stands_on die number rows) ≡ cells_in_rows rows
unfolding stands_on
numbers_on die number [] = refl
numbers_on die number (row ∷ rows) =
    map_after (stands_in die number 0 row.cells) (stands_on die (number + 1) rows)
    ∙ (λ i. numbers_in die number 0 row.cells i ++ numbers_on die (number + 1) rows i)

listed_are : (trial : ShownTrial) → map number_of (stands trial) ≡ cells_listed trial
listed_are trial =
    map_after (stands_on Top 0 trial.top) (stands_on Bottom 0 trial.bottom) ∙ (λ i. numbers_on Top 0 trial.top i ++ numbers_on Bottom 0 trial.bottom i)

listed_at : (trial : ShownTrial) (i : ℕ) (stand : Stand) → slice_get (stands trial) i ≡ Some stand → slice_get (cells_listed trial) i ≡ Some stand.shown.cell.0
listed_at trial i stand is = ap (λ cells. slice_get cells i) (sym (listed_are trial)) ∙ slice_get-map number_of (stands trial) i ∙ ap (option_map number_of) is

-- a cell that is listed has a line
record IsListed (trial : ShownTrial) (i cell : ℕ) : Type 0 where
  stand : Stand
  there : slice_get (stands trial) i ≡ Some stand
  cell_is : stand.shown.cell.0 ≡ cell

listed_from : (trial : ShownTrial) (i cell : ℕ) → slice_get (cells_listed trial) i ≡ Some cell → IsListed trial i cell
listed_from trial i cell is =
    by (slice_get (stands trial) i) refl (sym (slice_get-map number_of (stands trial) i) ∙ ap (λ cells. slice_get cells i) (listed_are trial) ∙ is)
  where
    by : (o : Option Stand) → slice_get (stands trial) i ≡ o → option_map number_of o ≡ Some cell → IsListed trial i cell
    by None there is = absurd (let none : None ≡ Some cell = is in cc)
    by (Some stand) there is = record { stand = stand; there = there; cell_is = same_Some (number_of stand) cell is }

-- ---- each cell is listed once where it stands once

-- an entry of a lane is in the list
record IsEntry (trial : ShownTrial) (die : Die) (segment rank : ℕ) (cell : CellId) : Type 0 where
  i : ℕ
  stand : Stand
  there : slice_get (stands trial) i ≡ Some stand
  die_is : stand.die ≡ die
  segment_is : stand.segment ≡ segment
  rank_is : stand.rank ≡ rank
  at : slice_get (cells_listed trial) i ≡ Some cell.0

entry_from : (trial : ShownTrial) (die : Die) (segment rank : ℕ) (cell : CellId) → entry_at (lanes_on (lanes_shown trial Top) (lanes_shown trial Bottom) die) segment rank ≡ Some cell
    → IsEntry trial die segment rank cell
entry_from trial die segment rank cell is =
    let line = line_of trial die segment rank cell is in
    let there = trial_at trial die segment rank line.row line.shown line.there line.at in
    record {
      i = there.0;
      stand = record { die = die; segment = segment; rank = rank; shown = line.shown };
      there = there.1;
      die_is = refl;
      segment_is = refl;
      rank_is = refl;
      at = listed_at trial there.0 (record { die = die; segment = segment; rank = rank; shown = line.shown }) there.1 ∙ ap (λ (c : CellId). Some c.0) line.cell_is;
    }

-- what is listed is an entry of a lane
stand_entry : (trial : ShownTrial) (i : ℕ) (stand : Stand) (cell : CellId) → slice_get (stands trial) i ≡ Some stand → stand.shown.cell.0 ≡ cell.0
    → entry_at (lanes_on (lanes_shown trial Top) (lanes_shown trial Bottom) stand.die) stand.segment stand.rank ≡ Some cell
stand_entry trial i stand cell there is =
    let of = trial_from trial i stand there in
    entry_shown trial stand.die stand.segment stand.rank of.row stand.shown of.there of.at ∙ ap (λ k. Some (record { 0 = k })) is

-- two entries of one cell have one place
record IsOneStand (a b : Stand) : Type 0 where
  die_is : a.die ≡ b.die
  segment_is : a.segment ≡ b.segment
  rank_is : a.rank ≡ b.rank

one_stand : (a b : Stand) → a ≡ b → IsOneStand a b
one_stand a b same = record { die_is = ap (λ (s : Stand). s.die) same; segment_is = ap (λ (s : Stand). s.segment) same; rank_is = ap (λ (s : Stand). s.rank) same }

pub stand_of_listed : (count : ℕ) (trial : ShownTrial) → AreOnce count (cells_listed trial) → StandOnce count (lanes_shown trial Top) (lanes_shown trial Bottom)
stand_of_listed count trial once = record {
  there = λ cell below.
      let at = once.there cell below in
      let line = listed_from trial at.0 cell at.1 in
      (line.stand.die, line.stand.segment, line.stand.rank, stand_entry trial at.0 line.stand (record { 0 = cell }) line.there line.cell_is);
  within = λ die segment rank cell is. let entry = entry_from trial die segment rank cell is in once.within entry.i cell.0 entry.at;
  one_die = λ a b i j r s cell first second.
      let mine = entry_from trial a i r cell first in
      let its = entry_from trial b j s cell second in
      sym mine.die_is ∙ (one a b i j r s cell mine its).die_is ∙ its.die_is;
  one_segment = λ a b i j r s cell first second.
      let mine = entry_from trial a i r cell first in
      let its = entry_from trial b j s cell second in
      sym mine.segment_is ∙ (one a b i j r s cell mine its).segment_is ∙ its.segment_is;
  one_rank = λ a b i j r s cell first second.
      let mine = entry_from trial a i r cell first in
      let its = entry_from trial b j s cell second in
      sym mine.rank_is ∙ (one a b i j r s cell mine its).rank_is ∙ its.rank_is;
}
  where
    one : (a b : Die) (i j r s : ℕ) (cell : CellId) (mine : IsEntry trial a i r cell) (its : IsEntry trial b j s cell) → IsOneStand mine.stand its.stand
    one a b i j r s cell mine its =
        let place : mine.i ≡ its.i = once.apart mine.i its.i cell.0 mine.at its.at in
        one_stand mine.stand its.stand (same_Some mine.stand its.stand (sym mine.there ∙ ap (slice_get (stands trial)) place ∙ its.there))

pub listed_of_stand : (count : ℕ) (trial : ShownTrial) → StandOnce count (lanes_shown trial Top) (lanes_shown trial Bottom) → AreOnce count (cells_listed trial)
listed_of_stand count trial once = record {
  within = λ i cell at.
      let line = listed_from trial i cell at in
      once.within line.stand.die line.stand.segment line.stand.rank (record { 0 = cell }) (stand_entry trial i line.stand (record { 0 = cell }) line.there line.cell_is);
  apart = λ i j cell first second.
      let mine = listed_from trial i cell first in
      let its = listed_from trial j cell second in
      let here = stand_entry trial i mine.stand (record { 0 = cell }) mine.there mine.cell_is in
      let there = stand_entry trial j its.stand (record { 0 = cell }) its.there its.cell_is in
      trial_one trial i j mine.stand its.stand mine.there its.there
      (once.one_die mine.stand.die its.stand.die mine.stand.segment its.stand.segment mine.stand.rank its.stand.rank (record { 0 = cell }) here there)
      (once.one_segment mine.stand.die its.stand.die mine.stand.segment its.stand.segment mine.stand.rank its.stand.rank (record { 0 = cell }) here there)
      (once.one_rank mine.stand.die its.stand.die mine.stand.segment its.stand.segment mine.stand.rank its.stand.rank (record { 0 = cell }) here there);
  there = λ cell below.
      let is = once.there cell below in
      let entry = entry_from trial is.0 is.1 is.2 (record { 0 = cell }) is.3 in
      (entry.i, entry.at);
}

-- ---- what a marking of all rows shows

pub stood_once : (p : Netlist) (trial : ShownTrial) (seen : List Bool) (new result : Bool) → Marks new seen (marked (replicate (length p.cells) false) (cells_listed trial))
    → result ≡ (new && list_all (λ mark. mark) seen) → IsTrue result ↔ StandOnceShown p trial
stood_once p trial seen new result marks is =
    let both = shows_once (length p.cells) (cells_listed trial) seen new marks in (
      λ yes. stand_of_listed (length p.cells) trial (both.0 (sym is ∙ yes)),
      λ once. is ∙ both.1 (listed_of_stand (length p.cells) trial once),
    )

-- of a trial that placed its cells
pub lists_placed : (p : Netlist) (trial : ShownTrial) (ending : Ending) → ((cell : CellId) → ending ≡ endings.NoRow cell → ⊥) → StandOnceShown p trial → ListsOnce p trial ending
lists_placed p trial endings.Start placed once = once
lists_placed p trial endings.Better placed once = once
lists_placed p trial endings.NotBetter placed once = once
lists_placed p trial (endings.NoRow cell) placed once = absurd (placed cell refl)

pub placed_lists : (p : Netlist) (trial : ShownTrial) (ending : Ending) → ((cell : CellId) → ending ≡ endings.NoRow cell → ⊥) → ListsOnce p trial ending → StandOnceShown p trial
placed_lists p trial endings.Start placed once = once
placed_lists p trial endings.Better placed once = once
placed_lists p trial endings.NotBetter placed once = once
placed_lists p trial (endings.NoRow cell) placed once = absurd (placed cell refl)

pub listed_either : (p : Netlist) (trial : ShownTrial) (ending : Ending) (r : Result Bool NoMemory) → ending ≡ trial.ending → ((cell : CellId) → ending ≡ endings.NoRow cell → ⊥)
    → IfOk r (λ b. IsTrue b ↔ StandOnceShown p trial) → IfOk r (λ b. IsTrue b ↔ ListsOnce p trial trial.ending)
listed_either p trial ending (Err e) is placed both = tt
listed_either p trial ending (Ok b) is placed both = (
  λ yes. subst (ListsOnce p trial) is (lists_placed p trial ending placed (both.0 yes)),
  λ once. both.1 (placed_lists p trial ending placed (subst (ListsOnce p trial) (sym is) once)),
)

pub top_stops : (trial : ShownTrial) (seen now : List Bool) (rows : List ShownRow) (new : Bool) → rows ≡ rows_of trial Top → Marks new now (marked seen (cells_in_rows rows)) → new ≡ false
    → marked seen (cells_listed trial) ≡ None
top_stops trial seen now rows new are marks is =
    front_none seen (cells_in_rows trial.top) (cells_in_rows trial.bottom) (ap (λ (list : List ShownRow). marked seen (cells_in_rows list)) (sym are) ∙ stops new now (marked seen (cells_in_rows rows)) marks is)

pub both_marked : (trial : ShownTrial) (seen held now : List Bool) (tops bottoms : List ShownRow) (first second : Bool) → tops ≡ rows_of trial Top → bottoms ≡ rows_of trial Bottom
    → Marks first held (marked seen (cells_in_rows tops)) → first ≡ true → Marks second now (marked held (cells_in_rows bottoms)) → Marks second now (marked seen (cells_listed trial))
both_marked trial seen held now tops bottoms first second top_are bottom_are first_marks is second_marks =
    let front : marked seen (cells_in_rows trial.top) ≡ Some held =
    ap (λ (list : List ShownRow). marked seen (cells_in_rows list)) (sym top_are) ∙ goes first held (marked seen (cells_in_rows tops)) first_marks is in
    second_marks
    ∙ ap (λ (list : List ShownRow). marked held (cells_in_rows list)) bottom_are
    ∙ sym (after_front seen held (cells_in_rows trial.top) (cells_in_rows trial.bottom) front)

-- a marking of all rows that began without marks
from_none : (p : Netlist) (trial : ShownTrial) (first seen : List Bool) (count : ℕ) (new : Bool) → first ≡ replicate count false → count ≡ length p.cells
    → Marks new seen (marked first (cells_listed trial)) → Marks new seen (marked (replicate (length p.cells) false) (cells_listed trial))
from_none p trial first seen count new none many marks = marks ∙ ap (λ marks. marked marks (cells_listed trial)) (none ∙ ap (λ n. replicate n false) many)

pub not_stood : (p : Netlist) (trial : ShownTrial) (first seen : List Bool) (count : ℕ) (new : Bool) → first ≡ replicate count false → count ≡ length p.cells
    → Marks new seen (marked first (cells_listed trial)) → new ≡ false → IsTrue false ↔ StandOnceShown p trial
not_stood p trial first seen count new none many marks is =
    stood_once p trial seen new false (from_none p trial first seen count new none many marks) (sym (ap (λ b. b && list_all (λ mark. mark) seen) is))

pub all_stood : (p : Netlist) (trial : ShownTrial) (first seen : List Bool) (count : ℕ) (new result : Bool) → first ≡ replicate count false → count ≡ length p.cells
    → Marks new seen (marked first (cells_listed trial)) → new ≡ true → result ≡ list_all (λ mark. mark) seen → IsTrue result ↔ StandOnceShown p trial
all_stood p trial first seen count new result none many marks is all =
    stood_once p trial seen new result (from_none p trial first seen count new none many marks) (all ∙ sym (ap (λ b. b && list_all (λ mark. mark) seen) is))
