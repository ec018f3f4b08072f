-- Laws of where a trial shows its cells: each line is found by its cell, so a trial that lists a placement shows it.
use Rattle.std.specs.Prelude.{◌≡◌, ℕ, zero, suc, ◌+◌, ◌<◌, Bool, true, false, cond, nat_eq, List, [], ◌∷◌, length, map, find, slice_get, get_or, Option, Some, None, option_map}
use Rattle.std.specs.Option.{option_or}
use Rattle.std.specs.List.{range_with_len}
use Rattle.std.proofs.Common.{refl, sym, ap, subst, ◌∙◌, arith}
use Rattle.std.proofs.lemmas.Bool.Decides.{nat_tests}
use Rattle.std.proofs.lemmas.List.Folds.{find-append}
use Rattle.std.proofs.lemmas.List.FromFn.{fill_by_all, get_or-map-range_with_len, length-map-range_with_len}
use Rattle.std.proofs.lemmas.Option.{same_Some, slice_get-map, get_or_from_slice_get}
use Rattle.fp_base.specs.declared.ids.CellId.{CellId}
use Rattle.fp_base.specs.declared.ids.Die.{Die}
use Rattle.fp_base.specs.declared.ids.Die.TheVariants.{Top, Bottom}
use Rattle.fp_base.specs.declared.ids.Point.{Point}
use Rattle.fp_tech.specs.declared.dies.Segment.{Segment}
use Rattle.fp_tech.specs.Plan.{segments}
use Rattle.fp_netlist.specs.Netlist.{Netlist}
use Rattle.fp_place.specs.declared.placement.Spot.{Spot}
use Rattle.fp_place.specs.Placed.{LaneList, Placed, no_spot, spot_at, lanes_on, entry_at, Agree, DoAgree, StandOnce, IsSpotOf, IsPlacementOf}
use Rattle.fp_place.specs.PlacedLaws.{entry_of, entry_on}
use Rattle.fp_score.specs.FirstFit.{no_segment, segment_at}
use Rattle.fp_cert.specs.declared.shown.CellShown.{CellShown}
use Rattle.fp_cert.specs.Shown.{ShownRow, ShownTrial, rows_of}
use Rattle.fp_cert.specs.Standing.{Stand, stands_in, stands_on, stands, is_stand_of, stand_of, line_by, lines_shown, spot_by, target_by, spots_shown, targets_shown, lane_shown, lanes_shown}

-- ---- lines that pass a test

-- a line of a segment that was found
record IsFoundIn (test : Stand → Bool) (die : Die) (segment rank : ℕ) (cells : List CellShown) (stand : Stand) : Type 0 where
  k : ℕ
  die_is : stand.die ≡ die
  segment_is : stand.segment ≡ segment
  rank_is : stand.rank ≡ rank + k
  at : slice_get cells k ≡ Some stand.shown
  passes : test stand ≡ true

found_in : (test : Stand → Bool) (die : Die) (segment rank : ℕ) (cells : List CellShown) (stand : Stand) → find test (stands_in die segment rank cells) ≡ Some stand
    → IsFoundIn test die segment rank cells stand
unfolding stands_in
found_in test die segment rank [] stand is = absurd (let none : None ≡ Some stand = is in cc)
found_in test die segment rank (cell ∷ cells) stand is = by (test here) refl is (found_in test die segment (rank + 1) cells stand)
  where
    here : Stand
    here = record { die = die; segment = segment; rank = rank; shown = cell }

    by : (b : Bool) → test here ≡ b → cond b (Some here) (find test (stands_in die segment (rank + 1) cells)) ≡ Some stand
        → (find test (stands_in die segment (rank + 1) cells) ≡ Some stand → IsFoundIn test die segment (rank + 1) cells stand) → IsFoundIn test die segment rank (cell ∷ cells) stand
    by true passes is behind =
        let same : here ≡ stand = same_Some here stand is in
        subst (IsFoundIn test die segment rank (cell ∷ cells)) same (record { k = 0; die_is = refl; segment_is = refl; rank_is = omega arith; at = refl; passes = passes })
    by false passes is behind =
        let found = behind is in
        record { k = suc found.k; die_is = found.die_is; segment_is = found.segment_is; rank_is = omega (arith, found.rank_is); at = found.at; passes = found.passes }

-- where none was found, no line passes
none_in : (test : Stand → Bool) (die : Die) (segment rank : ℕ) (cells : List CellShown) → find test (stands_in die segment rank cells) ≡ None
    → (k : ℕ) (shown : CellShown) → slice_get cells k ≡ Some shown → test (record { die = die; segment = segment; rank = rank + k; shown = shown }) ≡ false
unfolding stands_in
none_in test die segment rank [] is k shown at = absurd cc
none_in test die segment rank (cell ∷ cells) is k shown at = by (test here) refl is (none_in test die segment (rank + 1) cells) k at
  where
    here : Stand
    here = record { die = die; segment = segment; rank = rank; shown = cell }

    Fails : ℕ → ℕ → List CellShown → Type 0
    Fails from k cells = slice_get cells k ≡ Some shown → test (record { die = die; segment = segment; rank = from + k; shown = shown }) ≡ false

    by : (b : Bool) → test here ≡ b → cond b (Some here) (find test (stands_in die segment (rank + 1) cells)) ≡ None
        → (find test (stands_in die segment (rank + 1) cells) ≡ None → (k : ℕ) (shown : CellShown) → slice_get cells k ≡ Some shown
        → test (record { die = die; segment = segment; rank = rank + 1 + k; shown = shown }) ≡ false)
        → (k : ℕ) → Fails rank k (cell ∷ cells)
    by true passes is behind k at = absurd (let some : Some here ≡ None = is in cc)
    by false passes is behind zero at =
        let same : cell ≡ shown = same_Some cell shown at in
        let from : rank ≡ rank + 0 = omega arith in
        subst (λ s. test (record { die = die; segment = segment; rank = rank + 0; shown = s }) ≡ false) same
        (subst (λ r. test (record { die = die; segment = segment; rank = r; shown = cell }) ≡ false) from passes)
    by false passes is behind (suc k) at =
        let from : rank + 1 + k ≡ rank + suc k = omega arith in
        subst (λ r. test (record { die = die; segment = segment; rank = r; shown = shown }) ≡ false) from (behind is k shown at)

option_or_some : {A : Type 0} (a b : Option A) (x : A) → option_or a b ≡ Some x → (a ≡ Some x → ⊥) → b ≡ Some x
option_or_some None b x is none = is
option_or_some (Some y) b x is none = absurd (none is)

-- a line of a die's segments that was found
record IsFoundOn (test : Stand → Bool) (die : Die) (number : ℕ) (rows : List ShownRow) (stand : Stand) : Type 0 where
  i : ℕ
  row : ShownRow
  die_is : stand.die ≡ die
  segment_is : stand.segment ≡ number + i
  there : slice_get rows i ≡ Some row
  at : slice_get row.cells stand.rank ≡ Some stand.shown
  passes : test stand ≡ true

found_on : (test : Stand → Bool) (die : Die) (number : ℕ) (rows : List ShownRow) (stand : Stand) → find test (stands_on die number rows) ≡ Some stand
    → IsFoundOn test die number rows stand
unfolding stands_on
found_on test die number [] stand is = absurd (let none : None ≡ Some stand = is in cc)
found_on test die number (row ∷ rows) stand is =
    by (find test (stands_in die number 0 row.cells)) refl (sym (find-append test (stands_in die number 0 row.cells) (stands_on die (number + 1) rows)) ∙ is)
    (found_on test die (number + 1) rows stand)
  where
    by : (first : Option Stand) → find test (stands_in die number 0 row.cells) ≡ first → option_or first (find test (stands_on die (number + 1) rows)) ≡ Some stand
        → (find test (stands_on die (number + 1) rows) ≡ Some stand → IsFoundOn test die (number + 1) rows stand) → IsFoundOn test die number (row ∷ rows) stand
    by (Some here) is_first is behind =
        let same : here ≡ stand = same_Some here stand is in
        let found = found_in test die number 0 row.cells stand (is_first ∙ ap Some same) in
        let rank : found.k ≡ stand.rank = omega (arith, found.rank_is) in
        record {
          i = 0;
          row = row;
          die_is = found.die_is;
          segment_is = omega (arith, found.segment_is);
          there = refl;
          at = subst (λ r. slice_get row.cells r ≡ Some stand.shown) rank found.at;
          passes = found.passes;
        }
    by None is_first is behind =
        let found = behind is in
        record {
          i = suc found.i;
          row = found.row;
          die_is = found.die_is;
          segment_is = omega (arith, found.segment_is);
          there = found.there;
          at = found.at;
          passes = found.passes;
        }

none_on : (test : Stand → Bool) (die : Die) (number : ℕ) (rows : List ShownRow) → find test (stands_on die number rows) ≡ None
    → (i rank : ℕ) (row : ShownRow) (shown : CellShown) → slice_get rows i ≡ Some row → slice_get row.cells rank ≡ Some shown
    → test (record { die = die; segment = number + i; rank = rank; shown = shown }) ≡ false
unfolding stands_on
none_on test die number [] is i rank row shown there at = absurd cc
none_on test die number (first ∷ rows) is i rank row shown there at =
    by (find test (stands_in die number 0 first.cells)) refl (sym (find-append test (stands_in die number 0 first.cells) (stands_on die (number + 1) rows)) ∙ is)
    (none_on test die (number + 1) rows) i there
  where
    by : (found : Option Stand) → find test (stands_in die number 0 first.cells) ≡ found → option_or found (find test (stands_on die (number + 1) rows)) ≡ None
        → (find test (stands_on die (number + 1) rows) ≡ None → (i rank : ℕ) (row : ShownRow) (shown : CellShown) → slice_get rows i ≡ Some row
        → slice_get row.cells rank ≡ Some shown → test (record { die = die; segment = number + 1 + i; rank = rank; shown = shown }) ≡ false)
        → (i : ℕ) → slice_get (first ∷ rows) i ≡ Some row → test (record { die = die; segment = number + i; rank = rank; shown = shown }) ≡ false
    by (Some here) is_found is behind i there = absurd (let some : Some here ≡ None = is in cc)
    by None is_found is behind zero there =
        let same : first ≡ row = same_Some first row there in
        let none = none_in test die number 0 first.cells is_found rank shown (ap (λ (r : ShownRow). slice_get r.cells rank) same ∙ at) in
        let segment : number ≡ number + 0 = omega arith in
        let from : 0 + rank ≡ rank = omega arith in
        subst (λ s. test (record { die = die; segment = s; rank = rank; shown = shown }) ≡ false) segment
        (subst (λ r. test (record { die = die; segment = number; rank = r; shown = shown }) ≡ false) from none)
    by None is_found is behind (suc i) there =
        let segment : number + 1 + i ≡ number + suc i = omega arith in
        subst (λ s. test (record { die = die; segment = s; rank = rank; shown = shown }) ≡ false) segment (behind is i rank row shown there at)

-- a line of a trial that was found
record IsFound (test : Stand → Bool) (trial : ShownTrial) (stand : Stand) : Type 0 where
  row : ShownRow
  there : slice_get (rows_of trial stand.die) stand.segment ≡ Some row
  at : slice_get row.cells stand.rank ≡ Some stand.shown
  passes : test stand ≡ true

on_die : (test : Stand → Bool) (trial : ShownTrial) (die : Die) (stand : Stand) → IsFoundOn test die 0 (rows_of trial die) stand → IsFound test trial stand
on_die test trial die stand found =
    let segment : found.i ≡ stand.segment = omega (arith, found.segment_is) in
    let there : slice_get (rows_of trial die) stand.segment ≡ Some found.row = subst (λ s. slice_get (rows_of trial die) s ≡ Some found.row) segment found.there in
    record { row = found.row; there = subst (λ d. slice_get (rows_of trial d) stand.segment ≡ Some found.row) (sym found.die_is) there; at = found.at; passes = found.passes }

found : (test : Stand → Bool) (trial : ShownTrial) (stand : Stand) → find test (stands trial) ≡ Some stand → IsFound test trial stand
found test trial stand is =
    by (find test (stands_on Top 0 trial.top)) refl (sym (find-append test (stands_on Top 0 trial.top) (stands_on Bottom 0 trial.bottom)) ∙ is)
  where
    by : (first : Option Stand) → find test (stands_on Top 0 trial.top) ≡ first → option_or first (find test (stands_on Bottom 0 trial.bottom)) ≡ Some stand → IsFound test trial stand
    by (Some here) is_first is = on_die test trial Top stand (found_on test Top 0 trial.top stand (is_first ∙ ap Some (same_Some here stand is)))
    by None is_first is = on_die test trial Bottom stand (found_on test Bottom 0 trial.bottom stand is)

none_found : (test : Stand → Bool) (trial : ShownTrial) → find test (stands trial) ≡ None → (die : Die) (segment rank : ℕ) (row : ShownRow) (shown : CellShown)
    → slice_get (rows_of trial die) segment ≡ Some row → slice_get row.cells rank ≡ Some shown → test (record { die = die; segment = segment; rank = rank; shown = shown }) ≡ false
none_found test trial is die segment rank row shown there at =
    by (find test (stands_on Top 0 trial.top)) refl (sym (find-append test (stands_on Top 0 trial.top) (stands_on Bottom 0 trial.bottom)) ∙ is) die there
  where
    from_0 : (die : Die) → test (record { die = die; segment = 0 + segment; rank = rank; shown = shown }) ≡ false → test (record { die = die; segment = segment; rank = rank; shown = shown }) ≡ false
    from_0 die fails =
        let same : 0 + segment ≡ segment = omega arith in
        subst (λ s. test (record { die = die; segment = s; rank = rank; shown = shown }) ≡ false) same fails

    by : (first : Option Stand) → find test (stands_on Top 0 trial.top) ≡ first → option_or first (find test (stands_on Bottom 0 trial.bottom)) ≡ None
        → (die : Die) → slice_get (rows_of trial die) segment ≡ Some row → test (record { die = die; segment = segment; rank = rank; shown = shown }) ≡ false
    by (Some here) is_first is die there = absurd (let some : Some here ≡ None = is in cc)
    by None is_first is Top there = from_0 Top (none_on test Top 0 trial.top is_first segment rank row shown there at)
    by None is_first is Bottom there = from_0 Bottom (none_on test Bottom 0 trial.bottom is segment rank row shown there at)

-- ---- the line of a cell

lanes_of_die : (trial : ShownTrial) (die : Die) → lanes_on (lanes_shown trial Top) (lanes_shown trial Bottom) die ≡ lanes_shown trial die
lanes_of_die trial Top = refl
lanes_of_die trial Bottom = refl

-- a line is an entry of its segment's lane
pub entry_shown : (trial : ShownTrial) (die : Die) (segment rank : ℕ) (row : ShownRow) (shown : CellShown) → slice_get (rows_of trial die) segment ≡ Some row
    → slice_get row.cells rank ≡ Some shown → entry_at (lanes_on (lanes_shown trial Top) (lanes_shown trial Bottom) die) segment rank ≡ Some shown.cell
entry_shown trial die segment rank row shown there at =
    let lane : slice_get (lanes_shown trial die) segment ≡ Some (lane_shown row) = slice_get-map lane_shown (rows_of trial die) segment ∙ ap (option_map lane_shown) there in
    let entry : slice_get (lane_shown row) rank ≡ Some shown.cell = slice_get-map (λ (s : CellShown). s.cell) row.cells rank ∙ ap (option_map (λ (s : CellShown). s.cell)) at in
    ap (λ (lanes : LaneList). entry_at lanes segment rank) (lanes_of_die trial die) ∙ entry_on (lanes_shown trial die) segment rank (lane_shown row) lane ∙ entry

-- an entry of a lane is a line
pub record IsLine (trial : ShownTrial) (die : Die) (segment rank : ℕ) (cell : CellId) : Type 0 where
  pub row : ShownRow
  pub shown : CellShown
  pub there : slice_get (rows_of trial die) segment ≡ Some row
  pub at : slice_get row.cells rank ≡ Some shown
  pub cell_is : shown.cell ≡ cell

mapped : {A B : Type 0} (view : A → B) (o : Option A) (y : B) → option_map view o ≡ Some y → (x : A) × (o ≡ Some x) × (view x ≡ y)
mapped view None y is = absurd (let none : None ≡ Some y = is in cc)
mapped view (Some x) y is = (x, refl, same_Some (view x) y is)

pub line_of : (trial : ShownTrial) (die : Die) (segment rank : ℕ) (cell : CellId) → entry_at (lanes_on (lanes_shown trial Top) (lanes_shown trial Bottom) die) segment rank ≡ Some cell
    → IsLine trial die segment rank cell
line_of trial die segment rank cell is =
    let entry = entry_of (lanes_shown trial die) segment rank cell (ap (λ (lanes : LaneList). entry_at lanes segment rank) (sym (lanes_of_die trial die)) ∙ is) in
    let row = mapped lane_shown (slice_get (rows_of trial die) segment) entry.lane (sym (slice_get-map lane_shown (rows_of trial die) segment) ∙ entry.there) in
    let at : slice_get (lane_shown row.0) rank ≡ Some cell = ap (λ (lane : List CellId). slice_get lane rank) row.2 ∙ entry.at in
    let shown = mapped (λ (s : CellShown). s.cell) (slice_get row.0.cells rank) cell (sym (slice_get-map (λ (s : CellShown). s.cell) row.0.cells rank) ∙ at) in
    record { row = row.0; shown = shown.0; there = row.1; at = shown.1; cell_is = shown.2 }

same_number : (a b : ℕ) → nat_eq a b ≡ true → a ≡ b
same_number a b is = grind (arith, nat_tests)

-- where each cell is listed once, its line is the one that counts
pub stand_there : (trial : ShownTrial) (cells : ℕ) → StandOnce cells (lanes_shown trial Top) (lanes_shown trial Bottom) → (die : Die) (segment rank : ℕ) (row : ShownRow) (shown : CellShown)
    → slice_get (rows_of trial die) segment ≡ Some row → slice_get row.cells rank ≡ Some shown
    → stand_of trial shown.cell.0 ≡ Some (record { die = die; segment = segment; rank = rank; shown = shown })
stand_there trial cells once die segment rank row shown there at = by (stand_of trial shown.cell.0) refl
  where
    here : Stand
    here = record { die = die; segment = segment; rank = rank; shown = shown }

    named : is_stand_of shown.cell.0 here ≡ true
    named = grind (arith, nat_tests)

    by : (o : Option Stand) → stand_of trial shown.cell.0 ≡ o → o ≡ Some here
    by None is = absurd (let fails = none_found (is_stand_of shown.cell.0) trial is die segment rank row shown there at in let no : true ≡ false = sym named ∙ fails in cc)
    by (Some stand) is =
        let line = found (is_stand_of shown.cell.0) trial stand is in
        let cell : stand.shown.cell ≡ shown.cell = ap (λ k. record { 0 = k }) (same_number stand.shown.cell.0 shown.cell.0 line.passes) in
        let mine = entry_shown trial die segment rank row shown there at in
        let its = entry_shown trial stand.die stand.segment stand.rank line.row stand.shown line.there line.at ∙ ap Some cell in
        let die_is = once.one_die stand.die die stand.segment segment stand.rank rank shown.cell its mine in
        let segment_is = once.one_segment stand.die die stand.segment segment stand.rank rank shown.cell its mine in
        let rank_is = once.one_rank stand.die die stand.segment segment stand.rank rank shown.cell its mine in
        let row_is : line.row ≡ row = same_Some line.row row (sym line.there ∙ (λ i. slice_get (rows_of trial (die_is i)) (segment_is i)) ∙ there) in
        let shown_is : stand.shown ≡ shown = same_Some stand.shown shown (sym line.at ∙ (λ i. slice_get (row_is i).cells (rank_is i)) ∙ at) in
        λ i. Some (record { die = die_is i; segment = segment_is i; rank = rank_is i; shown = shown_is i })

-- ---- what a trial shows of a placement whose lanes it lists

-- in a placement each cell stands once
pub once_of : (placed : Placed) (cells : ℕ) → DoAgree placed → length placed.spots ≡ cells → StandOnce cells placed.top placed.bottom
once_of placed cells agree many = record {
  there = λ cell below.
      let spot = spot_at placed.spots cell in
      (spot.die, spot.segment, spot.rank, agree.spot_named cell (omega (arith, below, many)));
  within = λ die segment rank cell at. let below = agree.within die segment rank cell at in omega (arith, below, many);
  one_die = λ a b i j r s cell at other. sym (agree.entry_named a i r cell at).die_is ∙ (agree.entry_named b j s cell other).die_is;
  one_segment = λ a b i j r s cell at other. sym (agree.entry_named a i r cell at).segment_is ∙ (agree.entry_named b j s cell other).segment_is;
  one_rank = λ a b i j r s cell at other. sym (agree.entry_named a i r cell at).rank_is ∙ (agree.entry_named b j s cell other).rank_is;
}

-- each line shows its cell as it stands in lists by cell
abbrev pub ShowsEach : ShownTrial → List Spot → List Point → Type 0
ShowsEach trial spots targets = (die : Die) (segment rank : ℕ) (row : ShownRow) (shown : CellShown) → slice_get (rows_of trial die) segment ≡ Some row → slice_get row.cells rank ≡ Some shown
    → (shown.x ≡ (spot_at spots shown.cell.0).x) × (shown.target ≡ get_or targets shown.cell.0 (target_by None))

-- and each line shows its cell as the trial does, where each cell is listed once
pub shows_itself : (p : Netlist) (trial : ShownTrial) → StandOnce (length p.cells) (lanes_shown trial Top) (lanes_shown trial Bottom) → ShowsEach trial (spots_shown p trial) (targets_shown p trial)
unfolding spots_shown targets_shown
shows_itself p trial once die segment rank row shown there at =
    let below = once.within die segment rank shown.cell (entry_shown trial die segment rank row shown there at) in
    let stand = stand_there trial (length p.cells) once die segment rank row shown there at in
    let spot = get_or-map-range_with_len (λ cell. spot_by p.plan (stand_of trial cell)) 0 (length p.cells) shown.cell.0 shown.cell.0 no_spot below (omega arith) in
    let target = get_or-map-range_with_len (λ cell. target_by (stand_of trial cell)) 0 (length p.cells) shown.cell.0 shown.cell.0 (target_by None) below (omega arith) in
    (sym (ap (λ (s : Spot). s.x) spot ∙ ap (λ o. (spot_by p.plan o).x) stand), sym (target ∙ ap target_by stand))

pub length-targets_shown : (p : Netlist) (trial : ShownTrial) → length (targets_shown p trial) ≡ length p.cells
unfolding targets_shown
length-targets_shown p trial = length-map-range_with_len (λ cell. target_by (stand_of trial cell)) 0 (length p.cells)

agree_on : (p : Netlist) (trial : ShownTrial) (placed : Placed) → DoAgree placed → lanes_shown trial Top ≡ placed.top → lanes_shown trial Bottom ≡ placed.bottom
    → Agree placed.spots (lanes_shown trial Top) (lanes_shown trial Bottom)
agree_on p trial placed agree top bottom =
    subst (λ (lanes : LaneList). Agree placed.spots (lanes_shown trial Top) lanes) (sym bottom) (subst (λ (lanes : LaneList). Agree placed.spots lanes placed.bottom) (sym top) agree)

once_on : (p : Netlist) (trial : ShownTrial) (placed : Placed) → StandOnce (length p.cells) placed.top placed.bottom → lanes_shown trial Top ≡ placed.top
    → lanes_shown trial Bottom ≡ placed.bottom → StandOnce (length p.cells) (lanes_shown trial Top) (lanes_shown trial Bottom)
once_on p trial placed once top bottom =
    subst (λ (lanes : LaneList). StandOnce (length p.cells) (lanes_shown trial Top) lanes) (sym bottom) (subst (λ (lanes : LaneList). StandOnce (length p.cells) lanes placed.bottom) (sym top) once)

-- a cell's line, where the trial lists the lanes of a placement
record IsLineFor (trial : ShownTrial) (spots : List Spot) (targets : List Point) (cell : ℕ) : Type 0 where
  shown : CellShown
  counts : stand_of trial cell
      ≡ Some (record { die = (spot_at spots cell).die; segment = (spot_at spots cell).segment; rank = (spot_at spots cell).rank; shown = shown })
  x_is : shown.x ≡ (spot_at spots cell).x
  target_is : shown.target ≡ get_or targets cell (target_by None)

line_for : (trial : ShownTrial) (cells : ℕ) (spots : List Spot) (targets : List Point) → Agree spots (lanes_shown trial Top) (lanes_shown trial Bottom)
    → StandOnce cells (lanes_shown trial Top) (lanes_shown trial Bottom) → ShowsEach trial spots targets → (cell : ℕ) → cell < length spots → IsLineFor trial spots targets cell
line_for trial cells spots targets agree once shows cell below =
    let spot = spot_at spots cell in
    let line = line_of trial spot.die spot.segment spot.rank (record { 0 = cell }) (agree.spot_named cell below) in
    let number : line.shown.cell.0 ≡ cell = ap (λ (c : CellId). c.0) line.cell_is in
    let each = shows spot.die spot.segment spot.rank line.row line.shown line.there line.at in
    record {
      shown = line.shown;
      counts = ap (stand_of trial) (sym number) ∙ stand_there trial cells once spot.die spot.segment spot.rank line.row line.shown line.there line.at;
      x_is = each.0 ∙ ap (λ k. (spot_at spots k).x) number;
      target_is = each.1 ∙ ap (λ k. get_or targets k (target_by None)) number;
    }

-- a spot is what its line says, as it stands on its segment's row
spot_said : (p : Netlist) (spot : Spot) (shown : CellShown) → IsSpotOf p spot → shown.x ≡ spot.x
    → spot_by p.plan (Some (record { die = spot.die; segment = spot.segment; rank = spot.rank; shown = shown })) ≡ spot
spot_said p spot shown is x_is =
    let y_is : (segment_at p.plan spot.die spot.segment).y ≡ spot.y =
    ap (λ (s : Segment). s.y) (get_or_from_slice_get (segments p.plan spot.die) spot.segment is.segment no_segment is.there) ∙ sym is.row in
    λ i. record { die = spot.die; segment = spot.segment; rank = spot.rank; x = x_is i; y = y_is i }

-- A trial that lists the lanes of a placement, each cell at its spot's x, shows the placement's spots,
pub spots_are : (p : Netlist) (trial : ShownTrial) (placed : Placed) (targets : List Point) → IsPlacementOf p placed → DoAgree placed
    → StandOnce (length p.cells) placed.top placed.bottom → lanes_shown trial Top ≡ placed.top → lanes_shown trial Bottom ≡ placed.bottom
    → ShowsEach trial placed.spots targets → spots_shown p trial ≡ placed.spots
unfolding spots_shown
spots_are p trial placed targets is agree once top bottom shows =
    sym (fill_by_all (λ cell. spot_by p.plan (stand_of trial cell)) placed.spots (length p.cells) no_spot is.cells (λ cell below.
    let line = line_for trial (length p.cells) placed.spots targets (agree_on p trial placed agree top bottom) (once_on p trial placed once top bottom) shows cell (omega (arith, below, is.cells)) in
    sym (ap (spot_by p.plan) line.counts ∙ spot_said p (spot_at placed.spots cell) line.shown (is.spots cell no_spot (omega (arith, below, is.cells))) line.x_is)))

-- and the targets that its lines have.
pub targets_are : (p : Netlist) (trial : ShownTrial) (placed : Placed) (targets : List Point) → IsPlacementOf p placed → DoAgree placed
    → StandOnce (length p.cells) placed.top placed.bottom → lanes_shown trial Top ≡ placed.top → lanes_shown trial Bottom ≡ placed.bottom
    → length targets ≡ length p.cells → ShowsEach trial placed.spots targets → targets_shown p trial ≡ targets
unfolding targets_shown
targets_are p trial placed targets is agree once top bottom many shows =
    sym (fill_by_all (λ cell. target_by (stand_of trial cell)) targets (length p.cells) (target_by None) many (λ cell below.
    let line = line_for trial (length p.cells) placed.spots targets (agree_on p trial placed agree top bottom) (once_on p trial placed once top bottom) shows cell (omega (arith, below, is.cells)) in
    sym (ap target_by line.counts ∙ line.target_is)))

-- ---- the lines of all cells

map_map : {A B C : Type 0} (f : A → B) (g : B → C) (xs : List A) → map g (map f xs) ≡ map (λ x. g (f x)) xs
map_map f g [] = refl
map_map f g (x ∷ xs) = ap (λ ys. g (f x) ∷ ys) (map_map f g xs)

map_alike : {A B : Type 0} (f g : A → B) → ((x : A) → f x ≡ g x) → (xs : List A) → map f xs ≡ map g xs
map_alike f g same [] = refl
map_alike f g same (x ∷ xs) = (λ i. same x i ∷ map_alike f g same xs i)

-- a cell's line has the x of its spot and its target
pub xs_of_lines : (p : Netlist) (trial : ShownTrial) → map (λ (line : CellShown). line.x) (lines_shown p trial) ≡ map (λ (spot : Spot). spot.x) (spots_shown p trial)
unfolding lines_shown spots_shown
xs_of_lines p trial =
    map_map (λ cell. line_by (stand_of trial cell)) (λ (line : CellShown). line.x) (range_with_len 0 (length p.cells))
    ∙ map_alike (λ cell. (line_by (stand_of trial cell)).x) (λ cell. (spot_by p.plan (stand_of trial cell)).x) (λ cell. by (stand_of trial cell)) (range_with_len 0 (length p.cells))
    ∙ sym (map_map (λ cell. spot_by p.plan (stand_of trial cell)) (λ (spot : Spot). spot.x) (range_with_len 0 (length p.cells)))
  where
    by : (stand : Option Stand) → (line_by stand).x ≡ (spot_by p.plan stand).x
    by None = refl
    by (Some stand) = refl

pub targets_of_lines : (p : Netlist) (trial : ShownTrial) → map (λ (line : CellShown). line.target) (lines_shown p trial) ≡ targets_shown p trial
unfolding lines_shown targets_shown
targets_of_lines p trial =
    map_map (λ cell. line_by (stand_of trial cell)) (λ (line : CellShown). line.target) (range_with_len 0 (length p.cells))
    ∙ map_alike (λ cell. (line_by (stand_of trial cell)).target) (λ cell. target_by (stand_of trial cell)) (λ cell. by (stand_of trial cell)) (range_with_len 0 (length p.cells))
  where
    by : (stand : Option Stand) → (line_by stand).target ≡ target_by stand
    by None = refl
    by (Some stand) = refl
