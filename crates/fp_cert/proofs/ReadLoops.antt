-- The loops that read lines, turn by turn.
use Rattle.std.proofs.Common.{◌≡◌, ℕ, ◌+◌, ◌-◌, ◌<◌, ◌≤◌, List, [], ◌∷◌, ◌++◌, length, Ok, sym, ap, subst, ◌∙◌, arith, append_assoc}
use Rattle.std.proofs.lemmas.List.{append-nil}
use Rattle.std.proofs.lemmas.List.Sums.{sum_by_push}
use Rattle.fp_base.specs.declared.ids.CellId.{CellId}
use Rattle.fp_base.specs.declared.ids.Die.{Die}
use Rattle.fp_base.specs.declared.ids.Die.TheVariants.{Top, Bottom}
use Rattle.fp_text.specs.Reading.{Left, Read, GivesFault, many_next}
use Rattle.fp_text.specs.ReadingLaws.{many_step, many_ends, many_done}
use Rattle.fp_text.specs.declared.fault.TextFault.{TextFault}
use Rattle.fp_netlist.specs.Netlist.{Netlist}
use Rattle.fp_cert.specs.declared.shown.CellShown.{CellShown}
use Rattle.fp_cert.specs.declared.shown.CutShown.{CutShown}
use Rattle.fp_cert.specs.Shown.{ShownRow, ShownTrial, ShownRun, with_cell, with_row, with_cut, with_top, with_trial}
use Rattle.fp_cert.specs.OfProblem.{cells_in}
use Rattle.fp_cert.specs.CertReading.{row_next, row_item, trial_item}
use Rattle.fp_cert.specs.Growing.{with_cells, with_rows, with_cuts, with_tops, with_trials}

-- these items were read so far, and added to the old value
pub record SoFar {V A : Type 0} (grow : V → List A → V) (item : List A → Left → Read A) (count i : ℕ) (old now : V) (l : Left) (total : Read (List A)) : Type 0 where
  pub items : List A
  pub value : now ≡ grow old items
  pub reading : many_next item (count - i) items l ≡ total

so_far_none : {V A : Type 0} (grow : V → List A → V) (item : List A → Left → Read A) (count : ℕ) (old : V) (l : Left) → grow old [] ≡ old
    → SoFar grow item count 0 old old l (many_next item count [] l)
so_far_none grow item count old l none = record { items = []; value = sym none; reading = ap (λ (n : ℕ). many_next item n [] l) (omega arith) }

-- one more item was read behind these, and added
abbrev OneMore : {V A : Type 0} → (V → A → V) → (Left → Read A) → V → V → Left → Left → Type 0
OneMore {A = A} add read now next l after = (x : A) × (read l ≡ Ok (x, after)) × (next ≡ add now x)

so_far_more : {V A : Type 0} (grow : V → List A → V) (add : V → A → V) (item : List A → Left → Read A) (count i : ℕ) (old now next : V) (l after : Left) (total : Read (List A))
    → ((items : List A) (x : A) → add (grow old items) x ≡ grow old (items ++ x ∷ [])) → i < count → (so_far : SoFar grow item count i old now l total)
    → OneMore add (item so_far.items) now next l after → SoFar grow item count (i + 1) old next after total
so_far_more grow add item count i old now next l after total push lt so_far one = record {
  items = so_far.items ++ one.0 ∷ [];
  value = one.2 ∙ ap (λ v. add v one.0) so_far.value ∙ push so_far.items one.0;
  reading = many_step item count i so_far.items l one.0 after total lt one.1 so_far.reading;
}

pub so_far_fault : {V A : Type 0} (e : TextFault) (grow : V → List A → V) (item : List A → Left → Read A) (count i : ℕ) (old now : V) (l : Left) (total : Read (List A)) → i < count
    → (so_far : SoFar grow item count i old now l total) → GivesFault e (item so_far.items l) → GivesFault e total
so_far_fault e grow item count i old now l total lt so_far fails = many_ends e item count i so_far.items l total lt fails so_far.reading

pub so_far_all : {V A : Type 0} (grow : V → List A → V) (item : List A → Left → Read A) (count i : ℕ) (old now : V) (l : Left) (total : Read (List A)) → count ≤ i
    → (so_far : SoFar grow item count i old now l total) → total ≡ Ok (so_far.items, l)
so_far_all grow item count i old now l total le so_far = many_done item count i so_far.items l total le so_far.reading

-- ---- the cells of a segment

pub cells_none : (line : Left → Read CellShown) (count : ℕ) (old : ShownRow) (l : Left) → SoFar with_cells (λ before. line) count 0 old old l (many_next (λ before. line) count [] l)
cells_none line count old l = so_far_none with_cells (λ before. line) count old l (ap (λ (cells : List CellShown). record old { cells = cells }) (append-nil old.cells))

pub cells_more : (line : Left → Read CellShown) (count i : ℕ) (old now next : ShownRow) (l after : Left) (total : Read (List CellShown)) → i < count
    → SoFar with_cells (λ before. line) count i old now l total → OneMore with_cell line now next l after → SoFar with_cells (λ before. line) count (i + 1) old next after total
cells_more line count i old now next l after total lt so_far one = so_far_more with_cells with_cell (λ before. line) count i old now next l after total push lt so_far one
  where
    push : (cells : List CellShown) (cell : CellShown) → with_cell (with_cells old cells) cell ≡ with_cells old (cells ++ cell ∷ [])
    push cells cell = ap (λ (all : List CellShown). record old { cells = all }) (append_assoc old.cells cells (cell ∷ []))

-- ---- the cut nets

pub cuts_none : (line : Left → Read CutShown) (count : ℕ) (old : ShownTrial) (l : Left) → SoFar with_cuts (λ before. line) count 0 old old l (many_next (λ before. line) count [] l)
cuts_none line count old l = so_far_none with_cuts (λ before. line) count old l (ap (λ (cuts : List CutShown). record old { cuts = cuts }) (append-nil old.cuts))

pub cuts_more : (line : Left → Read CutShown) (count i : ℕ) (old now next : ShownTrial) (l after : Left) (total : Read (List CutShown)) → i < count
    → SoFar with_cuts (λ before. line) count i old now l total → OneMore with_cut line now next l after → SoFar with_cuts (λ before. line) count (i + 1) old next after total
cuts_more line count i old now next l after total lt so_far one = so_far_more with_cuts with_cut (λ before. line) count i old now next l after total push lt so_far one
  where
    push : (cuts : List CutShown) (cut : CutShown) → with_cut (with_cuts old cuts) cut ≡ with_cuts old (cuts ++ cut ∷ [])
    push cuts cut = ap (λ (all : List CutShown). record old { cuts = all }) (append_assoc old.cuts cuts (cut ∷ []))

-- ---- the cells of the top die

pub tops_none : (line : Left → Read CellId) (count : ℕ) (old : ShownTrial) (l : Left) → SoFar with_tops (λ before. line) count 0 old old l (many_next (λ before. line) count [] l)
tops_none line count old l = so_far_none with_tops (λ before. line) count old l (ap (λ (cells : List CellId). record old { top_cells = cells }) (append-nil old.top_cells))

pub tops_more : (line : Left → Read CellId) (count i : ℕ) (old now next : ShownTrial) (l after : Left) (total : Read (List CellId)) → i < count
    → SoFar with_tops (λ before. line) count i old now l total → OneMore with_top line now next l after → SoFar with_tops (λ before. line) count (i + 1) old next after total
tops_more line count i old now next l after total lt so_far one = so_far_more with_tops with_top (λ before. line) count i old now next l after total push lt so_far one
  where
    push : (cells : List CellId) (cell : CellId) → with_top (with_tops old cells) cell ≡ with_tops old (cells ++ cell ∷ [])
    push cells cell = ap (λ (all : List CellId). record old { top_cells = all }) (append_assoc old.top_cells cells (cell ∷ []))

-- ---- the segments of a die

-- so many cells were taken with the segments so far
pub record RowsSoFar (p : Netlist) (die : Die) (start taken count i : ℕ) (old now : ShownTrial) (l : Left) (total : Read (List ShownRow)) : Type 0 where
  pub so_far : SoFar (with_rows die) (row_item p start) count i old now l total
  pub taken_is : taken ≡ start + cells_in so_far.items

pub rows_none : (p : Netlist) (die : Die) (start count : ℕ) (old : ShownTrial) (l : Left) → RowsSoFar p die start start count 0 old old l (many_next (row_item p start) count [] l)
unfolding so_far_none
rows_none p die start count old l = record { so_far = so_far_none (with_rows die) (row_item p start) count old l (none die); taken_is = taken }
  where
    taken : start ≡ start + cells_in []
    taken = omega arith

    none : (die : Die) → with_rows die old [] ≡ old
    none Top = ap (λ (rows : List ShownRow). record old { top = rows }) (append-nil old.top)
    none Bottom = ap (λ (rows : List ShownRow). record old { bottom = rows }) (append-nil old.bottom)

-- one more segment was read, where so many cells were taken
abbrev RowMore : Netlist → Die → ℕ → ℕ → ShownTrial → ShownTrial → Left → Left → Type 0
RowMore p die taken after now next l left = (row : ShownRow) × (row_next p taken l ≡ Ok (row, left)) × (next ≡ with_row now die row) × (after ≡ taken + length row.cells)

pub rows_more : (p : Netlist) (die : Die) (start taken after count i : ℕ) (old now next : ShownTrial) (l left : Left) (total : Read (List ShownRow)) → i < count
    → RowsSoFar p die start taken count i old now l total → RowMore p die taken after now next l left → RowsSoFar p die start after count (i + 1) old next left total
unfolding so_far_more
rows_more p die start taken after count i old now next l left total lt rows one = record {
  so_far = so_far_more (with_rows die) (λ (trial : ShownTrial) (row : ShownRow). with_row trial die row) (row_item p start) count i old now next l left total (push die) lt rows.so_far
      (one.0, ap (λ (n : ℕ). row_next p n l) (sym rows.taken_is) ∙ one.1, one.2);
  taken_is = more rows.so_far.items one.0 rows.taken_is one.3;
}
  where
    more : (items : List ShownRow) (row : ShownRow) → taken ≡ start + cells_in items → after ≡ taken + length row.cells → after ≡ start + cells_in (items ++ row ∷ [])
    more items row is with_it = omega (arith, is, with_it, sum_by_push (λ (shown : ShownRow). length shown.cells) items row)

    push : (die : Die) (rows : List ShownRow) (row : ShownRow) → with_row (with_rows die old rows) die row ≡ with_rows die old (rows ++ row ∷ [])
    push Top rows row = ap (λ (all : List ShownRow). record old { top = all }) (append_assoc old.top rows (row ∷ []))
    push Bottom rows row = ap (λ (all : List ShownRow). record old { bottom = all }) (append_assoc old.bottom rows (row ∷ []))

pub rows_fault : (e : TextFault) (p : Netlist) (die : Die) (start taken count i : ℕ) (old now : ShownTrial) (l : Left) (total : Read (List ShownRow)) → i < count
    → RowsSoFar p die start taken count i old now l total → GivesFault e (row_next p taken l) → GivesFault e total
rows_fault e p die start taken count i old now l total lt rows fails =
    so_far_fault e (with_rows die) (row_item p start) count i old now l total lt rows.so_far (subst (λ (n : ℕ). GivesFault e (row_next p n l)) rows.taken_is fails)

-- ---- the trials of a run that had none

pub trials_none : (p : Netlist) (slots count : ℕ) (old : ShownRun) (l : Left) → SoFar with_trials (trial_item p slots) count 0 old old l (many_next (trial_item p slots) count [] l)
trials_none p slots count old l = so_far_none with_trials (trial_item p slots) count old l (ap (λ (trials : List ShownTrial). record old { trials = trials }) (append-nil old.trials))

trials_are : (p : Netlist) (slots count i : ℕ) (old now : ShownRun) (l : Left) (total : Read (List ShownTrial)) → old.trials ≡ []
    → (so_far : SoFar with_trials (trial_item p slots) count i old now l total) → now.trials ≡ so_far.items
trials_are p slots count i old now l total none so_far = ap (λ (run : ShownRun). run.trials) so_far.value ∙ ap (λ (trials : List ShownTrial). trials ++ so_far.items) none

pub trials_more : (p : Netlist) (slots count i : ℕ) (old now next : ShownRun) (l after : Left) (total : Read (List ShownTrial)) → i < count → old.trials ≡ []
    → SoFar with_trials (trial_item p slots) count i old now l total → OneMore with_trial (trial_item p slots now.trials) now next l after
    → SoFar with_trials (trial_item p slots) count (i + 1) old next after total
trials_more p slots count i old now next l after total lt none so_far one =
    so_far_more with_trials with_trial (trial_item p slots) count i old now next l after total push lt so_far
    (one.0, ap (λ (trials : List ShownTrial). trial_item p slots trials l) (sym (trials_are p slots count i old now l total none so_far)) ∙ one.1, one.2)
  where
    push : (trials : List ShownTrial) (trial : ShownTrial) → with_trial (with_trials old trials) trial ≡ with_trials old (trials ++ trial ∷ [])
    push trials trial = ap (λ (all : List ShownTrial). record old { trials = all }) (append_assoc old.trials trials (trial ∷ []))

pub trials_fault : (e : TextFault) (p : Netlist) (slots count i : ℕ) (old now : ShownRun) (l : Left) (total : Read (List ShownTrial)) → i < count → old.trials ≡ []
    → SoFar with_trials (trial_item p slots) count i old now l total → GivesFault e (trial_item p slots now.trials l) → GivesFault e total
trials_fault e p slots count i old now l total lt none so_far fails =
    so_far_fault e with_trials (trial_item p slots) count i old now l total lt so_far
    (subst (λ (trials : List ShownTrial). GivesFault e (trial_item p slots trials l)) (trials_are p slots count i old now l total none so_far) fails)
