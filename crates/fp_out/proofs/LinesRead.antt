-- The loops that read lines into a drawing, turn by turn.
use Rattle.std.proofs.Common.{◌≡◌, ℕ, ◌+◌, ◌-◌, ◌<◌, ◌≤◌, List, [], ◌∷◌, ◌++◌, Ok, sym, ap, ◌∙◌, arith, append_assoc}
use Rattle.std.proofs.lemmas.List.{append-nil}
use Rattle.fp_base.specs.declared.ids.Die.{Die}
use Rattle.fp_base.specs.declared.ids.Die.TheVariants.{Top, Bottom}
use Rattle.fp_text.specs.Reading.{Left, Read, GivesFault, many_next}
use Rattle.fp_text.specs.ReadingLaws.{many_step, many_ends, many_done}
use Rattle.fp_text.specs.declared.fault.TextFault.{TextFault}
use Rattle.fp_place.specs.declared.drawn.DrawnCell.{DrawnCell}
use Rattle.fp_place.specs.declared.drawn.DrawnTerminal.{DrawnTerminal}
use Rattle.fp_place.specs.Drawing.{Drawing, with_cell, with_terminal}
use Rattle.fp_out.specs.Growing.{with_cells, with_terminals}

-- these lines were read so far, and added to the old value
pub record SoFar {V A : Type 0} (grow : V → List A → V) (line : Left → Read A) (count i : ℕ) (old now : V) (l : Left) (total : Read (List A)) : Type 0 where
  pub items : List A
  pub value : now ≡ grow old items
  pub reading : many_next (λ before. line) (count - i) items l ≡ total

so_far_none : {V A : Type 0} (grow : V → List A → V) (line : Left → Read A) (count : ℕ) (old : V) (l : Left) → grow old [] ≡ old
    → SoFar grow line count 0 old old l (many_next (λ before. line) count [] l)
so_far_none grow line count old l none = record { items = []; value = sym none; reading = ap (λ (n : ℕ). many_next (λ before. line) n [] l) (omega arith) }

-- one more line was read and added
abbrev OneMore : {V A : Type 0} → (V → A → V) → (Left → Read A) → V → V → Left → Left → Type 0
OneMore {A = A} add line now next l after = (item : A) × (line l ≡ Ok (item, after)) × (next ≡ add now item)

so_far_more : {V A : Type 0} (grow : V → List A → V) (add : V → A → V) (line : Left → Read A) (count i : ℕ) (old now next : V) (l after : Left) (total : Read (List A))
    → ((items : List A) (item : A) → add (grow old items) item ≡ grow old (items ++ item ∷ [])) → i < count → SoFar grow line count i old now l total
    → OneMore add line now next l after → SoFar grow line count (i + 1) old next after total
so_far_more grow add line count i old now next l after total push lt so_far one = record {
  items = so_far.items ++ one.0 ∷ [];
  value = one.2 ∙ ap (λ v. add v one.0) so_far.value ∙ push so_far.items one.0;
  reading = many_step (λ before. line) count i so_far.items l one.0 after total lt one.1 so_far.reading;
}

pub so_far_fault : {V A : Type 0} (e : TextFault) (grow : V → List A → V) (line : Left → Read A) (count i : ℕ) (old now : V) (l : Left) (total : Read (List A)) → i < count
    → SoFar grow line count i old now l total → GivesFault e (line l) → GivesFault e total
so_far_fault e grow line count i old now l total lt so_far fails = many_ends e (λ before. line) count i so_far.items l total lt fails so_far.reading

pub so_far_all : {V A : Type 0} (grow : V → List A → V) (line : Left → Read A) (count i : ℕ) (old now : V) (l : Left) (total : Read (List A)) → count ≤ i
    → (so_far : SoFar grow line count i old now l total) → total ≡ Ok (so_far.items, l)
so_far_all grow line count i old now l total le so_far = many_done (λ before. line) count i so_far.items l total le so_far.reading

-- ---- the cells of a die

no_cells : (die : Die) (drawing : Drawing) → with_cells die drawing [] ≡ drawing
no_cells Top drawing = ap (λ (lines : List DrawnCell). record drawing { top = lines }) (append-nil drawing.top)
no_cells Bottom drawing = ap (λ (lines : List DrawnCell). record drawing { bottom = lines }) (append-nil drawing.bottom)

cells_push : (die : Die) (drawing : Drawing) (lines : List DrawnCell) (line : DrawnCell) → with_cell (with_cells die drawing lines) die line ≡ with_cells die drawing (lines ++ line ∷ [])
cells_push Top drawing lines line = ap (λ (all : List DrawnCell). record drawing { top = all }) (append_assoc drawing.top lines (line ∷ []))
cells_push Bottom drawing lines line = ap (λ (all : List DrawnCell). record drawing { bottom = all }) (append_assoc drawing.bottom lines (line ∷ []))

pub cells_none : (die : Die) (line : Left → Read DrawnCell) (count : ℕ) (old : Drawing) (l : Left) → SoFar (with_cells die) line count 0 old old l (many_next (λ before. line) count [] l)
cells_none die line count old l = so_far_none (with_cells die) line count old l (no_cells die old)

pub cells_more : (die : Die) (line : Left → Read DrawnCell) (count i : ℕ) (old now next : Drawing) (l after : Left) (total : Read (List DrawnCell)) → i < count
    → SoFar (with_cells die) line count i old now l total → OneMore (λ (drawing : Drawing) (cell : DrawnCell). with_cell drawing die cell) line now next l after
    → SoFar (with_cells die) line count (i + 1) old next after total
cells_more die line count i old now next l after total lt so_far one =
    so_far_more (with_cells die) (λ (drawing : Drawing) (cell : DrawnCell). with_cell drawing die cell) line count i old now next l after total (cells_push die old) lt so_far one

-- ---- the terminals

no_terminals : (drawing : Drawing) → with_terminals drawing [] ≡ drawing
no_terminals drawing = ap (λ (lines : List DrawnTerminal). record drawing { terminals = lines }) (append-nil drawing.terminals)

terminals_push : (drawing : Drawing) (lines : List DrawnTerminal) (line : DrawnTerminal) → with_terminal (with_terminals drawing lines) line ≡ with_terminals drawing (lines ++ line ∷ [])
terminals_push drawing lines line = ap (λ (all : List DrawnTerminal). record drawing { terminals = all }) (append_assoc drawing.terminals lines (line ∷ []))

pub centres_none : (line : Left → Read DrawnTerminal) (count : ℕ) (old : Drawing) (l : Left) → SoFar with_terminals line count 0 old old l (many_next (λ before. line) count [] l)
centres_none line count old l = so_far_none with_terminals line count old l (no_terminals old)

pub centres_more : (line : Left → Read DrawnTerminal) (count i : ℕ) (old now next : Drawing) (l after : Left) (total : Read (List DrawnTerminal)) → i < count
    → SoFar with_terminals line count i old now l total → OneMore with_terminal line now next l after → SoFar with_terminals line count (i + 1) old next after total
centres_more line count i old now next l after total lt so_far one =
    so_far_more with_terminals with_terminal line count i old now next l after total (terminals_push old) lt so_far one
