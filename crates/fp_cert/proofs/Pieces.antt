-- The pieces of a list's elements, one after the other.
use Rattle.std.proofs.Common.{◌≡◌, ℕ, zero, suc, ◌+◌, ◌≤◌, List, [], ◌∷◌, ◌++◌, length, take, slice_get, flat_map, Some, refl, sym, ap, ◌∙◌, append_assoc, arith}
use Rattle.std.proofs.lemmas.Grind.{flat_map-append}
use Rattle.std.proofs.lemmas.List.{take_more, take_all, append-nil}
use Rattle.std.proofs.lemmas.Option.{slice_get_within, get_or_from_slice_get}
use Rattle.fp_base.specs.declared.ids.CellId.{CellId}
use Rattle.fp_cert.specs.declared.shown.Ending.{Ending}
use Rattle.fp_cert.specs.declared.shown.Ending.TheVariants.{Start, Better, NotBetter, NoRow}
use Rattle.fp_cert.specs.Shown.{ShownTrial}
use Rattle.fp_cert.specs.CertText.{trial_lines, shown_lines, trial_text, trials_text}

pub piece_more : {X : Type 0} (f : X → List ℕ) (xs : List X) (i : ℕ) (x : X) → slice_get xs i ≡ Some x → flat_map f (take i xs) ++ f x ≡ flat_map f (take (i + 1) xs)
piece_more f xs i x at =
    sym (ap (flat_map f) (take_more xs i x (slice_get_within xs i x at) ∙ ap (λ y. take i xs ++ y ∷ []) (get_or_from_slice_get xs i x x at))
    ∙ flat_map-append f (take i xs) (x ∷ [])
    ∙ ap (λ t. flat_map f (take i xs) ++ t) (append-nil (f x)))

pub piece_all : {X : Type 0} (f : X → List ℕ) (xs : List X) (i : ℕ) → length xs ≤ i → flat_map f (take i xs) ≡ flat_map f xs
piece_all f xs i le = ap (flat_map f) (take_all i xs le)

-- the same behind a first piece
pub piece_more_behind : {X : Type 0} (head : List ℕ) (f : X → List ℕ) (xs : List X) (i : ℕ) (x : X) → slice_get xs i ≡ Some x
    → (head ++ flat_map f (take i xs)) ++ f x ≡ head ++ flat_map f (take (i + 1) xs)
piece_more_behind head f xs i x at = append_assoc head (flat_map f (take i xs)) (f x) ∙ ap (λ t. head ++ t) (piece_more f xs i x at)

-- trials that are numbered from a number on, and one more
pub trials_more : (number : ℕ) (trials : List ShownTrial) (i : ℕ) (trial : ShownTrial) → slice_get trials i ≡ Some trial
    → trials_text number (take i trials) ++ trial_text (number + i) trial ≡ trials_text number (take (i + 1) trials)
unfolding trials_text
trials_more number [] i trial at = absurd cc
trials_more number (first ∷ trials) zero trial at =
    let same : first ≡ trial = cc in
    ap (λ n. trial_text n trial) (omega arith) ∙ sym (append-nil (trial_text number trial)) ∙ ap (λ t. trial_text number t ++ []) (sym same)
trials_more number (first ∷ trials) (suc i) trial at =
    append_assoc (trial_text number first) (trials_text (number + 1) (take i trials)) (trial_text (number + suc i) trial)
    ∙ ap (λ t. trial_text number first ++ t)
    (ap (λ n. trials_text (number + 1) (take i trials) ++ trial_text n trial) (omega arith) ∙ trials_more (number + 1) trials i trial at)
    ∙ ap (λ n. trials_text number (take n (first ∷ trials))) next
  where
    next : suc (i + 1) ≡ suc i + 1
    next = omega arith

pub no_trials : (number : ℕ) → trials_text number [] ≡ []
unfolding trials_text
no_trials number = refl

-- what a trial shows that found a row for each cell
pub placed_lines : (ending : Ending) (trial : ShownTrial) → ((cell : CellId) → ending ≡ NoRow cell → ⊥) → shown_lines ending trial ≡ trial_lines trial
placed_lines Start trial placed = refl
placed_lines Better trial placed = refl
placed_lines NotBetter trial placed = refl
placed_lines (NoRow cell) trial placed = absurd (placed cell refl)
