-- So many items, and the words that spell them.
use Rattle.std.specs.Prelude.{◌≡◌, List, [], ◌∷◌, ◌++◌}
use Rattle.fp_text.specs.Words.{Word}

-- each item stands in the next words: `stands before item words rest`, with the items before it
abbrev pub Each : {A : Type 0} → (List A → A → List Word → List Word → Type 0) → List A → List A
    → List Word → List Word → Type 0
Each stands before [] words rest = words ≡ rest
Each stands before (x ∷ xs) words rest = (middle : List Word) × stands before x words middle
    × Each stands (before ++ x ∷ []) xs middle rest
