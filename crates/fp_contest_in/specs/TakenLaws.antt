-- What a reading step that did not fail says of the words that it took, and back, in the words of the grammar.
use Rattle.std.proofs.Common.{◌≡◌, ℕ, ◌^◌, ◌≤◌, List, ◌∷◌, length, Ok, refl, sym, ap, subst, ◌∙◌, arith}
use Rattle.fp_text.specs.Words.{Word}
use Rattle.fp_text.specs.Numbers.{Spells}
use Rattle.fp_text.specs.Reading.{Left, keyword_next, name_next, number_next}
use Rattle.fp_text.specs.ReadingLaws as laws
use Rattle.fp_text.specs.ReadingLaws.{left_of}
use Rattle.fp_text.specs.declared.fault.Kind.{Kind}
use Rattle.fp_contest_in.specs.Grammar.{Keyword, Named, Ranged}

pub keyword_ok : (keyword : List ℕ) (l : Left) (at : ℕ) (r : Left) → keyword_next keyword l ≡ Ok (at, r) → Keyword keyword l.words r.words × (r.bytes ≡ l.bytes)
keyword_ok keyword l at r e =
    let next = laws.keyword_ok keyword l at r e in
    ((record { at = at; text = keyword }, next.words, refl), next.bytes)

pub keyword_again : (keyword : List ℕ) (l : Left) (rest : List Word) → (k : Keyword keyword l.words rest) → keyword_next keyword l ≡ Ok (k.0.at, left_of l rest)
keyword_again keyword l rest k = laws.keyword_again keyword l k.0 rest k.1 k.2

pub name_ok : (l : Left) (w : Word) (r : Left) → name_next l ≡ Ok (w, r) → Named w.text l.words r.words × (r.bytes ≡ l.bytes)
name_ok l w r e =
    let next = laws.name_ok l w r e in
    ((w, next.0.words, refl, next.1), next.0.bytes)

pub name_again : (name : List ℕ) (l : Left) (rest : List Word) → (n : Named name l.words rest) → name_next l ≡ Ok (n.0, left_of l rest)
name_again name l rest n = laws.name_again l n.0 rest n.1 (rw n.2 n.3)

-- one number was taken
abbrev pub OneNumber : Ranged → List Word → List Word → Type 0
OneNumber n words rest = (word : Word) × (words ≡ word ∷ rest) × Spells n.least n.most word.text n.value

pub number_ok : (least most : ℕ) (above : Kind) (l : Left) (n : ℕ) (r : Left) → number_next least most above l ≡ Ok (n, r) → OneNumber (record { least = least; most = most; value = n }) l.words r.words × (r.bytes ≡ l.bytes)
number_ok least most above l n r e =
    let number = laws.number_ok least most above l n r e in
    ((number.word, number.next.words, number.spells), number.next.bytes)

pub number_again : (least most : ℕ) (above : Kind) (l : Left) (n : ℕ) (rest : List Word) → OneNumber (record { least = least; most = most; value = n }) l.words rest → most ≤ 2 ^ 30 → number_next least most above l ≡ Ok (n, left_of l rest)
number_again least most above l n rest o low = laws.number_again least most above l o.0 rest n o.1 o.2 (omega (arith, o.2.at_most))

-- as many were read as were asked for
pub count_is : {A : Type 0} (all items : List A) (n : ℕ) → all ≡ items → length items ≡ n → length all ≡ n
count_is all items n is count = ap length is ∙ count

-- a spelled number is another that is equal
pub spells_as : (least most : ℕ) (text : List ℕ) (m n : ℕ) → n ≡ m → Spells least most text m → Spells least most text n
spells_as least most text m n same spells = subst (λ (k : ℕ). Spells least most text k) (sym same) spells
