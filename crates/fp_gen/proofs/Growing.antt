-- A text grows by what is made next.
use Rattle.std.proofs.Common.{◌≡◌, ℕ, suc, ◌+◌, List, [], ◌++◌, map, flat_map, refl, sym, ap, ◌∙◌, append_assoc, arith}
use Rattle.std.proofs.lemmas.List.{append-nil, flat_map_more}
use Rattle.std.specs.List.{range_with_len}
use Rattle.std.proofs.lemmas.List.FromFn.{map-range_with_len_more}
use Rattle.rand_pcg.specs.Lcg.{Lcg}
use Rattle.fp_gen.specs.MakeText.{made_first}
use Rattle.fp_gen.specs.Written.{Adds}

none_text : {A : Type 0} (lines : A → List ℕ) (make : ℕ → Lcg → A × Lcg) (words : Lcg) → flat_map lines (made_first make 0 words).0 ≡ []
unfolding made_first
none_text lines make words = refl

-- before the first, nothing was added
pub begun_text : {A : Type 0} (lines : A → List ℕ) (make : ℕ → Lcg → A × Lcg) (words : Lcg) (old : List ℕ) → old ≡ old ++ flat_map lines (made_first make 0 words).0
begun_text lines make words old = search (append-nil old, none_text lines make words)

pub begun_words : {A : Type 0} (make : ℕ → Lcg → A × Lcg) (words : Lcg) → words ≡ (made_first make 0 words).1
unfolding made_first
begun_words make words = refl

made_text : {A : Type 0} (lines : A → List ℕ) (make : ℕ → Lcg → A × Lcg) (n : ℕ) (words : Lcg) (old : List ℕ)
    → (old ++ flat_map lines (made_first make n words).0) ++ lines (make n (made_first make n words).1).0 ≡ old ++ flat_map lines (made_first make (suc n) words).0
unfolding made_first
made_text lines make n words old = flat_map_more lines old (made_first make n words).0 (make n (made_first make n words).1).0

-- one more
pub more_text : {A : Type 0} (lines : A → List ℕ) (make : ℕ → Lcg → A × Lcg) (n : ℕ) (words left : Lcg) (old text new : List ℕ)
    → text ≡ old ++ flat_map lines (made_first make n words).0 → left ≡ (made_first make n words).1 → Adds (lines (make n left).0) text new
    → new ≡ old ++ flat_map lines (made_first make (n + 1) words).0
more_text {A} lines make n words left old text new is left_is more =
    let next : suc n ≡ n + 1 = omega arith in
    more.is ∙ ap (λ (t : List ℕ). t ++ lines (make n left).0) is
    ∙ ap (λ (w : Lcg). (old ++ flat_map lines (made_first make n words).0) ++ lines (make n w).0) left_is
    ∙ made_text lines make n words old
    ∙ ap (λ (k : ℕ). old ++ flat_map lines (made_first make k words).0) next

made_words : {A : Type 0} (make : ℕ → Lcg → A × Lcg) (n : ℕ) (words : Lcg) → (make n (made_first make n words).1).1 ≡ (made_first make (suc n) words).1
unfolding made_first
made_words make n words = refl

pub more_words : {A : Type 0} (make : ℕ → Lcg → A × Lcg) (n : ℕ) (words left new : Lcg) → left ≡ (made_first make n words).1 → new ≡ (make n left).1
    → new ≡ (made_first make (n + 1) words).1
more_words make n words left new is more =
    let next : suc n ≡ n + 1 = omega arith in
    more ∙ ap (λ (w : Lcg). (make n w).1) is ∙ made_words make n words ∙ ap (λ (k : ℕ). (made_first make k words).1) next

-- one more of things that need no words
pub more_mapped : {A : Type 0} (lines : A → List ℕ) (make : ℕ → A) (n : ℕ) (old text new : List ℕ)
    → text ≡ old ++ flat_map lines (map make (range_with_len 0 n)) → Adds (lines (make n)) text new
    → new ≡ old ++ flat_map lines (map make (range_with_len 0 (n + 1)))
more_mapped {A} lines make n old text new is more =
    more.is ∙ ap (λ (t : List ℕ). t ++ lines (make n)) is
    ∙ flat_map_more lines old (map make (range_with_len 0 n)) (make n)
    ∙ ap (λ (things : List A). old ++ flat_map lines things) (sym (map-range_with_len_more make 0 n n (omega arith)))

-- a text that grew by two pieces, one after the other
pub then_adds : {old mid new first second : List ℕ} → Adds first old mid → Adds second mid new → Adds (first ++ second) old new
then_adds {old} {mid} {new} {first} {second} is more = record { is = more.is ∙ ap (λ (t : List ℕ). t ++ second) is.is ∙ append_assoc old first second }

-- by a piece that is told by another term
pub as_piece : {old new piece other : List ℕ} → piece ≡ other → Adds piece old new → Adds other old new
as_piece {old} {new} {piece} {other} same is = record { is = is.is ∙ ap (λ (t : List ℕ). old ++ t) same }

-- and by nothing behind it
pub adds_last : {old new last : List ℕ} → Adds last old new → Adds (last ++ []) old new
adds_last {old} {new} {last} is = as_piece (sym (append-nil last)) is
