-- The keys of a net's cells, cell by cell, and what the orders show of them.
use Rattle.std.proofs.Common.{◌≡◌, ◌≢◌, ◌==◌, ℕ, ◌+◌, ◌^◌, ◌<◌, ◌≤◌, ◌||◌, Bool, true, false, List, length, take, get_or, set, if◌then◌else◌, refl, ap, subst, ◌∙◌, arith}
use Rattle.std.specs.List.{All, IsDistinct}
use Rattle.std.proofs.lemmas.List.{length-set, get_or-set_same, get_or-set_other, get_or_default}
use Rattle.std.proofs.lemmas.Bool.Decides.{nat_tests}
use Rattle.fp_base.specs.declared.ids.Die.{Die}
use Rattle.fp_place.specs.Places.{die_at}
use Rattle.fp_gains.specs.declared.sides.Sides.{Sides}
use Rattle.fp_gains.specs.declared.ranks.Ranks.{Ranks}
use Rattle.fp_gains.specs.Links.{holds}
use Rattle.fp_gains.specs.Sides.{share}
use Rattle.fp_gains.specs.Kept.{Follow}
use Rattle.fp_gains.specs.Changes.{AreInRange, part, AreReweighed}
use Rattle.fp_gains.proofs.HoldLemmas.{holds_more, not_before, same_true}

-- a cell that is not there yet has its key
pub waits : (dies : List Die) (cells : List ℕ) (before after : Sides) (old now : List ℕ) (i : ℕ) → AreReweighed dies (take i cells) before after old now
    → IsDistinct (λ a b. a == b) cells → i < length cells → get_or cells i 0 < length dies → get_or now (get_or cells i 0) 0 ≡ get_or old (get_or cells i 0) 0
waits dies cells before after old now i are once within there =
    let out : holds (take i cells) (get_or cells i 0) ≡ false = not_before cells i once within in
    let none_before : part dies (take i cells) before (get_or cells i 0) ≡ 0 = ap (λ b. if b then share (die_at dies (get_or cells i 0)) before else 0) out in
    let none_after : part dies (take i cells) after (get_or cells i 0) ≡ 0 = ap (λ b. if b then share (die_at dies (get_or cells i 0)) after else 0) out in
    omega (arith, are.each (get_or cells i 0) there, none_before, none_after)

-- the key that a step reads
pub record IsKey (now : List ℕ) (cell key : ℕ) : Type 0 where
  pub is : key ≡ get_or now cell 0
  pub low : 2 ≤ key
  pub high : key ≤ 2 ^ 30

pub key_read : (dies : List Die) (cells : List ℕ) (before after : Sides) (old now : List ℕ) (i key : ℕ) → AreReweighed dies (take i cells) before after old now
    → IsDistinct (λ a b. a == b) cells → All (λ cell. cell < length dies) cells → AreInRange old → length old ≡ length dies → i < length cells → key ≡ get_or now (get_or cells i 0) key
    → IsKey now (get_or cells i 0) key
key_read dies cells before after old now i key are once within range many less read =
    let there : get_or cells i 0 < length dies = within i 0 less in
    let is : key ≡ get_or now (get_or cells i 0) 0 = read ∙ get_or_default now (get_or cells i 0) key 0 (omega (arith, are.many)) in
    let waits_is = waits dies cells before after old now i are once less there in
    let r = range (get_or cells i 0) (omega arith) in
    record { is = is; low = omega (arith, r.0, waits_is); high = omega (arith, r.1, waits_is) }

abbrev pub IsReweighedAt : List Die → List ℕ → Sides → Sides → List ℕ → List ℕ → ℕ → Type 0
IsReweighedAt dies cells before after old new c = get_or new c 0 + part dies cells before c ≡ get_or old c 0 + part dies cells after c

-- one cell more
pub reweighed_more : (dies : List Die) (cells : List ℕ) (before after : Sides) (old now new : List ℕ) (i key : ℕ) → AreReweighed dies (take i cells) before after old now
    → IsDistinct (λ a b. a == b) cells → i < length cells → get_or cells i 0 < length dies → length now ≡ length dies
    → key + share (die_at dies (get_or cells i 0)) before ≡ get_or now (get_or cells i 0) 0 + share (die_at dies (get_or cells i 0)) after
    → new ≡ set now (get_or cells i 0) key → AreReweighed dies (take (i + 1) cells) before after old new
reweighed_more dies cells before after old now new i key are once within there many key_is new_is = record {
  many = ap length new_is ∙ length-set now x key ∙ are.many;
  each = λ c less. by c less (c == x) refl;
}
  where
    x : ℕ
    x = get_or cells i 0

    more : (sides : Sides) (c : ℕ) (b : Bool) → (c == get_or cells i 0) ≡ b → part dies (take (i + 1) cells) sides c ≡ (if holds (take i cells) c || b then share (die_at dies c) sides else 0)
    more sides c b e = ap (λ h. if h then share (die_at dies c) sides else 0) (holds_more cells i c within ∙ ap (λ b. holds (take i cells) c || b) e)

    or_false : (b : Bool) → (b || false) ≡ b
    or_false true = refl
    or_false false = refl

    or_true : (b : Bool) → (b || true) ≡ true
    or_true true = refl
    or_true false = refl

    here : IsReweighedAt dies (take (i + 1) cells) before after old new (get_or cells i 0)
    here =
        let at : (sides : Sides) → part dies (take (i + 1) cells) sides (get_or cells i 0) ≡ share (die_at dies (get_or cells i 0)) sides = λ sides. more sides (get_or cells i 0) true (same_true (get_or cells i 0)) ∙ ap (λ h. if h then share (die_at dies (get_or cells i 0)) sides else 0) (or_true (holds (take i cells) (get_or cells i 0))) in
        let set_is : get_or new (get_or cells i 0) 0 ≡ key = ap (λ ks. get_or ks (get_or cells i 0) 0) new_is ∙ get_or-set_same now (get_or cells i 0) key 0 (omega arith) in
        omega (arith, at before, at after, set_is, key_is, waits dies cells before after old now i are once within there)

    by : (c : ℕ) → c < length dies → (b : Bool) → (c == get_or cells i 0) ≡ b → IsReweighedAt dies (take (i + 1) cells) before after old new c
    by c less true e =
        let same : get_or cells i 0 ≡ c = grind (arith, nat_tests) in
        subst (IsReweighedAt dies (take (i + 1) cells) before after old new) same here
    by c less false e =
        let other : c ≢ get_or cells i 0 = grind (arith, nat_tests) in
        let at : (sides : Sides) → part dies (take (i + 1) cells) sides c ≡ part dies (take i cells) sides c = λ sides. more sides c false e ∙ ap (λ h. if h then share (die_at dies c) sides else 0) (or_false (holds (take i cells) c)) in
        let set_is : get_or new c 0 ≡ get_or now c 0 = ap (λ ks. get_or ks c 0) new_is ∙ get_or-set_other now (get_or cells i 0) c key 0 other in
        omega (arith, at before, at after, set_is, are.each c less)

pub follow_none : (r : Ranks) → Follow r r
follow_none r = record { top = λ p is. is; bottom = λ p is. is }

pub follow_more : (a b c : Ranks) → Follow a b → Follow b c → Follow a c
follow_more a b c first next = record { top = λ p is. next.top p (first.top p is); bottom = λ p is. next.bottom p (first.bottom p is) }
