-- A token cut at its last `/`.
use Rattle.std.proofs.Common.{◌≡◌, ◌≢◌, ℕ, ◌+◌, length-drop, take-append-drop, ◌<◌, ◌≤◌, Bool, true, false, cond, List, [], ◌∷◌, ◌++◌, length, take, drop, get_or, Option, Some, None, refl, sym, ap, subst, ◌∙◌, arith}
use Rattle.std.specs.Prelude.{All, ◌&&◌, nat_eq, unwrap_or}
use Rattle.std.proofs.lemmas.Bool.{and_parts, and_from, ne_eqb, eqb-true, eqb-false}
use Rattle.std.proofs.lemmas.List.{drop_more, get_or-drop}
use Rattle.std.proofs.lemmas.List.Elements.{All-nil, All-cons, All-head, All-tail, All-from_get_or}
use Rattle.fp_text.specs.Numbers.{is_name}
use Rattle.fp_contest_in.specs.Grammar.{slash, IsPath}
use Rattle.fp_contest_in.specs.Statements.{cut_with, cut_at_slash, named_parts, path_of}

abbrev pub IsOther : ℕ → Type 0
IsOther byte = byte ≢ slash

-- no `/` is there
pub cut_none : (token : List ℕ) → All IsOther token → cut_at_slash token ≡ None
unfolding cut_at_slash
cut_none [] free = refl
cut_none (byte ∷ bytes) free =
    ap (cut_with byte bytes) (cut_none bytes (All-tail IsOther byte bytes free))
    ∙ ap (λ (b : Bool). cond b (Some ([], bytes)) None) (ne_eqb byte slash (All-head IsOther byte bytes free))

-- the `/` before bytes that are none is the last
pub cut_again : (front behind : List ℕ) → All IsOther behind → cut_at_slash (front ++ slash ∷ behind) ≡ Some (front, behind)
unfolding cut_at_slash
cut_again [] behind free = ap (cut_with slash behind) (cut_none behind free)
cut_again (byte ∷ front) behind free = ap (cut_with byte (front ++ slash ∷ behind)) (cut_again front behind free)

-- a place where `/` stands, and none behind it
pub cut_at : (token : List ℕ) (i : ℕ) → i < length token → get_or token i 0 ≡ slash → ((k : ℕ) → i + 1 ≤ k → k < length token → get_or token k 0 ≢ slash)
    → cut_at_slash token ≡ Some (take i token, drop (i + 1) token)
cut_at token i inside here after =
    let around : token ≡ take i token ++ slash ∷ drop (i + 1) token =
    sym (take-append-drop i token) ∙ ap (λ (bs : List ℕ). take i token ++ bs) (drop_more token i 0 inside ∙ ap (λ (b : ℕ). b ∷ drop (i + 1) token) here) in
    let free : All IsOther (drop (i + 1) token) = All-from_get_or IsOther (drop (i + 1) token) 0
    (λ k inside. subst IsOther (sym (get_or-drop (i + 1) token k 0)) (after (i + 1 + k) (omega arith) (omega (arith, length-drop (i + 1) token)))) in
    ap cut_at_slash around ∙ cut_again (take i token) (drop (i + 1) token) free

-- what was cut is joined by a `/`, and none is behind it
abbrev IsCut : List ℕ → Option (List ℕ × List ℕ) → Type 0
IsCut token None = All IsOther token
IsCut token (Some (front, behind)) = (token ≡ front ++ slash ∷ behind) × All IsOther behind

cut_is : (token : List ℕ) → IsCut token (cut_at_slash token)
unfolding cut_at_slash
cut_is [] = All-nil IsOther
cut_is (byte ∷ bytes) = by (cut_at_slash bytes) (cut_is bytes)
  where
    test : (b : Bool) → nat_eq byte slash ≡ b → All IsOther bytes → IsCut (byte ∷ bytes) (cond b (Some ([], bytes)) None)
    test true same free = (ap (λ (x : ℕ). x ∷ bytes) (eqb-true byte slash same), free)
    test false other free = All-cons IsOther byte bytes (eqb-false byte slash other) free

    by : (o : Option (List ℕ × List ℕ)) → IsCut bytes o → IsCut (byte ∷ bytes) (cut_with byte bytes o)
    by None free = test (nat_eq byte slash) refl free
    by (Some (front, behind)) is = (ap (λ (bs : List ℕ). byte ∷ bs) is.0, is.1)

-- ---- both parts are names

named_ok : (o : Option (List ℕ × List ℕ)) (inst pin : List ℕ) → named_parts o ≡ Some (inst, pin) → (o ≡ Some (inst, pin)) × (is_name inst ≡ true) × (is_name pin ≡ true)
named_ok None inst pin e = absurd cc
named_ok (Some (a, b)) inst pin e = by (is_name a && is_name b) refl e
  where
    cut : Option (List ℕ × List ℕ)
    cut = Some (a, b)

    by : (t : Bool) → (is_name a && is_name b) ≡ t → cond t cut None ≡ Some (inst, pin) → (cut ≡ Some (inst, pin)) × (is_name inst ≡ true) × (is_name pin ≡ true)
    by true named same =
        let parts = and_parts (is_name a) (is_name b) named in
        let inst_is : a ≡ inst = ap (λ (o : Option (List ℕ × List ℕ)). (unwrap_or o (a, b)).0) same in
        let pin_is : b ≡ pin = ap (λ (o : Option (List ℕ × List ℕ)). (unwrap_or o (a, b)).1) same in
        (same, subst (λ (n : List ℕ). is_name n ≡ true) inst_is parts.0, subst (λ (n : List ℕ). is_name n ≡ true) pin_is parts.1)
    by false named same = absurd cc

pub path_ok : (token inst pin : List ℕ) → path_of token ≡ Some (inst, pin) → IsPath inst pin token
unfolding path_of
path_ok token inst pin e =
    let n = named_ok (cut_at_slash token) inst pin e in
    let cut = subst (IsCut token) n.0 (cut_is token) in
    record { joined = cut.0; last = cut.1; inst_name = n.1; pin_name = n.2 }

pub path_again : (token inst pin : List ℕ) → IsPath inst pin token → path_of token ≡ Some (inst, pin)
unfolding path_of
path_again token inst pin is =
    let cut : Option (List ℕ × List ℕ) = Some (inst, pin) in
    ap named_parts (ap cut_at_slash is.joined ∙ cut_again inst pin is.last)
    ∙ ap (λ (t : Bool). cond t cut None) (and_from (is_name inst) (is_name pin) is.inst_name is.pin_name)
