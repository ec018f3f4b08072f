-- Laws of reading one line of a certificate file: what is read is in the grammar, and what is in the grammar is read.
use Rattle.std.proofs.Common.{◌≡◌, ℕ, ◌^◌, ◌<◌, ◌≤◌, Bool, true, false, cond, List, ◌∷◌, length, Result, Ok, Err, refl, sym, ap, subst, ◌∙◌, arith, inl, inr, ◌⊎◌}
use Rattle.std.specs.Prelude.{codes, ℤ, pos, nat_lt, nat_le, ◌==◌}
use Rattle.std.specs.Str.{bytes_eq}
use Rattle.std.proofs.lemmas.Bool.{ltb-true, lt-ltb, leb-true, le-leb, eqb-true, eqb-false}
use Rattle.std.proofs.lemmas.Slice.Eq.{bytes_eq-Decides}
use Rattle.fp_base.specs.declared.ids.CellId.{CellId}
use Rattle.fp_base.specs.declared.ids.Point.{Point}
use Rattle.fp_text.specs.Words.{Word}
use Rattle.fp_text.specs.Numbers.{is_digits, value_of, at_most, number_of, signed_of, Spells}
use Rattle.fp_text.specs.Reading.{Left, Read, fault, word_next, keyword_next, number_next}
use Rattle.fp_text.specs.ReadingLaws as laws
use Rattle.fp_text.specs.ReadingLaws.{left_of, bind_ok, ok_is, word_ok, word_again}
use Rattle.fp_text.specs.declared.fault.Kind.{Kind}
use Rattle.fp_text.specs.declared.fault.Kind.TheVariants as kinds
use Rattle.fp_text.specs.declared.numbers.NumberFault.{NumberFault}
use Rattle.fp_text.specs.declared.numbers.NumberFault.TheVariants.{NotDigits, TooLarge}
use Rattle.fp_netlist.specs.Netlist.{Netlist}
use Rattle.fp_cert.specs.declared.shown.CellShown.{CellShown}
use Rattle.fp_cert.specs.declared.shown.CutShown.{CutShown}
use Rattle.fp_cert.specs.declared.shown.Ending.{Ending}
use Rattle.fp_cert.specs.declared.shown.Ending.TheVariants.{Start, Better, NotBetter, NoRow}
use Rattle.fp_cert.specs.OfProblem.{most_shown}
use Rattle.fp_cert.specs.CertGrammar.{most_number, most_target, Keyword, Number, Below, TargetAt, IsNumberLine, IsCellLine, IsCutLine, IsTopLine, IsEnding, IsVersion}
use Rattle.fp_cert.specs.CertReading.{value_at, below_at, below_next, amount_next, signed_next, target_next, line_next, cell_next, cut_next, score_next, top_next, rowless_next, ending_next, version_next}

-- a reader's value stands in the words that it took, and what stands there is read
abbrev pub Took : {A : Type 0} → (A → List Word → List Word → Type 0) → (Left → Read A) → Type 0
Took {A} stands read = (l : Left) (x : A) (r : Left) → read l ≡ Ok (x, r) → stands x l.words r.words × (r.bytes ≡ l.bytes)

abbrev pub Takes : {A : Type 0} → (A → List Word → List Word → Type 0) → (Left → Read A) → Type 0
Takes {A} stands read = (l : Left) (x : A) (rest : List Word) → stands x l.words rest → read l ≡ Ok (x, left_of l rest)

abbrev pub was_read : {A : Type 0} → A × Left → Read A
was_read q = Ok q

-- the same value and the same words left
abbrev pub Stood : {A : Type 0} → (A → List Word → List Word → Type 0) → Left → A × Left → Type 0
Stood stands l q = stands q.0 l.words q.1.words × (q.1.bytes ≡ l.bytes)

-- ---- numbers as tokens

number_is : (n m : ℕ) → ◌≡◌ {A = Result ℕ NumberFault} (Ok n) (Ok m) → n ≡ m
number_is n m e = cc

pub spelled_ok : (most : ℕ) (text : List ℕ) (n : ℕ) → number_of most text ≡ Ok n → Spells 0 most text n
spelled_ok most text n e =
    let digits = by_digits (is_digits text) e in
    let small = by_size (nat_le (value_of text) most) digits.1 in
    let most_is : value_of text ≤ most = leb-true (value_of text) most small.0 in
    let same = number_is (value_of text) n small.1 in
    record { digits = digits.0; value = same; at_least = omega arith; at_most = omega (arith, most_is, same) }
  where
    by_digits : (b : Bool) → cond b (at_most most (value_of text)) (Err NotDigits) ≡ Ok n → (b ≡ true) × (at_most most (value_of text) ≡ Ok n)
    by_digits true e = (refl, e)
    by_digits false e = absurd cc

    by_size : (b : Bool) → cond b (Ok (value_of text)) (Err TooLarge) ≡ Ok n → (b ≡ true) × (◌≡◌ {A = Result ℕ NumberFault} (Ok (value_of text)) (Ok n))
    by_size true e = (refl, e)
    by_size false e = absurd cc

pub spelled_again : (most : ℕ) (text : List ℕ) (n : ℕ) → Spells 0 most text n → number_of most text ≡ Ok n
spelled_again most text n spells =
    let digits : is_digits text ≡ true = spells.digits in
    let value : value_of text ≡ n = spells.value in
    let small : nat_le (value_of text) most ≡ true = le-leb (value_of text) most (omega (arith, spells.at_most, value)) in
    rw (digits, small) (ap as_number value)
  where
    as_number : ℕ → Result ℕ NumberFault
    as_number m = Ok m

value_at_ok : {A : Type 0} (value : Result A NumberFault) (at : ℕ) (l : Left) (x : A) (r : Left) → value_at value at l ≡ Ok (x, r) → (value ≡ Ok x) × (l ≡ r)
value_at_ok {A} (Ok y) at l x r e =
    let same = ok_is (y, l) (x, r) e in
    (ap (λ (q : A × Left). as_value q.0) same, ap (λ (q : A × Left). q.1) same)
  where
    as_value : A → Result A NumberFault
    as_value y = Ok y
value_at_ok (Err e) at l x r is = absurd cc

below_at_ok : (count : ℕ) (value : Result ℕ NumberFault) (at : ℕ) (l : Left) (n : ℕ) (r : Left) → below_at count value at l ≡ Ok (n, r) → (value ≡ Ok n) × (n < count) × (l ≡ r)
below_at_ok count (Ok m) at l n r e = by (nat_lt m count) refl e
  where
    by : (b : Bool) → nat_lt m count ≡ b → cond b (was_read (m, l)) (fault at kinds.Range) ≡ Ok (n, r) → (◌≡◌ {A = Result ℕ NumberFault} (Ok m) (Ok n)) × (n < count) × (l ≡ r)
    by true is e =
        let same = ok_is (m, l) (n, r) e in
        let number : m ≡ n = ap (λ (q : ℕ × Left). q.0) same in
        (ap as_number number, omega (arith, ltb-true m count is, number), ap (λ (q : ℕ × Left). q.1) same)
      where
        as_number : ℕ → Result ℕ NumberFault
        as_number m = Ok m
    by false is e = absurd cc
below_at_ok count (Err e) at l n r is = absurd cc

-- ---- the first word

pub keyword_ok : (keyword : List ℕ) → Took (λ at. Keyword keyword) (keyword_next keyword)
keyword_ok keyword l at r e =
    let next = laws.keyword_ok keyword l at r e in
    ((record { at = at; text = keyword }, next.words, refl), next.bytes)

pub keyword_again : (keyword : List ℕ) (l : Left) (rest : List Word) → (k : Keyword keyword l.words rest) → keyword_next keyword l ≡ Ok (k.0.at, left_of l rest)
keyword_again keyword l rest k = laws.keyword_again keyword l k.0 rest k.1 k.2

pub number_ok : (least most : ℕ) (above : Kind) → Took (Number least most) (number_next least most above)
number_ok least most above l n r e =
    let number = laws.number_ok least most above l n r e in
    ((number.word, number.next.words, number.spells), number.next.bytes)

pub number_again : (least most : ℕ) (above : Kind) → most ≤ 2 ^ 30 → Takes (Number least most) (number_next least most above)
number_again least most above low l n rest o = laws.number_again least most above l o.0 rest n o.1 o.2 (omega (arith, o.2.at_most))

pub below_ok : (count : ℕ) → Took (Below count) (below_next count)
unfolding below_next
below_ok count l n r e =
    let w = bind_ok (word_next l) _ _ e in
    let next = word_ok l w.0.0 w.0.1 w.1 in
    let at = below_at_ok count (number_of most_number w.0.0.text) w.0.0.at w.0.1 n r w.2 in
    subst (λ (left : Left). Below count n l.words left.words × (left.bytes ≡ l.bytes)) at.2
    (((w.0.0, next.words, spelled_ok most_number w.0.0.text n at.0), at.1), next.bytes)

pub below_again : (count : ℕ) → Takes (Below count) (below_next count)
unfolding below_next
below_again count l n rest o =
    let w = word_again l o.0.0 rest o.0.1 in
    let number = spelled_again most_number o.0.0.text n o.0.2 in
    let small : nat_lt n count ≡ true = lt-ltb n count o.1 in
    rw (w, number, small) refl

pub amount_ok : Took (Number 0 most_shown) amount_next
unfolding amount_next
amount_ok l n r e =
    let w = bind_ok (word_next l) _ _ e in
    let next = word_ok l w.0.0 w.0.1 w.1 in
    let at = value_at_ok (number_of most_shown w.0.0.text) w.0.0.at w.0.1 n r w.2 in
    subst (λ (left : Left). Number 0 most_shown n l.words left.words × (left.bytes ≡ l.bytes)) at.1
    ((w.0.0, next.words, spelled_ok most_shown w.0.0.text n at.0), next.bytes)

pub amount_again : Takes (Number 0 most_shown) amount_next
unfolding amount_next
amount_again l n rest o =
    let w = word_again l o.0 rest o.1 in
    let number = spelled_again most_shown o.0.text n o.2 in
    rw (w, number) refl

signed_ok : Took TargetAt signed_next
unfolding signed_next
signed_ok l at r e =
    let w = bind_ok (word_next l) _ _ e in
    let next = word_ok l w.0.0 w.0.1 w.1 in
    let is = value_at_ok (signed_of most_target w.0.0.text) w.0.0.at w.0.1 at r w.2 in
    subst (λ (left : Left). TargetAt at l.words left.words × (left.bytes ≡ l.bytes)) is.1 ((w.0.0, next.words, is.0), next.bytes)

signed_again : Takes TargetAt signed_next
unfolding signed_next
signed_again l at rest o =
    let w = word_again l o.0 rest o.1 in
    rw (w, o.2) refl

-- two coordinates of a target
abbrev pub IsTarget : Point → List Word → List Word → Type 0
IsTarget at words rest = (mid : List Word) × TargetAt at.x words mid × TargetAt at.y mid rest

target_ok : Took IsTarget target_next
unfolding target_next
target_ok l at r e =
    let x = bind_ok (signed_next l) _ _ e in
    let y = bind_ok (signed_next x.0.1) _ _ x.2 in
    let across = signed_ok l x.0.0 x.0.1 x.1 in
    let up = signed_ok x.0.1 y.0.0 y.0.1 y.1 in
    let same = ok_is {A = Point × Left} (record { x = x.0.0; y = y.0.0 }, y.0.1) (at, r) y.2 in
    subst (Stood IsTarget l) same ((x.0.1.words, across.0, up.0), up.1 ∙ across.1)

target_again : Takes IsTarget target_next
unfolding target_next
target_again l at rest o =
    let x = signed_again l at.x o.0 o.1 in
    let y = signed_again (left_of l o.0) at.y rest o.2 in
    rw (x, y) refl

-- ---- a keyword and a number

pub line_ok : (word : List ℕ) (least most : ℕ) (above : Kind) → Took (IsNumberLine word least most) (line_next word least most above)
unfolding line_next
line_ok word least most above l n r e =
    let k = bind_ok (keyword_next word l) _ _ e in
    let keyword = keyword_ok word l k.0.0 k.0.1 k.1 in
    let number = number_ok least most above k.0.1 n r k.2 in
    (record { after_keyword = k.0.1.words; begins = keyword.0; number = number.0 }, number.1 ∙ keyword.1)

pub line_again : (word : List ℕ) (least most : ℕ) (above : Kind) → most ≤ 2 ^ 30 → Takes (IsNumberLine word least most) (line_next word least most above)
unfolding line_next
line_again word least most above low l n rest s =
    let k = keyword_again word l s.after_keyword s.begins in
    let number = number_again least most above low (left_of l s.after_keyword) n rest s.number in
    rw (k, number) refl

pub score_ok : Took (IsNumberLine (codes "Score") 0 most_shown) score_next
unfolding score_next
score_ok l n r e =
    let k = bind_ok (keyword_next (codes "Score") l) _ _ e in
    let keyword = keyword_ok (codes "Score") l k.0.0 k.0.1 k.1 in
    let number = amount_ok k.0.1 n r k.2 in
    (record { after_keyword = k.0.1.words; begins = keyword.0; number = number.0 }, number.1 ∙ keyword.1)

pub score_again : Takes (IsNumberLine (codes "Score") 0 most_shown) score_next
unfolding score_next
score_again l n rest s =
    let k = keyword_again (codes "Score") l s.after_keyword s.begins in
    let number = amount_again (left_of l s.after_keyword) n rest s.number in
    rw (k, number) refl

-- ---- the lines of a cell, of a cut net, and of a cell of the top die

pub cell_ok : (p : Netlist) → Took (IsCellLine p) (cell_next p)
unfolding cell_next
cell_ok p l line r e =
    let k = bind_ok (keyword_next (codes "Cell") l) _ _ e in
    let c = bind_ok (below_next (length p.cells) k.0.1) _ _ k.2 in
    let x = bind_ok (number_next 0 most_number kinds.Number c.0.1) _ _ c.2 in
    let t = bind_ok (target_next x.0.1) _ _ x.2 in
    let d = bind_ok (amount_next t.0.1) _ _ t.2 in
    let keyword = keyword_ok (codes "Cell") l k.0.0 k.0.1 k.1 in
    let cell = below_ok (length p.cells) k.0.1 c.0.0 c.0.1 c.1 in
    let place = number_ok 0 most_number kinds.Number c.0.1 x.0.0 x.0.1 x.1 in
    let target = target_ok x.0.1 t.0.0 t.0.1 t.1 in
    let dual = amount_ok t.0.1 d.0.0 d.0.1 d.1 in
    let same = ok_is {A = CellShown × Left} (record { cell = record { 0 = c.0.0 }; x = pos x.0.0; target = t.0.0; dual = d.0.0 }, d.0.1) (line, r) d.2 in
    subst (Stood (IsCellLine p) l) same (
      record {
        after_keyword = k.0.1.words;
        after_cell = c.0.1.words;
        after_x = x.0.1.words;
        after_target_x = target.0.0;
        after_target_y = t.0.1.words;
        begins = keyword.0;
        cell = cell.0;
        x = (x.0.0, refl, place.0);
        target_x = target.0.1;
        target_y = target.0.2;
        dual = dual.0;
      },
      dual.1 ∙ target.1 ∙ place.1 ∙ cell.1 ∙ keyword.1,
    )

pub cell_again : (p : Netlist) → Takes (IsCellLine p) (cell_next p)
unfolding cell_next
cell_again p l line rest s =
    let k = keyword_again (codes "Cell") l s.after_keyword s.begins in
    let c = below_again (length p.cells) (left_of l s.after_keyword) line.cell.0 s.after_cell s.cell in
    let x = number_again 0 most_number kinds.Number (omega arith) (left_of l s.after_cell) s.x.0 s.after_x s.x.2 in
    let t = target_again (left_of l s.after_x) line.target s.after_target_y (s.after_target_x, s.target_x, s.target_y) in
    let d = amount_again (left_of l s.after_target_y) line.dual rest s.dual in
    rw (k, c, x, t, d) (ap (λ (x : ℤ). was_read {A = CellShown} (record line { x = x }, left_of l rest)) (sym s.x.1))

pub cut_ok : (p : Netlist) (slots : ℕ) → Took (IsCutLine p slots) (cut_next p slots)
unfolding cut_next
cut_ok p slots l line r e =
    let k = bind_ok (keyword_next (codes "Cut") l) _ _ e in
    let n = bind_ok (below_next (length p.nets) k.0.1) _ _ k.2 in
    let s = bind_ok (below_next slots n.0.1) _ _ n.2 in
    let q = bind_ok (amount_next s.0.1) _ _ s.2 in
    let keyword = keyword_ok (codes "Cut") l k.0.0 k.0.1 k.1 in
    let net = below_ok (length p.nets) k.0.1 n.0.0 n.0.1 n.1 in
    let slot = below_ok slots n.0.1 s.0.0 s.0.1 s.1 in
    let price = amount_ok s.0.1 q.0.0 q.0.1 q.1 in
    let same = ok_is {A = CutShown × Left} (record { net = record { 0 = n.0.0 }; slot = record { 0 = s.0.0 }; price = q.0.0 }, q.0.1) (line, r) q.2 in
    subst (Stood (IsCutLine p slots) l) same (
      record {
        after_keyword = k.0.1.words;
        after_net = n.0.1.words;
        after_slot = s.0.1.words;
        begins = keyword.0;
        net = net.0;
        slot = slot.0;
        price = price.0;
      },
      price.1 ∙ slot.1 ∙ net.1 ∙ keyword.1,
    )

pub cut_again : (p : Netlist) (slots : ℕ) → Takes (IsCutLine p slots) (cut_next p slots)
unfolding cut_next
cut_again p slots l line rest s =
    let k = keyword_again (codes "Cut") l s.after_keyword s.begins in
    let n = below_again (length p.nets) (left_of l s.after_keyword) line.net.0 s.after_net s.net in
    let t = below_again slots (left_of l s.after_net) line.slot.0 s.after_slot s.slot in
    let q = amount_again (left_of l s.after_slot) line.price rest s.price in
    rw (k, n, t, q) refl

pub top_ok : (p : Netlist) → Took (IsTopLine p) (top_next p)
unfolding top_next
top_ok p l line r e =
    let k = bind_ok (keyword_next (codes "Cell") l) _ _ e in
    let c = bind_ok (below_next (length p.cells) k.0.1) _ _ k.2 in
    let keyword = keyword_ok (codes "Cell") l k.0.0 k.0.1 k.1 in
    let cell = below_ok (length p.cells) k.0.1 c.0.0 c.0.1 c.1 in
    let same = ok_is {A = CellId × Left} (record { 0 = c.0.0 }, c.0.1) (line, r) c.2 in
    subst (Stood (IsTopLine p) l) same (record { after_keyword = k.0.1.words; begins = keyword.0; cell = cell.0 }, cell.1 ∙ keyword.1)

pub top_again : (p : Netlist) → Takes (IsTopLine p) (top_next p)
unfolding top_next
top_again p l line rest s =
    let k = keyword_again (codes "Cell") l s.after_keyword s.begins in
    let c = below_again (length p.cells) (left_of l s.after_keyword) line.0 rest s.cell in
    rw (k, c) refl

-- ---- how a trial ended

-- a choice that did not fail
pub if_ok : {A : Type 0} (test : Bool) (one other : Read A) (y : A × Left) → cond test one other ≡ Ok y → ((test ≡ true) × (one ≡ Ok y)) ⊎ ((test ≡ false) × (other ≡ Ok y))
if_ok true one other y e = inl (refl, e)
if_ok false one other y e = inr (refl, e)

rowless_ok : (p : Netlist) (l : Left) (ending : Ending) (r : Left) → rowless_next p l ≡ Ok (ending, r)
    → (cell : ℕ) × Below (length p.cells) cell l.words r.words × (ending ≡ NoRow (record { 0 = cell })) × (r.bytes ≡ l.bytes)
unfolding rowless_next
rowless_ok p l ending r e =
    let c = bind_ok (below_next (length p.cells) l) _ _ e in
    let cell = below_ok (length p.cells) l c.0.0 c.0.1 c.1 in
    let same = ok_is {A = Ending × Left} (NoRow (record { 0 = c.0.0 }), c.0.1) (ending, r) c.2 in
    let left : c.0.1 ≡ r = ap (λ (q : Ending × Left). q.1) same in (
      c.0.0,
      subst (λ (m : Left). Below (length p.cells) c.0.0 l.words m.words) left cell.0,
      ap (λ (q : Ending × Left). q.0) (sym same),
      subst (λ (m : Left). m.bytes ≡ l.bytes) left cell.1,
    )

pub ending_ok : (p : Netlist) → Took (IsEnding p) (ending_next p)
unfolding ending_next
ending_ok p l ending r e =
    let w = bind_ok (word_next l) _ _ e in
    let word : Word = w.0.0 in
    let after : Left = w.0.1 in
    let next = word_ok l word after w.1 in
    elim (if_ok (bytes_eq word.text (codes "start")) (was_read (Start, after)) (behind_start word after) (ending, r) w.2) [
      | inl is ↦ plain (codes "start") Start word after next.words next.bytes is.0 is.1 (λ k. k)
      | inr not_start ↦ elim (if_ok (bytes_eq word.text (codes "better")) (was_read (Better, after)) (behind_better word after) (ending, r) not_start.1) [
        | inl is ↦ plain (codes "better") Better word after next.words next.bytes is.0 is.1 (λ k. k)
        | inr not_better ↦ elim (if_ok (bytes_eq word.text (codes "kept")) (was_read (NotBetter, after)) (behind_kept word after) (ending, r) not_better.1) [
          | inl is ↦ plain (codes "kept") NotBetter word after next.words next.bytes is.0 is.1 (λ k. k)
          | inr not_kept ↦ elim (if_ok (bytes_eq word.text (codes "norow")) (rowless_next p after) (fault word.at kinds.Word) (ending, r) not_kept.1) [
            | inl is ↦ rowless word after next.words next.bytes is.0 is.1
            | inr none ↦ absurd (not_read word.at none.1)
          ]
        ]
      ]
    ]
  where
    behind_kept : Word → Left → Read Ending
    behind_kept word after = cond (bytes_eq word.text (codes "norow")) (rowless_next p after) (fault word.at kinds.Word)

    behind_better : Word → Left → Read Ending
    behind_better word after = cond (bytes_eq word.text (codes "kept")) (was_read (NotBetter, after)) (behind_kept word after)

    behind_start : Word → Left → Read Ending
    behind_start word after = cond (bytes_eq word.text (codes "better")) (was_read (Better, after)) (behind_better word after)

    not_read : (at : ℕ) → ◌≡◌ {A = Read Ending} (fault at kinds.Word) (Ok (ending, r)) → ⊥
    not_read at e = absurd cc

    plain : (keyword : List ℕ) (shown : Ending) (word : Word) (after : Left) → l.words ≡ word ∷ after.words → after.bytes ≡ l.bytes → bytes_eq word.text keyword ≡ true
        → was_read (shown, after) ≡ Ok (ending, r) → (Keyword keyword l.words after.words → IsEnding p shown l.words after.words) → IsEnding p ending l.words r.words × (r.bytes ≡ l.bytes)
    plain keyword shown word after words bytes test e stands =
        subst (Stood (IsEnding p) l) (ok_is (shown, after) (ending, r) e) (stands (word, words, (bytes_eq-Decides word.text keyword).0 test), bytes)

    rowless : (word : Word) (after : Left) → l.words ≡ word ∷ after.words → after.bytes ≡ l.bytes → bytes_eq word.text (codes "norow") ≡ true
        → rowless_next p after ≡ Ok (ending, r) → IsEnding p ending l.words r.words × (r.bytes ≡ l.bytes)
    rowless word after words bytes test e =
        let cell = rowless_ok p after ending r e in
        let here : IsEnding p (NoRow (record { 0 = cell.0 })) l.words r.words = (after.words, (word, words, (bytes_eq-Decides word.text (codes "norow")).0 test), cell.1) in
        (subst (λ (x : Ending). IsEnding p x l.words r.words) (sym cell.2) here, cell.3 ∙ bytes)

pub ending_again : (p : Netlist) → Takes (IsEnding p) (ending_next p)
unfolding ending_next rowless_next
ending_again p l Start rest k = let w = word_again l k.0 rest k.1 in rw (w, k.2) refl
ending_again p l Better rest k = let w = word_again l k.0 rest k.1 in rw (w, k.2) refl
ending_again p l NotBetter rest k = let w = word_again l k.0 rest k.1 in rw (w, k.2) refl
ending_again p l (NoRow cell) rest s =
    let w = word_again l s.1.0 s.0 s.1.1 in
    let c = below_again (length p.cells) (left_of l s.0) cell.0 rest s.2 in
    rw (w, s.1.2, c) refl

-- ---- the version

version_one : (text : List ℕ) (n : ℕ) → Spells 1 2 text n → n ≡ 1 → Spells 1 1 text 1
version_one text n spells is = record { digits = spells.digits; value = spells.value ∙ is; at_least = omega arith; at_most = omega arith }

version_two : (text : List ℕ) (n : ℕ) → Spells 1 2 text n → n ≡ 2 → Spells 2 2 text 2
version_two text n spells is = record { digits = spells.digits; value = spells.value ∙ is; at_least = omega arith; at_most = omega arith }

pub version_ok : Took IsVersion version_next
unfolding version_next
version_ok l cost r e =
    let v = bind_ok (line_next (codes "FaceplaceCert") 1 2 kinds.Range l) _ _ e in
    let line = line_ok (codes "FaceplaceCert") 1 2 kinds.Range l v.0.0 v.0.1 v.1 in
    elim (if_ok (v.0.0 == 1) (was_read (0, v.0.1)) (line_next (codes "Cost") 1 most_number kinds.Range v.0.1) (cost, r) v.2) [
      | inl one ↦ subst (Stood IsVersion l) (ok_is (0, v.0.1) (cost, r) one.1) (inl (refl, first v.0.0 l.words v.0.1.words line.0 (eqb-true v.0.0 1 one.0)), line.1)
      | inr two ↦
          let priced = line_ok (codes "Cost") 1 most_number kinds.Range v.0.1 cost r two.1 in
          (inr (v.0.1.words, second v.0.0 l.words v.0.1.words line.0 (eqb-false v.0.0 1 two.0), priced.0), priced.1 ∙ line.1)
    ]
  where
    first : (n : ℕ) (words rest : List Word) → IsNumberLine (codes "FaceplaceCert") 1 2 n words rest → n ≡ 1 → IsNumberLine (codes "FaceplaceCert") 1 1 1 words rest
    first n words rest s is =
        record { after_keyword = s.after_keyword; begins = s.begins; number = (s.number.0, s.number.1, version_one s.number.0.text n s.number.2 is) }

    second : (n : ℕ) (words rest : List Word) → IsNumberLine (codes "FaceplaceCert") 1 2 n words rest → (n ≡ 1 → ⊥) → IsNumberLine (codes "FaceplaceCert") 2 2 2 words rest
    second n words rest s not_one =
        let most : n ≤ 2 = s.number.2.at_most in
        let least : 1 ≤ n = s.number.2.at_least in
        record { after_keyword = s.after_keyword; begins = s.begins; number = (s.number.0, s.number.1, version_two s.number.0.text n s.number.2 (omega (arith, not_one))) }

-- a version in its range
wider : (version : ℕ) (words rest : List Word) → 1 ≤ version → version ≤ 2 → IsNumberLine (codes "FaceplaceCert") version version version words rest
    → IsNumberLine (codes "FaceplaceCert") 1 2 version words rest
wider version words rest least most s = record {
  after_keyword = s.after_keyword;
  begins = s.begins;
  number = (s.number.0, s.number.1, record { digits = s.number.2.digits; value = s.number.2.value; at_least = least; at_most = most });
}

pub version_again : Takes IsVersion version_next
unfolding version_next
version_again l cost rest (inl s) =
    let version = line_again (codes "FaceplaceCert") 1 2 kinds.Range (omega arith) l 1 rest (wider 1 l.words rest (omega arith) (omega arith) s.1) in
    rw version (ap (λ (n : ℕ). was_read (n, left_of l rest)) (sym s.0))
version_again l cost rest (inr s) =
    let version = line_again (codes "FaceplaceCert") 1 2 kinds.Range (omega arith) l 2 s.0 (wider 2 l.words s.0 (omega arith) (omega arith) s.1) in
    let priced = line_again (codes "Cost") 1 most_number kinds.Range (omega arith) (left_of l s.0) cost rest s.2 in
    rw version priced
