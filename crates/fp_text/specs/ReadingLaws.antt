-- What is read stands in the tokens, what stands in the tokens is read, and how a loop reads so
-- many items.
use Rattle.std.specs.Prelude.{◌≡◌, ℕ, zero, suc, ◌+◌, ◌-◌, ◌^◌, ◌<◌, ◌≤◌, Bool, true, false, ◌&&◌, nat_lt, nat_le, if◌then◌else◌, List, [], ◌∷◌, ◌++◌, length, Result, Ok, Err}
use Rattle.std.specs.Str.{bytes_eq}
use Rattle.std.proofs.Common.{refl, sym, ap, subst, ◌∙◌, cond, arith, append_assoc}
use Rattle.std.proofs.lemmas.Bool.{and_parts, and_from, ltb-false, leb-true, le-ltb, le-leb}
use Rattle.std.proofs.lemmas.List.{append-nil}
use Rattle.std.proofs.lemmas.Slice.Eq.{bytes_eq-Decides}
use Rattle.fp_text.specs.Words.{Word}
use Rattle.fp_text.specs.Items.{Each}
use Rattle.fp_text.specs.Numbers.{is_digits, value_of, is_name, Spells}
use Rattle.fp_text.specs.Reading.{Fault, Left, Read, ◌>>=◌, fault, word_next, keyword_next, name_next, number_next, end_next, many_next, GivesFault}
use Rattle.fp_text.specs.declared.fault.Kind.{Kind}
use Rattle.fp_text.specs.declared.fault.Kind.TheVariants.{Word as WrongWord, Number, Name, Range}
use Rattle.fp_text.specs.declared.fault.TextFault.{TextFault}
use Rattle.fp_text.specs.declared.fault.TextFault.TheVariants.{Wrong, Memory}

-- ---- steps

abbrev done : {A : Type 0} → A → Result A Fault
done x = Ok x

-- two values that were read at once are one
pub ok_is : {A : Type 0} (x y : A) → done x ≡ done y → x ≡ y
ok_is x y e = cc

-- a step that did not fail
pub bind_ok : {A B : Type 0} (read : Result A Fault) (f : A → Result B Fault) (y : B)
    → (read >>= f) ≡ Ok y → (x : A) × (read ≡ Ok x) × (f x ≡ Ok y)
bind_ok (Ok x) f y e = (x, refl, e)
bind_ok (Err e) f y is = absurd cc

-- a step behind one that did not fail
pub bind_again : {A B : Type 0} (read : Result A Fault) (f : A → Result B Fault) (x : A)
    → read ≡ Ok x → (read >>= f) ≡ f x
bind_again read f x e = rw e refl

-- a test that did not fail, and one that had to fail
pub cond_ok : {A : Type 0} (test : Bool) (read : Result A Fault) (e : Fault) (y : A)
    → cond test read (Err e) ≡ Ok y → (test ≡ true) × (read ≡ Ok y)
cond_ok true read e y is = (refl, is)
cond_ok false read e y is = absurd cc

pub cond_not : {A : Type 0} (test : Bool) (read : Result A Fault) (e : Fault) (y : A)
    → cond test (Err e) read ≡ Ok y → (test ≡ false) × (read ≡ Ok y)
cond_not true read e y is = absurd cc
cond_not false read e y is = (refl, is)

-- a text of which these words are left
abbrev pub left_of : Left → List Word → Left
left_of l words = record { bytes = l.bytes; words = words }

-- ---- the next token

-- this word was next, and these are left behind it
pub record IsNext (l : Left) (word : Word) (left : Left) : Type 0 where
  pub words : l.words ≡ word ∷ left.words
  pub bytes : left.bytes ≡ l.bytes

word_ok-from : (bytes : List ℕ) (words : List Word) (word : Word) (left : Left)
    → word_next (record { bytes = bytes; words = words }) ≡ Ok (word, left)
    → IsNext (record { bytes = bytes; words = words }) word left
unfolding word_next
word_ok-from bytes [] word left e = absurd cc
word_ok-from bytes (first ∷ words) word left e =
    let same =
    ok_is (first, left_of (record { bytes = bytes; words = words }) words) (word, left) e in
    record {
      words = ap (λ (p : Word × Left). p.0 ∷ p.1.words) same;
      bytes = ap (λ (p : Word × Left). p.1.bytes) (sym same);
    }

pub word_ok : (l : Left) (word : Word) (left : Left) → word_next l ≡ Ok (word, left)
    → IsNext l word left
word_ok l word left e = word_ok-from l.bytes l.words word left e

pub word_again : (l : Left) (word : Word) (words : List Word) → l.words ≡ word ∷ words
    → word_next l ≡ Ok (word, left_of l words)
unfolding word_next
word_again l word words is = ap (λ (ws : List Word). word_next (left_of l ws)) is

-- ---- a keyword

pub keyword_ok : (keyword : List ℕ) (l : Left) (at : ℕ) (left : Left)
    → keyword_next keyword l ≡ Ok (at, left) → IsNext l (record { at = at; text = keyword }) left
unfolding keyword_next
keyword_ok keyword l at left e =
    let b =
    bind_ok (word_next l)
    (λ word. if bytes_eq word.0.text keyword then done
    (word.0.at, word.1) else fault word.0.at WrongWord) (at, left) e in
    let t =
    cond_ok (bytes_eq b.0.0.text keyword) (done (b.0.0.at, b.0.1))
    (record { at = b.0.0.at; kind = WrongWord }) (at, left) b.2 in
    let same = ok_is (b.0.0.at, b.0.1) (at, left) t.1 in
    let text : b.0.0.text ≡ keyword = (bytes_eq-Decides b.0.0.text keyword).0 t.0 in
    let at_is : b.0.0.at ≡ at = ap (λ (p : ℕ × Left). p.0) same in
    let next = word_ok l b.0.0 b.0.1 b.1 in
    record {
      words = next.words ∙ (λ i. record { at = at_is i; text = text i } ∷ (same i).1.words);
      bytes = ap (λ (p : ℕ × Left). p.1.bytes) (sym same) ∙ next.bytes;
    }

pub keyword_again : (keyword : List ℕ) (l : Left) (word : Word) (words : List Word)
    → l.words ≡ word ∷ words → word.text ≡ keyword
    → keyword_next keyword l ≡ Ok (word.at, left_of l words)
unfolding keyword_next
keyword_again keyword l word words is text =
    let same : bytes_eq word.text keyword ≡ true = (bytes_eq-Decides word.text keyword).1 text in
    rw (word_again l word words is, same) refl

-- ---- a name

pub name_ok : (l : Left) (word : Word) (left : Left) → name_next l ≡ Ok (word, left)
    → IsNext l word left × (is_name word.text ≡ true)
unfolding name_next
name_ok l word left e =
    let b =
    bind_ok (word_next l) (λ w. if is_name w.0.text then done w else fault w.0.at Name)
    (word, left) e in
    let t =
    cond_ok (is_name b.0.0.text) (done b.0) (record { at = b.0.0.at; kind = Name })
    (word, left) b.2 in
    let same = ok_is b.0 (word, left) t.1 in
    subst (λ (p : Word × Left). IsNext l p.0 p.1 × (is_name p.0.text ≡ true)) same
    (word_ok l b.0.0 b.0.1 b.1, t.0)

pub name_again : (l : Left) (word : Word) (words : List Word) → l.words ≡ word ∷ words
    → is_name word.text ≡ true → name_next l ≡ Ok (word, left_of l words)
unfolding name_next
name_again l word words is named = rw (word_again l word words is, named) refl

-- ---- a number

-- a word of which a number was read
pub record IsNumber (least most : ℕ) (l : Left) (n : ℕ) (left : Left) : Type 0 where
  pub word : Word
  pub next : IsNext l word left
  pub spells : Spells least most word.text n
  pub small : n ≤ 2 ^ 30

-- what a word is as a number
abbrev number_from : ℕ → ℕ → Kind → Word × Left → Read ℕ
number_from least most above word =
    if is_digits word.0.text && nat_le (value_of word.0.text) (2 ^ 30)
    then (if nat_lt (value_of word.0.text) least then fault word.0.at Range
    else (if nat_lt most (value_of word.0.text) then fault word.0.at above
    else Ok (value_of word.0.text, word.1)))
    else fault word.0.at Number

number_from-ok : (least most : ℕ) (above : Kind) (word : Word) (l : Left) (n : ℕ) (left : Left)
    → number_from least most above (word, l) ≡ Ok (n, left) → Spells least most word.text n
    × (n ≤ 2 ^ 30) × (l ≡ left)
number_from-ok least most above word l n left e =
    let value : ℕ = value_of word.text in
    let high : Read ℕ = if nat_lt most value then fault word.at above else done (value, l) in
    let low : Read ℕ = if nat_lt value least then fault word.at Range else high in
    let t =
    cond_ok (is_digits word.text && nat_le value (2 ^ 30)) low
    (record { at = word.at; kind = Number }) (n, left) e in
    let u =
    cond_not (nat_lt value least) high (record { at = word.at; kind = Range }) (n, left) t.1 in
    let v =
    cond_not (nat_lt most value) (done (value, l)) (record { at = word.at; kind = above })
    (n, left) u.1 in
    let same = ok_is (value, l) (n, left) v.1 in
    let is : value ≡ n = ap (λ (p : ℕ × Left). p.0) same in
    let parts = and_parts (is_digits word.text) (nat_le value (2 ^ 30)) t.0 in
    let least_is : least ≤ value = ltb-false value least u.0 in
    let most_is : value ≤ most = ltb-false most value v.0 in
    let small : value ≤ 2 ^ 30 = leb-true value (2 ^ 30) parts.1 in (
      record { digits = parts.0; value = is; at_least = omega arith; at_most = omega arith },
      omega arith,
      ap (λ (p : ℕ × Left). p.1) same,
    )

pub number_ok : (least most : ℕ) (above : Kind) (l : Left) (n : ℕ) (left : Left)
    → number_next least most above l ≡ Ok (n, left) → IsNumber least most l n left
unfolding number_next
number_ok least most above l n left e =
    let b = bind_ok (word_next l) (number_from least most above) (n, left) e in
    let t = number_from-ok least most above b.0.0 b.0.1 n left b.2 in
    record {
      word = b.0.0;
      next = subst (IsNext l b.0.0) t.2
          (word_ok l b.0.0 b.0.1 b.1);
      spells = t.0;
      small = t.1;
    }

pub number_again : (least most : ℕ) (above : Kind) (l : Left) (word : Word) (words : List Word)
    (n : ℕ) → l.words ≡ word ∷ words → Spells least most word.text n → n ≤ 2 ^ 30
    → number_next least most above l ≡ Ok (n, left_of l words)
unfolding number_next
number_again least most above l word words n is spells small =
    let value_is : value_of word.text ≡ n = spells.value in
    let at_least : least ≤ n = spells.at_least in
    let at_most : n ≤ most = spells.at_most in
    let number : (is_digits word.text && nat_le (value_of word.text) (2 ^ 30)) ≡ true =
    and_from _ _ spells.digits (le-leb (value_of word.text) (2 ^ 30) (omega arith)) in
    let low : nat_lt (value_of word.text) least ≡ false =
    le-ltb (value_of word.text) least (omega arith) in
    let high : nat_lt most (value_of word.text) ≡ false =
    le-ltb most (value_of word.text) (omega arith) in
    rw (word_again l word words is, number, low, high)
    (ap (λ v. done (v, left_of l words)) value_is)

-- ---- the end

end_ok-from : (bytes : List ℕ) (words : List Word) (left : Left)
    → end_next (record { bytes = bytes; words = words }) ≡ Ok left → (words ≡ [])
    × (left ≡ record { bytes = bytes; words = words })
unfolding end_next
end_ok-from bytes [] left e = (refl, sym (ok_is _ _ e))
end_ok-from bytes (word ∷ words) left e = absurd cc

pub end_ok : (l left : Left) → end_next l ≡ Ok left → (l.words ≡ []) × (left ≡ l)
end_ok l left e = end_ok-from l.bytes l.words left e

pub end_again : (l : Left) → l.words ≡ [] → end_next l ≡ Ok l
unfolding end_next
end_again l none = ap (λ (ws : List Word). end_next (left_of l ws)) none
    ∙ ap (λ (ws : List Word). done (left_of l ws)) (sym none)

-- ---- so many items, as a loop reads them

-- one more item was read
pub many_step : {A : Type 0} (item : List A → Left → Read A) (count i : ℕ) (so_far : List A)
    (l : Left) (x : A) (after : Left) (total : Read (List A)) → i < count
    → item so_far l ≡ Ok (x, after)
    → many_next item (count - i) so_far l ≡ total
    → many_next item (count - (i + 1)) (so_far ++ x ∷ []) after ≡ total
unfolding many_next
many_step item count i so_far l x after total lt read is =
    let more : count - i ≡ suc (count - (i + 1)) = omega arith in
    let one : many_next item (count - i) so_far l ≡ many_next item (count - (i + 1))
    (so_far ++ x ∷ []) after = rw (more, read) refl in
    sym one ∙ is

-- an item failed
pub many_ends : {A : Type 0} (e : TextFault) (item : List A → Left → Read A) (count i : ℕ)
    (so_far : List A) (l : Left) (total : Read (List A)) → i < count → GivesFault e (item so_far l)
    → many_next item (count - i) so_far l ≡ total → GivesFault e total
unfolding many_next
many_ends Memory item count i so_far l total lt fails is = tt
many_ends (Wrong at kind) item count i so_far l total lt fails is =
    let more : count - i ≡ suc (count - (i + 1)) = omega arith in
    let one : many_next item (count - i) so_far l ≡ fault at kind = rw (more, fails) refl in
    sym is ∙ one

-- all are read
pub many_done : {A : Type 0} (item : List A → Left → Read A) (count i : ℕ) (so_far : List A)
    (l : Left) (total : Read (List A)) → count ≤ i
    → many_next item (count - i) so_far l ≡ total → total ≡ Ok (so_far, l)
unfolding many_next
many_done item count i so_far l total le is =
    let none : count - i ≡ 0 = omega arith in
    let one : many_next item (count - i) so_far l ≡ Ok (so_far, l) = rw none refl in
    sym is ∙ one

-- ---- so many items, and the words that spell them

-- items that were read behind others
pub record AreRead {A : Type 0} (stands : List A → A → List Word → List Word → Type 0) (count : ℕ)
    (before : List A) (l : Left) (all : List A) (left : Left) : Type 0 where
  pub items : List A
  pub whole : all ≡ before ++ items
  pub count_is : length items ≡ count
  pub each : Each stands before items l.words left.words
  pub bytes : left.bytes ≡ l.bytes

pub many_ok : {A : Type 0} (item : List A → Left → Read A)
    (stands : List A → A → List Word → List Word → Type 0)
    → ((before : List A) (l : Left) (x : A) (left : Left) → item before l ≡ Ok (x, left)
    → stands before x l.words left.words × (left.bytes ≡ l.bytes))
    → (count : ℕ) (before : List A) (l : Left) (all : List A) (left : Left)
    → many_next item count before l ≡ Ok (all, left) → AreRead stands count before l all left
unfolding many_next
many_ok {A = A} item stands one zero before l all left e =
    let same = ok_is (before, l) (all, left) e in
    record {
      items = [];
      whole = ap (λ (p : List A × Left). p.0) (sym same) ∙ sym (append-nil before);
      count_is = refl;
      each = ap (λ (p : List A × Left). p.1.words) same;
      bytes = ap (λ (p : List A × Left). p.1.bytes) (sym same);
    }
many_ok {A = A} item stands one (suc count) before l all left e =
    let b =
    bind_ok (item before l) (λ first. many_next item count (before ++ first.0 ∷ []) first.1)
    (all, left) e in
    let first = one before l b.0.0 b.0.1 b.1 in
    let rest = many_ok item stands one count (before ++ b.0.0 ∷ []) b.0.1 all left b.2 in
    record {
      items = b.0.0 ∷ rest.items;
      whole = rest.whole ∙ append_assoc before (b.0.0 ∷ []) rest.items;
      count_is = ap suc rest.count_is;
      each = (b.0.1.words, first.0, rest.each);
      bytes = rest.bytes ∙ first.1;
    }

pub many_again : {A : Type 0} (item : List A → Left → Read A)
    (stands : List A → A → List Word → List Word → Type 0)
    → ((before : List A) (l : Left) (x : A) (rest : List Word) → stands before x l.words rest
    → item before l ≡ Ok (x, left_of l rest))
    → (items before : List A) (l : Left) (rest : List Word) → Each stands before items l.words rest
    → many_next item (length items) before l ≡ Ok (before ++ items, left_of l rest)
unfolding many_next
many_again {A = A} item stands one [] before l rest each =
    ap (λ (ws : List Word). done (before, left_of l ws)) each
    ∙ ap (λ (xs : List A). done (xs, left_of l rest)) (sym (append-nil before))
many_again {A = A} item stands one (x ∷ items) before l rest each =
    let next = many_again item stands one items (before ++ x ∷ []) (left_of l each.0) rest each.2 in
    rw (one before l x each.0 each.1)
    (next
    ∙ ap (λ (xs : List A). done (xs, left_of l rest)) (append_assoc before (x ∷ []) items))
