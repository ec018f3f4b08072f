-- Laws of the verdict: the first break is one, and a drawing is not both legal and broken.
use Rattle.std.specs.Prelude.{◌≡◌, ℕ, ◌<◌, ◌≤◌, nat_eq, if◌then◌else◌, List, [], ◌∷◌, length, Bool, true, false, Option, Some, None, is_some, get_or, find, ◌⊎◌}
use Rattle.std.specs.List.{count_by}
use Rattle.std.specs.Option.{option_map}
use Rattle.std.proofs.Common.{refl, sym, ap, subst, ◌∙◌, inl, inr, arith}
use Rattle.std.proofs.lemmas.Bool.{cases_order}
use Rattle.fp_netlist.specs.Netlist.{Netlist}
use Rattle.fp_place.specs.declared.judge.Subject.{Subject}
use Rattle.fp_place.specs.declared.judge.Judged.TheVariants as judged
use Rattle.fp_place.specs.Places.{Place, dies_of}
use Rattle.fp_place.specs.Cut.{is_cut}
use Rattle.fp_place.specs.DrawnLaws.{count_yes, count_no}
use Rattle.fp_place.specs.Drawing.{Drawing, is_net, centre_of, places_in}
use Rattle.fp_place.specs.Placed.{Placed, places_of}
use Rattle.fp_place.specs.Legal.{IsLegalAt, IsLegal}
use Rattle.fp_place.specs.Breaks.{Rule, EachOnce, OnSegments, Heights, NoOverlaps, TopPercent, BottomPercent, RightTerminals, FromEdges, FromOthers, rule_number, subject_of, HoldsOfAll, IsBrokenFirst, IsFirstBreak, Judges}

-- a rule by its number
abbrev rule_of : ℕ → Rule
rule_of number =
    if nat_eq number 1 then EachOnce else if nat_eq number 2 then OnSegments else if nat_eq number 3 then Heights else if nat_eq number 4 then NoOverlaps
    else if nat_eq number 5 then TopPercent else if nat_eq number 6 then BottomPercent else if nat_eq number 7 then RightTerminals
    else if nat_eq number 8 then FromEdges else FromOthers

rule_back : (rule : Rule) → rule_of (rule_number rule) ≡ rule
rule_back EachOnce = refl
rule_back OnSegments = refl
rule_back Heights = refl
rule_back NoOverlaps = refl
rule_back TopPercent = refl
rule_back BottomPercent = refl
rule_back RightTerminals = refl
rule_back FromEdges = refl
rule_back FromOthers = refl

-- a number is that of one rule
pub same_rule : (a b : Rule) → rule_number a ≡ rule_number b → a ≡ b
same_rule a b e = sym (rule_back a) ∙ ap rule_of e ∙ rule_back b

pub some_number : (rule : Rule) → 1 ≤ rule_number rule
some_number EachOnce = omega arith
some_number OnSegments = omega arith
some_number Heights = omega arith
some_number NoOverlaps = omega arith
some_number TopPercent = omega arith
some_number BottomPercent = omega arith
some_number RightTerminals = omega arith
some_number FromEdges = omega arith
some_number FromOthers = omega arith

pub few_rules : (rule : Rule) → rule_number rule ≤ 9
few_rules EachOnce = omega arith
few_rules OnSegments = omega arith
few_rules Heights = omega arith
few_rules NoOverlaps = omega arith
few_rules TopPercent = omega arith
few_rules BottomPercent = omega arith
few_rules RightTerminals = omega arith
few_rules FromEdges = omega arith
few_rules FromOthers = omega arith

-- a legal drawing breaks no rule
pub legal_holds : (p : Netlist) (drawing : Drawing) (places : List Place) → IsLegalAt p drawing places → (rule : Rule) → HoldsOfAll p drawing places rule
legal_holds p drawing places is EachOnce = is.once
legal_holds p drawing places is OnSegments = is.on_segments
legal_holds p drawing places is Heights = is.heights
legal_holds p drawing places is NoOverlaps = is.clear
legal_holds p drawing places is TopPercent = λ number less. is.top_percent
legal_holds p drawing places is BottomPercent = λ number less. is.bottom_percent
legal_holds p drawing places is RightTerminals = is.terminals
legal_holds p drawing places is FromEdges = is.edges
legal_holds p drawing places is FromOthers = is.apart

-- where all rules hold the drawing is legal
pub all_hold : (p : Netlist) (drawing : Drawing) (places : List Place) → ((rule : Rule) → HoldsOfAll p drawing places rule) → IsLegalAt p drawing places
all_hold p drawing places holds = record {
  once = holds EachOnce;
  on_segments = holds OnSegments;
  heights = holds Heights;
  clear = holds NoOverlaps;
  top_percent = holds TopPercent 0 (omega arith);
  bottom_percent = holds BottomPercent 0 (omega arith);
  terminals = holds RightTerminals;
  edges = holds FromEdges;
  apart = holds FromOthers;
}

pub not_both : (p : Netlist) (drawing : Drawing) (rule : ℕ) (subject : Subject) → IsLegal p drawing → IsFirstBreak p drawing rule subject → ⊥
not_both p drawing rule subject legal (broken, number, rule_is, subject_is, is) =
    is.broken (legal_holds p drawing (places_in drawing (length p.cells)) legal broken number is.counted)

-- of two first breaks neither rule comes before the other
rule_not_before : (p : Netlist) (drawing : Drawing) (places : List Place) (a b : Rule) (m n : ℕ) → IsBrokenFirst p drawing places a m → IsBrokenFirst p drawing places b n
    → rule_number a < rule_number b → ⊥
rule_not_before p drawing places a b m n first second less = first.broken (second.rules_before a less m first.counted)

one_rule : (p : Netlist) (drawing : Drawing) (places : List Place) (a b : Rule) (m n : ℕ) → IsBrokenFirst p drawing places a m → IsBrokenFirst p drawing places b n → a ≡ b
one_rule p drawing places a b m n first second = by (cases_order (rule_number a) (rule_number b))
  where
    by : (rule_number a ≡ rule_number b) ⊎ ((rule_number a < rule_number b) ⊎ (rule_number b < rule_number a)) → a ≡ b
    by (inl same) = same_rule a b same
    by (inr (inl less)) = absurd (rule_not_before p drawing places a b m n first second less)
    by (inr (inr more)) = absurd (rule_not_before p drawing places b a n m second first more)

one_number : (p : Netlist) (drawing : Drawing) (places : List Place) (rule : Rule) (m n : ℕ) → IsBrokenFirst p drawing places rule m → IsBrokenFirst p drawing places rule n → m ≡ n
one_number p drawing places rule m n first second = by (cases_order m n)
  where
    by : (m ≡ n) ⊎ ((m < n) ⊎ (n < m)) → m ≡ n
    by (inl same) = same
    by (inr (inl less)) = absurd (first.broken (second.first m less))
    by (inr (inr more)) = absurd (second.broken (first.first n more))

-- at most one rule and subject is the first break
pub record AreSameBreak (rule other_rule : ℕ) (subject other : Subject) : Type 0 where
  pub rule_is : rule ≡ other_rule
  pub subject_is : subject ≡ other

pub one_break : (p : Netlist) (drawing : Drawing) (rule other_rule : ℕ) (subject other : Subject) → IsFirstBreak p drawing rule subject → IsFirstBreak p drawing other_rule other
    → AreSameBreak rule other_rule subject other
one_break p drawing rule other_rule subject other (a, m, a_is, s_is, first) (b, n, b_is, t_is, second) =
    let places : List Place = places_in drawing (length p.cells) in
    let same : a ≡ b = one_rule p drawing places a b m n first second in
    let here : IsBrokenFirst p drawing places b m = subst (λ r. IsBrokenFirst p drawing places r m) same first in
    record {
      rule_is = a_is ∙ ap rule_number same ∙ sym b_is;
      subject_is = s_is ∙ ap (λ r. subject_of r m) same ∙ ap (subject_of b) (one_number p drawing places b m n here second) ∙ sym t_is;
    }

-- a line that passes is found where there is one
record IsCounted {A B : Type 0} (test : A → Bool) (at : A → B) (lines : List A) (found : Option A) : Type 0 where
  some : is_some (option_map at found) ≡ true → 1 ≤ count_by test lines
  none : is_some (option_map at found) ≡ false → count_by test lines ≡ 0

counted : {A B : Type 0} (test : A → Bool) (at : A → B) (lines : List A) → IsCounted test at lines (find test lines)
counted test at [] = record { some = λ e. absurd (let nothing : false ≡ true = e in cc); none = λ e. refl }
counted test at (line ∷ lines) = by (test line) refl (counted test at lines)
  where
    by : (b : Bool) → test line ≡ b → IsCounted test at lines (find test lines) → IsCounted test at (line ∷ lines) (if b then Some line else find test lines)
    by true e rest = record { some = λ s. omega (arith, count_yes test line lines e); none = λ n. absurd (let nothing : true ≡ false = n in cc) }
    by false e rest = record { some = λ s. omega (arith, count_no test line lines e, rest.some s); none = λ n. count_no test line lines e ∙ rest.none n }

found_by_count : {A B : Type 0} (test : A → Bool) (at : A → B) (lines : List A) (cut : Bool) → count_by test lines ≡ (if cut then 1 else 0) → is_some (option_map at (find test lines)) ≡ cut
found_by_count test at lines cut is = by cut (is_some (option_map at (find test lines))) refl is
  where
    told : IsCounted test at lines (find test lines)
    told = counted test at lines

    by : (cut there : Bool) → is_some (option_map at (find test lines)) ≡ there → count_by test lines ≡ (if cut then 1 else 0) → is_some (option_map at (find test lines)) ≡ cut
    by true true e counts = e
    by true false e counts = absurd (omega (arith, told.none e, counts))
    by false true e counts = absurd (omega (arith, told.some e, counts))
    by false false e counts = e

-- in a legal placement exactly the cut nets have a terminal
pub legal_terminals : (p : Netlist) (drawing : Drawing) (placed : Placed) → Judges p drawing (judged.Legal placed) → (net : ℕ) → net < length p.nets
    → is_some (get_or placed.terminals net None) ≡ is_cut p (dies_of (places_of placed)) net
legal_terminals p drawing placed is net below =
    ap is_some (is.1.terminals_are net below)
    ∙ found_by_count (is_net net) centre_of drawing.terminals (is_cut p (dies_of (places_in drawing (length p.cells))) net) (is.0.terminals net below)
    ∙ ap (λ places. is_cut p (dies_of places) net) (sym is.1.cells_are)

-- a verdict is legal exactly where the drawing is
pub legal_is_legal : (p : Netlist) (drawing : Drawing) (placed : Placed) → Judges p drawing (judged.Legal placed) → IsLegal p drawing
legal_is_legal p drawing placed is = is.0
