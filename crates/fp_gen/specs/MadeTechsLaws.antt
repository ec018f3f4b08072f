-- The technologies that are made can be printed, and both have each library cell and pin that a cell or a connection may name.
use Rattle.std.proofs.Common.{◌≡◌, ◌≢◌, ℕ, zero, suc, ◌+◌, ◌<◌, ◌≤◌, Bool, true, List, [], ◌∷◌, ◌++◌, length, refl, sym, ap, ◌∙◌, arith, inl, inr}
use Rattle.std.specs.Prelude.{All, ◌&&◌, ◌==◌, not, nat_le, codes, is_some, option_and_then}
use Rattle.std.specs.Fmt.{digits}
use Rattle.std.specs.List.{range_with_len, list_all}
use Rattle.std.proofs.lemmas.Bool.{and_parts, and_from, not-true, leb-true, eqb-true, eqb-false, cases_eq}
use Rattle.std.proofs.lemmas.List.Elements.{All-weaker}
use Rattle.std.proofs.lemmas.List.Sums.{AllPass-from_list_all}
use Rattle.fp_text.specs.Numbers.{is_name}
use Rattle.fp_tech.specs.Book.{Pin, Book, no_techs, place_of, is_among, libs_of, lib_in, changed_at, has_name, id_for, pin_names}
use Rattle.fp_contest_in.specs.Text.{LibText, TechText, pin_name_list, lib_name_list, tech_name_list, grown, with_tech_texts}
use Rattle.fp_contest_in.specs.Grammar.{most_number, slash}
use Rattle.fp_contest_in.specs.Printable.{EachIs, IsPinText, IsLibText, IsTechText}
use Rattle.fp_gen.specs.MakeText.{numbered, made_techs}

-- ---- a test of what can be printed

all_ok : {A : Type 0} → (List A → A → Bool) → List A → List A → Bool
all_ok ok before [] = true
all_ok ok before (x ∷ xs) = ok before x && all_ok ok (before ++ x ∷ []) xs

each_ok : {A : Type 0} (is : List A → A → Type 0) (ok : List A → A → Bool) → ((before : List A) (x : A) → ok before x ≡ true → is before x)
    → (before xs : List A) → all_ok ok before xs ≡ true → EachIs is before xs
unfolding all_ok
each_ok is ok one before [] passes = tt
each_ok is ok one before (x ∷ xs) passes =
    let parts = and_parts (ok before x) (all_ok ok (before ++ x ∷ []) xs) passes in
    (one before x parts.0, each_ok is ok one (before ++ x ∷ []) xs parts.1)

pin_ok : List Pin → Pin → Bool
pin_ok before pin = is_name pin.name && (not (is_among pin.name (pin_name_list before)) && (nat_le pin.x most_number && nat_le pin.y most_number))

pin_is : (before : List Pin) (pin : Pin) → pin_ok before pin ≡ true → IsPinText before pin
unfolding pin_ok
pin_is before pin passes =
    let name = and_parts (is_name pin.name) _ passes in
    let new = and_parts (not (is_among pin.name (pin_name_list before))) _ name.1 in
    let x = and_parts (nat_le pin.x most_number) (nat_le pin.y most_number) new.1 in
    record { name = name.0; new = not-true _ new.0; x = leb-true pin.x most_number x.0; y = leb-true pin.y most_number x.1 }

lib_ok : List LibText → LibText → Bool
lib_ok before lib =
    is_name lib.name && (not (is_among lib.name (lib_name_list before)) && (nat_le 1 lib.width && (nat_le lib.width most_number
    && (nat_le 1 lib.height && (nat_le lib.height most_number && (nat_le (length lib.pins) 1024 && all_ok pin_ok [] lib.pins))))))

lib_is : (before : List LibText) (lib : LibText) → lib_ok before lib ≡ true → IsLibText before lib
unfolding lib_ok
lib_is before lib passes =
    let name = and_parts (is_name lib.name) _ passes in
    let new = and_parts (not (is_among lib.name (lib_name_list before))) _ name.1 in
    let some_width = and_parts (nat_le 1 lib.width) _ new.1 in
    let width = and_parts (nat_le lib.width most_number) _ some_width.1 in
    let some_height = and_parts (nat_le 1 lib.height) _ width.1 in
    let height = and_parts (nat_le lib.height most_number) _ some_height.1 in
    let few = and_parts (nat_le (length lib.pins) 1024) (all_ok pin_ok [] lib.pins) height.1 in
    record {
      name = name.0;
      new = not-true _ new.0;
      some_width = leb-true 1 lib.width some_width.0;
      width = leb-true lib.width most_number width.0;
      some_height = leb-true 1 lib.height some_height.0;
      height = leb-true lib.height most_number height.0;
      few_pins = leb-true (length lib.pins) 1024 few.0;
      pins = each_ok IsPinText pin_ok pin_is [] lib.pins few.1;
    }

tech_ok : List TechText → TechText → Bool
tech_ok before tech =
    is_name tech.name && (not (is_among tech.name (tech_name_list before)) && (nat_le (length tech.libs) 4096 && all_ok lib_ok [] tech.libs))

tech_is : (before : List TechText) (tech : TechText) → tech_ok before tech ≡ true → IsTechText before tech
unfolding tech_ok
tech_is before tech passes =
    let name = and_parts (is_name tech.name) _ passes in
    let new = and_parts (not (is_among tech.name (tech_name_list before))) _ name.1 in
    let few = and_parts (nat_le (length tech.libs) 4096) (all_ok lib_ok [] tech.libs) new.1 in
    record { name = name.0; new = not-true _ new.0; few_libs = leb-true (length tech.libs) 4096 few.0; libs = each_ok IsLibText lib_ok lib_is [] tech.libs few.1 }

techs_pass : all_ok tech_ok [] made_techs ≡ true
unfolding all_ok tech_ok lib_ok pin_ok place_of digits
techs_pass = refl

-- the technologies can be printed
pub techs_printable : EachIs IsTechText [] made_techs
techs_printable = each_ok IsTechText tech_ok tech_is [] made_techs techs_pass

-- ---- library cells and pins

abbrev pub made_book : Book
made_book = with_tech_texts no_techs made_techs

-- what passes for each number of a range passes for one of them
passes_below : (passes : ℕ → Bool) (from n k : ℕ) → list_all passes (range_with_len from n) ≡ true → from ≤ k → k < from + n → passes k ≡ true
passes_below passes from zero k all above below = absurd (omega (arith, above, below))
passes_below passes from (suc n) k all above below =
    let parts = and_parts (passes from) (list_all passes (range_with_len (from + 1) n)) all in
    let later : from + 1 ≤ k → passes k ≡ true = λ behind. passes_below passes (from + 1) n k parts.1 behind (omega (arith, below)) in
    elim (cases_eq from k) [
      | inl same ↦ ap passes (sym same) ∙ parts.0
      | inr other ↦ later (omega (arith, above, other))
    ]

-- both technologies have the library cell of a number below 8, and it has that number in the book
abbrev pub lib_passes : ℕ → Bool
lib_passes lib =
    (has_name made_book 0 (numbered (codes "L") lib) && has_name made_book 1 (numbered (codes "L") lib)) && id_for made_book (numbered (codes "L") lib) == lib

libs_pass : list_all lib_passes (range_with_len 0 8) ≡ true
unfolding place_of libs_of lib_in changed_at grown digits
libs_pass = refl

pub record IsLibKnown (lib : ℕ) : Type 0 where
  pub known : (has_name made_book 0 (numbered (codes "L") lib) && has_name made_book 1 (numbered (codes "L") lib)) ≡ true
  pub id : id_for made_book (numbered (codes "L") lib) ≡ lib

pub lib_known : (lib : ℕ) → lib < 8 → IsLibKnown lib
lib_known lib below =
    let parts = and_parts (has_name made_book 0 (numbered (codes "L") lib) && has_name made_book 1 (numbered (codes "L") lib)) (id_for made_book (numbered (codes "L") lib) == lib)
    (passes_below lib_passes 0 8 lib libs_pass (omega arith) below) in
    record { known = parts.0; id = eqb-true (id_for made_book (numbered (codes "L") lib)) lib parts.1 }

-- what a pin of a connection is named is a name without a slash, and each library cell has it in both technologies
abbrev pub has_pin_there : ℕ → ℕ → ℕ → Bool
has_pin_there tech pin lib = is_some (option_and_then (λ l. place_of (numbered (codes "P") pin) (pin_names l)) (lib_in made_book tech lib))

abbrev pub pin_passes : ℕ → Bool
pin_passes pin =
    is_name (numbered (codes "P") pin) && (list_all (λ byte. not (byte == slash)) (numbered (codes "P") pin)
    && (list_all (has_pin_there 0 pin) (range_with_len 0 8) && list_all (has_pin_there 1 pin) (range_with_len 0 8)))

pins_pass : list_all pin_passes (range_with_len 0 4) ≡ true
unfolding place_of libs_of lib_in changed_at grown digits
pins_pass = refl

-- the pin of a number below 4: its name, and that a library cell has it
pub record IsPinKnown (pin : ℕ) : Type 0 where
  pub name : is_name (numbered (codes "P") pin) ≡ true
  pub no_slash : All (λ byte. byte ≢ slash) (numbered (codes "P") pin)
  pub there : (lib : ℕ) → lib < 8 → (has_pin_there 0 pin lib && has_pin_there 1 pin lib) ≡ true

no_slash_in : (bytes : List ℕ) → list_all (λ byte. not (byte == slash)) bytes ≡ true → All (λ byte. byte ≢ slash) bytes
no_slash_in bytes passes =
    All-weaker (λ byte. not (byte == slash) ≡ true) (λ byte. byte ≢ slash) (λ byte is. eqb-false byte slash (not-true (byte == slash) is)) bytes
    (AllPass-from_list_all (λ byte. not (byte == slash)) bytes passes)

pub pin_known : (pin : ℕ) → pin < 4 → IsPinKnown pin
pin_known pin below =
    let name = and_parts (is_name (numbered (codes "P") pin)) _ (passes_below pin_passes 0 4 pin pins_pass (omega arith) below) in
    let slashes = and_parts (list_all (λ byte. not (byte == slash)) (numbered (codes "P") pin)) _ name.1 in
    let both = and_parts (list_all (has_pin_there 0 pin) (range_with_len 0 8)) (list_all (has_pin_there 1 pin) (range_with_len 0 8)) slashes.1 in
    record {
      name = name.0;
      no_slash = no_slash_in (numbered (codes "P") pin) slashes.0;
      there = λ lib few. and_from (has_pin_there 0 pin lib) (has_pin_there 1 pin lib) (passes_below (has_pin_there 0 pin) 0 8 lib both.0 (omega arith) few)
          (passes_below (has_pin_there 1 pin) 0 8 lib both.1 (omega arith) few);
    }
