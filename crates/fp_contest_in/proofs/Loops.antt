-- The loops that read items into a book, turn by turn.
use Rattle.std.proofs.Common.{◌≡◌, ℕ, ◌+◌, ◌<◌, ◌≤◌, List, [], ◌∷◌, ◌++◌, length, Ok, IsTrue, sym, ap, subst, ◌∙◌, arith}
use Rattle.std.proofs.lemmas.List.{map_push, length-map}
use Rattle.fp_text.specs.Reading.{Left, Read, GivesFault, many_next}
use Rattle.fp_text.specs.declared.fault.TextFault.{TextFault}
use Rattle.fp_tech.specs.Book.{Pin, Lib, Book, libs_of, tech_names, has, has_name, is_among, pins_in, with_pin}
use Rattle.fp_contest_in.specs.Text.{LibText, TechText, pin_name_list, lib_name_list, tech_name_list, grown, with_pins, with_lib_text, with_lib_texts, with_tech_text}
use Rattle.fp_contest_in.specs.Statements.{pin_next, lib_next, tech_next}
use Rattle.fp_contest_in.specs.Growing.{Knows, pin_item, lib_item, tech_item}
use Rattle.fp_contest_in.proofs.Growth.{Grown, grown_none, grown_more, grown_fault, grown_all, Counted, counted_more, counted_all, libs_of-with_lib_text, has-with_pins, pins_in-with_pins, knows_more, techs-with_lib_text, tech_names-grown}

-- ---- pins

abbrev pub add_pin : ℕ → ℕ → Book → Pin → Book
add_pin t id book pin = with_pin book t id pin

abbrev pub PinsSoFar : ℕ → ℕ → ℕ → ℕ → Book → Book → Left → Read (List Pin) → Type 0
PinsSoFar t id count i old now l total = Counted (add_pin t id) pin_item count i old now l total

pub pins_there : (t id count i : ℕ) (old now : Book) (l : Left) (total : Read (List Pin)) → IsTrue (has old t id) → PinsSoFar t id count i old now l total → IsTrue (has now t id)
pins_there t id count i old now l total there so_far =
    ap (λ (b : Book). has b t id) so_far.grown.value ∙ has-with_pins t id old so_far.items ∙ there

-- the pins so far are those of the library cell
pins_are : (t id count i : ℕ) (old now : Book) (l : Left) (total : Read (List Pin)) → IsTrue (has old t id) → pins_in old t id ≡ [] → (so_far : PinsSoFar t id count i old now l total) → pins_in now t id ≡ so_far.items
pins_are t id count i old now l total there none so_far =
    ap (λ (b : Book). pins_in b t id) so_far.grown.value ∙ pins_in-with_pins t id old so_far.items there ∙ ap (λ (ps : List Pin). ps ++ so_far.items) none

pub pins_room : (t id count i : ℕ) (old now : Book) (l : Left) (total : Read (List Pin)) → IsTrue (has old t id) → pins_in old t id ≡ [] → PinsSoFar t id count i old now l total → length (pins_in now t id) ≡ i
pins_room t id count i old now l total there none so_far = ap (λ (ps : List Pin). length ps) (pins_are t id count i old now l total there none so_far) ∙ so_far.count_is

pub pins_more : (t id count i : ℕ) (old now next : Book) (l after : Left) (total : Read (List Pin)) → i < count → IsTrue (has old t id) → pins_in old t id ≡ []
    → PinsSoFar t id count i old now l total
    → (pin : Pin) × (pin_next (pin_name_list (pins_in now t id)) l ≡ Ok (pin, after)) × (next ≡ with_pin now t id pin)
    → PinsSoFar t id count (i + 1) old next after total
pins_more t id count i old now next l after total lt there none so_far one =
    let are = pins_are t id count i old now l total there none so_far in
    counted_more (add_pin t id) pin_item count i old now next l after total one.0 lt so_far (ap (λ (ps : List Pin). pin_next (pin_name_list ps) l) (sym are) ∙ one.1) one.2

pub pins_fault : (e : TextFault) (t id count i : ℕ) (old now : Book) (l : Left) (total : Read (List Pin)) → i < count → IsTrue (has old t id) → pins_in old t id ≡ []
    → PinsSoFar t id count i old now l total → GivesFault e (pin_next (pin_name_list (pins_in now t id)) l) → GivesFault e total
pins_fault e t id count i old now l total lt there none so_far fails =
    let are = pins_are t id count i old now l total there none so_far in
    grown_fault e (add_pin t id) pin_item count i old now l total so_far.items lt (subst (λ (ps : List Pin). GivesFault e (pin_next (pin_name_list ps) l)) are fails) so_far.grown

pub pins_all : (t id count i : ℕ) (old now : Book) (l : Left) (total : Read (List Pin)) → count ≤ i → PinsSoFar t id count i old now l total
    → (items : List Pin) × (total ≡ Ok (items, l)) × (now ≡ with_pins t id old items)
pins_all t id count i old now l total le so_far = (so_far.items, counted_all (add_pin t id) pin_item count i old now l total le so_far, so_far.grown.value)

-- ---- library cells

pub record LibsSoFar (t count i : ℕ) (old now : Book) (l : Left) (total : Read (List LibText)) : Type 0 where
  pub items : List LibText
  pub grown : Grown (with_lib_text t) lib_item count i old now l total items
  pub knows : Knows now t (lib_name_list items)
  pub below : t < length now.techs
  pub many : length (libs_of now t) ≡ i

pub libs_none : (t count : ℕ) (old : Book) (l : Left) → t < length old.techs → libs_of old t ≡ [] → Knows old t [] → LibsSoFar t count 0 old old l (many_next lib_item count [] l)
libs_none t count old l below none knows = record {
  items = [];
  grown = grown_none (with_lib_text t) lib_item count old l;
  knows = knows;
  below = below;
  many = ap (λ (libs : List Lib). length libs) none;
}

pub libs_more : (t count i : ℕ) (old now next : Book) (l after : Left) (total : Read (List LibText)) → i < count → LibsSoFar t count i old now l total
    → ((names : List (List ℕ)) → Knows now t names → (lib : LibText) × (lib_next names l ≡ Ok (lib, after)) × (next ≡ with_lib_text t now lib))
    → LibsSoFar t count (i + 1) old next after total
libs_more t count i old now next l after total lt so_far gives =
    let one = gives (lib_name_list so_far.items) so_far.knows in
    let knows = knows_more t now one.0 (lib_name_list so_far.items) so_far.below so_far.knows in
    record {
      items = so_far.items ++ one.0 ∷ [];
      grown = grown_more (with_lib_text t) lib_item count i old now next l after total so_far.items one.0 lt one.1 one.2 so_far.grown;
      knows = λ name. ap (λ (b : Book). has_name b t name) one.2 ∙ knows name
          ∙ ap (is_among name) (sym (map_push (λ (lib : LibText). lib.name) so_far.items one.0));
      below = omega (arith, so_far.below, ap (λ (b : Book). length b.techs) one.2, techs-with_lib_text t now one.0);
      many = ap (λ (b : Book). length (libs_of b t)) one.2 ∙ libs_of-with_lib_text t now one.0 so_far.below ∙ ap (λ (n : ℕ). n + 1) so_far.many;
    }

pub libs_fault : (e : TextFault) (t count i : ℕ) (old now : Book) (l : Left) (total : Read (List LibText)) → i < count → LibsSoFar t count i old now l total
    → ((names : List (List ℕ)) → Knows now t names → GivesFault e (lib_next names l)) → GivesFault e total
libs_fault e t count i old now l total lt so_far fails =
    grown_fault e (with_lib_text t) lib_item count i old now l total so_far.items lt (fails (lib_name_list so_far.items) so_far.knows) so_far.grown

pub libs_all : (t count i : ℕ) (old now : Book) (l : Left) (total : Read (List LibText)) → count ≤ i → LibsSoFar t count i old now l total
    → (items : List LibText) × (total ≡ Ok (items, l)) × (now ≡ with_lib_texts t old items)
libs_all t count i old now l total le so_far = (so_far.items, grown_all (with_lib_text t) lib_item count i old now l total so_far.items le so_far.grown, so_far.grown.value)

-- ---- technologies

abbrev pub TechsSoFar : ℕ → ℕ → Book → Book → Left → Read (List TechText) → Type 0
TechsSoFar count i old now l total = Counted with_tech_text tech_item count i old now l total

-- the technologies so far are those of the book
techs_are : (count i : ℕ) (old now : Book) (l : Left) (total : Read (List TechText)) → tech_names old ≡ [] → (so_far : TechsSoFar count i old now l total) → tech_names now ≡ tech_name_list so_far.items
techs_are count i old now l total none so_far =
    ap tech_names so_far.grown.value ∙ tech_names-grown old so_far.items ∙ ap (λ (names : List (List ℕ)). names ++ tech_name_list so_far.items) none

pub techs_room : (count i : ℕ) (old now : Book) (l : Left) (total : Read (List TechText)) → tech_names old ≡ [] → TechsSoFar count i old now l total → length now.techs ≡ i
techs_room count i old now l total none so_far =
    sym (length-map now.techs (λ tech. tech.name)) ∙ ap (λ (names : List (List ℕ)). length names) (techs_are count i old now l total none so_far)
    ∙ length-map so_far.items (λ tech. tech.name) ∙ so_far.count_is

pub techs_more : (count i : ℕ) (old now next : Book) (l after : Left) (total : Read (List TechText)) → i < count → tech_names old ≡ [] → TechsSoFar count i old now l total
    → (tech : TechText) × (tech_next (tech_names now) l ≡ Ok (tech, after)) × (next ≡ with_tech_text now tech)
    → TechsSoFar count (i + 1) old next after total
techs_more count i old now next l after total lt none so_far one =
    let are = techs_are count i old now l total none so_far in
    counted_more with_tech_text tech_item count i old now next l after total one.0 lt so_far (ap (λ (names : List (List ℕ)). tech_next names l) (sym are) ∙ one.1) one.2

pub techs_fault : (e : TextFault) (count i : ℕ) (old now : Book) (l : Left) (total : Read (List TechText)) → i < count → tech_names old ≡ [] → TechsSoFar count i old now l total
    → GivesFault e (tech_next (tech_names now) l) → GivesFault e total
techs_fault e count i old now l total lt none so_far fails =
    let are = techs_are count i old now l total none so_far in
    grown_fault e with_tech_text tech_item count i old now l total so_far.items lt (subst (λ (names : List (List ℕ)). GivesFault e (tech_next names l)) are fails) so_far.grown

pub techs_all : (count i : ℕ) (old now : Book) (l : Left) (total : Read (List TechText)) → count ≤ i → TechsSoFar count i old now l total
    → (items : List TechText) × (total ≡ Ok (items, l)) × (now ≡ grown with_tech_text old items)
techs_all count i old now l total le so_far = (so_far.items, counted_all with_tech_text tech_item count i old now l total le so_far, so_far.grown.value)
