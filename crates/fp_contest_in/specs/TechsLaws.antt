-- Technologies: what is read is in the grammar, and what is in the grammar is read.
use Rattle.std.proofs.Common.{◌≡◌, ℕ, false, List, [], ◌∷◌, length, Ok, refl, sym, ap, subst, ◌∙◌, arith}
use Rattle.std.specs.Prelude.{codes}
use Rattle.fp_text.specs.Words.{Word}
use Rattle.fp_text.specs.Numbers.{Spells}
use Rattle.fp_text.specs.Reading.{Left, Read, keyword_next, name_next, number_next, many_next}
use Rattle.fp_text.specs.Items.{Each}
use Rattle.fp_text.specs.ReadingLaws.{left_of, bind_ok, cond_not, ok_is, many_ok, many_again}
use Rattle.fp_text.specs.declared.fault.Kind.TheVariants as kinds
use Rattle.fp_tech.specs.Book.{Pin, is_among}
use Rattle.fp_contest_in.specs.Text.{LibText, TechText, pin_name_list, lib_name_list, tech_name_list}
use Rattle.fp_contest_in.specs.Grammar.{Named, Numbers, IsNewPin, IsNewLib, IsNewTech, ranged, most_number, AreTechs}
use Rattle.fp_contest_in.specs.Statements.{new_name_next, pin_next, sizes_next, lib_next, tech_next, techs_next}
use Rattle.fp_contest_in.specs.Growing.{pin_item, lib_item, tech_item}
use Rattle.fp_contest_in.specs.TakenLaws.{keyword_ok, keyword_again, name_ok, name_again, number_ok, number_again, count_is, spells_as}

-- an item that was read stands in the words, and one that stands there is read
abbrev pub ItemOk : {A : Type 0} → (List A → A → List Word → List Word → Type 0) → (List A → Left → Read A) → Type 0
ItemOk {A} stands item = (before : List A) (l : Left) (x : A) (r : Left) → item before l ≡ Ok (x, r) → stands before x l.words r.words × (r.bytes ≡ l.bytes)

abbrev pub ItemAgain : {A : Type 0} → (List A → A → List Word → List Word → Type 0) → (List A → Left → Read A) → Type 0
ItemAgain {A} stands item = (before : List A) (l : Left) (x : A) (rest : List Word) → stands before x l.words rest → item before l ≡ Ok (x, left_of l rest)

-- ---- a name that is new

pub new_name_ok : (before : List (List ℕ)) (l : Left) (name : List ℕ) (r : Left) → new_name_next before l ≡ Ok (name, r) → Named name l.words r.words × (is_among name before ≡ false) × (r.bytes ≡ l.bytes)
unfolding new_name_next
new_name_ok before l name r e =
    let b = bind_ok (name_next l) _ _ e in
    let w = b.0 in
    let t = name_ok l w.0 w.1 b.1 in
    let g = cond_not (is_among w.0.text before) (Ok (w.0.text, w.1)) (record { at = w.0.at; kind = kinds.Twice }) (name, r) b.2 in
    subst (λ (p : List ℕ × Left). Named p.0 l.words p.1.words × (is_among p.0 before ≡ false) × (p.1.bytes ≡ l.bytes)) (ok_is (w.0.text, w.1) (name, r) g.1) (t.0, g.0, t.1)

pub new_name_again : (before : List (List ℕ)) (l : Left) (name : List ℕ) (rest : List Word) → Named name l.words rest → is_among name before ≡ false → new_name_next before l ≡ Ok (name, left_of l rest)
unfolding new_name_next
new_name_again before l name rest n new =
    let other : is_among n.0.text before ≡ false = rw n.2 new in
    rw (name_again name l rest n, other, n.2) refl

-- ---- pins

pin_ok : ItemOk IsNewPin pin_item
unfolding pin_next
pin_ok before l pin r e =
    let k = bind_ok (keyword_next (codes "Pin") l) _ _ e in
    let n = bind_ok (new_name_next (pin_name_list before) k.0.1) _ _ k.2 in
    let x = bind_ok (number_next 0 most_number kinds.Range n.0.1) _ _ n.2 in
    let y = bind_ok (number_next 0 most_number kinds.Range x.0.1) _ _ x.2 in
    let keyword = keyword_ok (codes "Pin") l k.0.0 k.0.1 k.1 in
    let name = new_name_ok (pin_name_list before) k.0.1 n.0.0 n.0.1 n.1 in
    let x_at = number_ok 0 most_number kinds.Range n.0.1 x.0.0 x.0.1 x.1 in
    let y_at = number_ok 0 most_number kinds.Range x.0.1 y.0.0 y.0.1 y.1 in
    let read : ◌≡◌ {A = Pin × Left} (record { name = n.0.0; x = x.0.0; y = y.0.0 }, y.0.1) (pin, r) = cc in
    subst (λ (p : Pin × Left). IsNewPin before p.0 l.words p.1.words × (p.1.bytes ≡ l.bytes)) read (
      (
        record {
          after_keyword = k.0.1.words;
          after_name = n.0.1.words;
          keyword = keyword.0;
          name = name.0;
          offset = (x_at.0.0, x.0.1.words, x_at.0.1, x_at.0.2, (y_at.0.0, y.0.1.words, y_at.0.1, y_at.0.2, refl));
        },
        name.1,
      ),
      y_at.1 ∙ x_at.1 ∙ name.2 ∙ keyword.1,
    )

pin_again : ItemAgain IsNewPin pin_item
unfolding pin_next
pin_again before l pin rest (p, new) =
    let k = keyword_again (codes "Pin") l p.after_keyword p.keyword in
    let n = new_name_again (pin_name_list before) (left_of l p.after_keyword) pin.name p.after_name p.name new in
    let x = p.offset in
    let y = x.4 in
    let x_at = number_again 0 most_number kinds.Range (left_of l p.after_name) pin.x x.1 (x.0, x.2, x.3) (omega arith) in
    let y_at = number_again 0 most_number kinds.Range (left_of l x.1) pin.y rest (y.0, y.2 ∙ ap (λ (ws : List Word). y.0 ∷ ws) y.4, y.3) (omega arith) in
    rw (k, n, x_at, y_at) refl

-- ---- library cells

-- two sizes from 1
abbrev pub TwoSizes : ℕ × ℕ → List Word → List Word → Type 0
TwoSizes sizes = Numbers (ranged 1 most_number sizes.0 ∷ ranged 1 most_number sizes.1 ∷ [])

pub sizes_ok : (l : Left) (sizes : ℕ × ℕ) (r : Left) → sizes_next l ≡ Ok (sizes, r) → TwoSizes sizes l.words r.words × (r.bytes ≡ l.bytes)
unfolding sizes_next
sizes_ok l sizes r e =
    let w = bind_ok (number_next 1 most_number kinds.Range l) _ _ e in
    let h = bind_ok (number_next 1 most_number kinds.Range w.0.1) _ _ w.2 in
    let w_at = number_ok 1 most_number kinds.Range l w.0.0 w.0.1 w.1 in
    let h_at = number_ok 1 most_number kinds.Range w.0.1 h.0.0 h.0.1 h.1 in
    let read : ◌≡◌ {A = (ℕ × ℕ) × Left} ((w.0.0, h.0.0), h.0.1) (sizes, r) = cc in
    subst (λ (p : (ℕ × ℕ) × Left). TwoSizes p.0 l.words p.1.words × (p.1.bytes ≡ l.bytes)) read
    ((w_at.0.0, w.0.1.words, w_at.0.1, w_at.0.2, (h_at.0.0, h.0.1.words, h_at.0.1, h_at.0.2, refl)), h_at.1 ∙ w_at.1)

pub sizes_again : (l : Left) (sizes : ℕ × ℕ) (rest : List Word) → TwoSizes sizes l.words rest → sizes_next l ≡ Ok (sizes, left_of l rest)
unfolding sizes_next
sizes_again l sizes rest t =
    let h = t.4 in
    let w_at = number_again 1 most_number kinds.Range l sizes.0 t.1 (t.0, t.2, t.3) (omega arith) in
    let h_at = number_again 1 most_number kinds.Range (left_of l t.1) sizes.1 rest (h.0, h.2 ∙ ap (λ (ws : List Word). h.0 ∷ ws) h.4, h.3) (omega arith) in
    rw (w_at, h_at) refl

lib_ok : ItemOk IsNewLib lib_item
unfolding lib_next
lib_ok before l lib r e =
    let k = bind_ok (keyword_next (codes "LibCell") l) _ _ e in
    let n = bind_ok (new_name_next (lib_name_list before) k.0.1) _ _ k.2 in
    let s = bind_ok (sizes_next n.0.1) _ _ n.2 in
    let c = bind_ok (number_next 0 1024 kinds.Limit s.0.1) _ _ s.2 in
    let p = bind_ok (many_next pin_item c.0.0 [] c.0.1) _ _ c.2 in
    let keyword = keyword_ok (codes "LibCell") l k.0.0 k.0.1 k.1 in
    let name = new_name_ok (lib_name_list before) k.0.1 n.0.0 n.0.1 n.1 in
    let sizes = sizes_ok n.0.1 s.0.0 s.0.1 s.1 in
    let count = number_ok 0 1024 kinds.Limit s.0.1 c.0.0 c.0.1 c.1 in
    let pins = many_ok pin_item IsNewPin pin_ok c.0.0 [] c.0.1 p.0.0 p.0.1 p.1 in
    let read : ◌≡◌ {A = LibText × Left} (record { name = n.0.0; width = s.0.0.0; height = s.0.0.1; pins = p.0.0 }, p.0.1) (lib, r) = cc in
    let counted : Spells 0 1024 count.0.0.text (length p.0.0) = spells_as 0 1024 _ _ _ (count_is p.0.0 pins.items c.0.0 pins.whole pins.count_is) count.0.2 in
    let h = sizes.0.4 in
    subst (λ (q : LibText × Left). IsNewLib before q.0 l.words q.1.words × (q.1.bytes ≡ l.bytes)) read (
      (
        record {
          after_keyword = k.0.1.words;
          after_name = n.0.1.words;
          after_count = c.0.1.words;
          keyword = keyword.0;
          name = name.0;
          numbers = (sizes.0.0, sizes.0.1, sizes.0.2, sizes.0.3, (h.0, h.1, h.2, h.3, (count.0.0, c.0.1.words, h.4 ∙ count.0.1, counted, refl)));
          items = subst (λ (ps : List Pin). Each IsNewPin [] ps c.0.1.words p.0.1.words) (sym pins.whole) pins.each;
        },
        name.1,
      ),
      pins.bytes ∙ count.1 ∙ sizes.1 ∙ name.2 ∙ keyword.1,
    )

lib_again : ItemAgain IsNewLib lib_item
unfolding lib_next
lib_again before l lib rest (p, new) =
    let k = keyword_again (codes "LibCell") l p.after_keyword p.keyword in
    let n = new_name_again (lib_name_list before) (left_of l p.after_keyword) lib.name p.after_name p.name new in
    let w = p.numbers in
    let h = w.4 in
    let c = h.4 in
    let s = sizes_again (left_of l p.after_name) (lib.width, lib.height) h.1 (w.0, w.1, w.2, w.3, (h.0, h.1, h.2, h.3, refl)) in
    let count = number_again 0 1024 kinds.Limit (left_of l h.1) (length lib.pins) p.after_count (c.0, c.2 ∙ ap (λ (ws : List Word). c.0 ∷ ws) c.4, c.3) (omega arith) in
    let pins = many_again pin_item IsNewPin pin_again lib.pins [] (left_of l p.after_count) rest p.items in
    rw (k, n, s, count, pins) refl

-- ---- technologies

tech_ok : ItemOk IsNewTech tech_item
unfolding tech_next
tech_ok before l tech r e =
    let k = bind_ok (keyword_next (codes "Tech") l) _ _ e in
    let n = bind_ok (new_name_next (tech_name_list before) k.0.1) _ _ k.2 in
    let c = bind_ok (number_next 0 4096 kinds.Limit n.0.1) _ _ n.2 in
    let p = bind_ok (many_next lib_item c.0.0 [] c.0.1) _ _ c.2 in
    let keyword = keyword_ok (codes "Tech") l k.0.0 k.0.1 k.1 in
    let name = new_name_ok (tech_name_list before) k.0.1 n.0.0 n.0.1 n.1 in
    let count = number_ok 0 4096 kinds.Limit n.0.1 c.0.0 c.0.1 c.1 in
    let libs = many_ok lib_item IsNewLib lib_ok c.0.0 [] c.0.1 p.0.0 p.0.1 p.1 in
    let read : ◌≡◌ {A = TechText × Left} (record { name = n.0.0; libs = p.0.0 }, p.0.1) (tech, r) = cc in
    let counted : Spells 0 4096 count.0.0.text (length p.0.0) = spells_as 0 4096 _ _ _ (count_is p.0.0 libs.items c.0.0 libs.whole libs.count_is) count.0.2 in
    subst (λ (q : TechText × Left). IsNewTech before q.0 l.words q.1.words × (q.1.bytes ≡ l.bytes)) read (
      (
        record {
          after_keyword = k.0.1.words;
          after_name = n.0.1.words;
          after_count = c.0.1.words;
          keyword = keyword.0;
          name = name.0;
          count = (count.0.0, c.0.1.words, count.0.1, counted, refl);
          items = subst (λ (ps : List LibText). Each IsNewLib [] ps c.0.1.words p.0.1.words) (sym libs.whole) libs.each;
        },
        name.1,
      ),
      libs.bytes ∙ count.1 ∙ name.2 ∙ keyword.1,
    )

tech_again : ItemAgain IsNewTech tech_item
unfolding tech_next
tech_again before l tech rest (p, new) =
    let k = keyword_again (codes "Tech") l p.after_keyword p.keyword in
    let n = new_name_again (tech_name_list before) (left_of l p.after_keyword) tech.name p.after_name p.name new in
    let c = p.count in
    let count = number_again 0 4096 kinds.Limit (left_of l p.after_name) (length tech.libs) p.after_count (c.0, c.2 ∙ ap (λ (ws : List Word). c.0 ∷ ws) c.4, c.3) (omega arith) in
    let libs = many_again lib_item IsNewLib lib_again tech.libs [] (left_of l p.after_count) rest p.items in
    rw (k, n, count, libs) refl

-- all technologies
pub techs_ok : (l : Left) (techs : List TechText) (r : Left) → techs_next l ≡ Ok (techs, r) → AreTechs techs l.words r.words × (r.bytes ≡ l.bytes)
unfolding techs_next
techs_ok l techs r e =
    let k = bind_ok (keyword_next (codes "NumTechnologies") l) _ _ e in
    let c = bind_ok (number_next 1 16 kinds.Limit k.0.1) _ _ k.2 in
    let keyword = keyword_ok (codes "NumTechnologies") l k.0.0 k.0.1 k.1 in
    let count = number_ok 1 16 kinds.Limit k.0.1 c.0.0 c.0.1 c.1 in
    let items = many_ok tech_item IsNewTech tech_ok c.0.0 [] c.0.1 techs r c.2 in
    let counted : Spells 1 16 count.0.0.text (length techs) = spells_as 1 16 _ _ _ (count_is techs items.items c.0.0 items.whole items.count_is) count.0.2 in (
      record {
        after_keyword = k.0.1.words;
        after_count = c.0.1.words;
        keyword = keyword.0;
        count = (count.0.0, c.0.1.words, count.0.1, counted, refl);
        items = subst (λ (ps : List TechText). Each IsNewTech [] ps c.0.1.words r.words) (sym items.whole) items.each;
      },
      items.bytes ∙ count.1 ∙ keyword.1,
    )

pub techs_again : (l : Left) (techs : List TechText) (rest : List Word) → AreTechs techs l.words rest → techs_next l ≡ Ok (techs, left_of l rest)
unfolding techs_next
techs_again l techs rest p =
    let k = keyword_again (codes "NumTechnologies") l p.after_keyword p.keyword in
    let c = p.count in
    let count = number_again 1 16 kinds.Limit (left_of l p.after_keyword) (length techs) p.after_count (c.0, c.2 ∙ ap (λ (ws : List Word). c.0 ∷ ws) c.4, c.3) (omega arith) in
    let items = many_again tech_item IsNewTech tech_again techs [] (left_of l p.after_count) rest p.items in
    rw (k, count, items) refl
