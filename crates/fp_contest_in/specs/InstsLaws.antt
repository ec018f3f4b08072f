-- Instances: what is read is in the grammar, and what is in the grammar is read.
use Rattle.std.proofs.Common.{◌≡◌, ℕ, ◌^◌, true, List, [], ◌∷◌, length, Ok, refl, sym, ap, subst, ◌∙◌, arith}
use Rattle.std.specs.Prelude.{codes}
use Rattle.fp_text.specs.Words.{Word}
use Rattle.fp_text.specs.Numbers.{Spells}
use Rattle.fp_text.specs.Reading.{Left, keyword_next, name_next, number_next}
use Rattle.fp_text.specs.Items.{Each}
use Rattle.fp_text.specs.ReadingLaws.{left_of, bind_ok, cond_ok, ok_is, many_ok, many_again}
use Rattle.fp_text.specs.declared.fault.Kind.TheVariants as kinds
use Rattle.fp_tech.specs.Plan.{Plan}
use Rattle.fp_contest_in.specs.Text.{InstText, inst_name_list}
use Rattle.fp_contest_in.specs.Grammar.{Named, has_lib, IsNewInst, AreInsts}
use Rattle.fp_contest_in.specs.Statements.{new_name_next, lib_name_next, inst_next, insts_next}
use Rattle.fp_contest_in.specs.Growing.{inst_item}
use Rattle.fp_contest_in.specs.TakenLaws.{keyword_ok, keyword_again, name_ok, name_again, number_ok, number_again, count_is, spells_as}
use Rattle.fp_contest_in.specs.TechsLaws.{ItemOk, ItemAgain, new_name_ok, new_name_again}

-- ---- the name of a library cell that both dies have

lib_name_ok : (plan : Plan) (l : Left) (name : List ℕ) (r : Left) → lib_name_next plan l ≡ Ok (name, r) → Named name l.words r.words × (has_lib plan name ≡ true) × (r.bytes ≡ l.bytes)
unfolding lib_name_next
lib_name_ok plan l name r e =
    let b = bind_ok (name_next l) _ _ e in
    let w = b.0 in
    let t = name_ok l w.0 w.1 b.1 in
    let g = cond_ok (has_lib plan w.0.text) (Ok (w.0.text, w.1)) (record { at = w.0.at; kind = kinds.Unknown }) (name, r) b.2 in
    subst (λ (p : List ℕ × Left). Named p.0 l.words p.1.words × (has_lib plan p.0 ≡ true) × (p.1.bytes ≡ l.bytes)) (ok_is (w.0.text, w.1) (name, r) g.1) (t.0, g.0, t.1)

lib_name_again : (plan : Plan) (l : Left) (name : List ℕ) (rest : List Word) → Named name l.words rest → has_lib plan name ≡ true → lib_name_next plan l ≡ Ok (name, left_of l rest)
unfolding lib_name_next
lib_name_again plan l name rest n known =
    let there : has_lib plan n.0.text ≡ true = rw n.2 known in
    rw (name_again name l rest n, there, n.2) refl

-- ---- instances

inst_ok : (plan : Plan) → ItemOk (IsNewInst plan) (inst_item plan)
unfolding inst_next
inst_ok plan before l inst r e =
    let k = bind_ok (keyword_next (codes "Inst") l) _ _ e in
    let n = bind_ok (new_name_next (inst_name_list before) k.0.1) _ _ k.2 in
    let b = bind_ok (lib_name_next plan n.0.1) _ _ n.2 in
    let keyword = keyword_ok (codes "Inst") l k.0.0 k.0.1 k.1 in
    let name = new_name_ok (inst_name_list before) k.0.1 n.0.0 n.0.1 n.1 in
    let lib = lib_name_ok plan n.0.1 b.0.0 b.0.1 b.1 in
    let read : ◌≡◌ {A = InstText × Left} (record { name = n.0.0; lib = b.0.0 }, b.0.1) (inst, r) = cc in
    subst (λ (p : InstText × Left). IsNewInst plan before p.0 l.words p.1.words × (p.1.bytes ≡ l.bytes)) read (
      (
        record {
          after_keyword = k.0.1.words;
          after_name = n.0.1.words;
          keyword = keyword.0;
          name = name.0;
          lib = lib.0;
          known = lib.1;
        },
        name.1,
      ),
      lib.2 ∙ name.2 ∙ keyword.1,
    )

inst_again : (plan : Plan) → ItemAgain (IsNewInst plan) (inst_item plan)
unfolding inst_next
inst_again plan before l inst rest (p, new) =
    let k = keyword_again (codes "Inst") l p.after_keyword p.keyword in
    let n = new_name_again (inst_name_list before) (left_of l p.after_keyword) inst.name p.after_name p.name new in
    let b = lib_name_again plan (left_of l p.after_name) inst.lib rest p.lib p.known in
    rw (k, n, b) refl

pub insts_ok : (plan : Plan) (l : Left) (insts : List InstText) (r : Left) → insts_next plan l ≡ Ok (insts, r) → AreInsts plan insts l.words r.words × (r.bytes ≡ l.bytes)
unfolding insts_next
insts_ok plan l insts r e =
    let k = bind_ok (keyword_next (codes "NumInstances") l) _ _ e in
    let c = bind_ok (number_next 0 (2 ^ 18) kinds.Limit k.0.1) _ _ k.2 in
    let keyword = keyword_ok (codes "NumInstances") l k.0.0 k.0.1 k.1 in
    let count = number_ok 0 (2 ^ 18) kinds.Limit k.0.1 c.0.0 c.0.1 c.1 in
    let items = many_ok (inst_item plan) (IsNewInst plan) (inst_ok plan) c.0.0 [] c.0.1 insts r c.2 in
    let counted : Spells 0 (2 ^ 18) count.0.0.text (length insts) = spells_as 0 (2 ^ 18) _ _ _ (count_is insts items.items c.0.0 items.whole items.count_is) count.0.2 in (
      record {
        after_keyword = k.0.1.words;
        after_count = c.0.1.words;
        keyword = keyword.0;
        count = (count.0.0, c.0.1.words, count.0.1, counted, refl);
        items = subst (λ (is : List InstText). Each (IsNewInst plan) [] is c.0.1.words r.words) (sym items.whole) items.each;
      },
      items.bytes ∙ count.1 ∙ keyword.1,
    )

pub insts_again : (plan : Plan) (l : Left) (insts : List InstText) (rest : List Word) → AreInsts plan insts l.words rest → insts_next plan l ≡ Ok (insts, left_of l rest)
unfolding insts_next
insts_again plan l insts rest p =
    let k = keyword_again (codes "NumInstances") l p.after_keyword p.keyword in
    let c = p.count in
    let count = number_again 0 (2 ^ 18) kinds.Limit (left_of l p.after_keyword) (length insts) p.after_count (c.0, c.2 ∙ ap (λ (ws : List Word). c.0 ∷ ws) c.4, c.3) (omega arith) in
    let items = many_again (inst_item plan) (IsNewInst plan) (inst_again plan) insts [] (left_of l p.after_count) rest p.items in
    rw (k, count, items) refl
