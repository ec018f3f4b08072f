-- Nets: what is read is in the grammar, and what is in the grammar is read.
use Rattle.std.proofs.Common.{◌≡◌, ℕ, ◌-◌, ◌^◌, true, List, [], ◌∷◌, length, Option, Some, None, Ok, refl, sym, ap, subst, ◌∙◌, arith}
use Rattle.std.specs.Prelude.{codes}
use Rattle.fp_text.specs.Words.{Word}
use Rattle.fp_text.specs.Numbers.{Spells}
use Rattle.fp_text.specs.Reading.{Left, word_next, keyword_next, number_next, many_next}
use Rattle.fp_text.specs.Items.{Each}
use Rattle.fp_text.specs.ReadingLaws.{left_of, bind_ok, cond_ok, ok_is, word_ok, word_again, many_ok, many_again}
use Rattle.fp_text.specs.declared.fault.Kind.TheVariants as kinds
use Rattle.fp_tech.specs.Book.{place_of}
use Rattle.fp_netlist.specs.Netlist.{Cell, Netlist, cell_names}
use Rattle.fp_contest_in.specs.Text.{ConnText, NetText, net_name_list, conn_count}
use Rattle.fp_contest_in.specs.Grammar.{has_pin, IsPath, IsNetPin, IsNewNet, AreNets, most_conns}
use Rattle.fp_contest_in.specs.Statements.{new_name_next, path_of, path_at, known_pin, net_pin_next, net_next, nets_next}
use Rattle.fp_contest_in.specs.Growing.{conn_item, net_item}
use Rattle.fp_contest_in.specs.TakenLaws.{keyword_ok, keyword_again, number_ok, number_again, count_is, spells_as}
use Rattle.fp_contest_in.specs.NamesLaws.{AreNew, place_is, place_again}
use Rattle.fp_contest_in.specs.PathsLaws.{path_ok, path_again}
use Rattle.fp_contest_in.specs.TechsLaws.{ItemOk, ItemAgain, new_name_ok, new_name_again}

-- ---- pins

path_at_ok : (o : Option (List ℕ × List ℕ)) (at : ℕ) (path : List ℕ × List ℕ) → path_at o at ≡ Ok path → o ≡ Some path
path_at_ok None at path e = absurd cc
path_at_ok (Some p) at path e = ap Some (ok_is p path e)

known_ok : (p : Netlist) (o : Option ℕ) (pin : List ℕ) (at : ℕ) (conn : ConnText) → known_pin p o pin at ≡ Ok conn
    → (o ≡ Some conn.inst) × (pin ≡ conn.pin) × (has_pin p conn.inst conn.pin ≡ true)
known_ok p None pin at conn e = absurd cc
known_ok p (Some cell) pin at conn e =
    let g = cond_ok (has_pin p cell pin) (Ok (record { inst = cell; pin = pin })) (record { at = at; kind = kinds.Unknown }) conn e in
    subst (λ (c : ConnText). (Some cell ≡ Some c.inst) × (pin ≡ c.pin) × (has_pin p c.inst c.pin ≡ true))
    (ok_is {A = ConnText} (record { inst = cell; pin = pin }) conn g.1) (refl, refl, g.0)

abbrev name_of_cell : Cell → List ℕ
name_of_cell cell = cell.name

conn_ok : (p : Netlist) → ItemOk (λ before. IsNetPin p) (conn_item p)
unfolding net_pin_next
conn_ok p before l conn r e =
    let k = bind_ok (keyword_next (codes "Pin") l) _ _ e in
    let w = bind_ok (word_next k.0.1) _ _ k.2 in
    let t = bind_ok (path_at (path_of w.0.0.text) w.0.0.at) _ _ w.2 in
    let c = bind_ok (known_pin p (place_of t.0.0 (cell_names p)) t.0.1 w.0.0.at) _ _ t.2 in
    let keyword = keyword_ok (codes "Pin") l k.0.0 k.0.1 k.1 in
    let word = word_ok k.0.1 w.0.0 w.0.1 w.1 in
    let path = path_ok w.0.0.text t.0.0 t.0.1 (path_at_ok (path_of w.0.0.text) w.0.0.at t.0 t.1) in
    let known = known_ok p (place_of t.0.0 (cell_names p)) t.0.1 w.0.0.at c.0 c.1 in
    let place = place_is name_of_cell t.0.0 p.cells c.0.inst known.0 in
    let same = ok_is {A = ConnText × Left} (c.0, w.0.1) (conn, r) c.2 in
    let named = subst (λ (name : List ℕ). IsPath name t.0.1 w.0.0.text) (sym place.2) path in
    subst (λ (q : ConnText × Left). IsNetPin p q.0 l.words q.1.words × (q.1.bytes ≡ l.bytes)) same (
      record {
        after_keyword = k.0.1.words;
        word = w.0.0;
        cell = place.0;
        keyword = keyword.0;
        first = word.words;
        path = subst (λ (pin : List ℕ). IsPath place.0.name pin w.0.0.text) known.1 named;
        there = place.1;
        known = known.2;
      },
      word.bytes ∙ keyword.1,
    )

conn_again : (p : Netlist) → AreNew [] (cell_names p) → ItemAgain (λ before. IsNetPin p) (conn_item p)
unfolding net_pin_next
conn_again p apart before l conn rest n =
    let k = keyword_again (codes "Pin") l n.after_keyword n.keyword in
    let w = word_again (left_of l n.after_keyword) n.word rest n.first in
    let path = path_again n.word.text n.cell.name conn.pin n.path in
    let place : place_of n.cell.name (cell_names p) ≡ Some conn.inst = place_again name_of_cell [] p.cells conn.inst n.cell apart n.there ∙ ap Some (omega arith) in
    rw (k, w, path, place, n.known) refl

-- ---- nets

net_ok : (p : Netlist) → ItemOk (IsNewNet p) (net_item p)
unfolding net_next
net_ok p before l net r e =
    let room = most_conns - conn_count before in
    let k = bind_ok (keyword_next (codes "Net") l) _ _ e in
    let n = bind_ok (new_name_next (net_name_list before) k.0.1) _ _ k.2 in
    let c = bind_ok (number_next 0 room kinds.Limit n.0.1) _ _ n.2 in
    let q = bind_ok (many_next (conn_item p) c.0.0 [] c.0.1) _ _ c.2 in
    let keyword = keyword_ok (codes "Net") l k.0.0 k.0.1 k.1 in
    let name = new_name_ok (net_name_list before) k.0.1 n.0.0 n.0.1 n.1 in
    let count = number_ok 0 room kinds.Limit n.0.1 c.0.0 c.0.1 c.1 in
    let pins = many_ok (conn_item p) (λ before. IsNetPin p) (conn_ok p) c.0.0 [] c.0.1 q.0.0 q.0.1 q.1 in
    let read : ◌≡◌ {A = NetText × Left} (record { name = n.0.0; pins = q.0.0 }, q.0.1) (net, r) = cc in
    let counted : Spells 0 room count.0.0.text (length q.0.0) = spells_as 0 room _ _ _ (count_is q.0.0 pins.items c.0.0 pins.whole pins.count_is) count.0.2 in
    subst (λ (x : NetText × Left). IsNewNet p before x.0 l.words x.1.words × (x.1.bytes ≡ l.bytes)) read (
      (
        record {
          after_keyword = k.0.1.words;
          after_name = n.0.1.words;
          after_count = c.0.1.words;
          keyword = keyword.0;
          name = name.0;
          count = (count.0.0, c.0.1.words, count.0.1, counted, refl);
          items = subst (λ (cs : List ConnText). Each (λ before. IsNetPin p) [] cs c.0.1.words q.0.1.words) (sym pins.whole) pins.each;
        },
        name.1,
      ),
      pins.bytes ∙ count.1 ∙ name.2 ∙ keyword.1,
    )

net_again : (p : Netlist) → AreNew [] (cell_names p) → ItemAgain (IsNewNet p) (net_item p)
unfolding net_next
net_again p apart before l net rest (n, new) =
    let room = most_conns - conn_count before in
    let k = keyword_again (codes "Net") l n.after_keyword n.keyword in
    let name = new_name_again (net_name_list before) (left_of l n.after_keyword) net.name n.after_name n.name new in
    let c = n.count in
    let count = number_again 0 room kinds.Limit (left_of l n.after_name) (length net.pins) n.after_count (c.0, c.2 ∙ ap (λ (ws : List Word). c.0 ∷ ws) c.4, c.3) (omega arith) in
    let pins = many_again (conn_item p) (λ before. IsNetPin p) (conn_again p apart) net.pins [] (left_of l n.after_count) rest n.items in
    rw (k, name, count, pins) refl

pub nets_ok : (p : Netlist) (l : Left) (nets : List NetText) (r : Left) → nets_next p l ≡ Ok (nets, r) → AreNets p nets l.words r.words × (r.bytes ≡ l.bytes)
unfolding nets_next
nets_ok p l nets r e =
    let k = bind_ok (keyword_next (codes "NumNets") l) _ _ e in
    let c = bind_ok (number_next 0 (2 ^ 18) kinds.Limit k.0.1) _ _ k.2 in
    let keyword = keyword_ok (codes "NumNets") l k.0.0 k.0.1 k.1 in
    let count = number_ok 0 (2 ^ 18) kinds.Limit k.0.1 c.0.0 c.0.1 c.1 in
    let items = many_ok (net_item p) (IsNewNet p) (net_ok p) c.0.0 [] c.0.1 nets r c.2 in
    let counted : Spells 0 (2 ^ 18) count.0.0.text (length nets) = spells_as 0 (2 ^ 18) _ _ _ (count_is nets items.items c.0.0 items.whole items.count_is) count.0.2 in (
      record {
        after_keyword = k.0.1.words;
        after_count = c.0.1.words;
        keyword = keyword.0;
        count = (count.0.0, c.0.1.words, count.0.1, counted, refl);
        items = subst (λ (ns : List NetText). Each (IsNewNet p) [] ns c.0.1.words r.words) (sym items.whole) items.each;
      },
      items.bytes ∙ count.1 ∙ keyword.1,
    )

pub nets_again : (p : Netlist) → AreNew [] (cell_names p) → (l : Left) (nets : List NetText) (rest : List Word) → AreNets p nets l.words rest → nets_next p l ≡ Ok (nets, left_of l rest)
unfolding nets_next
nets_again p apart l nets rest n =
    let k = keyword_again (codes "NumNets") l n.after_keyword n.keyword in
    let c = n.count in
    let count = number_again 0 (2 ^ 18) kinds.Limit (left_of l n.after_keyword) (length nets) n.after_count (c.0, c.2 ∙ ap (λ (ws : List Word). c.0 ∷ ws) c.4, c.3) (omega arith) in
    let items = many_again (net_item p) (IsNewNet p) (net_again p apart) nets [] (left_of l n.after_count) rest n.items in
    rw (k, count, items) refl
