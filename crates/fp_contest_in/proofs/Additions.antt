-- What one statement adds to a problem.
use Rattle.std.proofs.Common.{◌≡◌, ℕ, ◌-◌, ◌^◌, ◌<◌, Bool, true, false, List, [], length, Option, Some, None, Result, Ok, Err, if◌then◌else◌, refl, sym, ap, subst, ◌∙◌, arith}
use Rattle.std.specs.Prelude.{is_some, is_none, ◌||◌, ◌&&◌, codes, option_map, nat_le}
use Rattle.std.proofs.lemmas.List.{length-map}
use Rattle.fp_base.specs.declared.ids.CellId.{CellId}
use Rattle.fp_base.specs.declared.ids.Die.TheVariants.{Top, Bottom}
use Rattle.fp_text.specs.Words.{Word}
use Rattle.fp_text.specs.Reading.{Left, Read, GivesFault, fault, keyword_next, word_next, name_next, number_next, many_next}
use Rattle.fp_text.specs.declared.fault.Kind.TheVariants as kinds
use Rattle.fp_text.specs.declared.fault.TextFault.{TextFault}
use Rattle.fp_text.specs.declared.fault.TextFault.TheVariants.{Wrong, Memory}
use Rattle.fp_tech.specs.Book.{place_of, is_among, refusal}
use Rattle.fp_tech.specs.BookLaws.{place_within}
use Rattle.fp_netlist.specs.Netlist.{Netlist, cell_names, pin_place, with_inst, with_net, with_conn, connect_refusal}
use Rattle.fp_contest_in.specs.Text.{InstText, ConnText, with_inst_text, with_conn_text, with_conn_texts, with_net_text}
use Rattle.fp_contest_in.specs.Grammar.{has_pin, most_conns}
use Rattle.fp_contest_in.specs.Statements.{new_name_next, lib_name_next, inst_next, path_of, net_pin_next, net_next}
use Rattle.fp_contest_in.specs.Given.{IsLibOf, GivesNew, GivesCount}
use Rattle.fp_contest_in.specs.Growing.{Grows, conn_item}
use Rattle.fp_contest_in.proofs.ProblemLoops.{pin_as}

pub inst_added : (p q : Netlist) (l mid after r : Left) (at : ℕ) (name : List ℕ) (lib : ℕ) → keyword_next (codes "Inst") l ≡ Ok (at, mid) → new_name_next (cell_names p) mid ≡ Ok (name, after)
    → (lib_name : List ℕ) × (lib_name_next p.plan after ≡ Ok (lib_name, r)) × IsLibOf p.plan lib_name lib → q ≡ with_inst p name lib
    → (inst : InstText) × (inst_next p.plan (cell_names p) l ≡ Ok (inst, r)) × (q ≡ with_inst_text p inst)
unfolding inst_next
inst_added p q l mid after r at name lib keyword named known is =
    (record { name = name; lib = known.0 }, rw (keyword, named, known.1) refl, is ∙ ap (with_inst p name) (sym known.2.number))

pub some_of : {A : Type 0} (f : ℕ → A) (o : Option ℕ) → is_some (option_map f o) ≡ is_some o
some_of f None = refl
some_of f (Some k) = refl

-- a name that was read, and is new or not
pub new_name : (before : List (List ℕ)) (l after : Left) (name : Word) → name_next l ≡ Ok (name, after) → is_among name.text before ≡ false → new_name_next before l ≡ Ok (name.text, after)
unfolding new_name_next
new_name before l after name read new = rw (read, new) refl

pub old_name : (before : List (List ℕ)) (l after : Left) (name : Word) → name_next l ≡ Ok (name, after) → is_among name.text before ≡ true → new_name_next before l ≡ fault name.at kinds.Twice
unfolding new_name_next
old_name before l after name read there = rw (read, there) refl

-- the instance whose library cell was read
pub inst_done : {U : Type 0} (result : Result U TextFault) (p q : Netlist) (l mid named r : Left) (at lib : ℕ) (name : Word) → keyword_next (codes "Inst") l ≡ Ok (at, mid) → name_next mid ≡ Ok (name, named)
    → (lib_name : List ℕ) × (lib_name_next p.plan named ≡ Ok (lib_name, r)) × IsLibOf p.plan lib_name lib → GivesNew result name.at (is_among name.text (cell_names p)) q (with_inst p name.text lib)
    → Grows with_inst_text result p q r (inst_next p.plan (cell_names p) l)
unfolding inst_next
inst_done (Err Memory) p q l mid named r at lib name keyword read known new = tt
inst_done (Err (Wrong where_at kind)) p q l mid named r at lib name keyword read known new =
    rw (keyword, old_name (cell_names p) mid named name read new.0, new.1, new.2) refl
inst_done (Ok u) p q l mid named r at lib name keyword read known new =
    inst_added p q l mid named r at name.text lib keyword (new_name (cell_names p) mid named name read new.0) known new.1

-- the instance whose library cell was not read
pub inst_behind : (behind : TextFault) (p : Netlist) (l mid named : Left) (at : ℕ) (name : Word) → keyword_next (codes "Inst") l ≡ Ok (at, mid) → name_next mid ≡ Ok (name, named)
    → GivesFault behind (lib_name_next p.plan named) → GivesFault (if is_among name.text (cell_names p) then Wrong name.at kinds.Twice else behind) (inst_next p.plan (cell_names p) l)
unfolding inst_next
inst_behind behind p l mid named at name keyword read gives = by (is_among name.text (cell_names p)) refl behind gives
  where
    by : (there : Bool) → is_among name.text (cell_names p) ≡ there → (behind : TextFault) → GivesFault behind (lib_name_next p.plan named)
        → GivesFault (if there then Wrong name.at kinds.Twice else behind) (inst_next p.plan (cell_names p) l)
    by true e behind gives = rw (keyword, old_name (cell_names p) mid named name read e) refl
    by false e Memory gives = tt
    by false e (Wrong where_at kind) gives = rw (keyword, new_name (cell_names p) mid named name read e, gives) refl

-- ---- connections

-- the cell that was found is there
pub cell_place : (o : Option ℕ) (cell : CellId) → option_map (λ k. record { 0 = k }) o ≡ Some cell → o ≡ Some cell.0
cell_place None cell e = absurd cc
cell_place (Some k) cell e = ap (λ (o : Option CellId). option_map (λ c. c.0) o) e

pub cell_below : (p : Netlist) (name : List ℕ) (cell : CellId) → option_map (λ k. record { 0 = k }) (place_of name (cell_names p)) ≡ Some cell → cell.0 < length p.cells
cell_below p name cell found =
    omega (arith, place_within name (cell_names p) cell.0 (cell_place (place_of name (cell_names p)) cell found), length-map p.cells (λ c. c.name))

nothing_refused : (full a b : Bool) → refusal full false (a || b) ≡ None → (a ≡ false) × (b ≡ false)
nothing_refused true a b e = absurd cc
nothing_refused false true b e = absurd cc
nothing_refused false false true e = absurd cc
nothing_refused false false false e = (refl, refl)

some_both : (a b : Option ℕ) → is_none a ≡ false → is_none b ≡ false → (is_some a && is_some b) ≡ true
some_both None b p q = absurd cc
some_both (Some k) None p q = absurd cc
some_both (Some k) (Some j) p q = refl

pub conn_added : (p q : Netlist) (l mid r : Left) (at net cell : ℕ) (word : Word) (inst pin : List ℕ) → keyword_next (codes "Pin") l ≡ Ok (at, mid) → word_next mid ≡ Ok (word, r)
    → path_of word.text ≡ Some (inst, pin) → place_of inst (cell_names p) ≡ Some cell → connect_refusal p cell pin ≡ None → q ≡ with_conn p net cell pin
    → (conn : ConnText) × (net_pin_next p l ≡ Ok (conn, r)) × (q ≡ with_conn_text net p conn)
unfolding net_pin_next
conn_added p q l mid r at net cell word inst pin keyword read path place allowed is =
    let none = nothing_refused (nat_le (2 ^ 21) (length p.conns)) (is_none (pin_place p cell pin Top)) (is_none (pin_place p cell pin Bottom)) allowed in
    let known : has_pin p cell pin ≡ true = some_both (pin_place p cell pin Top) (pin_place p cell pin Bottom) none.0 none.1 in
    (record { inst = cell; pin = pin }, rw (keyword, read, path, place, known) refl, is)

-- ---- nets

pins_as : (p with : Netlist) (name : List ℕ) (count : ℕ) (l : Left) → with ≡ with_net p name → many_next (conn_item p) count [] l ≡ many_next (conn_item with) count [] l
pins_as p with name count l is =
    ap (λ (item : Left → Read ConnText). many_next (λ pins. item) count [] l) (λ i l. sym (ap (λ (s : Netlist). net_pin_next s l) is ∙ pin_as p (with_net p name).nets p.conns l) i)

pub net_added : {U : Type 0} (result : Result U TextFault) (p with q : Netlist) (l mid named counted r : Left) (at conns count net : ℕ) (name : List ℕ) → keyword_next (codes "Net") l ≡ Ok (at, mid)
    → new_name_next p.nets mid ≡ Ok (name, named) → conns ≡ length p.conns → number_next 0 (most_conns - conns) kinds.Limit named ≡ Ok (count, counted) → with ≡ with_net p name → net ≡ length p.nets
    → Grows (with_conn_texts net) result with q r (many_next (conn_item with) count [] counted) → Grows with_net_text result p q r (net_next p p.nets (length p.conns) l)
unfolding net_next
net_added (Err Memory) p with q l mid named counted r at conns count net name keyword new many number is net_is grows = tt
net_added (Err (Wrong place kind)) p with q l mid named counted r at conns count net name keyword new many number is net_is grows =
    let same : many_next (conn_item p) count [] counted ≡ fault place kind = pins_as p with name count counted is ∙ grows in
    rw (keyword, new, ← many, number, same) refl
net_added (Ok done) p with q l mid named counted r at conns count net name keyword new many number is net_is grows =
    let same : many_next (conn_item p) count [] counted ≡ Ok (grows.0, r) = pins_as p with name count counted is ∙ grows.1 in (
      record { name = name; pins = grows.0 },
      rw (keyword, new, ← many, number, same) refl,
      grows.2 ∙ ap (λ (s : Netlist). with_conn_texts net s grows.0) is ∙ ap (λ (n : ℕ). with_conn_texts n (with_net p name) grows.0) net_is,
    )

-- the net whose name is there
pub net_twice : (p : Netlist) (l mid named : Left) (at : ℕ) (name : Word) → keyword_next (codes "Net") l ≡ Ok (at, mid) → name_next mid ≡ Ok (name, named) → is_among name.text p.nets ≡ true
    → net_next p p.nets (length p.conns) l ≡ fault name.at kinds.Twice
unfolding net_next
net_twice p l mid named at name keyword read there = rw (keyword, old_name p.nets mid named name read there) refl

-- the net whose number of connections was not read
pub net_behind : (e : TextFault) (p : Netlist) (l mid named left : Left) (at : ℕ) (name : Word) → keyword_next (codes "Net") l ≡ Ok (at, mid) → name_next mid ≡ Ok (name, named)
    → GivesCount (length p.conns) name.at (is_among name.text p.nets) (Err e) left (number_next 0 (most_conns - length p.conns) kinds.Limit named)
    → GivesFault e (net_next p p.nets (length p.conns) l)
unfolding net_next
net_behind e p l mid named left at name keyword read gives = by (is_among name.text p.nets) refl e gives
  where
    by : (there : Bool) → is_among name.text p.nets ≡ there → (e : TextFault)
        → GivesCount (length p.conns) name.at there (Err e) left (number_next 0 (most_conns - length p.conns) kinds.Limit named) → GivesFault e (net_next p p.nets (length p.conns) l)
    by true there e gives = subst (λ f. GivesFault f (net_next p p.nets (length p.conns) l)) (sym (gives.1 refl)) (net_twice p l mid named at name keyword read there)
    by false there Memory gives = tt
    by false there (Wrong where_at kind) gives = rw (keyword, new_name p.nets mid named name read there, gives.0 refl) refl
