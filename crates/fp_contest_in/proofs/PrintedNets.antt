-- The lines of the instances and the nets, one element more at a time.
use Rattle.std.specs.Prelude.{codes}
use Rattle.std.proofs.Common.{◌≡◌, ℕ, zero, suc, ◌+◌, ◌^◌, ◌<◌, ◌≤◌, ◌==◌, Bool, true, false, cond, if◌then◌else◌, List, [], ◌∷◌, ◌++◌, length, map, filter, find, get_or, slice_get, unwrap_or, nat_eq, Option, Some, None, option_map, refl, sym, ap, subst, ◌∙◌, arith}
use Rattle.std.proofs.lemmas.List.{length-map}
use Rattle.std.proofs.lemmas.Bool.Decides.{nat_tests}
use Rattle.std.proofs.lemmas.Option.{same_Some, slice_get-map}
use Rattle.fp_base.specs.declared.ids.ConnId.{ConnId}
use Rattle.fp_base.specs.declared.ids.Die.TheVariants.{Top}
use Rattle.fp_tech.specs.Book.{Pin, Lib, name_at, names_of, libs_of, lib_in, pins_in}
use Rattle.fp_tech.specs.Plan.{spec_of}
use Rattle.fp_netlist.specs.declared.problem.Conn.{Conn}
use Rattle.fp_netlist.specs.Netlist.{Cell, Netlist, IsSound, ids_where, cell_names, conns_of_net, lib_of}
use Rattle.fp_netlist.specs.Points.{no_lib, no_pin, lib_on, pin_on}
use Rattle.fp_netlist.specs.NetlistLaws.{lib_there, lib_within}
use Rattle.fp_contest_in.specs.Grammar.{slash}
use Rattle.fp_contest_in.specs.PrintedText.{line, numbers, inst_line, inst_said, conn_line, conn_lines, conn_said, net_conns, net_lines, net_said, nets_said}
use Rattle.fp_contest_in.proofs.Pieces.{mapped_at, element_in, name_is}

-- ---- instances

same_number : (a b : ℕ) → nat_eq a b ≡ true → a ≡ b
same_number a b e = grind (arith, nat_tests)

found_is : (id : ℕ) (libs : List Lib) (lib : Lib) → find (λ l. l.id == id) libs ≡ Some lib → lib.id ≡ id
found_is id [] lib e = absurd (let no : None ≡ Some lib = e in cc)
found_is id (x ∷ xs) lib e = by (nat_eq x.id id) refl (λ at. found_is id xs lib at) e
  where
    by : (b : Bool) → nat_eq x.id id ≡ b → (find (λ l. l.id == id) xs ≡ Some lib → lib.id ≡ id) → cond b (Some x) (find (λ l. l.id == id) xs) ≡ Some lib → lib.id ≡ id
    by true same rest at = ap (λ (l : Lib). l.id) (sym (same_Some x lib at)) ∙ same_number x.id id same
    by false other rest at = rest at

-- the number of a cell's library cell is that of a name
pub lib_of_named : (p : Netlist) (cell : ℕ) → IsSound p → cell < length p.cells → lib_of p cell < length p.plan.book.names
unfolding lib_in
lib_of_named p cell is below =
    let same = found_is (lib_of p cell) (libs_of p.plan.book (spec_of p.plan Top).tech.0) (lib_on p cell Top) (lib_there p cell Top is below) in
    subst (λ k. k < length p.plan.book.names) same (lib_within p cell Top is below).named

pub inst_written : (p : Netlist) (number : ℕ) (cell : Cell) (name lib : List ℕ) → slice_get p.cells number ≡ Some cell → slice_get (cell_names p) number ≡ Some name → slice_get p.plan.book.names (lib_of p number) ≡ Some lib
    → line (codes "Inst") (name ∷ lib ∷ []) ≡ inst_line (inst_said p.plan.book.names cell)
inst_written p number cell name lib at named lib_named =
    let called : name ≡ cell.name = same_Some name cell.name (sym named ∙ mapped_at (λ (c : Cell). c.name) p.cells number cell at) in
    let numbered : lib_of p number ≡ cell.lib = ap (λ o. unwrap_or (option_map (λ (c : Cell). c.lib) o) 0) at in
    let lib_is : lib ≡ name_at p.plan.book.names cell.lib = sym (ap (name_at p.plan.book.names) (sym numbered) ∙ name_is p.plan.book.names (lib_of p number) lib lib_named) in
    λ i. line (codes "Inst") (called i ∷ lib_is i ∷ [])

-- ---- connections

pin_name_is : (lib : Option Lib) (pin : ℕ) (name : List ℕ) → slice_get (names_of (unwrap_or (option_map (λ l. l.pins) lib) [])) pin ≡ Some name
    → (unwrap_or (slice_get (unwrap_or lib no_lib).pins pin) no_pin).name ≡ name
pin_name_is None pin name named = absurd (let no : None ≡ Some name = named in cc)
pin_name_is (Some lib) pin name named = by (slice_get lib.pins pin) (sym (slice_get-map (λ (p : Pin). p.name) lib.pins pin) ∙ named)
  where
    by : (o : Option Pin) → option_map (λ p. p.name) o ≡ Some name → (unwrap_or o no_pin).name ≡ name
    by None e = absurd (let no : None ≡ Some name = e in cc)
    by (Some pin) e = same_Some pin.name name e

pub conn_written : (p : Netlist) (conn : Conn) (inst pin : List ℕ) → slice_get (cell_names p) conn.cell.0 ≡ Some inst
    → slice_get (names_of (pins_in p.plan.book p.plan.top.tech.0 (lib_of p conn.cell.0))) conn.top_pin ≡ Some pin
    → line (codes "Pin") ((inst ++ slash ∷ pin) ∷ []) ≡ conn_line (cell_names p) (conn_said p conn)
unfolding pin_on lib_on
conn_written p conn inst pin named pin_named =
    let inst_is : inst ≡ name_at (cell_names p) conn.cell.0 = sym (name_is (cell_names p) conn.cell.0 inst named) in
    let pin_is : pin ≡ (pin_on p conn Top).name = sym (pin_name_is (lib_in p.plan.book p.plan.top.tech.0 (lib_of p conn.cell.0)) conn.top_pin pin pin_named) in
    λ i. line (codes "Pin") ((inst_is i ++ slash ∷ pin_is i) ∷ [])

-- the numbers of the elements that pass a test, and these elements
pub record IsPicked {A : Type 0} (test : A → Bool) (i : ℕ) (xs : List A) (n k : ℕ) : Type 0 where
  pub picked : A
  pub place : ℕ
  pub counted : k ≡ i + place
  pub at : slice_get xs place ≡ Some picked
  pub among : slice_get (filter test xs) n ≡ Some picked

pub pick : {A : Type 0} (test : A → Bool) (i : ℕ) (xs : List A) (n k : ℕ) → slice_get (ids_where test i xs) n ≡ Some k → IsPicked test i xs n k
unfolding ids_where
pick test i [] n k e = absurd (let no : None ≡ Some k = e in cc)
pick {A} test i (x ∷ xs) n k e = by (test x) refl n (λ m at. pick test (i + 1) xs m k at) e
  where
    by : (b : Bool) → test x ≡ b → (n : ℕ) → ((m : ℕ) → slice_get (ids_where test (i + 1) xs) m ≡ Some k → IsPicked test (i + 1) xs m k)
        → slice_get (if b then i ∷ ids_where test (i + 1) xs else ids_where test (i + 1) xs) n ≡ Some k → IsPicked test i (x ∷ xs) n k
    by true passes zero rest at = record {
      picked = x;
      place = zero;
      counted = let same : i ≡ k = same_Some i k at in omega (arith, same);
      at = refl;
      among = ap (λ b. slice_get (cond b (x ∷ filter test xs) (filter test xs)) zero) passes;
    }
    by true passes (suc m) rest at =
        let more = rest m at in
        record {
          picked = more.picked;
          place = suc more.place;
          counted = omega (arith, more.counted);
          at = more.at;
          among = ap (λ b. slice_get (cond b (x ∷ filter test xs) (filter test xs)) (suc m)) passes ∙ more.among;
        }
    by false fails n rest at =
        let more = rest n at in
        record {
          picked = more.picked;
          place = suc more.place;
          counted = omega (arith, more.counted);
          at = more.at;
          among = ap (λ b. slice_get (cond b (x ∷ filter test xs) (filter test xs)) n) fails ∙ more.among;
        }

pub length-picked : {A : Type 0} (test : A → Bool) (i : ℕ) (xs : List A) → length (ids_where test i xs) ≡ length (filter test xs)
unfolding ids_where
length-picked test i [] = refl
length-picked {A} test i (x ∷ xs) = by (test x) (length-picked test (i + 1) xs)
  where
    by : (b : Bool) → length (ids_where test (i + 1) xs) ≡ length (filter test xs)
        → length (if b then i ∷ ids_where test (i + 1) xs else ids_where test (i + 1) xs) ≡ length (cond b (x ∷ filter test xs) (filter test xs))
    by true rest = ap suc rest
    by false rest = rest

abbrev conn_id : ℕ → ConnId
conn_id id = record { 0 = id }

-- the connection at a place of a net's numbers
pub record IsConnAt (p : Netlist) (net i id : ℕ) : Type 0 where
  pub conn : Conn
  pub at : slice_get p.conns id ≡ Some conn
  pub among : slice_get (net_conns p net) i ≡ Some conn

pub conn_at_place : (p : Netlist) (net i : ℕ) (ids : List ConnId) (d : ConnId) → ids ≡ map conn_id (conns_of_net p net) → i < length ids → IsConnAt p net i (get_or ids i d).0
unfolding conns_of_net
conn_at_place p net i ids d all within =
    let id = element_in conn_id (conns_of_net p net) d i (subst (λ (l : List ConnId). i < length l) all within) in
    let one = pick (λ (conn : Conn). conn.net.0 == net) 0 p.conns i id.0 id.1 in
    let this : one.place ≡ (get_or ids i d).0 =
    (let same : one.place ≡ id.0 = omega (arith, one.counted) in same) ∙ sym (ap (λ (l : List ConnId). (get_or l i d).0) all ∙ ap (λ (x : ConnId). x.0) id.2) in
    record { conn = one.picked; at = ap (slice_get p.conns) (sym this) ∙ one.at; among = one.among }

pub net_count : (p : Netlist) (net : ℕ) (ids : List ConnId) → ids ≡ map conn_id (conns_of_net p net) → length ids ≡ length (map (conn_said p) (net_conns p net))
unfolding conns_of_net
net_count p net ids all =
    ap length all ∙ length-map (conns_of_net p net) conn_id ∙ length-picked (λ (conn : Conn). conn.net.0 == net) 0 p.conns ∙ sym (length-map (net_conns p net) (conn_said p))

-- ---- nets

pub length-nets_said : (p : Netlist) (net : ℕ) (names : List (List ℕ)) → length (nets_said p net names) ≡ length names
unfolding nets_said
length-nets_said p net [] = refl
length-nets_said p net (name ∷ names) = ap suc (length-nets_said p (net + 1) names)

pub net_at : (p : Netlist) (net : ℕ) (names : List (List ℕ)) (i : ℕ) (name : List ℕ) → slice_get names i ≡ Some name → slice_get (nets_said p net names) i ≡ Some (net_said p (net + i) name)
unfolding nets_said
net_at p net [] i name e = absurd (let no : None ≡ Some name = e in cc)
net_at p net (first ∷ names) zero name e =
    (λ i. Some (net_said p (let same : net ≡ net + 0 = omega arith in same i) (same_Some first name e i)))
net_at p net (first ∷ names) (suc i) name e =
    net_at p (net + 1) names i name e ∙ ap (λ k. Some (net_said p k name)) (let same : net + 1 + i ≡ net + suc i = omega arith in same)

pub net_first : (p : Netlist) (names : List (List ℕ)) (i : ℕ) (name : List ℕ) → slice_get names i ≡ Some name → slice_get (nets_said p 0 names) i ≡ Some (net_said p i name)
net_first p names i name at = net_at p 0 names i name at ∙ ap (λ k. Some (net_said p k name)) (let same : 0 + i ≡ i = omega arith in same)

few_picked : {A : Type 0} (test : A → Bool) (xs : List A) → length (filter test xs) ≤ length xs
few_picked test [] = omega arith
few_picked {A} test (x ∷ xs) = by (test x) (few_picked test xs)
  where
    by : (b : Bool) → length (filter test xs) ≤ length xs → length (cond b (x ∷ filter test xs) (filter test xs)) ≤ suc (length xs)
    by true rest = omega arith
    by false rest = omega arith

pub few_pins : (p : Netlist) (net : ℕ) (ids : List ConnId) → IsSound p → ids ≡ map conn_id (conns_of_net p net) → length ids ≤ 2 ^ 21
few_pins p net ids is all =
    let many : length ids ≡ length (net_conns p net) = net_count p net ids all ∙ length-map (net_conns p net) (conn_said p) in
    let few : length (net_conns p net) ≤ length p.conns = few_picked (λ (conn : Conn). conn.net.0 == net) p.conns in
    let most : length p.conns ≤ 2 ^ 21 = is.few_conns in
    omega arith

pub net_written : (p : Netlist) (net : ℕ) (name said : List ℕ) (count : ℕ) → slice_get p.nets net ≡ Some name → slice_get p.nets net ≡ Some said → count ≡ length (map (conn_said p) (net_conns p net))
    → line (codes "Net") (name ∷ numbers (count ∷ [])) ++ conn_lines (cell_names p) (map (conn_said p) (net_conns p net)) ≡ net_lines (cell_names p) (net_said p net said)
net_written p net name said count named at counted =
    let same : name ≡ said = same_Some name said (sym named ∙ at) in
    λ i. line (codes "Net") (same i ∷ numbers (counted i ∷ [])) ++ conn_lines (cell_names p) (map (conn_said p) (net_conns p net))
