-- The distinct cells of each net and the distinct nets of each cell, found step by step, and that they agree.
use Rattle.std.proofs.Common.{◌≡◌, ◌==◌, ℕ, suc, ◌+◌, ◌<◌, ◌≤◌, ◌^◌, ◌||◌, ◌&&◌, Bool, true, false, Some, List, [], ◌∷◌, ◌++◌, length, map, drop, get_or, nat_lt, if◌then◌else◌, refl, sym, ap, subst, ◌∙◌, arith}
use Rattle.std.specs.Prelude.{slice_get}
use Rattle.std.specs.Cmp.{nat_eq_equiv}
use Rattle.std.specs.List.{All, list_any, IsDistinct}
use Rattle.std.proofs.lemmas.List.{drop_more, drop_all, get_or_append_left, get_or_push, get_or_past, length_push, length-map}
use Rattle.std.proofs.lemmas.List.Elements.{All-nil, All-head, All-tail, All-map, All-push, All-weaker}
use Rattle.std.proofs.lemmas.Option.{get_or_from_slice_get}
use Rattle.std.proofs.lemmas.Map.Keys.{IsDistinct-push}
use Rattle.std.proofs.lemmas.Bool.Decides.{nat_tests}
use Rattle.fp_base.specs.declared.ids.ConnId.{ConnId}
use Rattle.fp_netlist.specs.declared.problem.Conn.{Conn}
use Rattle.fp_netlist.specs.Netlist.{Netlist, ids_where, conns_of_net, conns_of_cell, IsConn, IsSound}
use Rattle.fp_netlist.specs.NetlistLaws.{net_conns_within, cell_conns_within}
use Rattle.fp_place.specs.Cut.{no_conn, conn_at}
use Rattle.fp_gains.specs.Lists.{list_at}
use Rattle.fp_gains.specs.Links.{holds, with_new, with_all_new, distinct, cells_of, nets_of, cells_of_net, nets_of_cell, AreCellsByNet, AreNetsByCell, AreMembers, AreLinks, Finding, FindsKeys, with_key_new}
use Rattle.fp_gains.proofs.HoldLemmas.{any_distinct}

abbrev pub conn_id : ℕ → ConnId
conn_id number = record { 0 = number }

-- the keys of connections by their numbers, and of those that are left
abbrev pub keys_by : (Conn → ℕ) → Netlist → List ConnId → List ℕ
keys_by key p conns = map (λ (conn : ConnId). key (conn_at p conn.0)) conns

pub keys_of_ids : (key : Conn → ℕ) (p : Netlist) (ids : List ℕ) (conns : List ConnId) → conns ≡ map conn_id ids → keys_by key p conns ≡ map (λ conn. key (conn_at p conn)) ids
keys_of_ids key p ids conns are = ap (keys_by key p) are ∙ by ids
  where
    by : (ids : List ℕ) → keys_by key p (map conn_id ids) ≡ map (λ conn. key (conn_at p conn)) ids
    by [] = refl
    by (x ∷ xs) = ap (λ ks. key (conn_at p x) ∷ ks) (by xs)

pub ids_within : (p : Netlist) (ids : List ℕ) (conns : List ConnId) → All (λ k. k < length p.conns) ids → conns ≡ map conn_id ids → All (λ (conn : ConnId). conn.0 < length p.conns) conns
ids_within p ids conns within are = subst (All (λ (conn : ConnId). conn.0 < length p.conns)) (sym are) (All-map (λ (conn : ConnId). conn.0 < length p.conns) conn_id ids within)

pub conn_read : (p : Netlist) (conn : ℕ) (read : Conn) → slice_get p.conns conn ≡ Some read → conn_at p conn ≡ read
conn_read p conn read at = get_or_from_slice_get p.conns conn read no_conn at

-- what is found, with what is left, is all
pub record IsFinding (key : Conn → ℕ) (p : Netlist) (from : Finding) (goal : List ℕ) (left : List ConnId) (now : Finding) : Type 0 where
  pub room : now.room ≡ from.room
  pub mark : now.mark ≡ from.mark + 1
  pub all : with_all_new now.keys (keys_by key p left) ≡ goal

pub finding_first : (key : Conn → ℕ) (p : Netlist) (from now : Finding) (ids : List ℕ) (conns : List ConnId) (goal : List ℕ) → conns ≡ map conn_id ids → now ≡ record { room = from.room; mark = from.mark + 1; keys = [] }
    → distinct (map (λ conn. key (conn_at p conn)) ids) ≡ goal → IsFinding key p from goal conns now
finding_first key p from now ids conns goal conns_are now_is goal_is = record {
  room = ap (λ f. f.room) now_is;
  mark = ap (λ f. f.mark) now_is;
  all = ap (λ found. with_all_new found (keys_by key p conns)) (ap (λ f. f.keys) now_is) ∙ ap (with_all_new []) (keys_of_ids key p ids conns conns_are) ∙ goal_is;
}

pub finding_more : (key : Conn → ℕ) (p : Netlist) (from now new : Finding) (conns : List ConnId) (i : ℕ) (read : Conn) (goal : List ℕ) → IsFinding key p from goal (drop i conns) now → i < length conns
    → slice_get p.conns (get_or conns i (conn_id 0)).0 ≡ Some read → new ≡ with_key_new now (key read) → IsFinding key p from goal (drop (i + 1) conns) new
unfolding with_all_new
finding_more key p from now new conns i read goal are within at new_is = record {
  room = ap (λ f. f.room) new_is ∙ are.room;
  mark = ap (λ f. f.mark) new_is ∙ are.mark;
  all =
      ap (λ found. with_all_new found (keys_by key p (drop (i + 1) conns))) (ap (λ f. f.keys) new_is)
      ∙ ap (λ c. with_all_new (with_new now.keys (key c)) (keys_by key p (drop (i + 1) conns))) (sym (conn_read p (get_or conns i (conn_id 0)).0 read at))
      ∙ sym (ap (λ left. with_all_new now.keys (keys_by key p left)) (drop_more conns i (conn_id 0) within))
      ∙ are.all;
}

pub finding_all : (key : Conn → ℕ) (p : Netlist) (from now : Finding) (conns : List ConnId) (i : ℕ) (goal : List ℕ) → IsFinding key p from goal (drop i conns) now → length conns ≤ i → FindsKeys goal from now
unfolding with_all_new
finding_all key p from now conns i goal are all = record {
  room = are.room;
  mark = are.mark;
  found = sym (ap (λ left. with_all_new now.keys (keys_by key p left)) (drop_all i conns all)) ∙ are.all;
}

-- one list more
pub list_more : (lists new : List (List ℕ)) (list : List ℕ) (i : ℕ) (goal : ℕ → List ℕ) → new ≡ lists ++ list ∷ [] → length lists ≡ i → list ≡ goal i → ((k : ℕ) → k < i → list_at lists k ≡ goal k)
    → (k : ℕ) → k < i + 1 → list_at new k ≡ goal k
list_more lists new list i goal new_is many list_is each k less = ap (λ ls. list_at ls k) new_is ∙ by (k == i) refl
  where
    by : (b : Bool) → (k == i) ≡ b → list_at (lists ++ list ∷ []) k ≡ goal k
    by true e =
        let same : i ≡ k = grind (arith, nat_tests) in
        subst (λ j. list_at (lists ++ list ∷ []) j ≡ goal j) same (get_or_push lists list [] i many ∙ list_is)
    by false e =
        let before : k < i = grind (arith, nat_tests) in
        get_or_append_left lists (list ∷ []) [] k (omega arith) ∙ each k before

-- distinct keys: they pass what all keys pass, are at most as many, and stand once
all_new_pass : (P : ℕ → Type 0) (found keys : List ℕ) → All P found → All P keys → All P (with_all_new found keys)
unfolding with_all_new
all_new_pass P found [] pass rest = pass
all_new_pass P found (key ∷ keys) pass rest = all_new_pass P (with_new found key) keys (by (holds found key)) (All-tail P key keys rest)
  where
    by : (b : Bool) → All P (if b then found else found ++ key ∷ [])
    by true = pass
    by false = All-push P found key pass (All-head P key keys rest)

all_new_few : (found keys : List ℕ) → length (with_all_new found keys) ≤ length found + length keys
unfolding with_all_new
all_new_few found [] = omega arith
all_new_few found (key ∷ keys) = omega (arith, all_new_few (with_new found key) keys, by (holds found key))
  where
    by : (b : Bool) → length (if b then found else found ++ key ∷ []) ≤ length found + 1
    by true = omega arith
    by false = omega (arith, length_push found key)

all_new_once : (found keys : List ℕ) → IsDistinct (λ a b. a == b) found → IsDistinct (λ a b. a == b) (with_all_new found keys)
unfolding with_all_new
all_new_once found [] once = once
all_new_once found (key ∷ keys) once = all_new_once (with_new found key) keys (by (holds found key) refl)
  where
    by : (b : Bool) → holds found key ≡ b → IsDistinct (λ a b. a == b) (if b then found else found ++ key ∷ [])
    by true held = once
    by false new = IsDistinct-push nat_eq_equiv found key once new

none_once : IsDistinct (λ (a b : ℕ). a == b) []
unfolding IsDistinct
none_once = tt

-- connections that pass are at most all
few_ids : {A : Type 0} (test : A → Bool) (i : ℕ) (xs : List A) → length (ids_where test i xs) ≤ length xs
unfolding ids_where
few_ids test i [] = omega arith
few_ids test i (x ∷ xs) = by (test x) (few_ids test (i + 1) xs)
  where
    by : (b : Bool) → length (ids_where test (i + 1) xs) ≤ length xs → length (if b then i ∷ ids_where test (i + 1) xs else ids_where test (i + 1) xs) ≤ suc (length xs)
    by true rest = omega arith
    by false rest = omega arith

conn_is : (p : Netlist) → IsSound p → (k : ℕ) → k < length p.conns → IsConn p (conn_at p k)
conn_is p sound k less = sound.conns k no_conn less

pub cells_within : (p : Netlist) (net : ℕ) → IsSound p → All (λ cell. cell < length p.cells) (cells_of_net p net)
unfolding cells_of_net
cells_within p net sound =
    all_new_pass (λ cell. cell < length p.cells) [] (cells_of p (conns_of_net p net)) (All-nil (λ cell. cell < length p.cells))
    (All-map (λ cell. cell < length p.cells) (λ conn. (conn_at p conn).cell.0) (conns_of_net p net)
    (All-weaker (λ k. k < length p.conns) (λ k. (conn_at p k).cell.0 < length p.cells) (λ k less. (conn_is p sound k less).cell) (conns_of_net p net) (net_conns_within p net)))

pub nets_within : (p : Netlist) (cell : ℕ) → IsSound p → All (λ net. net < length p.nets) (nets_of_cell p cell)
unfolding nets_of_cell
nets_within p cell sound =
    all_new_pass (λ net. net < length p.nets) [] (nets_of p (conns_of_cell p cell)) (All-nil (λ net. net < length p.nets))
    (All-map (λ net. net < length p.nets) (λ conn. (conn_at p conn).net.0) (conns_of_cell p cell)
    (All-weaker (λ k. k < length p.conns) (λ k. (conn_at p k).net.0 < length p.nets) (λ k less. (conn_is p sound k less).net) (conns_of_cell p cell) (cell_conns_within p cell)))

cells_few : (p : Netlist) (net : ℕ) → IsSound p → length (cells_of_net p net) ≤ 2 ^ 21
unfolding cells_of_net conns_of_net
cells_few p net sound =
    omega (
      arith,
      all_new_few [] (cells_of p (conns_of_net p net)),
      length-map (conns_of_net p net) (λ conn. (conn_at p conn).cell.0),
      few_ids (λ (conn : Conn). conn.net.0 == net) 0 p.conns,
      sound.few_conns,
    )

cells_once : (p : Netlist) (net : ℕ) → IsDistinct (λ a b. a == b) (cells_of_net p net)
unfolding cells_of_net
cells_once p net = all_new_once [] (cells_of p (conns_of_net p net)) none_once

nets_once : (p : Netlist) (cell : ℕ) → IsDistinct (λ a b. a == b) (nets_of_cell p cell)
unfolding nets_of_cell
nets_once p cell = all_new_once [] (nets_of p (conns_of_cell p cell)) none_once

-- whether some connection that passes one test passes another
any_where : (pass test : Conn → Bool) (look : ℕ → Conn) (i : ℕ) (conns : List Conn) → ((j : ℕ) → j < length conns → look (i + j) ≡ get_or conns j no_conn)
    → list_any (λ k. test (look k)) (ids_where pass i conns) ≡ list_any (λ conn. pass conn && test conn) conns
unfolding ids_where
any_where pass test look i [] at = refl
any_where pass test look i (conn ∷ conns) at = by (pass conn) (any_where pass test look (i + 1) conns (λ j less. let up : i + 1 + j ≡ i + suc j = omega arith in ap look up ∙ at (suc j) (omega arith)))
  where
    here : look i ≡ conn
    here = (let same : i ≡ i + 0 = omega arith in ap look same) ∙ at 0 (omega arith)

    by : (b : Bool) → list_any (λ k. test (look k)) (ids_where pass (i + 1) conns) ≡ list_any (λ c. pass c && test c) conns
        → list_any (λ k. test (look k)) (if b then i ∷ ids_where pass (i + 1) conns else ids_where pass (i + 1) conns) ≡ ((b && test conn) || list_any (λ c. pass c && test c) conns)
    by true rest = ap (λ c. test c || list_any (λ k. test (look k)) (ids_where pass (i + 1) conns)) here ∙ ap (λ b. test conn || b) rest
    by false rest = rest

any_same : (one other : Conn → Bool) (conns : List Conn) → ((conn : Conn) → one conn ≡ other conn) → list_any one conns ≡ list_any other conns
any_same one other [] same = refl
any_same one other (conn ∷ conns) same = ap (λ b. b || list_any one conns) (same conn) ∙ ap (λ b. other conn || b) (any_same one other conns same)

any_keys : (key : Conn → ℕ) (test : ℕ → Bool) (p : Netlist) (ids : List ℕ) → list_any test (map (λ conn. key (conn_at p conn)) ids) ≡ list_any (λ conn. test (key (conn_at p conn))) ids
any_keys key test p [] = refl
any_keys key test p (x ∷ xs) = ap (λ b. test (key (conn_at p x)) || b) (any_keys key test p xs)

nets_hold : (p : Netlist) (cell net : ℕ) → holds (nets_of_cell p cell) net ≡ list_any (λ conn. (conn.cell.0 == cell) && (net == conn.net.0)) p.conns
unfolding nets_of_cell conns_of_cell
nets_hold p cell net =
    any_distinct (λ other. net == other) (nets_of p (conns_of_cell p cell))
    ∙ any_keys (λ conn. conn.net.0) (λ other. net == other) p (conns_of_cell p cell)
    ∙ any_where (λ conn. conn.cell.0 == cell) (λ conn. net == conn.net.0) (conn_at p) 0 p.conns (λ j less. let same : 0 + j ≡ j = omega arith in ap (conn_at p) same)

cells_hold : (p : Netlist) (cell net : ℕ) → holds (cells_of_net p net) cell ≡ list_any (λ conn. (conn.net.0 == net) && (cell == conn.cell.0)) p.conns
unfolding cells_of_net conns_of_net
cells_hold p cell net =
    any_distinct (λ other. cell == other) (cells_of p (conns_of_net p net))
    ∙ any_keys (λ conn. conn.cell.0) (λ other. cell == other) p (conns_of_net p net)
    ∙ any_where (λ conn. conn.net.0 == net) (λ conn. cell == conn.cell.0) (conn_at p) 0 p.conns (λ j less. let same : 0 + j ≡ j = omega arith in ap (conn_at p) same)

either_way : (a b c d : ℕ) → ((a == b) && (c == d)) ≡ ((d == c) && (b == a))
either_way a b c d = grind (arith, nat_tests)

agree : (p : Netlist) (cell net : ℕ) → holds (nets_of_cell p cell) net ≡ holds (cells_of_net p net) cell
agree p cell net =
    nets_hold p cell net
    ∙ any_same (λ conn. (conn.cell.0 == cell) && (net == conn.net.0)) (λ conn. (conn.net.0 == net) && (cell == conn.cell.0)) p.conns (λ conn. either_way conn.cell.0 cell net conn.net.0)
    ∙ sym (cells_hold p cell net)

-- the lists of a problem
within_or_none : (P : List ℕ → Type 0) (lists : List (List ℕ)) (goal : ℕ → List ℕ) → P [] → ((k : ℕ) → P (goal k)) → ((k : ℕ) → k < length lists → list_at lists k ≡ goal k) → (k : ℕ) → P (list_at lists k)
within_or_none P lists goal none some each k = by (nat_lt k (length lists)) refl
  where
    by : (b : Bool) → nat_lt k (length lists) ≡ b → P (list_at lists k)
    by true e = let less : k < length lists = grind (arith, nat_tests) in subst P (sym (each k less)) (some k)
    by false e = let past : length lists ≤ k = grind (arith, nat_tests) in subst P (sym (get_or_past lists k [] past)) none

pub members_of_problem : (p : Netlist) (members : List (List ℕ)) → IsSound p → AreCellsByNet p members → AreMembers members (length p.cells)
members_of_problem p members sound are = record {
  few_nets = omega (arith, are.all_nets, sound.few_nets);
  few = within_or_none (λ cells. length cells ≤ 2 ^ 21) members (cells_of_net p) (omega arith) (λ net. cells_few p net sound) each;
  within = within_or_none (All (λ cell. cell < length p.cells)) members (cells_of_net p) (All-nil (λ cell. cell < length p.cells)) (λ net. cells_within p net sound) each;
  once = within_or_none (IsDistinct (λ a b. a == b)) members (cells_of_net p) none_once (cells_once p) each;
}
  where
    each : (net : ℕ) → net < length members → list_at members net ≡ cells_of_net p net
    each net less = are.each net (omega (arith, are.all_nets))

pub links_of_problem : (p : Netlist) (members nets : List (List ℕ)) → IsSound p → AreCellsByNet p members → AreNetsByCell p nets → AreLinks members nets (length p.cells)
links_of_problem p members nets sound members_are are = record {
  few_cells = sound.few_cells;
  all_cells = are.all_cells;
  within = within_or_none (All (λ net. net < length members)) nets (nets_of_cell p) (All-nil (λ net. net < length members))
      (λ cell. subst (λ n. All (λ net. net < n) (nets_of_cell p cell)) (sym members_are.all_nets) (nets_within p cell sound)) each;
  once = within_or_none (IsDistinct (λ a b. a == b)) nets (nets_of_cell p) none_once (nets_once p) each;
  agree = λ cell net less_cell less_net.
      ap (λ ns. holds ns net) (are.each cell less_cell)
      ∙ agree p cell net
      ∙ ap (λ cs. holds cs cell) (sym (members_are.each net (omega (arith, members_are.all_nets))));
}
  where
    each : (cell : ℕ) → cell < length nets → list_at nets cell ≡ nets_of_cell p cell
    each cell less = are.each cell (omega (arith, are.all_cells))
