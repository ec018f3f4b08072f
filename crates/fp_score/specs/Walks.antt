-- Walks over a list of connections, as a problem's readers give it.
use Rattle.std.specs.Prelude.{◌≡◌, ◌==◌, ℕ, ◌+◌, ◌<◌, ◌≤◌, List, [], ◌∷◌, length, map, All, get_or, drop, if◌then◌else◌}
use Rattle.std.proofs.Common.{Bool, true, false, sym, ap, subst, ◌∙◌, arith}
use Rattle.std.proofs.lemmas.List.{drop_more, drop_all, length-map}
use Rattle.std.proofs.Math.ListN.{get_or-map}
use Rattle.fp_base.specs.declared.ids.ConnId.{ConnId}
use Rattle.fp_netlist.specs.Netlist.{Netlist, ids_where, conns_of_cell}

same_many : (conns : List ℕ) (items : List ConnId) → items ≡ map (λ conn. record { 0 = conn }) conns → length items ≡ length conns
same_many conns items is = ap length is ∙ length-map conns (λ conn. record { 0 = conn })

same_conn : (conns : List ℕ) (i : ℕ) (items : List ConnId) (d : ConnId) → items ≡ map (λ conn. record { 0 = conn }) conns → (get_or items i d).0 ≡ get_or conns i d.0
same_conn conns i items d is =
    ap (λ (l : List ConnId). (get_or l i d).0) is ∙ ap (λ (c : ConnId). c.0) (get_or-map (λ (conn : ℕ). record { 0 = conn }) conns i d.0)

-- the connection at an index is the first that is left
pub conn_next : (conns : List ℕ) (i : ℕ) (items : List ConnId) (d : ConnId) → items ≡ map (λ conn. record { 0 = conn }) conns → i < length items
    → drop i conns ≡ (get_or items i d).0 ∷ drop (i + 1) conns
conn_next conns i items d is below =
    let many = same_many conns items is in
    let within : i < length conns = omega arith in
    drop_more conns i d.0 within ∙ ap (λ k. k ∷ drop (i + 1) conns) (sym (same_conn conns i items d is))

-- what holds of each connection of the list holds of the one at an index
pub conn_each : (P : ℕ → Type 0) (conns : List ℕ) (i : ℕ) (items : List ConnId) (d : ConnId) → items ≡ map (λ conn. record { 0 = conn }) conns → i < length items
    → All P conns → P (get_or items i d).0
conn_each P conns i items d is below each =
    let many = same_many conns items is in
    let within : i < length conns = omega arith in
    subst P (sym (same_conn conns i items d is)) (each i d.0 within)

-- past the last index no connection is left
pub conns_end : (conns : List ℕ) (i : ℕ) (items : List ConnId) → items ≡ map (λ conn. record { 0 = conn }) conns → length items ≤ i → drop i conns ≡ []
conns_end conns i items is past =
    let many = same_many conns items is in
    drop_all i conns (omega arith)

-- a cell has at most as many connections as the problem
fewer : {A : Type 0} (test : A → Bool) (i : ℕ) (xs : List A) → length (ids_where test i xs) ≤ length xs
unfolding ids_where
fewer test i [] = omega arith
fewer {A} test i (x ∷ xs) = by (test x) (fewer test (i + 1) xs)
  where
    by : (b : Bool) → length (ids_where test (i + 1) xs) ≤ length xs → length (if b then i ∷ ids_where test (i + 1) xs else ids_where test (i + 1) xs) ≤ length (x ∷ xs)
    by true few = omega arith
    by false few = omega arith

pub cell_conns_few : (p : Netlist) (cell : ℕ) → length (conns_of_cell p cell) ≤ length p.conns
unfolding conns_of_cell
cell_conns_few p cell = fewer (λ conn. conn.cell.0 == cell) 0 p.conns

pub items_few : (p : Netlist) (cell : ℕ) (items : List ConnId) → items ≡ map (λ conn. record { 0 = conn }) (conns_of_cell p cell) → length items ≤ length p.conns
items_few p cell items is =
    let many = same_many (conns_of_cell p cell) items is in
    omega (arith, cell_conns_few p cell)
