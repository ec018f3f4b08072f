-- A net's cells on a die, by the numbers of its connections; and cut nets among the first ones.
use Rattle.std.proofs.Common.{◌≡◌, ℕ, suc, ◌+◌, ◌<◌, ◌||◌, ◌&&◌, Bool, true, false, List, [], ◌∷◌, length, map, All, refl, ap, sym, subst, ◌∙◌, cond, arith}
use Rattle.std.specs.List.{list_any}
use Rattle.std.proofs.lemmas.List.Elements.{All-map}
use Rattle.fp_base.specs.declared.ids.ConnId.{ConnId}
use Rattle.fp_base.specs.declared.ids.Die.{Die}
use Rattle.fp_base.specs.declared.ids.Die.TheVariants.{Top, Bottom}
use Rattle.fp_netlist.specs.Netlist.{Netlist, conns_of_net}
use Rattle.fp_netlist.specs.NetlistLaws.{net_conns_within}
use Rattle.fp_place.specs.Cut.{is_on, touches, is_cut, cut_below}

abbrev pub conn_id : ℕ → ConnId
conn_id n = record { 0 = n }

list_any-ids : (test : ℕ → Bool) (ids : List ℕ) → list_any (λ (conn : ConnId). test conn.0) (map conn_id ids) ≡ list_any test ids
list_any-ids test [] = refl
list_any-ids test (x ∷ xs) = ap (λ b. test x || b) (list_any-ids test xs)

pub touches_by_ids : (p : Netlist) (dies : List Die) (die : Die) (net : ℕ) (conns : List ConnId) → conns ≡ map conn_id (conns_of_net p net)
    → list_any (λ (conn : ConnId). is_on p dies die conn.0) conns ≡ touches p dies die net
touches_by_ids p dies die net conns are = ap (list_any (λ (conn : ConnId). is_on p dies die conn.0)) are ∙ list_any-ids (is_on p dies die) (conns_of_net p net)

pub ids_within : (p : Netlist) (net : ℕ) (conns : List ConnId) → conns ≡ map conn_id (conns_of_net p net) → All (λ (conn : ConnId). conn.0 < length p.conns) conns
ids_within p net conns are = subst (All (λ (conn : ConnId). conn.0 < length p.conns)) (sym are)
    (All-map (λ (conn : ConnId). conn.0 < length p.conns) conn_id (conns_of_net p net) (net_conns_within p net))

-- one more net
pub cut_more : (p : Netlist) (dies : List Die) (net : ℕ) (b : Bool) → b ≡ is_cut p dies net → cut_below p dies (net + 1) ≡ cut_below p dies net + cond b 1 0
unfolding cut_below
cut_more p dies net b is =
    let up : net + 1 ≡ suc net = omega arith in
    ap (cut_below p dies) up ∙ ap (λ b. cut_below p dies net + cond b 1 0) (sym is)

-- a net is cut by its two sides
pub cut_first : (p : Netlist) (dies : List Die) (net : ℕ) (result : Bool) → result ≡ false → result ≡ touches p dies Top net → result ≡ is_cut p dies net
unfolding is_cut
cut_first p dies net result refused is = refused ∙ ap (λ b. b && touches p dies Bottom net) (sym refused ∙ is)

pub cut_second : (p : Netlist) (dies : List Die) (net : ℕ) (first result : Bool) → first ≡ true → first ≡ touches p dies Top net → result ≡ touches p dies Bottom net → result ≡ is_cut p dies net
unfolding is_cut
cut_second p dies net first result passed is second = second ∙ ap (λ b. b && touches p dies Bottom net) (sym passed ∙ is)
