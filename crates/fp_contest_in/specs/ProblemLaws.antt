-- What a netlist keeps and what it gains when cells and nets are added to it.
use Rattle.std.specs.Prelude.{◌≡◌, ℕ, ◌+◌, List, [], ◌∷◌, ◌++◌, length, map}
use Rattle.std.proofs.Common.{refl, sym, ap, ◌∙◌, append_assoc, arith}
use Rattle.std.proofs.Math.Nat.{add_assoc}
use Rattle.std.proofs.lemmas.List.Sums.{sum_by-cons}
use Rattle.std.proofs.lemmas.List.{append-nil, length-append, length-map, map_push}
use Rattle.fp_tech.specs.Book.{id_for}
use Rattle.fp_tech.specs.Plan.{Plan}
use Rattle.fp_netlist.specs.declared.problem.Conn.{Conn}
use Rattle.fp_netlist.specs.Netlist.{Cell, Netlist, no_cells, cell_names, with_net, conn_for}
use Rattle.fp_contest_in.specs.Text.{InstText, ConnText, NetText, ProblemText, inst_name_list, net_name_list, conn_count, grown, plan_of, with_inst_text, with_inst_texts, with_conn_text, with_conn_texts, with_net_text, with_net_texts, cells_of, netlist_of}

-- ---- cells

abbrev pub cell_of : Plan → InstText → Cell
cell_of plan inst = record { name = inst.name; lib = id_for plan.book inst.lib }

pub insts_added : (p : Netlist) (insts : List InstText) → with_inst_texts p insts ≡ record p { cells = p.cells ++ map (cell_of p.plan) insts }
unfolding grown
insts_added p [] = ap (λ (cells : List Cell). record p { cells = cells }) (sym (append-nil p.cells))
insts_added p (inst ∷ insts) =
    insts_added (with_inst_text p inst) insts
    ∙ ap (λ (cells : List Cell). record p { cells = cells }) (append_assoc p.cells (cell_of p.plan inst ∷ []) (map (cell_of p.plan) insts))

pub plan-with_inst_texts : (p : Netlist) (insts : List InstText) → (with_inst_texts p insts).plan ≡ p.plan
plan-with_inst_texts p insts = ap (λ (q : Netlist). q.plan) (insts_added p insts)

pub nets-with_inst_texts : (p : Netlist) (insts : List InstText) → (with_inst_texts p insts).nets ≡ p.nets
nets-with_inst_texts p insts = ap (λ (q : Netlist). q.nets) (insts_added p insts)

pub conns-with_inst_texts : (p : Netlist) (insts : List InstText) → (with_inst_texts p insts).conns ≡ p.conns
conns-with_inst_texts p insts = ap (λ (q : Netlist). q.conns) (insts_added p insts)

pub cell_names-with_inst_texts : (p : Netlist) (insts : List InstText) → cell_names (with_inst_texts p insts) ≡ cell_names p ++ inst_name_list insts
unfolding grown
cell_names-with_inst_texts p [] = sym (append-nil (cell_names p))
cell_names-with_inst_texts p (inst ∷ insts) =
    cell_names-with_inst_texts (with_inst_text p inst) insts
    ∙ ap (λ (names : List (List ℕ)). names ++ inst_name_list insts) (map_push (λ (cell : Cell). cell.name) p.cells (cell_of p.plan inst))
    ∙ append_assoc (cell_names p) (inst.name ∷ []) (inst_name_list insts)

-- ---- nets

pub conns_added : (net : ℕ) (p : Netlist) (conns : List ConnText) → with_conn_texts net p conns ≡ record p { conns = p.conns ++ map (λ conn. conn_for p net conn.inst conn.pin) conns }
unfolding grown
conns_added net p [] = ap (λ (conns : List Conn). record p { conns = conns }) (sym (append-nil p.conns))
conns_added net p (conn ∷ conns) =
    conns_added net (with_conn_text net p conn) conns
    ∙ ap (λ (all : List Conn). record p { conns = all }) (append_assoc p.conns (conn_for p net conn.inst conn.pin ∷ []) (map (λ c. conn_for p net c.inst c.pin) conns))

pub plan-with_net_text : (p : Netlist) (net : NetText) → (with_net_text p net).plan ≡ p.plan
plan-with_net_text p net = ap (λ (q : Netlist). q.plan) (conns_added (length p.nets) (with_net p net.name) net.pins)

pub cells-with_net_text : (p : Netlist) (net : NetText) → (with_net_text p net).cells ≡ p.cells
cells-with_net_text p net = ap (λ (q : Netlist). q.cells) (conns_added (length p.nets) (with_net p net.name) net.pins)

pub nets-with_net_text : (p : Netlist) (net : NetText) → (with_net_text p net).nets ≡ p.nets ++ net.name ∷ []
nets-with_net_text p net = ap (λ (q : Netlist). q.nets) (conns_added (length p.nets) (with_net p net.name) net.pins)

pub conns-with_net_text : (p : Netlist) (net : NetText) → length (with_net_text p net).conns ≡ length p.conns + length net.pins
conns-with_net_text p net =
    let mapped = map (λ conn. conn_for (with_net p net.name) (length p.nets) conn.inst conn.pin) net.pins in
    ap (λ (q : Netlist). length q.conns) (conns_added (length p.nets) (with_net p net.name) net.pins)
    ∙ length-append p.conns mapped ∙ ap (λ (n : ℕ). length p.conns + n) (length-map net.pins _)

pub plan-with_net_texts : (p : Netlist) (nets : List NetText) → (with_net_texts p nets).plan ≡ p.plan
unfolding grown
plan-with_net_texts p [] = refl
plan-with_net_texts p (net ∷ nets) = plan-with_net_texts (with_net_text p net) nets ∙ plan-with_net_text p net

pub cells-with_net_texts : (p : Netlist) (nets : List NetText) → (with_net_texts p nets).cells ≡ p.cells
unfolding grown
cells-with_net_texts p [] = refl
cells-with_net_texts p (net ∷ nets) = cells-with_net_texts (with_net_text p net) nets ∙ cells-with_net_text p net

pub nets-with_net_texts : (p : Netlist) (nets : List NetText) → (with_net_texts p nets).nets ≡ p.nets ++ net_name_list nets
unfolding grown
nets-with_net_texts p [] = sym (append-nil p.nets)
nets-with_net_texts p (net ∷ nets) =
    nets-with_net_texts (with_net_text p net) nets ∙ ap (λ (names : List (List ℕ)). names ++ net_name_list nets) (nets-with_net_text p net)
    ∙ append_assoc p.nets (net.name ∷ []) (net_name_list nets)

pub conns-with_net_texts : (p : Netlist) (nets : List NetText) → length (with_net_texts p nets).conns ≡ length p.conns + conn_count nets
unfolding grown
conns-with_net_texts p [] = omega arith
conns-with_net_texts p (net ∷ nets) =
    conns-with_net_texts (with_net_text p net) nets ∙ ap (λ (n : ℕ). n + conn_count nets) (conns-with_net_text p net)
    ∙ add_assoc (length p.conns) (length net.pins) (conn_count nets)
    ∙ ap (λ (n : ℕ). length p.conns + n) (sym (sum_by-cons (λ (n : NetText). length n.pins) net nets))

-- ---- the whole problem

pub plan-cells_of : (text : ProblemText) → (cells_of text).plan ≡ plan_of text
plan-cells_of text = plan-with_inst_texts (no_cells (plan_of text)) text.insts

pub plan-netlist_of : (text : ProblemText) → (netlist_of text).plan ≡ plan_of text
plan-netlist_of text = plan-with_net_texts (cells_of text) text.nets ∙ plan-cells_of text
