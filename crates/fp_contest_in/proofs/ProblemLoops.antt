-- The loops that read instances, nets and their connections into a problem, turn by turn.
use Rattle.std.proofs.Common.{◌≡◌, ℕ, ◌+◌, ◌<◌, List, [], ◌++◌, length, map, Ok, refl, sym, ap, subst, ◌∙◌, arith, zero-add}
use Rattle.std.proofs.lemmas.List.{length-append, length-map}
use Rattle.fp_text.specs.Reading.{Left, Read, GivesFault}
use Rattle.fp_text.specs.declared.fault.TextFault.{TextFault}
use Rattle.fp_tech.specs.Plan.{Plan}
use Rattle.fp_netlist.specs.declared.problem.Conn.{Conn}
use Rattle.fp_netlist.specs.Netlist.{Cell, Netlist, cell_names}
use Rattle.fp_contest_in.specs.Text.{InstText, ConnText, NetText, inst_name_list, net_name_list, conn_count, with_inst_text, with_conn_text, with_net_text}
use Rattle.fp_contest_in.specs.ProblemLaws.{cell_of, insts_added, conns_added, plan-with_inst_texts, cell_names-with_inst_texts, plan-with_net_texts, cells-with_net_texts, nets-with_net_texts, conns-with_net_texts}
use Rattle.fp_contest_in.specs.Statements.{inst_next, net_pin_next, net_next}
use Rattle.fp_contest_in.specs.Growing.{inst_item, conn_item, net_item}
use Rattle.fp_contest_in.proofs.Growth.{Counted, counted_more, grown_fault}

-- ---- instances

abbrev pub InstsSoFar : ℕ → ℕ → Netlist → Netlist → Left → Read (List InstText) → Type 0
InstsSoFar count i old now l total = Counted with_inst_text (inst_item old.plan) count i old now l total

pub insts_room : (count i : ℕ) (old now : Netlist) (l : Left) (total : Read (List InstText)) → old.cells ≡ [] → InstsSoFar count i old now l total → length now.cells ≡ i
insts_room count i old now l total none so_far =
    let added : length now.cells ≡ length (old.cells ++ map (cell_of old.plan) so_far.items) = ap (λ (p : Netlist). length p.cells) (so_far.grown.value ∙ insts_added old so_far.items) in
    added ∙ length-append old.cells (map (cell_of old.plan) so_far.items) ∙ omega (arith, ap (λ (cs : List Cell). length cs) none, length-map so_far.items (cell_of old.plan), so_far.count_is)

-- the next instance is read as the item after those so far
insts_as : (count i : ℕ) (old now : Netlist) (l : Left) (total : Read (List InstText)) → old.cells ≡ [] → (so_far : InstsSoFar count i old now l total)
    → inst_next now.plan (cell_names now) l ≡ inst_item old.plan so_far.items l
insts_as count i old now l total none so_far =
    let plan : now.plan ≡ old.plan = ap (λ (p : Netlist). p.plan) so_far.grown.value ∙ plan-with_inst_texts old so_far.items in
    let names : cell_names now ≡ inst_name_list so_far.items =
    ap cell_names so_far.grown.value ∙ cell_names-with_inst_texts old so_far.items ∙ ap (λ (cs : List Cell). map (λ cell. cell.name) cs ++ inst_name_list so_far.items) none in
    ap (λ (q : Plan). inst_next q (cell_names now) l) plan ∙ ap (λ (ns : List (List ℕ)). inst_next old.plan ns l) names

pub insts_more : (count i : ℕ) (old now next : Netlist) (l after : Left) (total : Read (List InstText)) → i < count → old.cells ≡ [] → InstsSoFar count i old now l total
    → (inst : InstText) × (inst_next now.plan (cell_names now) l ≡ Ok (inst, after)) × (next ≡ with_inst_text now inst) → InstsSoFar count (i + 1) old next after total
insts_more count i old now next l after total lt none so_far one =
    counted_more with_inst_text (inst_item old.plan) count i old now next l after total one.0 lt so_far (sym (insts_as count i old now l total none so_far) ∙ one.1) one.2

pub insts_fault : (e : TextFault) (count i : ℕ) (old now : Netlist) (l : Left) (total : Read (List InstText)) → i < count → old.cells ≡ [] → InstsSoFar count i old now l total
    → GivesFault e (inst_next now.plan (cell_names now) l) → GivesFault e total
insts_fault e count i old now l total lt none so_far fails =
    grown_fault e with_inst_text (inst_item old.plan) count i old now l total so_far.items lt (subst (GivesFault e) (insts_as count i old now l total none so_far) fails) so_far.grown

-- ---- connections

abbrev pub ConnsSoFar : ℕ → ℕ → ℕ → Netlist → Netlist → Left → Read (List ConnText) → Type 0
ConnsSoFar net count i old now l total = Counted (with_conn_text net) (conn_item old) count i old now l total

pub conns_room : (net count i : ℕ) (old now : Netlist) (l : Left) (total : Read (List ConnText)) → ConnsSoFar net count i old now l total → length now.conns ≡ length old.conns + i
conns_room net count i old now l total so_far =
    let added : length now.conns ≡ length (old.conns ++ _) = ap (λ (p : Netlist). length p.conns) (so_far.grown.value ∙ conns_added net old so_far.items) in
    added ∙ length-append old.conns _ ∙ ap (λ (n : ℕ). length old.conns + n) (length-map so_far.items _ ∙ so_far.count_is)

pub conns_nets : (net count i : ℕ) (old now : Netlist) (l : Left) (total : Read (List ConnText)) → ConnsSoFar net count i old now l total → now.nets ≡ old.nets
conns_nets net count i old now l total so_far = ap (λ (p : Netlist). p.nets) (so_far.grown.value ∙ conns_added net old so_far.items)

-- a pin is read by the cells alone
pub pin_as : (p : Netlist) (nets : List (List ℕ)) (conns : List Conn) (l : Left) → net_pin_next (record p { nets = nets; conns = conns }) l ≡ net_pin_next p l
unfolding net_pin_next
pin_as p nets conns l = refl

conns_as : (net count i : ℕ) (old now : Netlist) (l : Left) (total : Read (List ConnText)) → ConnsSoFar net count i old now l total → net_pin_next now l ≡ net_pin_next old l
conns_as net count i old now l total so_far =
    ap (λ (p : Netlist). net_pin_next p l) (so_far.grown.value ∙ conns_added net old so_far.items) ∙ pin_as old old.nets _ l

pub conns_more : (net count i : ℕ) (old now next : Netlist) (l after : Left) (total : Read (List ConnText)) → i < count → ConnsSoFar net count i old now l total
    → (conn : ConnText) × (net_pin_next now l ≡ Ok (conn, after)) × (next ≡ with_conn_text net now conn) → ConnsSoFar net count (i + 1) old next after total
conns_more net count i old now next l after total lt so_far one =
    counted_more (with_conn_text net) (conn_item old) count i old now next l after total one.0 lt so_far (sym (conns_as net count i old now l total so_far) ∙ one.1) one.2

pub conns_fault : (e : TextFault) (net count i : ℕ) (old now : Netlist) (l : Left) (total : Read (List ConnText)) → i < count → ConnsSoFar net count i old now l total
    → GivesFault e (net_pin_next now l) → GivesFault e total
conns_fault e net count i old now l total lt so_far fails =
    grown_fault e (with_conn_text net) (conn_item old) count i old now l total so_far.items lt (subst (GivesFault e) (conns_as net count i old now l total so_far) fails) so_far.grown

-- ---- nets

abbrev pub NetsSoFar : ℕ → ℕ → Netlist → Netlist → Left → Read (List NetText) → Type 0
NetsSoFar count i old now l total = Counted with_net_text (net_item old) count i old now l total

pub nets_room : (count i : ℕ) (old now : Netlist) (l : Left) (total : Read (List NetText)) → old.nets ≡ [] → NetsSoFar count i old now l total → length now.nets ≡ i
nets_room count i old now l total none so_far =
    ap (λ (p : Netlist). length p.nets) so_far.grown.value ∙ ap (λ (ns : List (List ℕ)). length ns) (nets-with_net_texts old so_far.items)
    ∙ ap (λ (ns : List (List ℕ)). length (ns ++ net_name_list so_far.items)) none ∙ length-map so_far.items _ ∙ so_far.count_is

net_as : (p : Netlist) (nets : List (List ℕ)) (conns : List Conn) (names : List (List ℕ)) (many : ℕ) (l : Left) → net_next (record p { nets = nets; conns = conns }) names many l ≡ net_next p names many l
unfolding net_next net_pin_next
net_as p nets conns names many l = refl

nets_as : (count i : ℕ) (old now : Netlist) (l : Left) (total : Read (List NetText)) → old.nets ≡ [] → old.conns ≡ [] → (so_far : NetsSoFar count i old now l total)
    → net_next now now.nets (length now.conns) l ≡ net_item old so_far.items l
nets_as count i old now l total none no_conns so_far =
    let plan : now.plan ≡ old.plan = ap (λ (p : Netlist). p.plan) so_far.grown.value ∙ plan-with_net_texts old so_far.items in
    let cells : now.cells ≡ old.cells = ap (λ (p : Netlist). p.cells) so_far.grown.value ∙ cells-with_net_texts old so_far.items in
    let names : now.nets ≡ net_name_list so_far.items =
    ap (λ (p : Netlist). p.nets) so_far.grown.value ∙ nets-with_net_texts old so_far.items ∙ ap (λ (ns : List (List ℕ)). ns ++ net_name_list so_far.items) none in
    let many : length now.conns ≡ conn_count so_far.items =
    ap (λ (p : Netlist). length p.conns) so_far.grown.value ∙ conns-with_net_texts old so_far.items ∙ ap (λ (cs : List Conn). length cs + conn_count so_far.items) no_conns ∙ zero-add (conn_count so_far.items) in
    let same : now ≡ record old { nets = now.nets; conns = now.conns } = (λ k. record { plan = plan k; cells = cells k; nets = now.nets; conns = now.conns }) in
    ap (λ (p : Netlist). net_next p now.nets (length now.conns) l) same ∙ net_as old now.nets now.conns now.nets (length now.conns) l
    ∙ ap (λ (ns : List (List ℕ)). net_next old ns (length now.conns) l) names ∙ ap (λ (n : ℕ). net_next old (net_name_list so_far.items) n l) many

pub nets_more : (count i : ℕ) (old now next : Netlist) (l after : Left) (total : Read (List NetText)) → i < count → old.nets ≡ [] → old.conns ≡ [] → NetsSoFar count i old now l total
    → (net : NetText) × (net_next now now.nets (length now.conns) l ≡ Ok (net, after)) × (next ≡ with_net_text now net) → NetsSoFar count (i + 1) old next after total
nets_more count i old now next l after total lt none no_conns so_far one =
    counted_more with_net_text (net_item old) count i old now next l after total one.0 lt so_far (sym (nets_as count i old now l total none no_conns so_far) ∙ one.1) one.2

pub nets_fault : (e : TextFault) (count i : ℕ) (old now : Netlist) (l : Left) (total : Read (List NetText)) → i < count → old.nets ≡ [] → old.conns ≡ [] → NetsSoFar count i old now l total
    → GivesFault e (net_next now now.nets (length now.conns) l) → GivesFault e total
nets_fault e count i old now l total lt none no_conns so_far fails =
    grown_fault e with_net_text (net_item old) count i old now l total so_far.items lt (subst (GivesFault e) (nets_as count i old now l total none no_conns so_far) fails) so_far.grown
