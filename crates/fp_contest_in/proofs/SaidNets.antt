-- The netlist of a problem says the instances and the nets that it was made of.
use Rattle.std.proofs.Common.{◌≡◌, ℕ, ◌+◌, ◌<◌, ◌≤◌, ◌==◌, Bool, true, false, cond, List, [], ◌∷◌, ◌++◌, length, map, filter, nat_eq, unwrap_or, slice_get, Option, Some, None, is_some, option_and_then, refl, sym, ap, ◌∙◌, append_assoc, arith}
use Rattle.std.proofs.lemmas.List.{append-nil, length-append}
use Rattle.std.proofs.lemmas.List.Elements.{filter-append}
use Rattle.std.proofs.lemmas.Bool.{ne_eqb, eq-eqb, and_parts}
use Rattle.fp_base.specs.declared.ids.Die.TheVariants.{Top}
use Rattle.fp_tech.specs.Book.{Pin, Lib, place_of, name_at, pin_names, id_for, lib_in}
use Rattle.fp_tech.specs.LibNameLaws.{name_at-place}
use Rattle.fp_tech.specs.Plan.{Plan}
use Rattle.fp_netlist.specs.declared.problem.Conn.{Conn}
use Rattle.fp_netlist.specs.Netlist.{Cell, Netlist, no_cells, lib_of, lib_at, conn_for, with_net}
use Rattle.fp_netlist.specs.Points.{no_lib, no_pin, lib_on, pin_on}
use Rattle.fp_contest_in.specs.Text.{InstText, ConnText, NetText, ProblemText, net_name_list, grown, plan_of, with_net_text, with_net_texts, cells_of, netlist_of}
use Rattle.fp_contest_in.specs.ProblemLaws.{cell_of, insts_added, conns_added, plan-with_net_texts, cells-with_net_texts, nets-with_net_texts}
use Rattle.fp_contest_in.specs.Grammar.{has_lib, has_pin}
use Rattle.fp_contest_in.specs.Printable.{EachIs, IsInstText, IsConnText, IsNetText}
use Rattle.fp_contest_in.specs.PrintedText.{inst_said, conn_said, net_conns, nets_said}
use Rattle.fp_contest_in.specs.NamesLaws.{place_is}

-- ---- instances

lib_named_again : (plan : Plan) (lib : List ℕ) → has_lib plan lib ≡ true → name_at plan.book.names (id_for plan.book lib) ≡ lib
lib_named_again plan lib known = by (place_of lib plan.book.names) refl (and_parts _ _ known).0
  where
    by : (o : Option ℕ) → place_of lib plan.book.names ≡ o → is_some (option_and_then (λ id. lib_in plan.book plan.top.tech.0 id) o) ≡ true → name_at plan.book.names (unwrap_or o (length plan.book.names)) ≡ lib
    by None e there = absurd (let no : false ≡ true = there in cc)
    by (Some p) e there = name_at-place plan.book.names lib p e

pub insts_are_said : (plan : Plan) (before insts : List InstText) → EachIs (IsInstText plan) before insts → map (inst_said plan.book.names) (map (cell_of plan) insts) ≡ insts
insts_are_said plan before [] each = refl
insts_are_said plan before (inst ∷ insts) each =
    (λ i. record { name = inst.name; lib = lib_named_again plan inst.lib each.0.known i } ∷ insts_are_said plan (before ++ inst ∷ []) insts each.1 i)

-- ---- the netlist of a problem

-- a problem of these cells
abbrev pub bare : Plan → List Cell → Netlist
bare plan cells = record { plan = plan; cells = cells; nets = []; conns = [] }

-- the connections of a net, and those of nets that are numbered from a number on
abbrev pub conn_made : Plan → List Cell → ℕ → ConnText → Conn
conn_made plan cells net conn = conn_for (bare plan cells) net conn.inst conn.pin

pub made : Plan → List Cell → ℕ → List NetText → List Conn
made plan cells k [] = []
made plan cells k (net ∷ nets) = map (conn_made plan cells k) net.pins ++ made plan cells (k + 1) nets

conns_made : (p : Netlist) (nets : List NetText) → (with_net_texts p nets).conns ≡ p.conns ++ made p.plan p.cells (length p.nets) nets
unfolding grown made
conns_made p [] = sym (append-nil p.conns)
conns_made p (net ∷ nets) =
    conns_made (with_net_text p net) nets
    ∙ ap (λ (q : Netlist). q.conns ++ made q.plan q.cells (length q.nets) nets) (conns_added (length p.nets) (with_net p net.name) net.pins)
    ∙ ap (λ n. (p.conns ++ map (conn_made p.plan p.cells (length p.nets)) net.pins) ++ made p.plan p.cells n nets) (length-append p.nets (net.name ∷ []))
    ∙ append_assoc p.conns (map (conn_made p.plan p.cells (length p.nets)) net.pins) (made p.plan p.cells (length p.nets + 1) nets)

abbrev pub whole_netlist : ProblemText → Netlist
whole_netlist text = record {
  plan = plan_of text;
  cells = map (cell_of (plan_of text)) text.insts;
  nets = net_name_list text.nets;
  conns = made (plan_of text) (map (cell_of (plan_of text)) text.insts) 0 text.nets;
}

pub cells_are : (text : ProblemText) → cells_of text ≡ bare (plan_of text) (map (cell_of (plan_of text)) text.insts)
cells_are text = insts_added (no_cells (plan_of text)) text.insts

pub netlist_is : (text : ProblemText) → netlist_of text ≡ whole_netlist text
netlist_is text =
    let p = bare (plan_of text) (map (cell_of (plan_of text)) text.insts) in
    ap (λ (q : Netlist). with_net_texts q text.nets) (cells_are text)
    ∙ (λ i. record { plan = plan-with_net_texts p text.nets i; cells = cells-with_net_texts p text.nets i; nets = nets-with_net_texts p text.nets i; conns = conns_made p text.nets i })

-- ---- the connections of one net

abbrev pub of_net : ℕ → Conn → Bool
of_net net conn = conn.net.0 == net

made_here : (plan : Plan) (cells : List Cell) (k : ℕ) (conns : List ConnText) → filter (of_net k) (map (conn_made plan cells k) conns) ≡ map (conn_made plan cells k) conns
made_here plan cells k [] = refl
made_here plan cells k (conn ∷ conns) =
    let rest = filter (of_net k) (map (conn_made plan cells k) conns) in
    ap (λ b. cond b (conn_made plan cells k conn ∷ rest) rest) (eq-eqb k k refl) ∙ ap (λ l. conn_made plan cells k conn ∷ l) (made_here plan cells k conns)

made_there : (plan : Plan) (cells : List Cell) (j k : ℕ) (conns : List ConnText) → nat_eq j k ≡ false → filter (of_net k) (map (conn_made plan cells j) conns) ≡ []
made_there plan cells j k [] other = refl
made_there plan cells j k (conn ∷ conns) other =
    let rest = filter (of_net k) (map (conn_made plan cells j) conns) in
    ap (λ b. cond b (conn_made plan cells j conn ∷ rest) rest) other ∙ made_there plan cells j k conns other

made_later : (plan : Plan) (cells : List Cell) (j k : ℕ) (nets : List NetText) → k < j → filter (of_net k) (made plan cells j nets) ≡ []
unfolding made
made_later plan cells j k [] less = refl
made_later plan cells j k (net ∷ nets) less =
    filter-append (of_net k) (map (conn_made plan cells j) net.pins) (made plan cells (j + 1) nets)
    ∙ (λ i. made_there plan cells j k net.pins (ne_eqb j k (λ same. omega arith)) i ++ made_later plan cells (j + 1) k nets (omega arith) i)

-- no connection is of this net or a later one
abbrev pub Free : ℕ → List Conn → Type 0
Free k conns = (j : ℕ) → k ≤ j → filter (of_net j) conns ≡ []

free_more : (plan : Plan) (cells : List Cell) (k : ℕ) (front : List Conn) (conns : List ConnText) → Free k front → Free (k + 1) (front ++ map (conn_made plan cells k) conns)
free_more plan cells k front conns free j le =
    filter-append (of_net j) front (map (conn_made plan cells k) conns)
    ∙ (λ i. free j (let fits : k ≤ j = omega arith in fits) i ++ made_there plan cells k j conns (ne_eqb k j (λ same. omega arith)) i)

-- ---- pins by their names

abbrev pub Known : Netlist → List ConnText → Type 0
Known p [] = Unit {0}
Known p (conn ∷ conns) = (has_pin p conn.inst conn.pin ≡ true) × Known p conns

abbrev pub AllKnown : Netlist → List NetText → Type 0
AllKnown p [] = Unit {0}
AllKnown p (net ∷ nets) = Known p net.pins × AllKnown p nets

conns_known : (p : Netlist) (before conns : List ConnText) → EachIs (λ before. IsConnText p) before conns → Known p conns
conns_known p before [] each = tt
conns_known p before (conn ∷ conns) each = (each.0.known, conns_known p (before ++ conn ∷ []) conns each.1)

pub nets_known : (p : Netlist) (before nets : List NetText) → EachIs (IsNetText p) before nets → AllKnown p nets
nets_known p before [] each = tt
nets_known p before (net ∷ nets) each = (conns_known p [] net.pins each.0.conns, nets_known p (before ++ net ∷ []) nets each.1)

-- what is known of pins stays with other nets and connections
conns_still_known : (p : Netlist) (names : List (List ℕ)) (all : List Conn) (conns : List ConnText) → Known p conns → Known (record p { nets = names; conns = all }) conns
conns_still_known p names all [] known = tt
conns_still_known p names all (conn ∷ conns) known = (known.0, conns_still_known p names all conns known.1)

pub still_known : (p : Netlist) (names : List (List ℕ)) (all : List Conn) (nets : List NetText) → AllKnown p nets → AllKnown (record p { nets = names; conns = all }) nets
still_known p names all [] known = tt
still_known p names all (net ∷ nets) known = (conns_still_known p names all net.pins known.0, still_known p names all nets known.1)

found_pin : (lib : Option Lib) (pin : List ℕ) → is_some (option_and_then (λ l. place_of pin (pin_names l)) lib) ≡ true
    → (unwrap_or (slice_get (unwrap_or lib no_lib).pins (unwrap_or (option_and_then (λ l. place_of pin (pin_names l)) lib) 0)) no_pin).name ≡ pin
found_pin None pin there = absurd (let no : false ≡ true = there in cc)
found_pin (Some lib) pin there = by (place_of pin (pin_names lib)) refl there
  where
    by : (o : Option ℕ) → place_of pin (pin_names lib) ≡ o → is_some o ≡ true → (unwrap_or (slice_get lib.pins (unwrap_or o 0)) no_pin).name ≡ pin
    by None e there = absurd (let no : false ≡ true = there in cc)
    by (Some k) e there =
        let found = place_is (λ (p : Pin). p.name) pin lib.pins k e in
        ap (λ o. (unwrap_or o no_pin).name) found.1 ∙ found.2

pin_again : (p : Netlist) (net cell : ℕ) (pin : List ℕ) → has_pin p cell pin ≡ true → (pin_on p (conn_for p net cell pin) Top).name ≡ pin
unfolding pin_on lib_on
pin_again p net cell pin known = found_pin (lib_at p (lib_of p cell) Top) pin (and_parts _ _ known).0

conns_again : (p : Netlist) (k : ℕ) (conns : List ConnText) → Known p conns → map (conn_said p) (map (conn_made p.plan p.cells k) conns) ≡ conns
conns_again p k [] known = refl
conns_again p k (conn ∷ conns) known =
    (λ i. record { inst = conn.inst; pin = pin_again p k conn.inst conn.pin known.0 i } ∷ conns_again p k conns known.1 i)

pub nets_are_said : (p : Netlist) (k : ℕ) (front : List Conn) (nets : List NetText) → p.conns ≡ front ++ made p.plan p.cells k nets → Free k front → AllKnown p nets → nets_said p k (net_name_list nets) ≡ nets
unfolding nets_said made
nets_are_said p k front [] all free known = refl
nets_are_said p k front (net ∷ nets) all free known =
    let here = map (conn_made p.plan p.cells k) net.pins in
    let later = made p.plan p.cells (k + 1) nets in
    let mine : net_conns p k ≡ here =
    ap (filter (of_net k)) all ∙ filter-append (of_net k) front (here ++ later)
    ∙ (λ i. free k (omega arith) i ++ filter-append (of_net k) here later i)
    ∙ (λ i. made_here p.plan p.cells k net.pins i ++ made_later p.plan p.cells (k + 1) k nets (omega arith) i)
    ∙ append-nil here in
    let pins : map (conn_said p) (net_conns p k) ≡ net.pins = ap (map (conn_said p)) mine ∙ conns_again p k net.pins known.0 in
    let rest = nets_are_said p (k + 1) (front ++ here) nets (all ∙ sym (append_assoc front here later)) (free_more p.plan p.cells k front net.pins free) known.1 in
    (λ i. record { name = net.name; pins = pins i } ∷ rest i)
