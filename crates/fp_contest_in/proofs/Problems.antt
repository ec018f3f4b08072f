-- From what was read to the netlist that it describes.
use Rattle.std.proofs.Common.{◌≡◌, ℕ, List, [], Result, Ok, Err, refl, sym, ap, subst, ◌∙◌}
use Rattle.std.specs.Prelude.{IfOk}
use Rattle.fp_text.specs.Reading.{Left, fault, end_next, GivesFault, Ends}
use Rattle.fp_text.specs.declared.fault.TextFault.{TextFault}
use Rattle.fp_text.specs.declared.fault.TextFault.TheVariants.{Wrong, Memory}
use Rattle.fp_tech.specs.Plan.{Plan}
use Rattle.fp_netlist.specs.Netlist.{Netlist, no_cells}
use Rattle.fp_contest_in.specs.Text.{InstText, NetText, ProblemText, plan_of, with_inst_texts, with_net_texts, netlist_of}
use Rattle.fp_contest_in.specs.Grammar.{Reads}
use Rattle.fp_contest_in.specs.Statements.{front_next, insts_next, nets_next, netlist_next, problem_next, problem_of, GivesProblem}
use Rattle.fp_contest_in.specs.ProblemLaws.{nets-with_inst_texts, conns-with_inst_texts}
use Rattle.fp_contest_in.specs.Given.{GivesNetlist}
use Rattle.fp_contest_in.specs.ReadsLaws.{read_is_in, is_in_read}

-- ---- the instances, the nets and the end

pub nothing_there : (p : Netlist) → p ≡ no_cells p.plan → (p.cells ≡ []) × (p.nets ≡ []) × (p.conns ≡ [])
nothing_there p is = (ap (λ (q : Netlist). q.cells) is, ap (λ (q : Netlist). q.nets) is, ap (λ (q : Netlist). q.conns) is)

-- the instances were read into a problem that has none
abbrev pub InstsRead : Netlist → Netlist → Left → Left → Type 0
InstsRead old new l after = (items : List InstText) × (insts_next old.plan l ≡ Ok (items, after)) × (new ≡ with_inst_texts old items)

pub still_none : (old new : Netlist) (l after : Left) → old ≡ no_cells old.plan → InstsRead old new l after → (new.nets ≡ []) × (new.conns ≡ [])
still_none old new l after is insts =
    let none = nothing_there old is in (
      ap (λ (q : Netlist). q.nets) insts.2 ∙ nets-with_inst_texts old insts.0 ∙ none.1,
      ap (λ (q : Netlist). q.conns) insts.2 ∙ conns-with_inst_texts old insts.0 ∙ none.2,
    )

pub insts_fail : (e : TextFault) (plan : Plan) (l : Left) → GivesFault e (insts_next plan l) → GivesFault e (netlist_next plan l)
unfolding netlist_next
insts_fail Memory plan l fails = tt
insts_fail (Wrong at kind) plan l fails = rw fails refl

-- the problem that the nets are read into is that of the instances
insts_value : (old new : Netlist) (l after : Left) → old ≡ no_cells old.plan → (insts : InstsRead old new l after) → new ≡ with_inst_texts (no_cells old.plan) insts.0
insts_value old new l after is insts = insts.2 ∙ ap (λ (p : Netlist). with_inst_texts p insts.0) is

pub nets_fail : (e : TextFault) (old new : Netlist) (l mid : Left) → old ≡ no_cells old.plan → InstsRead old new l mid → GivesFault e (nets_next new mid) → GivesFault e (netlist_next old.plan l)
unfolding netlist_next
nets_fail Memory old new l mid is insts fails = tt
nets_fail (Wrong at kind) old new l mid is insts fails =
    let gone : nets_next (with_inst_texts (no_cells old.plan) insts.0) mid ≡ fault at kind = ap (λ (p : Netlist). nets_next p mid) (sym (insts_value old new l mid is insts)) ∙ fails in
    rw (insts.1, gone) refl

pub netlist_done : {U : Type 0} (result : Result U TextFault) (old mid new : Netlist) (l l_2 l_3 after : Left) → old ≡ no_cells old.plan → InstsRead old mid l l_2
    → (nets : List NetText) × (nets_next mid l_2 ≡ Ok (nets, l_3)) × (new ≡ with_net_texts mid nets) → Ends result after (end_next l_3) → GivesNetlist old.plan result new (netlist_next old.plan l)
unfolding netlist_next
netlist_done (Err Memory) old mid new l l_2 l_3 after is insts nets ends = tt
netlist_done (Err (Wrong at kind)) old mid new l l_2 l_3 after is insts nets ends =
    let read : nets_next (with_inst_texts (no_cells old.plan) insts.0) l_2 ≡ Ok (nets.0, l_3) = ap (λ (p : Netlist). nets_next p l_2) (sym (insts_value old mid l l_2 is insts)) ∙ nets.1 in
    rw (insts.1, read, ends) refl
netlist_done (Ok done) old mid new l l_2 l_3 after is insts nets ends =
    let value = insts_value old mid l l_2 is insts in
    let read : nets_next (with_inst_texts (no_cells old.plan) insts.0) l_2 ≡ Ok (nets.0, l_3) = ap (λ (p : Netlist). nets_next p l_2) (sym value) ∙ nets.1 in
    (insts.0, nets.0, rw (insts.1, read, ends) refl, nets.2 ∙ ap (λ (p : Netlist). with_net_texts p nets.0) value)

-- ---- the whole file

-- the technologies and the sections were read
abbrev pub FrontRead : Left → Left → Plan → Type 0
FrontRead l mid plan = (text : ProblemText) × (front_next l ≡ Ok (text, mid)) × (plan ≡ plan_of text)

pub front_fails : (e : TextFault) (l : Left) → GivesFault e (front_next l) → GivesFault e (problem_next l)
unfolding problem_next
front_fails Memory l fails = tt
front_fails (Wrong at kind) l fails = rw fails refl

pub netlist_fails : (e : TextFault) (l mid : Left) (plan : Plan) (old : Netlist) → FrontRead l mid plan → old ≡ no_cells plan → GivesFault e (netlist_next old.plan mid) → GivesFault e (problem_next l)
unfolding problem_next
netlist_fails Memory l mid plan old front is fails = tt
netlist_fails (Wrong at kind) l mid plan old front is fails =
    let same : old.plan ≡ plan_of front.0 = ap (λ (p : Netlist). p.plan) is ∙ front.2 in
    let gone : netlist_next (plan_of front.0) mid ≡ fault at kind = ap (λ (q : Plan). netlist_next q mid) (sym same) ∙ fails in
    rw (front.1, gone) refl

pub all_read : (l mid : Left) (plan : Plan) (old new : Netlist) → FrontRead l mid plan → old ≡ no_cells plan
    → (insts : List InstText) × (nets : List NetText) × (netlist_next old.plan mid ≡ Ok (insts, nets)) × (new ≡ with_net_texts (with_inst_texts (no_cells old.plan) insts) nets)
    → (text : ProblemText) × (problem_next l ≡ Ok text) × (new ≡ netlist_of text)
unfolding problem_next
all_read l mid plan old new front is cells =
    let same : old.plan ≡ plan_of front.0 = ap (λ (p : Netlist). p.plan) is ∙ front.2 in
    let read : netlist_next (plan_of front.0) mid ≡ Ok (cells.0, cells.1) = ap (λ (q : Plan). netlist_next q mid) (sym same) ∙ cells.2 in (
      record front.0 { insts = cells.0; nets = cells.1 },
      rw (front.1, read) refl,
      cells.3 ∙ ap (λ (q : Plan). with_net_texts (with_inst_texts (no_cells q) cells.0) cells.1) same,
    )

-- what was read is in the grammar
pub gives_reads : (bytes : List ℕ) (result : Result Netlist TextFault) → GivesProblem result (problem_of bytes) → IfOk result (λ p. (text : ProblemText) × Reads bytes text × (p ≡ netlist_of text))
gives_reads bytes (Ok p) gives = (gives.0, read_is_in bytes gives.0 gives.1, gives.2)
gives_reads bytes (Err e) gives = tt

-- what is in the grammar is read
pub gives_only : (bytes : List ℕ) (result : Result Netlist TextFault) (text : ProblemText) → Reads bytes text → GivesProblem result (problem_of bytes) → GivesProblem result (Ok text)
gives_only bytes result text reads gives = subst (λ read. GivesProblem result read) (is_in_read bytes text reads) gives
