-- The names of a problem that was read are names.
use Rattle.std.proofs.Common.{◌≡◌, ℕ, true, List, [], ◌∷◌, ◌++◌, Result, Ok, Err, sym, ap, subst, ◌∙◌}
use Rattle.std.specs.Prelude.{IfOk, All}
use Rattle.std.proofs.lemmas.List.Elements.{All-nil, All-cons}
use Rattle.fp_text.specs.Words.{Word}
use Rattle.fp_text.specs.Numbers.{is_name}
use Rattle.fp_text.specs.Items.{Each}
use Rattle.fp_text.specs.declared.fault.TextFault.{TextFault}
use Rattle.fp_tech.specs.Plan.{Plan}
use Rattle.fp_netlist.specs.Netlist.{Netlist, no_cells, cell_names}
use Rattle.fp_contest_in.specs.Text.{InstText, NetText, ProblemText, inst_name_list, net_name_list, plan_of, cells_of, netlist_of}
use Rattle.fp_contest_in.specs.Grammar.{IsNewInst, IsNewNet}
use Rattle.fp_contest_in.specs.Statements.{problem_of, GivesProblem}
use Rattle.fp_contest_in.specs.ProblemLaws.{cell_names-with_inst_texts, nets-with_inst_texts, cells-with_net_texts, nets-with_net_texts}
use Rattle.fp_contest_in.specs.ReadsLaws.{read_is_in}

-- each is a name
abbrev IsNamed : List ℕ → Type 0
IsNamed name = is_name name ≡ true

insts_named : (plan : Plan) (before insts : List InstText) (words rest : List Word) → Each (IsNewInst plan) before insts words rest → All IsNamed (inst_name_list insts)
insts_named plan before [] words rest each = All-nil IsNamed
insts_named plan before (inst ∷ insts) words rest each =
    All-cons IsNamed inst.name (inst_name_list insts) each.1.0.name.3 (insts_named plan (before ++ inst ∷ []) insts each.0 rest each.2)

nets_named : (p : Netlist) (before nets : List NetText) (words rest : List Word) → Each (IsNewNet p) before nets words rest → All IsNamed (net_name_list nets)
nets_named p before [] words rest each = All-nil IsNamed
nets_named p before (net ∷ nets) words rest each =
    All-cons IsNamed net.name (net_name_list nets) each.1.0.name.3 (nets_named p (before ++ net ∷ []) nets each.0 rest each.2)

-- a netlist has the text's names
cell_names_are : (text : ProblemText) → cell_names (netlist_of text) ≡ inst_name_list text.insts
cell_names_are text =
    ap (λ cells. cell_names (record (netlist_of text) { cells = cells })) (cells-with_net_texts (cells_of text) text.nets) ∙ cell_names-with_inst_texts (no_cells (plan_of text)) text.insts

net_names_are : (text : ProblemText) → (netlist_of text).nets ≡ net_name_list text.nets
net_names_are text =
    nets-with_net_texts (cells_of text) text.nets ∙ ap (λ (names : List (List ℕ)). names ++ net_name_list text.nets) (nets-with_inst_texts (no_cells (plan_of text)) text.insts)

pub gives_names : (bytes : List ℕ) (result : Result Netlist TextFault) → GivesProblem result (problem_of bytes)
    → IfOk result (λ p. All IsNamed (cell_names p) × All IsNamed p.nets)
gives_names bytes (Ok p) gives =
    let reads = read_is_in bytes gives.0 gives.1 in
    let cells = insts_named (plan_of gives.0) [] gives.0.insts reads.instances.after_count reads.after_instances reads.instances.items in
    let nets = nets_named (cells_of gives.0) [] gives.0.nets reads.nets.after_count [] reads.nets.items in (
      subst (All IsNamed) (sym (ap cell_names gives.2 ∙ cell_names_are gives.0)) cells,
      subst (All IsNamed) (sym (ap (λ (q : Netlist). q.nets) gives.2 ∙ net_names_are gives.0)) nets,
    )
gives_names bytes (Err e) gives = tt
