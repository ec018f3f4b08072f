-- The whole file: what is read is in the grammar, and what is in the grammar is read.
use Rattle.std.proofs.Common.{◌≡◌, ℕ, true, false, ◌&&◌, List, [], ◌∷◌, ◌++◌, Option, Some, None, Ok, refl, sym, ap, subst, ◌∙◌, arith, inl, inr}
use Rattle.std.specs.Prelude.{◌↔◌, codes, is_some, unwrap_or}
use Rattle.std.proofs.lemmas.Bool.{and_parts}
use Rattle.std.proofs.lemmas.List.{map_push}
use Rattle.fp_base.specs.declared.ids.Die.TheVariants.{Top, Bottom}
use Rattle.fp_text.specs.Words.{Word, words_of}
use Rattle.fp_text.specs.Reading.{Left, begins, whole, end_next}
use Rattle.fp_text.specs.Items.{Each}
use Rattle.fp_text.specs.ReadingLaws.{left_of, bind_ok, cond_ok, ok_is, end_ok, end_again}
use Rattle.fp_text.specs.declared.fault.Kind.TheVariants as kinds
use Rattle.fp_tech.specs.declared.dies.Block.{Block}
use Rattle.fp_tech.specs.Plan.{Plan, rows_lie, has_few}
use Rattle.fp_netlist.specs.Netlist.{no_cells}
use Rattle.fp_contest_in.specs.declared.section.Section.TheVariants.{TerminalCost}
use Rattle.fp_contest_in.specs.declared.section.Found.{Found}
use Rattle.fp_contest_in.specs.declared.section.Setup.{Setup}
use Rattle.fp_contest_in.specs.Text.{TechText, InstText, NetText, ProblemText, tech_name_list, inst_name_list, plan_of, with_inst_texts, cells_of}
use Rattle.fp_contest_in.specs.ProblemLaws.{cell_names-with_inst_texts}
use Rattle.fp_contest_in.specs.Grammar.{keyword_of, AreTechs, AreSections, AreBlockages, AreInsts, AreNets, IsProblem, IsNewTech, IsNewInst, Reads}
use Rattle.fp_contest_in.specs.Statements.{techs_next, sections_next, rows_checked, cost_next, all_sections_next, blocks_next, front_of, few_checked, front_next, none_found, setup_of, insts_next, nets_next, netlist_next, problem_next, problem_of, has_section}
use Rattle.fp_contest_in.specs.Ranges.{HasRowsInFrame}
use Rattle.fp_contest_in.specs.TechsLaws.{techs_ok, techs_again}
use Rattle.fp_contest_in.specs.BlocksLaws.{begins_other, blocks_ok, blocks_again}
use Rattle.fp_contest_in.specs.InstsLaws.{insts_ok, insts_again}
use Rattle.fp_contest_in.specs.NetsLaws.{nets_ok, nets_again}
use Rattle.fp_contest_in.specs.BitsLaws.{nine_has}
use Rattle.fp_contest_in.specs.NamesLaws.{AreNew}
use Rattle.fp_contest_in.specs.FieldsAgainLaws.{Agrees, dies_are, setup_is}
use Rattle.fp_contest_in.specs.SectionsLaws.{sections_ok, cost_ok, sections_again, cost_again, none_read}
use Rattle.fp_contest_in.specs.KeptLaws.{sections_complete, complete_kept, complete_nine, cost_keeps, rows_ok, rows_kept}

-- technologies that stand one after the other have distinct names
each_new : (before techs : List TechText) (words rest : List Word) → Each IsNewTech before techs words rest → AreNew (tech_name_list before) (tech_name_list techs)
each_new before [] words rest each = tt
each_new before (tech ∷ techs) words rest each =
    (each.1.1, subst (λ (names : List (List ℕ)). AreNew names (tech_name_list techs)) (map_push (λ (t : TechText). t.name) before tech) (each_new (before ++ tech ∷ []) techs each.0 rest each.2))

-- ---- the sections

none_agree : {setup : Setup} → Agrees setup none_found
none_agree = record { frame = tt; top_percent = tt; bottom_percent = tt; top_rows = tt; bottom_rows = tt; top_tech = tt; bottom_tech = tt; size = tt; spacing = tt; cost = tt }

-- a cost that was not told is 0
cost_untold : (found : Found) → has_section found TerminalCost ≡ false → (setup_of found).terminal.cost ≡ 0
cost_untold found none = by found.cost none
  where
    by : (o : Option ℕ) → is_some o ≡ false → unwrap_or o 0 ≡ 0
    by None e = refl
    by (Some n) e = absurd cc

all_sections_ok : (techs : List TechText) (l : Left) (f : Found) (r : Left) → all_sections_next (tech_name_list techs) l ≡ Ok (f, r) → AreSections techs (setup_of f) l.words r.words × (r.bytes ≡ l.bytes)
unfolding all_sections_next
all_sections_ok techs l f r e =
    let n = bind_ok (sections_next (tech_name_list techs) 10 none_found l) _ _ e in
    let c = bind_ok (rows_checked n.0.0 n.0.1) _ _ n.2 in
    let rows = rows_ok n.0.0 n.0.1 c.0.0 c.0.1 c.1 in
    let cost : cost_next (tech_name_list techs) n.0.0 n.0.1 ≡ Ok (f, r) = ap (λ (p : Found × Left). cost_next (tech_name_list techs) p.0 p.1) rows.0 ∙ c.2 in
    let taken = sections_ok techs 10 [] none_found l n.0.0 n.0.1 f r (λ section. sym (none_read section)) n.1 (cost_ok techs n.0.0 n.0.1 f r cost) in
    let complete = sections_complete (tech_name_list techs) n.0.0 l n.0.1 n.1 in
    let keeps = cost_keeps (tech_name_list techs) n.0.0 n.0.1 f r cost in
    let lie = rows_kept n.0.0 f complete keeps rows.1 in
    let nine = complete_nine f (complete_kept n.0.0 f complete keeps) in (
      record {
        order = taken.order;
        each = taken.each;
        nine = λ section needed. taken.are section ∙ nine section needed;
        no_cost = λ none. cost_untold f (sym (taken.are TerminalCost) ∙ none);
        top_lies = lie.top;
        bottom_lies = lie.bottom;
      },
      taken.same,
    )

-- sections that are spelled are read
record AllRead (names : List (List ℕ)) (setup : Setup) (l : Left) (rest : List Word) : Type 0 where
  found : Found
  read : all_sections_next names l ≡ Ok (found, left_of l rest)
  is : setup_of found ≡ setup

rows_again : (found : Found) (l : Left) → HasRowsInFrame found → rows_checked found l ≡ Ok (found, l)
unfolding rows_checked
rows_again found l lie = rw (lie.top, lie.bottom) refl

all_sections_again : (techs : List TechText) (setup : Setup) (l : Left) (rest : List Word) → AreNew [] (tech_name_list techs) → begins (keyword_of TerminalCost) (left_of l rest) ≡ false
    → AreSections techs setup l.words rest → AllRead (tech_name_list techs) setup l rest
unfolding all_sections_next
all_sections_again techs setup l rest new other sections =
    let n = sections_again techs setup 10 sections.order [] none_found l sections.order rest new sections.nine (omega arith) (λ section. sym (none_read section)) none_agree refl sections.each in
    let dies = dies_are setup n.found_then (nine_has n.found_then n.nine) n.agrees in
    let lie : HasRowsInFrame n.found_then = record {
      top = (λ i. rows_lie (dies.frame i) (dies.top i)) ∙ sections.top_lies;
      bottom = (λ i. rows_lie (dies.frame i) (dies.bottom i)) ∙ sections.bottom_lies;
    } in
    let checked = rows_again n.found_then (left_of l n.words) lie in
    let c = cost_again techs setup n.others n.before n.found_then (left_of l n.words) sections.order rest new n.nine n.are n.agrees n.whole other n.each in
    record {
      found = c.found_then;
      read = rw (n.read, checked) c.read;
      is = setup_is setup c.found_then (nine_has c.found_then c.nine) (λ none. sections.no_cost (c.are TerminalCost ∙ none)) c.agrees;
    }

-- ---- technologies, sections and blockages

-- a problem without its instances and nets
abbrev bare : ProblemText → ProblemText
bare text = record text { insts = []; nets = [] }

pub record FrontTaken (l : Left) (text : ProblemText) (r : Left) : Type 0 where
  pub after_techs : List Word
  pub after_sections : List Word
  pub techs : AreTechs text.techs l.words after_techs
  pub sections : AreSections text.techs text.setup after_techs after_sections
  pub blocks : AreBlockages text.blocks after_sections r.words
  pub top_few : has_few (plan_of text) Top ≡ true
  pub bottom_few : has_few (plan_of text) Bottom ≡ true
  pub same : r.bytes ≡ l.bytes

few_ok : (at : ℕ) (text : ProblemText) (l : Left) (t : ProblemText) (r : Left) → few_checked at text l ≡ Ok (t, r)
    → ◌≡◌ {A = ProblemText × Left} (text, l) (t, r) × (has_few (plan_of text) Top ≡ true) × (has_few (plan_of text) Bottom ≡ true)
unfolding few_checked
few_ok at text l t r e =
    let c = cond_ok (has_few (plan_of text) Top && has_few (plan_of text) Bottom) (Ok (text, l)) (record { at = at; kind = kinds.Limit }) (t, r) e in
    let parts = and_parts (has_few (plan_of text) Top) (has_few (plan_of text) Bottom) c.0 in
    (ok_is {A = ProblemText × Left} (text, l) (t, r) c.1, parts.0, parts.1)

few_again : (at : ℕ) (text : ProblemText) (l : Left) → has_few (plan_of text) Top ≡ true → has_few (plan_of text) Bottom ≡ true → few_checked at text l ≡ Ok (text, l)
unfolding few_checked
few_again at text l top bottom = rw (top, bottom) refl

front_ok : (l : Left) (text : ProblemText) (r : Left) → front_next l ≡ Ok (text, r) → FrontTaken l text r
unfolding front_next
front_ok l text r e =
    let t = bind_ok (techs_next l) _ _ e in
    let s = bind_ok (all_sections_next (tech_name_list t.0.0) t.0.1) _ _ t.2 in
    let b = bind_ok (blocks_next s.0.1) _ _ s.2 in
    let techs = techs_ok l t.0.0 t.0.1 t.1 in
    let sections = all_sections_ok t.0.0 t.0.1 s.0.0 s.0.1 s.1 in
    let blocks = blocks_ok s.0.1 b.0.0.0 b.0.0.1 b.0.1 b.1 in
    let few = few_ok b.0.0.0 (front_of t.0.0 s.0.0 b.0.0.1) b.0.1 text r b.2 in
    subst (λ (p : ProblemText × Left). FrontTaken l p.0 p.1) few.0 (record {
      after_techs = t.0.1.words;
      after_sections = s.0.1.words;
      techs = techs.0;
      sections = sections.0;
      blocks = blocks.0;
      top_few = few.1;
      bottom_few = few.2;
      same = blocks.1 ∙ sections.1 ∙ techs.1;
    })

-- the words behind the front begin no cost and no blockages
record IsBehind (l : Left) : Type 0 where
  cost : begins (keyword_of TerminalCost) l ≡ false
  blocks : begins (codes "NumBlockages") l ≡ false

insts_behind : (plan : Plan) (insts : List InstText) (l : Left) (rest : List Word) → AreInsts plan insts l.words rest → IsBehind l
insts_behind plan insts l rest p = record {
  cost = begins_other (keyword_of TerminalCost) (codes "NumInstances") l p.after_keyword p.keyword refl;
  blocks = begins_other (codes "NumBlockages") (codes "NumInstances") l p.after_keyword p.keyword refl;
}

-- behind the sections stand the blockages, or what stands behind them
no_cost_behind : (blocks : List Block) (l : Left) (rest : List Word) → AreBlockages blocks l.words rest → IsBehind (left_of l rest) → begins (keyword_of TerminalCost) l ≡ false
no_cost_behind blocks l rest (inl p) behind = begins_other (keyword_of TerminalCost) (codes "NumBlockages") l p.after_keyword p.keyword refl
no_cost_behind blocks l rest (inr p) behind = subst (λ (ws : List Word). begins (keyword_of TerminalCost) (left_of l ws) ≡ false) (sym p.1) behind.cost

front_again : (l : Left) (text : ProblemText) (after_techs after_sections rest : List Word) → AreTechs text.techs l.words after_techs → AreSections text.techs text.setup after_techs after_sections
    → AreBlockages text.blocks after_sections rest → has_few (plan_of text) Top ≡ true → has_few (plan_of text) Bottom ≡ true → IsBehind (left_of l rest)
    → front_next l ≡ Ok (bare text, left_of l rest)
unfolding front_next
front_again l text after_techs after_sections rest techs sections blocks top bottom behind =
    let t = techs_again l text.techs after_techs techs in
    let other = no_cost_behind text.blocks (left_of l after_sections) rest blocks behind in
    let s = all_sections_again text.techs text.setup (left_of l after_techs) after_sections (each_new [] text.techs techs.after_count after_techs techs.items) other sections in
    let b = blocks_again (left_of l after_sections) text.blocks rest behind.blocks blocks in
    let few = few_again b.at (bare text) (left_of l rest) top bottom in
    rw (t, s.read, b.read, s.is, few) refl

-- ---- the file

-- instances that stand one after the other have distinct names
insts_new : (plan : Plan) (before insts : List InstText) (words rest : List Word) → Each (IsNewInst plan) before insts words rest → AreNew (inst_name_list before) (inst_name_list insts)
insts_new plan before [] words rest each = tt
insts_new plan before (inst ∷ insts) words rest each =
    (each.1.1, subst (λ (names : List (List ℕ)). AreNew names (inst_name_list insts)) (map_push (λ (i : InstText). i.name) before inst) (insts_new plan (before ++ inst ∷ []) insts each.0 rest each.2))

netlist_ok : (text : ProblemText) (l : Left) (insts : List InstText) (nets : List NetText) → netlist_next (plan_of text) l ≡ Ok (insts, nets)
    → (mid : List Word) × AreInsts (plan_of text) insts l.words mid × AreNets (with_inst_texts (no_cells (plan_of text)) insts) nets mid []
unfolding netlist_next
netlist_ok text l insts nets e =
    let i = bind_ok (insts_next (plan_of text) l) _ _ e in
    let p = with_inst_texts (no_cells (plan_of text)) i.0.0 in
    let n = bind_ok (nets_next p i.0.1) _ _ i.2 in
    let t = bind_ok (end_next n.0.1) _ _ n.2 in
    let are_insts = insts_ok (plan_of text) l i.0.0 i.0.1 i.1 in
    let are_nets = nets_ok p i.0.1 n.0.0 n.0.1 n.1 in
    let no_more = end_ok n.0.1 t.0 t.1 in
    let same = ok_is {A = List InstText × List NetText} (i.0.0, n.0.0) (insts, nets) t.2 in
    subst (λ (c : List InstText × List NetText). (mid : List Word) × AreInsts (plan_of text) c.0 l.words mid × AreNets (with_inst_texts (no_cells (plan_of text)) c.0) c.1 mid []) same
    (i.0.1.words, are_insts.0, subst (λ (ws : List Word). AreNets p n.0.0 i.0.1.words ws) no_more.0 are_nets.0)

netlist_again : (text : ProblemText) (l : Left) (mid : List Word) → AreInsts (plan_of text) text.insts l.words mid → AreNets (cells_of text) text.nets mid [] → netlist_next (plan_of text) l ≡ Ok (text.insts, text.nets)
unfolding netlist_next
netlist_again text l mid are_insts are_nets =
    let insts = insts_again (plan_of text) l text.insts mid are_insts in
    let apart = subst (AreNew []) (sym (cell_names-with_inst_texts (no_cells (plan_of text)) text.insts))
    (insts_new (plan_of text) [] text.insts are_insts.after_count mid are_insts.items) in
    let nets = nets_again (cells_of text) apart (left_of l mid) text.nets [] are_nets in
    rw (insts, nets, end_again (left_of l []) refl) refl

pub read_is_in : (bytes : List ℕ) (text : ProblemText) → problem_of bytes ≡ Ok text → Reads bytes text
unfolding problem_next
read_is_in bytes text e =
    let f = bind_ok (front_next (whole bytes)) _ _ e in
    let c = bind_ok (netlist_next (plan_of f.0.0) f.0.1) _ _ f.2 in
    let front = front_ok (whole bytes) f.0.0 f.0.1 f.1 in
    let cells = netlist_ok f.0.0 f.0.1 c.0.0 c.0.1 c.1 in
    let same = ok_is (record f.0.0 { insts = c.0.0; nets = c.0.1 }) text c.2 in
    subst (λ (t : ProblemText). IsProblem t (words_of bytes)) same (record {
      after_techs = front.after_techs;
      after_sections = front.after_sections;
      after_blocks = f.0.1.words;
      after_instances = cells.0;
      techs = front.techs;
      sections = front.sections;
      blocks = front.blocks;
      top_few = front.top_few;
      bottom_few = front.bottom_few;
      instances = cells.1;
      nets = cells.2;
    })

pub is_in_read : (bytes : List ℕ) (text : ProblemText) → Reads bytes text → problem_of bytes ≡ Ok text
unfolding problem_next
is_in_read bytes text p =
    let behind = insts_behind (plan_of text) text.insts (left_of (whole bytes) p.after_blocks) p.after_instances p.instances in
    let front = front_again (whole bytes) text p.after_techs p.after_sections p.after_blocks p.techs p.sections p.blocks p.top_few p.bottom_few behind in
    let cells = netlist_again text (left_of (whole bytes) p.after_blocks) p.after_instances p.instances p.nets in
    rw (front, cells) refl

-- the grammar and the reading from left to right agree
pub reads_agree : (bytes : List ℕ) (text : ProblemText) → Reads bytes text ↔ (problem_of bytes ≡ Ok text)
reads_agree bytes text = (is_in_read bytes text, read_is_in bytes text)

-- a file says one problem
pub reads_once : (bytes : List ℕ) (a b : ProblemText) → Reads bytes a → Reads bytes b → a ≡ b
reads_once bytes a b one other = ok_is a b (sym (is_in_read bytes a one) ∙ is_in_read bytes b other)
