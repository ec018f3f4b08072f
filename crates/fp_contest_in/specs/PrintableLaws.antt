-- What can be printed is what the grammar has, and its canonical text is read as it.
use Rattle.std.proofs.Common.{◌≡◌, ℕ, true, ◌<◌, List, [], length, refl, sym, ap, subst, arith}
use Rattle.std.proofs.lemmas.List.{append-nil, length-map}
use Rattle.fp_text.specs.Words.{Word, words_of, words_from}
use Rattle.fp_text.specs.Numbers.{is_name}
use Rattle.fp_tech.specs.Book.{name_at}
use Rattle.fp_netlist.specs.Netlist.{no_cells, cell_names}
use Rattle.fp_netlist.specs.Netlist.{Cell}
use Rattle.fp_contest_in.specs.Text.{TechText, InstText, ProblemText, inst_name_list, plan_of, cells_of}
use Rattle.fp_contest_in.specs.ProblemLaws.{cell_names-with_inst_texts}
use Rattle.fp_contest_in.specs.Grammar.{AreTechs, AreSections, AreBlockages, AreInsts, AreNets, Reads}
use Rattle.fp_contest_in.specs.PrintedText.{nets_lines, text_lines}
use Rattle.fp_contest_in.specs.Printable.{IsTechText, IsInstText, IsPrintable, ReadsOnly}
use Rattle.fp_contest_in.specs.ReadsLaws.{reads_once}
use Rattle.fp_contest_in.specs.PrintedWordsLaws.{Says, then_says, names_are}
use Rattle.fp_contest_in.specs.PrintedTechWordsLaws.{techs_say, insts_say, techs_are, insts_are}
use Rattle.fp_contest_in.specs.PrintedSectionWordsLaws.{sections_say, blocks_say, setup_is, blocks_are}
use Rattle.fp_contest_in.specs.PrintedNetWordsLaws.{AreNamed, nets_say, nets_are}

-- what the grammar has can be printed
pub text_is_printable : (bytes : List ℕ) (text : ProblemText) → Reads bytes text → IsPrintable text
text_is_printable bytes text is =
    let blocks = blocks_are text.blocks is.after_sections is.after_blocks is.blocks in
    record {
      few_techs = is.techs.count.3.at_most;
      techs = techs_are text.techs (words_of bytes) is.after_techs is.techs;
      setup = setup_is text.techs text.setup is.after_techs is.after_sections is.sections;
      few_blocks = blocks.0;
      blocks = blocks.1;
      top_few = is.top_few;
      bottom_few = is.bottom_few;
      few_insts = is.instances.count.3.at_most;
      insts = insts_are (plan_of text) text.insts is.after_blocks is.after_instances is.instances;
      few_nets = is.nets.count.3.at_most;
      nets = nets_are (cells_of text) text.nets is.after_instances [] is.nets;
    }

-- the words of a problem, before others
record IsWhole (text : ProblemText) (words rest : List Word) : Type 0 where
  after_techs : List Word
  after_sections : List Word
  after_blocks : List Word
  after_instances : List Word
  techs : AreTechs text.techs words after_techs
  sections : AreSections text.techs text.setup after_techs after_sections
  blocks : AreBlockages text.blocks after_sections after_blocks
  instances : AreInsts (plan_of text) text.insts after_blocks after_instances
  nets : AreNets (cells_of text) text.nets after_instances rest

abbrev AreTold : ProblemText → List Word → List Word → Type 0
AreTold text words rest = (mid : List Word) × AreTechs text.techs words mid × AreSections text.techs text.setup mid rest

abbrev IsFront : ProblemText → List Word → List Word → Type 0
IsFront text words rest = (mid : List Word) × AreTold text words mid × AreBlockages text.blocks mid rest

abbrev AreCells : ProblemText → List Word → List Word → Type 0
AreCells text words rest = (mid : List Word) × IsFront text words mid × AreInsts (plan_of text) text.insts mid rest

no_words : (at : ℕ) → words_from at [] ≡ []
unfolding words_from
no_words at = refl

cells_named : (text : ProblemText) → IsPrintable text → AreNamed (cells_of text)
cells_named text is i below =
    let names : cell_names (cells_of text) ≡ inst_name_list text.insts = cell_names-with_inst_texts (no_cells (plan_of text)) text.insts in
    subst (λ (all : List (List ℕ)). is_name (name_at all i) ≡ true) (sym names)
    (names_are (IsInstText (plan_of text)) (λ (inst : InstText). inst.name) (λ before inst is. is.name) [] text.insts is.insts i
    (omega (arith, length-map (cells_of text).cells (λ (cell : Cell). cell.name), ap length names, length-map text.insts (λ (inst : InstText). inst.name))))

-- The canonical text of what can be printed is read as it.
pub printed : (text : ProblemText) → IsPrintable text → Reads (text_lines text) text
printed text is =
    let named = names_are IsTechText (λ (tech : TechText). tech.name) (λ before tech is. is.name) [] text.techs is.techs in
    let tech : text.setup.top.tech.0 < length text.techs = is.setup.top.tech in
    let techs = techs_say text.techs (omega arith) is.few_techs is.techs in
    let sections = sections_say text.techs text.setup named is.setup in
    let blocks = blocks_say text.blocks is.few_blocks is.blocks in
    let insts = insts_say (plan_of text) text.insts is.few_insts is.insts in
    let names : cell_names (cells_of text) ≡ inst_name_list text.insts = cell_names-with_inst_texts (no_cells (plan_of text)) text.insts in
    let nets = subst (λ names. Says (AreNets (cells_of text) text.nets) (nets_lines names text.nets)) names (nets_say (cells_of text) text.nets (cells_named text is) is.few_nets is.nets) in
    let told = then_says {both = AreTold text} techs sections (λ u v w a b. (v, a, b)) in
    let front = then_says {both = IsFront text} told blocks (λ u v w a b. (v, a, b)) in
    let cells = then_says {both = AreCells text} front insts (λ u v w a b. (v, a, b)) in
    let whole = then_says {both = IsWhole text} cells nets
    (λ u v w a b. record {
      after_techs = a.1.1.0;
      after_sections = a.1.0;
      after_blocks = a.0;
      after_instances = v;
      techs = a.1.1.1;
      sections = a.1.1.2;
      blocks = a.1.2;
      instances = a.2;
      nets = b;
    }) in
    let all = whole.said [] 0 in
    let said = subst (λ ws. IsWhole text (words_from 0 (text_lines text)) ws) (no_words all.0) (subst (λ t. IsWhole text (words_from 0 t) (words_from all.0 [])) (append-nil (text_lines text)) all.1) in
    record {
      after_techs = said.after_techs;
      after_sections = said.after_sections;
      after_blocks = said.after_blocks;
      after_instances = said.after_instances;
      techs = said.techs;
      sections = said.sections;
      blocks = said.blocks;
      top_few = is.top_few;
      bottom_few = is.bottom_few;
      instances = said.instances;
      nets = said.nets;
    }

-- and as no other, since bytes say one problem
pub printed_only : (text : ProblemText) → IsPrintable text → ReadsOnly (text_lines text) text
printed_only text is = (printed text is, λ other again. reads_once (text_lines text) other text again (printed text is))
