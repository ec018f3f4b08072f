-- The canonical text of an input file: one statement a line, single spaces, a line feed behind each line, plain decimal
-- numbers, and the sections in the usual order.
use Rattle.std.specs.Prelude.{ℕ, ◌+◌, ◌==◌, if◌then◌else◌, List, [], ◌∷◌, ◌++◌, length, map, filter, flat_map, codes, decimal}
use Rattle.fp_base.specs.declared.ids.Die.TheVariants.{Top, Bottom}
use Rattle.fp_tech.specs.declared.dies.Block.{Block}
use Rattle.fp_tech.specs.Book.{Pin, Lib, Tech, name_at}
use Rattle.fp_tech.specs.Plan.{Plan}
use Rattle.fp_netlist.specs.declared.problem.Conn.{Conn}
use Rattle.fp_netlist.specs.Netlist.{Cell, Netlist}
use Rattle.fp_netlist.specs.Points.{pin_on}
use Rattle.fp_contest_in.specs.declared.section.Section.{Section}
use Rattle.fp_contest_in.specs.declared.section.Section.TheVariants.{DieSize, MaxUtil, Rows, Tech as TechName, TerminalSize, TerminalSpacing, TerminalCost}
use Rattle.fp_contest_in.specs.declared.section.Setup.{Setup}
use Rattle.fp_contest_in.specs.Text.{LibText, TechText, InstText, ConnText, NetText, ProblemText, inst_name_list, tech_name_list}
use Rattle.fp_contest_in.specs.Grammar.{die_of, die_word, keyword_of, slash}

-- a word behind a space, and a line of words
abbrev pub spaced : List ℕ → List ℕ
spaced word = codes " " ++ word

abbrev pub line : List ℕ → List (List ℕ) → List ℕ
line first others = first ++ flat_map spaced others ++ codes "\n"

abbrev pub numbers : List ℕ → List (List ℕ)
numbers ns = map decimal ns

-- ---- the text of a problem

abbrev pub pin_line : Pin → List ℕ
pin_line pin = line (codes "Pin") (pin.name ∷ numbers (pin.x ∷ pin.y ∷ []))

abbrev pub pin_lines : List Pin → List ℕ
pin_lines pins = flat_map pin_line pins

abbrev pub lib_lines : LibText → List ℕ
lib_lines lib = line (codes "LibCell") (lib.name ∷ numbers (lib.width ∷ lib.height ∷ length lib.pins ∷ [])) ++ pin_lines lib.pins

abbrev pub libs_lines : List LibText → List ℕ
libs_lines libs = flat_map lib_lines libs

abbrev pub tech_lines : TechText → List ℕ
tech_lines tech = line (codes "Tech") (tech.name ∷ numbers (length tech.libs ∷ [])) ++ libs_lines tech.libs

abbrev pub techs_lines : List TechText → List ℕ
techs_lines techs = line (codes "NumTechnologies") (numbers (length techs ∷ [])) ++ flat_map tech_lines techs

-- the fields of a section; a die's technology is given by its name
abbrev pub section_fields : List (List ℕ) → Setup → Section → List (List ℕ)
section_fields techs setup DieSize = numbers (setup.frame.llx ∷ setup.frame.lly ∷ setup.frame.urx ∷ setup.frame.ury ∷ [])
section_fields techs setup (MaxUtil die) = numbers ((die_of setup die).percent ∷ [])
section_fields techs setup (Rows die) =
    numbers ((die_of setup die).start_x ∷ (die_of setup die).start_y ∷ (die_of setup die).length ∷ (die_of setup die).height ∷ (die_of setup die).repeat ∷ [])
section_fields techs setup (TechName die) = name_at techs (die_of setup die).tech.0 ∷ []
section_fields techs setup TerminalSize = numbers (setup.terminal.size_x ∷ setup.terminal.size_y ∷ [])
section_fields techs setup TerminalSpacing = numbers (setup.terminal.spacing ∷ [])
section_fields techs setup TerminalCost = numbers (setup.terminal.cost ∷ [])

abbrev pub section_line : List (List ℕ) → Setup → Section → List ℕ
section_line techs setup section = line (keyword_of section) (section_fields techs setup section)

abbrev pub usual_order : List Section
usual_order = DieSize ∷ MaxUtil Top ∷ MaxUtil Bottom ∷ Rows Top ∷ Rows Bottom ∷ TechName Top ∷ TechName Bottom ∷ TerminalSize ∷ TerminalSpacing ∷ []

-- a cost of 0 is not told
abbrev pub order_of : Setup → List Section
order_of setup = if setup.terminal.cost == 0 then usual_order else usual_order ++ TerminalCost ∷ []

abbrev pub sections_lines : List (List ℕ) → Setup → List ℕ
sections_lines techs setup = flat_map (section_line techs setup) (order_of setup)

abbrev pub block_line : Block → List ℕ
block_line block = line (codes "Blockage") (die_word block.die ∷ numbers (block.llx ∷ block.lly ∷ block.urx ∷ block.ury ∷ []))

abbrev pub listed_blocks_lines : List Block → List ℕ
listed_blocks_lines blocks = line (codes "NumBlockages") (numbers (length blocks ∷ [])) ++ flat_map block_line blocks

-- the blockages, where there is one
abbrev pub blocks_lines : List Block → List ℕ
blocks_lines [] = []
blocks_lines (block ∷ blocks) = listed_blocks_lines (block ∷ blocks)

abbrev pub inst_line : InstText → List ℕ
inst_line inst = line (codes "Inst") (inst.name ∷ inst.lib ∷ [])

abbrev pub insts_lines : List InstText → List ℕ
insts_lines insts = line (codes "NumInstances") (numbers (length insts ∷ [])) ++ flat_map inst_line insts

-- a pin of an instance of these names
abbrev pub conn_line : List (List ℕ) → ConnText → List ℕ
conn_line insts conn = line (codes "Pin") ((name_at insts conn.inst ++ slash ∷ conn.pin) ∷ [])

abbrev pub conn_lines : List (List ℕ) → List ConnText → List ℕ
conn_lines insts conns = flat_map (conn_line insts) conns

abbrev pub net_lines : List (List ℕ) → NetText → List ℕ
net_lines insts net = line (codes "Net") (net.name ∷ numbers (length net.pins ∷ [])) ++ conn_lines insts net.pins

abbrev pub nets_lines : List (List ℕ) → List NetText → List ℕ
nets_lines insts nets = line (codes "NumNets") (numbers (length nets ∷ [])) ++ flat_map (net_lines insts) nets

abbrev pub text_lines : ProblemText → List ℕ
text_lines text =
    techs_lines text.techs ++ sections_lines (tech_name_list text.techs) text.setup ++ blocks_lines text.blocks ++ insts_lines text.insts ++ nets_lines (inst_name_list text.insts) text.nets

-- ---- what a netlist says

abbrev pub lib_said : List (List ℕ) → Lib → LibText
lib_said names lib = record { name = name_at names lib.id; width = lib.width; height = lib.height; pins = lib.pins }

abbrev pub tech_said : List (List ℕ) → Tech → TechText
tech_said names tech = record { name = tech.name; libs = map (lib_said names) tech.libs }

abbrev pub setup_said : Plan → Setup
setup_said plan = record { frame = plan.frame; top = plan.top; bottom = plan.bottom; terminal = plan.terminal }

abbrev pub inst_said : List (List ℕ) → Cell → InstText
inst_said names cell = record { name = cell.name; lib = name_at names cell.lib }

-- a connection, by the name of its pin, which is the same in the technologies of both dies
abbrev pub conn_said : Netlist → Conn → ConnText
conn_said p conn = record { inst = conn.cell.0; pin = (pin_on p conn Top).name }

-- the connections of a net, in file order
abbrev pub net_conns : Netlist → ℕ → List Conn
net_conns p net = filter (λ conn. conn.net.0 == net) p.conns

abbrev pub net_said : Netlist → ℕ → List ℕ → NetText
net_said p net name = record { name = name; pins = map (conn_said p) (net_conns p net) }

-- nets of these names, numbered from a number on
unfoldable pub nets_said : Netlist → ℕ → List (List ℕ) → List NetText
nets_said p net [] = []
nets_said p net (name ∷ names) = net_said p net name ∷ nets_said p (net + 1) names

abbrev pub text_said : Netlist → ProblemText
text_said p = record {
  techs = map (tech_said p.plan.book.names) p.plan.book.techs;
  setup = setup_said p.plan;
  blocks = p.plan.blocks;
  insts = map (inst_said p.plan.book.names) p.cells;
  nets = nets_said p 0 p.nets;
}

-- the canonical text of a netlist
abbrev pub problem_text : Netlist → List ℕ
problem_text p = text_lines (text_said p)
