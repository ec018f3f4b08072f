-- The grammar of the input file, as a relation between a problem and the tokens that spell it: each statement
-- takes the first words, and the rest follow.
use Rattle.std.specs.Prelude.{◌≡◌, ◌≢◌, ◌⊎◌, ℕ, ◌+◌, ◌-◌, ◌^◌, Bool, true, false, ◌==◌, ◌&&◌, if◌then◌else◌, List, [], ◌∷◌, ◌++◌, length, All, Some, is_some, slice_get, codes}
use Rattle.fp_base.specs.declared.ids.Die.{Die}
use Rattle.fp_base.specs.declared.ids.Die.TheVariants.{Top, Bottom}
use Rattle.fp_text.specs.Words.{Word, words_of}
use Rattle.fp_text.specs.Numbers.{is_name, Spells}
use Rattle.fp_text.specs.Items.{Each}
use Rattle.fp_tech.specs.declared.dies.Block.{Block}
use Rattle.fp_tech.specs.declared.dies.DieSpec.{DieSpec}
use Rattle.fp_tech.specs.Book.{Pin, is_among, has_name}
use Rattle.fp_tech.specs.Plan.{Plan, rows_lie, has_few}
use Rattle.fp_netlist.specs.Netlist.{Cell, Netlist, pin_place}
use Rattle.fp_contest_in.specs.declared.section.Section.{Section}
use Rattle.fp_contest_in.specs.declared.section.Section.TheVariants.{DieSize, MaxUtil, Rows, Tech, TerminalSize, TerminalSpacing, TerminalCost}
use Rattle.fp_contest_in.specs.declared.section.Setup.{Setup}
use Rattle.fp_contest_in.specs.Text.{LibText, TechText, InstText, ConnText, NetText, ProblemText, pin_name_list, lib_name_list, tech_name_list, inst_name_list, net_name_list, conn_count, plan_of, cells_of}

-- the greatest number that is read
abbrev pub most_number : ℕ
most_number = 2 ^ 30

-- a number with its range
pub record Ranged : Type 0 where
  pub least : ℕ
  pub most : ℕ
  pub value : ℕ

abbrev pub any_number : ℕ → Ranged
any_number n = record { least = 0; most = most_number; value = n }

abbrev pub ranged : ℕ → ℕ → ℕ → Ranged
ranged least most n = record { least = least; most = most; value = n }

-- the first word is this keyword
abbrev pub Keyword : List ℕ → List Word → List Word → Type 0
Keyword keyword words rest = (word : Word) × (words ≡ word ∷ rest) × (word.text ≡ keyword)

-- the first word is this name
abbrev pub Named : List ℕ → List Word → List Word → Type 0
Named name words rest = (word : Word) × (words ≡ word ∷ rest) × (word.text ≡ name) × (is_name name ≡ true)

-- the first words are these numbers, each in its range
abbrev pub Numbers : List Ranged → List Word → List Word → Type 0
Numbers [] words rest = words ≡ rest
Numbers (n ∷ ns) words rest = (word : Word) × (mid : List Word) × (words ≡ word ∷ mid) × Spells n.least n.most word.text n.value × Numbers ns mid rest

-- a name is new: it is not among those before it
abbrev pub IsNew : List ℕ → List (List ℕ) → Type 0
IsNew name before = is_among name before ≡ false

-- `Pin name x y`
pub record IsPin (pin : Pin) (words rest : List Word) : Type 0 where
  pub after_keyword : List Word
  pub after_name : List Word
  pub keyword : Keyword (codes "Pin") words after_keyword
  pub name : Named pin.name after_keyword after_name
  pub offset : Numbers (any_number pin.x ∷ any_number pin.y ∷ []) after_name rest

-- a pin whose name is none of those before it
abbrev pub IsNewPin : List Pin → Pin → List Word → List Word → Type 0
IsNewPin before pin words rest = IsPin pin words rest × IsNew pin.name (pin_name_list before)

-- `LibCell name width height p`, then p pins with distinct names
pub record IsLib (lib : LibText) (words rest : List Word) : Type 0 where
  pub after_keyword : List Word
  pub after_name : List Word
  pub after_count : List Word
  pub keyword : Keyword (codes "LibCell") words after_keyword
  pub name : Named lib.name after_keyword after_name
  pub numbers : Numbers (ranged 1 most_number lib.width ∷ ranged 1 most_number lib.height ∷ ranged 0 1024 (length lib.pins) ∷ []) after_name after_count
  pub items : Each IsNewPin [] lib.pins after_count rest

abbrev pub IsNewLib : List LibText → LibText → List Word → List Word → Type 0
IsNewLib before lib words rest = IsLib lib words rest × IsNew lib.name (lib_name_list before)

-- `Tech name m`, then m library cells with distinct names
pub record IsTech (tech : TechText) (words rest : List Word) : Type 0 where
  pub after_keyword : List Word
  pub after_name : List Word
  pub after_count : List Word
  pub keyword : Keyword (codes "Tech") words after_keyword
  pub name : Named tech.name after_keyword after_name
  pub count : Numbers (ranged 0 4096 (length tech.libs) ∷ []) after_name after_count
  pub items : Each IsNewLib [] tech.libs after_count rest

abbrev pub IsNewTech : List TechText → TechText → List Word → List Word → Type 0
IsNewTech before tech words rest = IsTech tech words rest × IsNew tech.name (tech_name_list before)

-- `NumTechnologies n`, then n technologies with distinct names
pub record AreTechs (techs : List TechText) (words rest : List Word) : Type 0 where
  pub after_keyword : List Word
  pub after_count : List Word
  pub keyword : Keyword (codes "NumTechnologies") words after_keyword
  pub count : Numbers (ranged 1 16 (length techs) ∷ []) after_keyword after_count
  pub items : Each IsNewTech [] techs after_count rest

abbrev pub die_of : Setup → Die → DieSpec
die_of setup Top = setup.top
die_of setup Bottom = setup.bottom

-- a section's keyword
abbrev pub keyword_of : Section → List ℕ
keyword_of DieSize = codes "DieSize"
keyword_of (MaxUtil Top) = codes "TopDieMaxUtil"
keyword_of (MaxUtil Bottom) = codes "BottomDieMaxUtil"
keyword_of (Rows Top) = codes "TopDieRows"
keyword_of (Rows Bottom) = codes "BottomDieRows"
keyword_of (Tech Top) = codes "TopDieTech"
keyword_of (Tech Bottom) = codes "BottomDieTech"
keyword_of TerminalSize = codes "TerminalSize"
keyword_of TerminalSpacing = codes "TerminalSpacing"
keyword_of TerminalCost = codes "TerminalCost"

-- a die's technology by its name: that of the technology of this number
abbrev pub NamesTech : List TechText → ℕ → List Word → List Word → Type 0
NamesTech techs number words rest = (tech : TechText) × (slice_get techs number ≡ Some tech) × Named tech.name words rest

-- a section's fields say what the setup has there
abbrev pub HasFields : List TechText → Setup → Section → List Word → List Word → Type 0
HasFields techs setup DieSize = Numbers (any_number setup.frame.llx ∷ any_number setup.frame.lly
    ∷ ranged (setup.frame.llx + 1) most_number setup.frame.urx ∷ ranged (setup.frame.lly + 1) most_number setup.frame.ury ∷ [])
HasFields techs setup (MaxUtil die) = Numbers (ranged 0 100 (die_of setup die).percent ∷ [])
HasFields techs setup (Rows die) = Numbers (any_number (die_of setup die).start_x ∷ any_number (die_of setup die).start_y
    ∷ ranged 1 most_number (die_of setup die).length ∷ ranged 1 most_number (die_of setup die).height ∷ ranged 1 (2 ^ 16) (die_of setup die).repeat ∷ [])
HasFields techs setup (Tech die) = NamesTech techs (die_of setup die).tech.0
HasFields techs setup TerminalSize = Numbers (ranged 1 most_number setup.terminal.size_x ∷ ranged 1 most_number setup.terminal.size_y ∷ [])
HasFields techs setup TerminalSpacing = Numbers (any_number setup.terminal.spacing ∷ [])
HasFields techs setup TerminalCost = Numbers (any_number setup.terminal.cost ∷ [])

-- a section: its keyword and its fields
abbrev pub IsSection : List TechText → Setup → Section → List Word → List Word → Type 0
IsSection techs setup section words rest = (mid : List Word) × Keyword (keyword_of section) words mid × HasFields techs setup section mid rest

-- the place of a section in the usual order, the cost behind the nine
abbrev pub section_number : Section → ℕ
section_number DieSize = 0
section_number (MaxUtil Top) = 1
section_number (MaxUtil Bottom) = 2
section_number (Rows Top) = 3
section_number (Rows Bottom) = 4
section_number (Tech Top) = 5
section_number (Tech Bottom) = 6
section_number TerminalSize = 7
section_number TerminalSpacing = 8
section_number TerminalCost = 9

abbrev pub is_in : Section → List Section → Bool
is_in section [] = false
is_in section (first ∷ others) = if section_number first == section_number section then true else is_in section others

-- a section that is none of those before it
abbrev pub IsNewSection : List TechText → Setup → List Section → Section → List Word → List Word → Type 0
IsNewSection techs setup before section words rest = IsSection techs setup section words rest × (is_in section before ≡ false)

-- one of the nine sections that every input has
abbrev pub is_needed : Section → Bool
is_needed DieSize = true
is_needed (MaxUtil die) = true
is_needed (Rows die) = true
is_needed (Tech die) = true
is_needed TerminalSize = true
is_needed TerminalSpacing = true
is_needed TerminalCost = false

-- the nine sections, each once, in some order, and the cost of a terminal at most once among them or behind, which is 0 where it is
-- not told; the rows of both dies lie in the frame
pub record AreSections (techs : List TechText) (setup : Setup) (words rest : List Word) : Type 0 where
  pub order : List Section
  pub each : Each (IsNewSection techs setup) [] order words rest
  pub nine : (section : Section) → is_needed section ≡ true → is_in section order ≡ true
  pub no_cost : is_in TerminalCost order ≡ false → setup.terminal.cost ≡ 0
  pub top_lies : rows_lie setup.frame setup.top ≡ true
  pub bottom_lies : rows_lie setup.frame setup.bottom ≡ true

-- the word for a blockage's die
abbrev pub die_word : Die → List ℕ
die_word Top = codes "Top"
die_word Bottom = codes "Bottom"

-- `Blockage die llx lly urx ury`
pub record IsBlockage (block : Block) (words rest : List Word) : Type 0 where
  pub after_keyword : List Word
  pub after_die : List Word
  pub keyword : Keyword (codes "Blockage") words after_keyword
  pub die : Keyword (die_word block.die) after_keyword after_die
  pub corners : Numbers (any_number block.llx ∷ any_number block.lly ∷ ranged (block.llx + 1) most_number block.urx
      ∷ ranged (block.lly + 1) most_number block.ury ∷ []) after_die rest

-- `NumBlockages n`, then n blockages
pub record AreListedBlockages (blocks : List Block) (words rest : List Word) : Type 0 where
  pub after_keyword : List Word
  pub after_count : List Word
  pub keyword : Keyword (codes "NumBlockages") words after_keyword
  pub count : Numbers (ranged 0 1024 (length blocks) ∷ []) after_keyword after_count
  pub items : Each (λ before. IsBlockage) [] blocks after_count rest

-- the blockages, or no word of them where there are none
abbrev pub AreBlockages : List Block → List Word → List Word → Type 0
AreBlockages blocks words rest = AreListedBlockages blocks words rest ⊎ ((blocks ≡ []) × (words ≡ rest))

-- the technologies of both dies have a library cell of that name
abbrev pub has_lib : Plan → List ℕ → Bool
has_lib plan name = has_name plan.book plan.top.tech.0 name && has_name plan.book plan.bottom.tech.0 name

-- `Inst name library-cell`; the library cell is in the technologies of both dies
pub record IsInst (plan : Plan) (inst : InstText) (words rest : List Word) : Type 0 where
  pub after_keyword : List Word
  pub after_name : List Word
  pub keyword : Keyword (codes "Inst") words after_keyword
  pub name : Named inst.name after_keyword after_name
  pub lib : Named inst.lib after_name rest
  pub known : has_lib plan inst.lib ≡ true

abbrev pub IsNewInst : Plan → List InstText → InstText → List Word → List Word → Type 0
IsNewInst plan before inst words rest = IsInst plan inst words rest × IsNew inst.name (inst_name_list before)

-- `NumInstances n`, then n instances with distinct names
pub record AreInsts (plan : Plan) (insts : List InstText) (words rest : List Word) : Type 0 where
  pub after_keyword : List Word
  pub after_count : List Word
  pub keyword : Keyword (codes "NumInstances") words after_keyword
  pub count : Numbers (ranged 0 (2 ^ 18) (length insts) ∷ []) after_keyword after_count
  pub items : Each (IsNewInst plan) [] insts after_count rest

-- the byte `/`
abbrev pub slash : ℕ
slash = 47

-- a token that joins two names by its last `/`
pub record IsPath (inst pin token : List ℕ) : Type 0 where
  pub joined : token ≡ inst ++ slash ∷ pin
  pub last : All (λ byte. byte ≢ slash) pin
  pub inst_name : is_name inst ≡ true
  pub pin_name : is_name pin ≡ true

-- a cell's library cell has that pin in the technologies of both dies
abbrev pub has_pin : Netlist → ℕ → List ℕ → Bool
has_pin p cell pin = is_some (pin_place p cell pin Top) && is_some (pin_place p cell pin Bottom)

-- `Pin instance/pin`: the instance is the cell of that name, and its library cell has the pin in the technologies of both dies
pub record IsNetPin (p : Netlist) (conn : ConnText) (words rest : List Word) : Type 0 where
  pub after_keyword : List Word
  pub word : Word
  pub cell : Cell
  pub keyword : Keyword (codes "Pin") words after_keyword
  pub first : after_keyword ≡ word ∷ rest
  pub path : IsPath cell.name conn.pin word.text
  pub there : slice_get p.cells conn.inst ≡ Some cell
  pub known : has_pin p conn.inst conn.pin ≡ true

-- `Net name p`, then p pins of cells, any of them several times; there is room for so many
pub record IsNet (p : Netlist) (room : ℕ) (net : NetText) (words rest : List Word) : Type 0 where
  pub after_keyword : List Word
  pub after_name : List Word
  pub after_count : List Word
  pub keyword : Keyword (codes "Net") words after_keyword
  pub name : Named net.name after_keyword after_name
  pub count : Numbers (ranged 0 room (length net.pins) ∷ []) after_name after_count
  pub items : Each (λ before. IsNetPin p) [] net.pins after_count rest

-- the most connections of all nets
abbrev pub most_conns : ℕ
most_conns = 2 ^ 21

-- a net whose name is none of those before it, and whose connections are with theirs at most 2^21
abbrev pub IsNewNet : Netlist → List NetText → NetText → List Word → List Word → Type 0
IsNewNet p before net words rest = IsNet p (most_conns - conn_count before) net words rest × IsNew net.name (net_name_list before)

-- `NumNets n`, then n nets with distinct names
pub record AreNets (p : Netlist) (nets : List NetText) (words rest : List Word) : Type 0 where
  pub after_keyword : List Word
  pub after_count : List Word
  pub keyword : Keyword (codes "NumNets") words after_keyword
  pub count : Numbers (ranged 0 (2 ^ 18) (length nets) ∷ []) after_keyword after_count
  pub items : Each (IsNewNet p) [] nets after_count rest

-- the words of a whole file; neither die has more than 2^16 segments
pub record IsProblem (text : ProblemText) (words : List Word) : Type 0 where
  pub after_techs : List Word
  pub after_sections : List Word
  pub after_blocks : List Word
  pub after_instances : List Word
  pub techs : AreTechs text.techs words after_techs
  pub sections : AreSections text.techs text.setup after_techs after_sections
  pub blocks : AreBlockages text.blocks after_sections after_blocks
  pub top_few : has_few (plan_of text) Top ≡ true
  pub bottom_few : has_few (plan_of text) Bottom ≡ true
  pub instances : AreInsts (plan_of text) text.insts after_blocks after_instances
  pub nets : AreNets (cells_of text) text.nets after_instances []

-- the bytes are an input file that says this problem
abbrev pub Reads : List ℕ → ProblemText → Type 0
Reads bytes text = IsProblem text (words_of bytes)
