-- Which texts can be printed and read again: the grammar of the input file without its words.
use Rattle.std.specs.Prelude.{◌≡◌, ◌≢◌, ℕ, ◌-◌, ◌^◌, ◌<◌, ◌≤◌, true, List, [], ◌∷◌, ◌++◌, length, All}
use Rattle.fp_base.specs.declared.ids.Die.TheVariants.{Top, Bottom}
use Rattle.fp_text.specs.Numbers.{is_name}
use Rattle.fp_tech.specs.Book.{Pin}
use Rattle.fp_tech.specs.Plan.{Plan, rows_lie, has_few, IsFrame, IsDieSpec, IsTermSpec, IsBlock}
use Rattle.fp_netlist.specs.Netlist.{Netlist}
use Rattle.fp_contest_in.specs.declared.section.Setup.{Setup}
use Rattle.fp_contest_in.specs.Text.{LibText, TechText, InstText, ConnText, NetText, ProblemText, pin_name_list, lib_name_list, tech_name_list, inst_name_list, net_name_list, conn_count, plan_of, cells_of}
use Rattle.fp_contest_in.specs.Grammar.{most_number, most_conns, slash, IsNew, has_lib, has_pin, Reads}

-- each item passes, behind those before it
abbrev pub EachIs : {A : Type 0} → (List A → A → Type 0) → List A → List A → Type 0
EachIs is before [] = Unit {0}
EachIs is before (x ∷ xs) = is before x × EachIs is (before ++ x ∷ []) xs

-- a pin behind others of its library cell
pub record IsPinText (before : List Pin) (pin : Pin) : Type 0 where
  pub name : is_name pin.name ≡ true
  pub new : IsNew pin.name (pin_name_list before)
  pub x : pin.x ≤ most_number
  pub y : pin.y ≤ most_number

-- a library cell behind others of its technology
pub record IsLibText (before : List LibText) (lib : LibText) : Type 0 where
  pub name : is_name lib.name ≡ true
  pub new : IsNew lib.name (lib_name_list before)
  pub some_width : 1 ≤ lib.width
  pub width : lib.width ≤ most_number
  pub some_height : 1 ≤ lib.height
  pub height : lib.height ≤ most_number
  pub few_pins : length lib.pins ≤ 1024
  pub pins : EachIs IsPinText [] lib.pins

-- a technology behind others
pub record IsTechText (before : List TechText) (tech : TechText) : Type 0 where
  pub name : is_name tech.name ≡ true
  pub new : IsNew tech.name (tech_name_list before)
  pub few_libs : length tech.libs ≤ 4096
  pub libs : EachIs IsLibText [] tech.libs

-- what the sections say, of so many technologies
pub record IsSetupText (techs : ℕ) (setup : Setup) : Type 0 where
  pub frame : IsFrame setup.frame
  pub top : IsDieSpec techs setup.top
  pub bottom : IsDieSpec techs setup.bottom
  pub terminal : IsTermSpec setup.terminal
  pub top_lies : rows_lie setup.frame setup.top ≡ true
  pub bottom_lies : rows_lie setup.frame setup.bottom ≡ true

-- an instance behind others, of a library cell that the technologies of both dies have
pub record IsInstText (plan : Plan) (before : List InstText) (inst : InstText) : Type 0 where
  pub name : is_name inst.name ≡ true
  pub new : IsNew inst.name (inst_name_list before)
  pub lib : is_name inst.lib ≡ true
  pub known : has_lib plan inst.lib ≡ true

-- a connection to one of these cells, by a pin that its library cell has in the technologies of both dies
pub record IsConnText (p : Netlist) (conn : ConnText) : Type 0 where
  pub cell : conn.inst < length p.cells
  pub name : is_name conn.pin ≡ true
  pub no_slash : All (λ byte. byte ≢ slash) conn.pin
  pub known : has_pin p conn.inst conn.pin ≡ true

-- a net behind others, with whose connections its own are at most 2^21
pub record IsNetText (p : Netlist) (before : List NetText) (net : NetText) : Type 0 where
  pub name : is_name net.name ≡ true
  pub new : IsNew net.name (net_name_list before)
  pub few_conns : length net.pins ≤ most_conns - conn_count before
  pub conns : EachIs (λ before. IsConnText p) [] net.pins

-- a whole problem; that it has a technology follows, since its dies name one
pub record IsPrintable (text : ProblemText) : Type 0 where
  pub few_techs : length text.techs ≤ 16
  pub techs : EachIs IsTechText [] text.techs
  pub setup : IsSetupText (length text.techs) text.setup
  pub few_blocks : length text.blocks ≤ 1024
  pub blocks : All IsBlock text.blocks
  pub top_few : has_few (plan_of text) Top ≡ true
  pub bottom_few : has_few (plan_of text) Bottom ≡ true
  pub few_insts : length text.insts ≤ 2 ^ 18
  pub insts : EachIs (IsInstText (plan_of text)) [] text.insts
  pub few_nets : length text.nets ≤ 2 ^ 18
  pub nets : EachIs (IsNetText (cells_of text)) [] text.nets

-- the bytes say this problem, and no other
abbrev pub ReadsOnly : List ℕ → ProblemText → Type 0
ReadsOnly bytes text = Reads bytes text × ((other : ProblemText) → Reads bytes other → other ≡ text)
