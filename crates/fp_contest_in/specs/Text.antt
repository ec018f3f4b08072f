-- A problem as plain lists, as the input file says it, and the netlist that it describes.
use Rattle.std.specs.Prelude.{ℕ, List, [], ◌∷◌, length, map, sum_by}
use Rattle.fp_contest_in.specs.declared.section.Setup.{Setup}
use Rattle.fp_tech.specs.Book.{Pin, Book, no_techs, id_for, with_tech, with_lib, with_pin}
use Rattle.fp_tech.specs.declared.dies.Block.{Block}
use Rattle.fp_tech.specs.Plan.{Plan}
use Rattle.fp_netlist.specs.Netlist.{Netlist, no_cells, with_inst, with_net, with_conn}

-- a library cell of a technology, by its name
pub record LibText : Type 0 where
  pub name : List ℕ
  pub width : ℕ
  pub height : ℕ
  pub pins : List Pin

pub record TechText : Type 0 where
  pub name : List ℕ
  pub libs : List LibText

-- an instance, by its library cell's name
pub record InstText : Type 0 where
  pub name : List ℕ
  pub lib : List ℕ

-- a pin of an instance, which is given by its number in file order from 0
pub record ConnText : Type 0 where
  pub inst : ℕ
  pub pin : List ℕ

pub record NetText : Type 0 where
  pub name : List ℕ
  pub pins : List ConnText

pub record ProblemText : Type 0 where
  pub techs : List TechText
  pub setup : Setup
  pub blocks : List Block
  pub insts : List InstText
  pub nets : List NetText

abbrev pub pin_name_list : List Pin → List (List ℕ)
pin_name_list pins = map (λ pin. pin.name) pins

abbrev pub lib_name_list : List LibText → List (List ℕ)
lib_name_list libs = map (λ lib. lib.name) libs

abbrev pub tech_name_list : List TechText → List (List ℕ)
tech_name_list techs = map (λ tech. tech.name) techs

abbrev pub inst_name_list : List InstText → List (List ℕ)
inst_name_list insts = map (λ inst. inst.name) insts

abbrev pub net_name_list : List NetText → List (List ℕ)
net_name_list nets = map (λ net. net.name) nets

-- the connections of nets, together
abbrev pub conn_count : List NetText → ℕ
conn_count nets = sum_by (λ net. length net.pins) nets

-- a value that grew by each item, one after the other
unfoldable pub grown : {V A : Type 0} → (V → A → V) → V → List A → V
grown grow old [] = old
grown grow old (x ∷ xs) = grown grow (grow old x) xs

-- a book with these pins added to a library cell
abbrev pub with_pins : ℕ → ℕ → Book → List Pin → Book
with_pins tech id book pins = grown (λ b pin. with_pin b tech id pin) book pins

-- with a library cell and its pins added to a technology
abbrev pub with_lib_text : ℕ → Book → LibText → Book
with_lib_text tech book lib = with_pins tech (id_for book lib.name) (with_lib book tech lib.name lib.width lib.height) lib.pins

abbrev pub with_lib_texts : ℕ → Book → List LibText → Book
with_lib_texts tech book libs = grown (with_lib_text tech) book libs

-- with a technology and its library cells
abbrev pub with_tech_text : Book → TechText → Book
with_tech_text book tech = with_lib_texts (length book.techs) (with_tech book tech.name) tech.libs

abbrev pub with_tech_texts : Book → List TechText → Book
with_tech_texts book techs = grown with_tech_text book techs

-- the dies that a problem describes
abbrev pub plan_of : ProblemText → Plan
plan_of text = record {
  book = with_tech_texts no_techs text.techs;
  frame = text.setup.frame;
  top = text.setup.top;
  bottom = text.setup.bottom;
  terminal = text.setup.terminal;
  blocks = text.blocks;
}

-- a netlist with a cell added; its library cell's number is that of its name
abbrev pub with_inst_text : Netlist → InstText → Netlist
with_inst_text p inst = with_inst p inst.name (id_for p.plan.book inst.lib)

abbrev pub with_inst_texts : Netlist → List InstText → Netlist
with_inst_texts p insts = grown with_inst_text p insts

-- with a connection of a net added
abbrev pub with_conn_text : ℕ → Netlist → ConnText → Netlist
with_conn_text net p conn = with_conn p net conn.inst conn.pin

abbrev pub with_conn_texts : ℕ → Netlist → List ConnText → Netlist
with_conn_texts net p conns = grown (with_conn_text net) p conns

-- with a net and its connections added
abbrev pub with_net_text : Netlist → NetText → Netlist
with_net_text p net = with_conn_texts (length p.nets) (with_net p net.name) net.pins

abbrev pub with_net_texts : Netlist → List NetText → Netlist
with_net_texts p nets = grown with_net_text p nets

-- the cells that a problem describes, without its nets
abbrev pub cells_of : ProblemText → Netlist
cells_of text = with_inst_texts (no_cells (plan_of text)) text.insts

-- the netlist that a problem describes
abbrev pub netlist_of : ProblemText → Netlist
netlist_of text = with_net_texts (cells_of text) text.nets
