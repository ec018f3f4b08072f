-- Reading into a book or a netlist: what is read is added to it.
use Rattle.std.specs.Prelude.{◌≡◌, ℕ, List, Result, Ok, Err}
use Rattle.fp_text.specs.Reading.{Left, Read, GivesFault}
use Rattle.fp_text.specs.declared.fault.TextFault.{TextFault}
use Rattle.fp_tech.specs.Book.{Pin, Book, has_name, is_among}
use Rattle.fp_tech.specs.declared.dies.Block.{Block}
use Rattle.fp_tech.specs.Plan.{Plan}
use Rattle.fp_netlist.specs.Netlist.{Netlist}
use Rattle.fp_contest_in.specs.Text.{LibText, TechText, InstText, ConnText, NetText, pin_name_list, lib_name_list, tech_name_list, inst_name_list, net_name_list, conn_count}
use Rattle.fp_contest_in.specs.Statements.{pin_next, lib_next, tech_next, block_next, inst_next, net_pin_next, net_next}

-- what was read is added to the old value by `grow`, unless there was a fault or memory ran out
abbrev pub Grows : {V A U : Type 0} → (V → A → V) → Result U TextFault → V → V → Left → Read A → Type 0
Grows {A = A} grow (Ok u) old new left read = (item : A) × (read ≡ Ok (item, left)) × (new ≡ grow old item)
Grows grow (Err e) old new left read = GivesFault e read

-- the names of a technology's library cells are these
abbrev pub Knows : Book → ℕ → List (List ℕ) → Type 0
Knows book tech names = (name : List ℕ) → has_name book tech name ≡ is_among name names

-- one item after those before it
abbrev pub pin_item : List Pin → Left → Read Pin
pin_item pins = pin_next (pin_name_list pins)

abbrev pub lib_item : List LibText → Left → Read LibText
lib_item libs = lib_next (lib_name_list libs)

abbrev pub tech_item : List TechText → Left → Read TechText
tech_item techs = tech_next (tech_name_list techs)

abbrev pub block_item : List Block → Left → Read Block
block_item blocks = block_next

abbrev pub inst_item : Plan → List InstText → Left → Read InstText
inst_item plan insts = inst_next plan (inst_name_list insts)

abbrev pub conn_item : Netlist → List ConnText → Left → Read ConnText
conn_item p conns = net_pin_next p

abbrev pub net_item : Netlist → List NetText → Left → Read NetText
net_item p nets = net_next p (net_name_list nets) (conn_count nets)
