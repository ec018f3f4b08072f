-- The input file read from left to right, statement by statement, up to its first fault.
use Rattle.std.specs.Prelude.{◌≡◌, ℕ, zero, suc, ◌+◌, ◌-◌, ◌^◌, Bool, ◌&&◌, ◌==◌, if◌then◌else◌, List, [], ◌∷◌, Option, Some, None, is_some, unwrap_or, Result, Ok, Err, codes}
use Rattle.std.specs.Str.{bytes_eq}
use Rattle.fp_base.specs.declared.ids.Die.{Die}
use Rattle.fp_base.specs.declared.ids.Die.TheVariants.{Top, Bottom}
use Rattle.fp_base.specs.declared.ids.TechId.{TechId}
use Rattle.fp_text.specs.Numbers.{is_name}
use Rattle.fp_text.specs.Reading.{Left, Read, Fault, fault, whole, ◌>>=◌, begins, word_next, keyword_next, name_next, number_next, end_next, many_next, GivesFault}
use Rattle.fp_text.specs.declared.fault.Kind.TheVariants as kinds
use Rattle.fp_text.specs.declared.fault.TextFault.{TextFault}
use Rattle.fp_tech.specs.declared.dies.Block.{Block}
use Rattle.fp_tech.specs.declared.dies.Frame.{Frame}
use Rattle.fp_tech.specs.declared.dies.DieSpec.{DieSpec}
use Rattle.fp_tech.specs.Book.{Pin, is_among, place_of}
use Rattle.fp_tech.specs.Plan.{Plan, rows_lie, has_few}
use Rattle.fp_contest_in.specs.declared.section.Section.{Section}
use Rattle.fp_contest_in.specs.declared.section.Section.TheVariants.{DieSize, MaxUtil, Rows, Tech, TerminalSize, TerminalSpacing, TerminalCost}
use Rattle.fp_contest_in.specs.declared.section.RowsFound.{RowsFound}
use Rattle.fp_contest_in.specs.declared.section.DieFound.{DieFound}
use Rattle.fp_contest_in.specs.declared.section.Found.{Found}
use Rattle.fp_contest_in.specs.declared.section.Setup.{Setup}
use Rattle.fp_netlist.specs.Netlist.{Netlist, no_cells, cell_names}
use Rattle.fp_contest_in.specs.Text.{LibText, TechText, InstText, ConnText, NetText, ProblemText, pin_name_list, lib_name_list, tech_name_list, inst_name_list, net_name_list, conn_count, plan_of, with_inst_texts, netlist_of}
use Rattle.fp_contest_in.specs.Grammar.{keyword_of, die_word, most_number, has_lib, slash, has_pin, most_conns}

-- a name that is not among those before it
unfoldable pub new_name_next : List (List ℕ) → Left → Read (List ℕ)
new_name_next before l = do
  name ← name_next l
  if is_among name.0.text before then fault name.0.at kinds.Twice else Ok (name.0.text, name.1)

-- `Pin name x y`, after pins of these names
unfoldable pub pin_next : List (List ℕ) → Left → Read Pin
pin_next before l = do
  keyword ← keyword_next (codes "Pin") l
  name ← new_name_next before keyword.1
  x ← number_next 0 most_number kinds.Range name.1
  y ← number_next 0 most_number kinds.Range x.1
  Ok (record { name = name.0; x = x.0; y = y.0 }, y.1)

-- two sizes from 1
unfoldable pub sizes_next : Left → Read (ℕ × ℕ)
sizes_next l = do
  width ← number_next 1 most_number kinds.Range l
  height ← number_next 1 most_number kinds.Range width.1
  Ok ((width.0, height.0), height.1)

-- `LibCell name width height p` and p pins, after library cells of these names
unfoldable pub lib_next : List (List ℕ) → Left → Read LibText
lib_next before l = do
  keyword ← keyword_next (codes "LibCell") l
  name ← new_name_next before keyword.1
  sizes ← sizes_next name.1
  count ← number_next 0 1024 kinds.Limit sizes.1
  pins ← many_next (λ pins. pin_next (pin_name_list pins)) count.0 [] count.1
  Ok (record { name = name.0; width = sizes.0.0; height = sizes.0.1; pins = pins.0 }, pins.1)

-- `Tech name m` and m library cells, after technologies of these names
unfoldable pub tech_next : List (List ℕ) → Left → Read TechText
tech_next before l = do
  keyword ← keyword_next (codes "Tech") l
  name ← new_name_next before keyword.1
  count ← number_next 0 4096 kinds.Limit name.1
  libs ← many_next (λ libs. lib_next (lib_name_list libs)) count.0 [] count.1
  Ok (record { name = name.0; libs = libs.0 }, libs.1)

-- `NumTechnologies n` and n technologies
unfoldable pub techs_next : Left → Read (List TechText)
techs_next l = do
  keyword ← keyword_next (codes "NumTechnologies") l
  count ← number_next 1 16 kinds.Limit keyword.1
  many_next (λ techs. tech_next (tech_name_list techs)) count.0 [] count.1

-- the section that a keyword begins
unfoldable pub section_of : List ℕ → Option Section
section_of word =
    if bytes_eq word (keyword_of DieSize) then Some DieSize else (
    if bytes_eq word (keyword_of (MaxUtil Top)) then Some (MaxUtil Top) else (
    if bytes_eq word (keyword_of (MaxUtil Bottom)) then Some (MaxUtil Bottom) else (
    if bytes_eq word (keyword_of (Rows Top)) then Some (Rows Top) else (
    if bytes_eq word (keyword_of (Rows Bottom)) then Some (Rows Bottom) else (
    if bytes_eq word (keyword_of (Tech Top)) then Some (Tech Top) else (
    if bytes_eq word (keyword_of (Tech Bottom)) then Some (Tech Bottom) else (
    if bytes_eq word (keyword_of TerminalSize) then Some TerminalSize else (
    if bytes_eq word (keyword_of TerminalSpacing) then Some TerminalSpacing else (
    if bytes_eq word (keyword_of TerminalCost) then Some TerminalCost else None)))))))))

-- the sections that were read, and what they said

abbrev pub no_die : DieFound
no_die = record { percent = None; rows = None; tech = None }

abbrev pub none_found : Found
none_found = record { frame = None; top = no_die; bottom = no_die; size = None; spacing = None; cost = None }

abbrev pub die_found : Found → Die → DieFound
die_found found Top = found.top
die_found found Bottom = found.bottom

abbrev pub set_die : Found → Die → DieFound → Found
set_die found Top die = record found { top = die }
set_die found Bottom die = record found { bottom = die }

-- the section was read
abbrev pub has_section : Found → Section → Bool
has_section found DieSize = is_some found.frame
has_section found (MaxUtil die) = is_some (die_found found die).percent
has_section found (Rows die) = is_some (die_found found die).rows
has_section found (Tech die) = is_some (die_found found die).tech
has_section found TerminalSize = is_some found.size
has_section found TerminalSpacing = is_some found.spacing
has_section found TerminalCost = is_some found.cost

-- which of the ten were read, in the usual order with the cost behind the nine, and how many
abbrev pub bits : Found → List Bool
bits found = is_some found.frame ∷ is_some found.top.percent ∷ is_some found.bottom.percent ∷ is_some found.top.rows ∷ is_some found.bottom.rows
    ∷ is_some found.top.tech ∷ is_some found.bottom.tech ∷ is_some found.size ∷ is_some found.spacing ∷ is_some found.cost ∷ []

unfoldable pub count_true : List Bool → ℕ
count_true [] = 0
count_true (bit ∷ others) = (if bit then 1 else 0) + count_true others

abbrev pub found_count : Found → ℕ
found_count found = count_true (bits found)

unfoldable pub frame_next : Left → Read Frame
frame_next l = do
  llx ← number_next 0 most_number kinds.Range l
  lly ← number_next 0 most_number kinds.Range llx.1
  urx ← number_next (llx.0 + 1) most_number kinds.Range lly.1
  ury ← number_next (lly.0 + 1) most_number kinds.Range urx.1
  Ok (record { llx = llx.0; lly = lly.0; urx = urx.0; ury = ury.0 }, ury.1)

-- a die's rows, whose keyword stands at this place
unfoldable pub rows_next : ℕ → Left → Read RowsFound
rows_next at l = do
  x ← number_next 0 most_number kinds.Range l
  y ← number_next 0 most_number kinds.Range x.1
  sizes ← sizes_next y.1
  repeat ← number_next 1 (2 ^ 16) kinds.Limit sizes.1
  Ok (record { at = at; start_x = x.0; start_y = y.0; length = sizes.0.0; height = sizes.0.1; repeat = repeat.0 }, repeat.1)

-- the number of the technology of a name that is known
abbrev pub known_tech : Option ℕ → ℕ → Left → Read TechId
known_tech None at l = fault at kinds.Unknown
known_tech (Some number) at l = Ok (record { 0 = number }, l)

unfoldable pub tech_name_next : List (List ℕ) → Left → Read TechId
tech_name_next names l = do
  name ← name_next l
  known_tech (place_of name.0.text names) name.0.at name.1

-- a section's fields, put beside those of the sections before it
unfoldable pub fields_next : List (List ℕ) → Section → ℕ → Found → Left → Read Found
fields_next names DieSize at found l = do
  frame ← frame_next l
  Ok (record found { frame = Some frame.0 }, frame.1)
fields_next names (MaxUtil die) at found l = do
  percent ← number_next 0 100 kinds.Range l
  Ok (set_die found die (record (die_found found die) { percent = Some percent.0 }), percent.1)
fields_next names (Rows die) at found l = do
  rows ← rows_next at l
  Ok (set_die found die (record (die_found found die) { rows = Some rows.0 }), rows.1)
fields_next names (Tech die) at found l = do
  tech ← tech_name_next names l
  Ok (set_die found die (record (die_found found die) { tech = Some tech.0 }), tech.1)
fields_next names TerminalSize at found l = do
  sizes ← sizes_next l
  Ok (record found { size = Some sizes.0 }, sizes.1)
fields_next names TerminalSpacing at found l = do
  spacing ← number_next 0 most_number kinds.Range l
  Ok (record found { spacing = Some spacing.0 }, spacing.1)
fields_next names TerminalCost at found l = do
  cost ← number_next 0 most_number kinds.Range l
  Ok (record found { cost = Some cost.0 }, cost.1)

-- a keyword that begins a section which was not read before
abbrev pub new_section : Option Section → ℕ → Found → Result Section Fault
new_section None at found = fault at kinds.Word
new_section (Some section) at found = if has_section found section then fault at kinds.Twice else Ok section

unfoldable pub section_next : List (List ℕ) → Found → Left → Read Found
section_next names found l = do
  word ← word_next l
  section ← new_section (section_of word.0.text) word.0.at found
  fields_next names section word.0.at found word.1

-- all nine sections were read
abbrev pub has_nine_die : DieFound → Bool
has_nine_die die = is_some die.percent && (is_some die.rows && is_some die.tech)

abbrev pub has_nine : Found → Bool
has_nine found = is_some found.frame && (has_nine_die found.top && (has_nine_die found.bottom && (is_some found.size && is_some found.spacing)))

-- sections until the nine were read, in so many turns; each turn reads another of the ten, so ten turns are enough
unfoldable pub sections_next : List (List ℕ) → ℕ → Found → Left → Read Found
sections_next names zero found l = Ok (found, l)
sections_next names (suc turns) found l = if has_nine found then Ok (found, l) else (section_next names found l >>= (λ more. sections_next names turns more.0 more.1))

-- behind the nine: the cost of a terminal, where the next token begins it
unfoldable pub may_cost_next : List (List ℕ) → Found → Left → Read Found
may_cost_next names found l = if begins (keyword_of TerminalCost) l then section_next names found l else Ok (found, l)

-- asked twice, since a second cost is `Twice`
unfoldable pub cost_next : List (List ℕ) → Found → Left → Read Found
cost_next names found l = do
  first ← may_cost_next names found l
  may_cost_next names first.0 first.1

-- what the sections say together; once all nine are read, no default stands in it
abbrev pub no_rows : RowsFound
no_rows = record { at = 0; start_x = 0; start_y = 0; length = 0; height = 0; repeat = 0 }

abbrev pub rows_of : DieFound → RowsFound
rows_of die = unwrap_or die.rows no_rows

abbrev pub die_spec : DieFound → DieSpec
die_spec die = record {
  percent = unwrap_or die.percent 0;
  tech = unwrap_or die.tech (record { 0 = 0 });
  start_x = (rows_of die).start_x;
  start_y = (rows_of die).start_y;
  length = (rows_of die).length;
  height = (rows_of die).height;
  repeat = (rows_of die).repeat;
}

abbrev pub no_frame : Frame
no_frame = record { llx = 0; lly = 0; urx = 0; ury = 0 }

abbrev pub setup_of : Found → Setup
setup_of found = record {
  frame = unwrap_or found.frame no_frame;
  top = die_spec found.top;
  bottom = die_spec found.bottom;
  terminal = record { size_x = (unwrap_or found.size (0, 0)).0; size_y = (unwrap_or found.size (0, 0)).1; spacing = unwrap_or found.spacing 0; cost = unwrap_or found.cost 0 };
}

-- both dies' rows lie in the frame; else the first that do not are told, at their keyword
unfoldable pub rows_checked : Found → Left → Read Found
rows_checked found l =
    if rows_lie (setup_of found).frame (setup_of found).top
    then (if rows_lie (setup_of found).frame (setup_of found).bottom then Ok (found, l) else fault (rows_of found.bottom).at kinds.Rows)
    else fault (rows_of found.top).at kinds.Rows

-- the nine sections, the test of the rows, which comes before the next token, and the cost behind the nine
unfoldable pub all_sections_next : List (List ℕ) → Left → Read Found
all_sections_next names l = do
  nine ← sections_next names 10 none_found l
  lying ← rows_checked nine.0 nine.1
  cost_next names lying.0 lying.1

-- the word `Top` or `Bottom`
unfoldable pub die_next : Left → Read Die
die_next l = do
  word ← word_next l
  if bytes_eq word.0.text (die_word Top) then Ok (Top, word.1)
      else (if bytes_eq word.0.text (die_word Bottom) then Ok (Bottom, word.1) else fault word.0.at kinds.Word)

abbrev pub block_of : Die → Frame → Block
block_of die corners = record { die = die; llx = corners.llx; lly = corners.lly; urx = corners.urx; ury = corners.ury }

-- `Blockage die llx lly urx ury`
unfoldable pub block_next : Left → Read Block
block_next l = do
  keyword ← keyword_next (codes "Blockage") l
  die ← die_next keyword.1
  corners ← frame_next die.1
  Ok (block_of die.0 corners.0, corners.1)

-- `NumBlockages n` and n blockages, with the place of the keyword
unfoldable pub listed_blocks_next : Left → Read (ℕ × List Block)
listed_blocks_next l = do
  keyword ← keyword_next (codes "NumBlockages") l
  count ← number_next 0 1024 kinds.Limit keyword.1
  blocks ← many_next (λ before. block_next) count.0 [] count.1
  Ok ((keyword.0, blocks.0), blocks.1)

-- the blockages, where the next token begins them, and none else
unfoldable pub blocks_next : Left → Read (ℕ × List Block)
blocks_next l = if begins (codes "NumBlockages") l then listed_blocks_next l else Ok ((0, []), l)

-- a problem without instances and nets
abbrev pub front_of : List TechText → Found → List Block → ProblemText
front_of techs found blocks = record { techs = techs; setup = setup_of found; blocks = blocks; insts = []; nets = [] }

-- neither die has more than 2^16 segments; else `Limit` at the keyword of the blockages, without which there are never so many
unfoldable pub few_checked : ℕ → ProblemText → Left → Read ProblemText
few_checked at text l = if has_few (plan_of text) Top && has_few (plan_of text) Bottom then Ok (text, l) else fault at kinds.Limit

-- the technologies, the sections and the blockages: a problem without instances and nets
unfoldable pub front_next : Left → Read ProblemText
front_next l = do
  techs ← techs_next l
  found ← all_sections_next (tech_name_list techs.0) techs.1
  blocks ← blocks_next found.1
  few_checked blocks.0.0 (front_of techs.0 found.0 blocks.0.1) blocks.1

-- the name of a library cell that the technologies of both dies have
unfoldable pub lib_name_next : Plan → Left → Read (List ℕ)
lib_name_next plan l = do
  name ← name_next l
  if has_lib plan name.0.text then Ok (name.0.text, name.1) else fault name.0.at kinds.Unknown

-- `Inst name library-cell`, after instances of these names
unfoldable pub inst_next : Plan → List (List ℕ) → Left → Read InstText
inst_next plan before l = do
  keyword ← keyword_next (codes "Inst") l
  name ← new_name_next before keyword.1
  lib ← lib_name_next plan name.1
  Ok (record { name = name.0; lib = lib.0 }, lib.1)

-- `NumInstances n` and n instances
unfoldable pub insts_next : Plan → Left → Read (List InstText)
insts_next plan l = do
  keyword ← keyword_next (codes "NumInstances") l
  count ← number_next 0 (2 ^ 18) kinds.Limit keyword.1
  many_next (λ insts. inst_next plan (inst_name_list insts)) count.0 [] count.1

-- what stands before the last `/` of a token and behind it, one byte further to the front
abbrev pub cut_with : ℕ → List ℕ → Option (List ℕ × List ℕ) → Option (List ℕ × List ℕ)
cut_with byte bytes None = if byte == slash then Some ([], bytes) else None
cut_with byte bytes (Some (front, behind)) = Some (byte ∷ front, behind)

-- what stands before the last `/` of a token and behind it, if there is one
unfoldable pub cut_at_slash : List ℕ → Option (List ℕ × List ℕ)
cut_at_slash [] = None
cut_at_slash (byte ∷ bytes) = cut_with byte bytes (cut_at_slash bytes)

-- both parts, where they are names
abbrev pub named_parts : Option (List ℕ × List ℕ) → Option (List ℕ × List ℕ)
named_parts None = None
named_parts (Some path) = if is_name path.0 && is_name path.1 then Some path else None

-- the names of an instance and of its pin in a token
unfoldable pub path_of : List ℕ → Option (List ℕ × List ℕ)
path_of token = named_parts (cut_at_slash token)

abbrev pub path_at : Option (List ℕ × List ℕ) → ℕ → Result (List ℕ × List ℕ) Fault
path_at None at = fault at kinds.Name
path_at (Some path) at = Ok path

-- a cell and its pin, where both are known
abbrev pub known_pin : Netlist → Option ℕ → List ℕ → ℕ → Result ConnText Fault
known_pin p None pin at = fault at kinds.Unknown
known_pin p (Some cell) pin at = if has_pin p cell pin then Ok (record { inst = cell; pin = pin }) else fault at kinds.Unknown

-- `Pin instance/pin`, of these cells
unfoldable pub net_pin_next : Netlist → Left → Read ConnText
net_pin_next p l = do
  keyword ← keyword_next (codes "Pin") l
  word ← word_next keyword.1
  path ← path_at (path_of word.0.text) word.0.at
  conn ← known_pin p (place_of path.0 (cell_names p)) path.1 word.0.at
  Ok (conn, word.1)

-- `Net name p` and p pins of these cells, after nets of these names with so many connections
unfoldable pub net_next : Netlist → List (List ℕ) → ℕ → Left → Read NetText
net_next p before conns l = do
  keyword ← keyword_next (codes "Net") l
  name ← new_name_next before keyword.1
  count ← number_next 0 (most_conns - conns) kinds.Limit name.1
  pins ← many_next (λ pins. net_pin_next p) count.0 [] count.1
  Ok (record { name = name.0; pins = pins.0 }, pins.1)

-- `NumNets n` and n nets of these cells
unfoldable pub nets_next : Netlist → Left → Read (List NetText)
nets_next p l = do
  keyword ← keyword_next (codes "NumNets") l
  count ← number_next 0 (2 ^ 18) kinds.Limit keyword.1
  many_next (λ nets. net_next p (net_name_list nets) (conn_count nets)) count.0 [] count.1

-- the instances, the nets and the end
unfoldable pub netlist_next : Plan → Left → Result (List InstText × List NetText) Fault
netlist_next plan l = do
  insts ← insts_next plan l
  nets ← nets_next (with_inst_texts (no_cells plan) insts.0) insts.1
  end ← end_next nets.1
  Ok (insts.0, nets.0)

-- the whole file from its first token on
unfoldable pub problem_next : Left → Result ProblemText Fault
problem_next l = do
  front ← front_next l
  netlist ← netlist_next (plan_of front.0) front.1
  Ok (record front.0 { insts = netlist.0; nets = netlist.1 })

-- the problem of a whole file, or its first fault
abbrev pub problem_of : List ℕ → Result ProblemText Fault
problem_of bytes = problem_next (whole bytes)

-- what a reader of the file returned: the netlist of the problem that is read, or the first fault, or want of memory
abbrev pub GivesProblem : Result Netlist TextFault → Result ProblemText Fault → Type 0
GivesProblem (Ok p) read = (text : ProblemText) × (read ≡ Ok text) × (p ≡ netlist_of text)
GivesProblem (Err e) read = GivesFault e read
