-- The output file read from left to right, statement by statement, up to its first fault.
use Rattle.std.specs.Prelude.{◌≡◌, ℕ, if◌then◌else◌, List, [], Option, Some, None, Result, Ok, Err, codes, pos}
use Rattle.fp_base.specs.declared.ids.Die.TheVariants.{Top, Bottom}
use Rattle.fp_base.specs.declared.ids.Point.{Point}
use Rattle.fp_text.specs.Numbers.{is_name}
use Rattle.fp_text.specs.Reading.{Left, Read, Fault, fault, whole, ◌>>=◌, word_next, keyword_next, number_next, end_next, many_next, GivesFault}
use Rattle.fp_text.specs.declared.fault.Kind.TheVariants as kinds
use Rattle.fp_text.specs.declared.fault.TextFault.{TextFault}
use Rattle.fp_tech.specs.Book.{place_of}
use Rattle.fp_netlist.specs.Netlist.{Netlist, cell_names}
use Rattle.fp_place.specs.declared.drawn.DrawnCell.{DrawnCell}
use Rattle.fp_place.specs.declared.drawn.DrawnTerminal.{DrawnTerminal}
use Rattle.fp_place.specs.Drawing.{Drawing}
use Rattle.fp_out.specs.OutText.{die_word}
use Rattle.fp_out.specs.OutGrammar.{most_coordinate, most_lines}

-- the number of a name among others, where it is a name and is there
abbrev pub number_of : List (List ℕ) → List ℕ → Option ℕ
number_of names name = if is_name name then place_of name names else None

abbrev pub known_at : Option ℕ → ℕ → Left → Read ℕ
known_at None at l = fault at kinds.Unknown
known_at (Some number) at l = Ok (number, l)

-- a known name; its number
unfoldable pub known_next : List (List ℕ) → Left → Read ℕ
known_next names l = do
  word ← word_next l
  known_at (number_of names word.0.text) word.0.at word.1

-- two coordinates; above the greatest a number is none
unfoldable pub point_next : Left → Read Point
point_next l = do
  x ← number_next 0 most_coordinate kinds.Number l
  y ← number_next 0 most_coordinate kinds.Number x.1
  Ok (record { x = pos x.0; y = pos y.0 }, y.1)

-- `Inst cell x y`
unfoldable pub inst_next : Netlist → Left → Read DrawnCell
inst_next p l = do
  keyword ← keyword_next (codes "Inst") l
  cell ← known_next (cell_names p) keyword.1
  at ← point_next cell.1
  Ok (record { cell = record { 0 = cell.0 }; x = at.0.x; y = at.0.y }, at.1)

-- `Terminal net x y`
unfoldable pub terminal_next : Netlist → Left → Read DrawnTerminal
terminal_next p l = do
  keyword ← keyword_next (codes "Terminal") l
  net ← known_next p.nets keyword.1
  at ← point_next net.1
  Ok (record { net = record { 0 = net.0 }; x = at.0.x; y = at.0.y }, at.1)

-- `keyword n`; the number of lines that follow
unfoldable pub head_next : List ℕ → Left → Read ℕ
head_next word l = do
  keyword ← keyword_next word l
  number_next 0 most_lines kinds.Limit keyword.1

-- `keyword n` and n lines
unfoldable pub part_next : {A : Type 0} → List ℕ → (Left → Read A) → Left → Read (List A)
part_next word line l = do
  count ← head_next word l
  many_next (λ before. line) count.0 [] count.1

-- the whole file from its first token on
unfoldable pub drawing_next : Netlist → Left → Result Drawing Fault
drawing_next p l = do
  top ← part_next (die_word Top) (inst_next p) l
  bottom ← part_next (die_word Bottom) (inst_next p) top.1
  terminals ← part_next (codes "NumTerminals") (terminal_next p) bottom.1
  end ← end_next terminals.1
  Ok (record { top = top.0; bottom = bottom.0; terminals = terminals.0 })

-- the drawing of a whole file, or its first fault
abbrev pub out_of : Netlist → List ℕ → Result Drawing Fault
out_of p bytes = drawing_next p (whole bytes)

-- what a reader of the file returned is what is read: the drawing, or the first fault, unless memory ran out
abbrev pub GivesDrawing : Result Drawing TextFault → Result Drawing Fault → Type 0
GivesDrawing (Ok drawing) read = read ≡ Ok drawing
GivesDrawing (Err e) read = GivesFault e read
