-- The text of a drawing has under 2^28 bytes: each of its three parts has at most 2^18 lines, of at most 287 bytes.
use Rattle.std.specs.Prelude.{◌≡◌, ℕ, ◌+◌, ◌*◌, ◌^◌, ◌<◌, ◌≤◌, true, ◌&&◌, nat_lt, nat_le, List, [], ◌++◌, length, All, get_or, codes, decimal, ℤ, pos, negsuc}
use Rattle.std.specs.List.{flat_map, sum_by, list_all}
use Rattle.std.specs.Fmt.{signed_decimal}
use Rattle.std.proofs.Common.{refl, ap, arith, length-append}
use Rattle.std.proofs.lemmas.Bool.{and_parts, leb-true}
use Rattle.std.proofs.lemmas.Fmt.{length-decimal-le}
use Rattle.std.proofs.lemmas.Int.{ints}
use Rattle.std.proofs.lemmas.List.Concat.{length-flat_map}
use Rattle.std.proofs.lemmas.List.Elements.{All-weaker}
use Rattle.std.proofs.lemmas.List.Sums.{sum_by-le}
use Rattle.std.proofs.lemmas.Option.{get_or_from_slice_get}
use Rattle.fp_base.specs.declared.ids.Die.TheVariants.{Top, Bottom}
use Rattle.fp_base.specs.declared.ids.Point.{Point}
use Rattle.fp_text.specs.Numbers.{is_name_byte, is_name}
use Rattle.fp_netlist.specs.Netlist.{Netlist, cell_names, IsSound}
use Rattle.fp_place.specs.declared.drawn.DrawnCell.{DrawnCell}
use Rattle.fp_place.specs.declared.drawn.DrawnTerminal.{DrawnTerminal}
use Rattle.fp_place.specs.Drawing.{Drawing, IsCoordinate}
use Rattle.fp_place.specs.Placed.{Placed, drawn_of, IsPlacementOf}
use Rattle.fp_out.specs.OutText.{head_text, line_text, inst_text, terminal_text, die_word, die_part, terminal_part, out_text}
use Rattle.fp_out.specs.OutGrammar.{AreNames}
use Rattle.fp_out.specs.ReadBack.{IsSayable, IsCellSayable, IsTerminalSayable, IsDrawable, drawable}

coordinate_short : (at : ℤ) → IsCoordinate at → length (signed_decimal at) ≤ 10
coordinate_short (pos n) is =
    let most : n ≤ 2 ^ 30 = omega (arith, ints, is.most) in
    length-decimal-le 10 n (omega arith) (omega (arith, most)) (omega (arith, most))
coordinate_short (negsuc n) is = absurd (omega (arith, ints, is.least))

name_short : (name : List ℕ) → is_name name ≡ true → length name ≤ 255
name_short name is =
    let rest = and_parts (nat_lt 0 (length name)) (nat_le (length name) 255 && list_all is_name_byte name) is in
    leb-true (length name) 255 (and_parts (nat_le (length name) 255) (list_all is_name_byte name) rest.1).0

-- the bytes of a line's parts, with its three spaces and its line feed
line_length : (word name x y : List ℕ) → length (word ++ codes " " ++ name ++ (codes " " ++ x) ++ (codes " " ++ y) ++ codes "\n") ≡ length word + length name + length x + length y + 4
line_length word name x y = simp length-append (omega arith)

line_short : (word : List ℕ) (names : List (List ℕ)) (number : ℕ) (at : Point) → length word ≤ 8 → IsSayable names number at
    → length (line_text word (get_or names number []) at) ≤ 287
line_short word names number at few says =
    let name : get_or names number [] ≡ says.name = get_or_from_slice_get names number says.name [] says.there in
    omega (
      arith,
      few,
      ap length name,
      name_short says.name says.named,
      coordinate_short at.x says.x,
      coordinate_short at.y says.y,
      line_length word (get_or names number []) (signed_decimal at.x) (signed_decimal at.y),
    )

-- a part of at most 2^18 lines
part_short : {A : Type 0} (word : List ℕ) (text : A → List ℕ) (lines : List A) → length word ≤ 18 → length lines ≤ 2 ^ 18 → All (λ line. length (text line) ≤ 287) lines
    → length (head_text word (length lines) ++ flat_map text lines) ≤ 287 * 2 ^ 18 + 30
part_short word text lines few many short =
    let count = length-decimal-le 10 (length lines) (omega arith) (omega (arith, many)) (omega (arith, many)) in
    let body : length (flat_map text lines) ≤ length lines * 287 = omega (arith, length-flat_map text lines, sum_by-le (λ line. length (text line)) 287 lines short) in
    simp length-append (omega (arith, few, many, count, body))

inst_short : (p : Netlist) (line : DrawnCell) → IsCellSayable p line → length (inst_text p line) ≤ 287
inst_short p line says = line_short (codes "Inst") (cell_names p) line.cell.0 (record { x = line.x; y = line.y }) (omega arith) says

terminal_short : (p : Netlist) (line : DrawnTerminal) → IsTerminalSayable p line → length (terminal_text p line) ≤ 287
terminal_short p line says = line_short (codes "Terminal") p.nets line.net.0 (record { x = line.x; y = line.y }) (omega arith) says

-- a drawing that a text may say
pub text_short : (p : Netlist) (drawing : Drawing) → IsDrawable p drawing → length (out_text p drawing) < 2 ^ 28
text_short p drawing can =
    let top = part_short (die_word Top) (inst_text p) drawing.top (omega arith) can.few_top
    (All-weaker (IsCellSayable p) (λ line. length (inst_text p line) ≤ 287) (inst_short p) drawing.top can.top_lines) in
    let bottom = part_short (die_word Bottom) (inst_text p) drawing.bottom (omega arith) can.few_bottom
    (All-weaker (IsCellSayable p) (λ line. length (inst_text p line) ≤ 287) (inst_short p) drawing.bottom can.bottom_lines) in
    let terminals = part_short (codes "NumTerminals") (terminal_text p) drawing.terminals (omega arith) can.few_terminals
    (All-weaker (IsTerminalSayable p) (λ line. length (terminal_text p line) ≤ 287) (terminal_short p) drawing.terminals can.terminal_lines) in
    omega (
      arith,
      top,
      bottom,
      terminals,
      length-append (die_part p Top drawing.top ++ die_part p Bottom drawing.bottom) (terminal_part p drawing.terminals),
      length-append (die_part p Top drawing.top) (die_part p Bottom drawing.bottom),
    )

-- the drawing of a placement, where the problem's names are names
pub placement_short : (p : Netlist) (placed : Placed) → IsSound p → IsPlacementOf p placed → AreNames (cell_names p) → AreNames p.nets
    → length (out_text p (drawn_of placed)) < 2 ^ 28
placement_short p placed sound of_problem cells nets = text_short p (drawn_of placed) (drawable p placed sound of_problem cells nets)
