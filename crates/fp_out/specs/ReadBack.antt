-- What the output file of a placement says is read as what was drawn.
use Rattle.std.specs.Prelude.{◌≡◌, ℕ, zero, suc, ◌+◌, ◌^◌, ◌<◌, ◌≤◌, Bool, true, false, if◌then◌else◌, List, [], ◌∷◌, ◌++◌, length, map, All, Option, Some, None, IfSome, slice_get, get_or, codes, decimal, ℤ, pos, negsuc}
use Rattle.std.specs.List.{flat_map}
use Rattle.std.specs.Fmt.{signed_decimal}
use Rattle.std.proofs.Common.{refl, sym, ap, subst, ◌∙◌, arith, append_assoc}
use Rattle.std.proofs.lemmas.List.{append-nil, length-map}
use Rattle.std.proofs.lemmas.Int.{ints}
use Rattle.std.proofs.lemmas.Option.{slice_get-get_or}
use Rattle.fp_base.specs.declared.ids.Die.{Die}
use Rattle.fp_base.specs.declared.ids.Die.TheVariants.{Top, Bottom}
use Rattle.fp_base.specs.declared.ids.Point.{Point}
use Rattle.fp_text.specs.Words.{is_blank, Word, words_from}
use Rattle.fp_text.specs.WordsLaws.{words-one}
use Rattle.fp_text.specs.Numbers.{is_name}
use Rattle.fp_text.specs.NumbersLaws.{IsSolid, solid-tested, name-solid, decimal-solid, decimal-spells}
use Rattle.fp_text.specs.Items.{Each}
use Rattle.fp_netlist.specs.Netlist.{Netlist, Cell, cell_names, IsSound}
use Rattle.fp_place.specs.declared.drawn.DrawnCell.{DrawnCell}
use Rattle.fp_place.specs.declared.drawn.DrawnTerminal.{DrawnTerminal}
use Rattle.fp_place.specs.declared.placement.Spot.{Spot}
use Rattle.fp_place.specs.Places.{Place, same_die}
use Rattle.fp_place.specs.Drawing.{Drawing, IsCoordinate, lines_from, terminals_from}
use Rattle.fp_place.specs.Placed.{Placed, place_of, places_of, drawn_of, IsCentre, IsSpotOf, IsPlacementOf}
use Rattle.fp_out.specs.OutText.{head_text, line_text, inst_text, terminal_text, die_word, die_part, terminal_part, out_text}
use Rattle.fp_out.specs.OutGrammar.{most_coordinate, most_lines, AreNames, Coordinate, IsLine, IsInst, IsTerminal, IsPart, ReadsOut}

-- ---- a fact of each element

all_head : {A : Type 0} (fact : A → Type 0) (x : A) (xs : List A) → All fact (x ∷ xs) → fact x
all_head fact x xs all = all 0 x (omega arith)

all_tail : {A : Type 0} (fact : A → Type 0) (x : A) (xs : List A) → All fact (x ∷ xs) → All fact xs
all_tail fact x xs all k d lt = all (suc k) d (omega arith)

all_none : {A : Type 0} (fact : A → Type 0) → All fact []
all_none fact k d lt = absurd (omega arith)

all_cons : {A : Type 0} (fact : A → Type 0) (x : A) (xs : List A) → fact x → All fact xs → All fact (x ∷ xs)
all_cons fact x xs one all zero d lt = one
all_cons fact x xs one all (suc k) d lt = all k d (omega arith)

-- ---- a line

-- a name and a point that a line may say
pub record IsSayable (names : List (List ℕ)) (number : ℕ) (at : Point) : Type 0 where
  pub name : List ℕ
  pub there : slice_get names number ≡ Some name
  pub named : is_name name ≡ true
  pub x : IsCoordinate at.x
  pub y : IsCoordinate at.y

-- a text with a blank behind it is the next word
next_word : (text rest : List ℕ) (blank place : ℕ) → IsSolid text → is_blank blank ≡ true
    → words_from place (text ++ (blank ∷ rest)) ≡ record { at = place; text = text } ∷ words_from (place + length text + 1) rest
next_word text rest blank place solid is = words-one text rest blank place solid.some solid.no_blank is

-- the words of a text behind others, from a place on
abbrev Then : (List Word → List Word → Type 0) → ℕ → List ℕ → List ℕ → Type 0
Then stands place text rest = (next : ℕ) × stands (words_from place text) (words_from next rest)

coordinate_then : (z : ℤ) (place blank : ℕ) (rest : List ℕ) → IsCoordinate z → is_blank blank ≡ true → Then (Coordinate z) place (signed_decimal z ++ (blank ∷ rest)) rest
coordinate_then (pos n) place blank rest range is =
    let most : n ≤ 2 ^ 30 = omega (arith, ints, range.most) in (
      place + length (decimal n) + 1,
      (
        n,
        refl,
        (
          record { at = place; text = decimal n },
          next_word (decimal n) rest blank place (decimal-solid n (omega arith)) is,
          decimal-spells 0 most_coordinate n (omega arith) (omega arith) (omega arith),
        ),
      ),
    )
coordinate_then (negsuc n) place blank rest range is = absurd (omega (arith, ints, range.least))

-- the parts of a line, and then the rest
line_split : (keyword name x y rest : List ℕ) → (keyword ++ codes " " ++ name ++ (codes " " ++ x) ++ (codes " " ++ y) ++ codes "\n") ++ rest
    ≡ keyword ++ (32 ∷ (name ++ (32 ∷ (x ++ (32 ∷ (y ++ (10 ∷ rest)))))))
line_split keyword name x y rest =
    let behind_y = 10 ∷ rest in
    let behind_x = 32 ∷ (y ++ behind_y) in
    let behind_name = 32 ∷ (x ++ behind_x) in
    append_assoc (keyword ++ codes " " ++ name ++ (codes " " ++ x) ++ (codes " " ++ y)) (codes "\n") rest
    ∙ append_assoc (keyword ++ codes " " ++ name ++ (codes " " ++ x)) (codes " " ++ y) behind_y
    ∙ append_assoc (keyword ++ codes " " ++ name) (codes " " ++ x) behind_x
    ∙ append_assoc (keyword ++ codes " ") name behind_name
    ∙ append_assoc keyword (codes " ") (name ++ behind_name)

line_then : (keyword : List ℕ) → IsSolid keyword → (names : List (List ℕ)) (number : ℕ) (at : Point) → IsSayable names number at → (place : ℕ) (rest : List ℕ)
    → Then (IsLine keyword names number at) place (line_text keyword (get_or names number []) at ++ rest) rest
line_then keyword solid names number at says place rest =
    let behind_y = signed_decimal at.y ++ (10 ∷ rest) in
    let behind_x = signed_decimal at.x ++ (32 ∷ behind_y) in
    let behind_name = says.name ++ (32 ∷ behind_x) in
    let at_name = place + length keyword + 1 in
    let at_x = at_name + length says.name + 1 in
    let x = coordinate_then at.x at_x 32 behind_y says.x refl in
    let y = coordinate_then at.y x.0 10 rest says.y refl in
    let name_is : get_or names number [] ≡ says.name = name_at names number says.name says.there in
    let split = ap (λ (name : List ℕ). line_text keyword name at ++ rest) name_is ∙ line_split keyword says.name (signed_decimal at.x) (signed_decimal at.y) rest in (
      y.0,
      subst (λ (text : List ℕ). IsLine keyword names number at (words_from place text) (words_from y.0 rest)) (sym split) (record {
        after_keyword = words_from at_name behind_name;
        after_name = words_from at_x behind_x;
        after_x = words_from x.0 behind_y;
        begins = (record { at = place; text = keyword }, next_word keyword behind_name 32 place solid refl, refl);
        name = (record { at = at_name; text = says.name }, next_word says.name behind_x 32 at_name (name-solid says.name says.named) refl, says.named, says.there);
        x = x.1;
        y = y.1;
      }),
    )
  where
    name_at : (names : List (List ℕ)) (number : ℕ) (name : List ℕ) → slice_get names number ≡ Some name → get_or names number [] ≡ name
    name_at [] number name there = absurd cc
    name_at (first ∷ names) zero name there = cc
    name_at (first ∷ names) (suc number) name there = name_at names number name there

-- ---- lines and parts

lines_then : {A : Type 0} (stands : A → List Word → List Word → Type 0) (text : A → List ℕ) (says : A → Type 0)
    → ((x : A) → says x → (place : ℕ) (rest : List ℕ) → Then (stands x) place (text x ++ rest) rest)
    → (before xs : List A) → All says xs → (place : ℕ) (rest : List ℕ) → Then (Each (λ before. stands) before xs) place (flat_map text xs ++ rest) rest
lines_then stands text says one before [] all place rest = (place, refl)
lines_then stands text says one before (x ∷ xs) all place rest =
    let behind = flat_map text xs ++ rest in
    let first = one x (all_head says x xs all) place behind in
    let others = lines_then stands text says one (before ++ x ∷ []) xs (all_tail says x xs all) first.0 rest in
    let here = subst (λ (bytes : List ℕ). stands x (words_from place bytes) (words_from first.0 behind)) (sym (append_assoc (text x) (flat_map text xs) rest)) first.1 in
    (others.0, (words_from first.0 behind, here, others.1))

-- the head of a part, and then its lines and the rest
part_split : (keyword count lines rest : List ℕ) → ((keyword ++ codes " " ++ count ++ codes "\n") ++ lines) ++ rest ≡ keyword ++ (32 ∷ (count ++ (10 ∷ (lines ++ rest))))
part_split keyword count lines rest =
    let behind_count = 10 ∷ (lines ++ rest) in
    append_assoc (keyword ++ codes " " ++ count ++ codes "\n") lines rest
    ∙ append_assoc (keyword ++ codes " " ++ count) (codes "\n") (lines ++ rest)
    ∙ append_assoc (keyword ++ codes " ") count behind_count
    ∙ append_assoc keyword (codes " ") (count ++ behind_count)

part_then : {A : Type 0} (keyword : List ℕ) → IsSolid keyword → (stands : A → List Word → List Word → Type 0) (text : A → List ℕ) (says : A → Type 0)
    → ((x : A) → says x → (place : ℕ) (rest : List ℕ) → Then (stands x) place (text x ++ rest) rest)
    → (xs : List A) → length xs ≤ 2 ^ 18 → All says xs → (place : ℕ) (rest : List ℕ)
    → Then (IsPart keyword stands xs) place ((head_text keyword (length xs) ++ flat_map text xs) ++ rest) rest
part_then {A} keyword solid stands text says one xs few all place rest =
    let behind = flat_map text xs ++ rest in
    let at_count = place + length keyword + 1 in
    let at_lines = at_count + length (decimal (length xs)) + 1 in
    let behind_keyword = decimal (length xs) ++ (10 ∷ behind) in
    let lines = lines_then stands text says one [] xs all at_lines rest in (
      lines.0,
      subst (λ (bytes : List ℕ). IsPart keyword stands xs (words_from place bytes) (words_from lines.0 rest)) (sym (part_split keyword (decimal (length xs)) (flat_map text xs) rest)) (record {
        after_keyword = words_from at_count behind_keyword;
        after_count = words_from at_lines behind;
        begins = (record { at = place; text = keyword }, next_word keyword behind_keyword 32 place solid refl, refl);
        count = (
          record { at = at_count; text = decimal (length xs) },
          next_word (decimal (length xs)) behind 10 at_count (decimal-solid (length xs) (omega arith)) refl,
          decimal-spells 0 most_lines (length xs) (omega arith) (omega arith) (omega arith),
        );
        items = lines.1;
      }),
    )

-- ---- the whole text

-- a cell's line, and a terminal's, that may be said
abbrev pub IsCellSayable : Netlist → DrawnCell → Type 0
IsCellSayable p line = IsSayable (cell_names p) line.cell.0 (record { x = line.x; y = line.y })

abbrev pub IsTerminalSayable : Netlist → DrawnTerminal → Type 0
IsTerminalSayable p line = IsSayable p.nets line.net.0 (record { x = line.x; y = line.y })

-- a drawing that a text may say: few lines, known names that are names, and coordinates in range
pub record IsDrawable (p : Netlist) (drawing : Drawing) : Type 0 where
  pub few_top : length drawing.top ≤ 2 ^ 18
  pub few_bottom : length drawing.bottom ≤ 2 ^ 18
  pub few_terminals : length drawing.terminals ≤ 2 ^ 18
  pub top_lines : All (IsCellSayable p) drawing.top
  pub bottom_lines : All (IsCellSayable p) drawing.bottom
  pub terminal_lines : All (IsTerminalSayable p) drawing.terminals

inst_then : (p : Netlist) (line : DrawnCell) → IsCellSayable p line → (place : ℕ) (rest : List ℕ) → Then (IsInst p line) place (inst_text p line ++ rest) rest
inst_then p line says place rest = line_then (codes "Inst") (solid-tested (codes "Inst") refl) (cell_names p) line.cell.0 (record { x = line.x; y = line.y }) says place rest

terminal_then : (p : Netlist) (line : DrawnTerminal) → IsTerminalSayable p line → (place : ℕ) (rest : List ℕ) → Then (IsTerminal p line) place (terminal_text p line ++ rest) rest
terminal_then p line says place rest = line_then (codes "Terminal") (solid-tested (codes "Terminal") refl) p.nets line.net.0 (record { x = line.x; y = line.y }) says place rest

no_words : (place : ℕ) → words_from place [] ≡ []
unfolding words_from
no_words place = refl

-- the text of a drawing says that drawing
pub says_drawing : (p : Netlist) (drawing : Drawing) → IsDrawable p drawing → ReadsOut p (out_text p drawing) drawing
says_drawing p drawing can =
    let last = terminal_part p drawing.terminals in
    let top = part_then (die_word Top) (solid-tested (die_word Top) refl) (IsInst p) (inst_text p) (IsCellSayable p) (inst_then p) drawing.top can.few_top can.top_lines 0 (die_part p Bottom drawing.bottom ++ last) in
    let bottom = part_then (die_word Bottom) (solid-tested (die_word Bottom) refl) (IsInst p) (inst_text p) (IsCellSayable p) (inst_then p) drawing.bottom can.few_bottom can.bottom_lines top.0 last in
    let terminals = part_then (codes "NumTerminals") (solid-tested (codes "NumTerminals") refl) (IsTerminal p) (terminal_text p) (IsTerminalSayable p) (terminal_then p) drawing.terminals can.few_terminals can.terminal_lines bottom.0 [] in
    let to_end = subst (λ (bytes : List ℕ). IsPart (codes "NumTerminals") (IsTerminal p) drawing.terminals (words_from bottom.0 bytes) (words_from terminals.0 [])) (append-nil last) terminals.1 in
    record {
      after_top = words_from top.0 (die_part p Bottom drawing.bottom ++ last);
      after_bottom = words_from bottom.0 last;
      top = subst (λ (bytes : List ℕ). IsPart (die_word Top) (IsInst p) drawing.top (words_from 0 bytes) (words_from top.0 (die_part p Bottom drawing.bottom ++ last)))
          (sym (append_assoc (die_part p Top drawing.top) (die_part p Bottom drawing.bottom) last)) top.1;
      bottom = bottom.1;
      terminals = subst (λ (ws : List Word). IsPart (codes "NumTerminals") (IsTerminal p) drawing.terminals (words_from bottom.0 last) ws) (no_words terminals.0) to_end;
    }

-- ---- the drawing of a placement

abbrev IsPlaceInRange : Place → Type 0
IsPlaceInRange place = IsCoordinate place.x × IsCoordinate place.y

sayable : (names : List (List ℕ)) (number : ℕ) (at : Point) → AreNames names → number < length names → IsCoordinate at.x → IsCoordinate at.y → IsSayable names number at
sayable names number at named within x y = record {
  name = get_or names number [];
  there = slice_get-get_or names number [] within;
  named = named number [] within;
  x = x;
  y = y;
}

lines_few : (die : Die) (cell : ℕ) (places : List Place) → length (lines_from die cell places) ≤ length places
unfolding lines_from
lines_few die cell [] = omega arith
lines_few die cell (place ∷ places) = by (same_die place.die die) (lines_few die (cell + 1) places)
  where
    by : (b : Bool) → length (lines_from die (cell + 1) places) ≤ length places
        → length (if b then record { cell = record { 0 = cell }; x = place.x; y = place.y } ∷ lines_from die (cell + 1) places else lines_from die (cell + 1) places) ≤ suc (length places)
    by true few = omega arith
    by false few = omega arith

lines_sayable : (p : Netlist) → AreNames (cell_names p) → (die : Die) (cell : ℕ) (places : List Place) → All IsPlaceInRange places → cell + length places ≤ length (cell_names p)
    → All (IsCellSayable p) (lines_from die cell places)
unfolding lines_from
lines_sayable p named die cell [] range within = all_none (IsCellSayable p)
lines_sayable p named die cell (place ∷ places) range within =
    let here = all_head IsPlaceInRange place places range in
    by (same_die place.die die) (sayable (cell_names p) cell (record { x = place.x; y = place.y }) named (omega arith) here.0 here.1)
    (lines_sayable p named die (cell + 1) places (all_tail IsPlaceInRange place places range) (omega arith))
  where
    by : (b : Bool) → IsCellSayable p (record { cell = record { 0 = cell }; x = place.x; y = place.y }) → All (IsCellSayable p) (lines_from die (cell + 1) places)
        → All (IsCellSayable p) (if b then record { cell = record { 0 = cell }; x = place.x; y = place.y } ∷ lines_from die (cell + 1) places else lines_from die (cell + 1) places)
    by true one others = all_cons (IsCellSayable p) (record { cell = record { 0 = cell }; x = place.x; y = place.y }) (lines_from die (cell + 1) places) one others
    by false one others = others

terminals_few : (net : ℕ) (terminals : List (Option Point)) → length (terminals_from net terminals) ≤ length terminals
unfolding terminals_from
terminals_few net [] = omega arith
terminals_few net (None ∷ others) = omega (arith, terminals_few (net + 1) others)
terminals_few net (Some centre ∷ others) = omega (arith, terminals_few (net + 1) others)

abbrev IsTerminalPlaced : Option Point → Type 0
IsTerminalPlaced terminal = IfSome terminal IsCentre

terminals_sayable : (p : Netlist) → AreNames p.nets → (net : ℕ) (terminals : List (Option Point)) → All IsTerminalPlaced terminals → net + length terminals ≤ length p.nets
    → All (IsTerminalSayable p) (terminals_from net terminals)
unfolding terminals_from
terminals_sayable p named net [] range within = all_none (IsTerminalSayable p)
terminals_sayable p named net (None ∷ others) range within =
    terminals_sayable p named (net + 1) others (all_tail IsTerminalPlaced None others range) (omega arith)
terminals_sayable p named net (Some centre ∷ others) range within =
    let here : IsCentre centre = all_head IsTerminalPlaced (Some centre) others range in
    all_cons (IsTerminalSayable p) (record { net = record { 0 = net }; x = centre.x; y = centre.y }) (terminals_from (net + 1) others)
    (sayable p.nets net centre named (omega arith) here.x here.y)
    (terminals_sayable p named (net + 1) others (all_tail IsTerminalPlaced (Some centre) others range) (omega arith))

places_range : (p : Netlist) (spots : List Spot) → All (IsSpotOf p) spots → All IsPlaceInRange (map place_of spots)
places_range p [] all = all_none IsPlaceInRange
places_range p (spot ∷ spots) all =
    let here = all_head (IsSpotOf p) spot spots all in
    all_cons IsPlaceInRange (place_of spot) (map place_of spots) (here.x, here.y) (places_range p spots (all_tail (IsSpotOf p) spot spots all))

pub drawable : (p : Netlist) (placed : Placed) → IsSound p → IsPlacementOf p placed → AreNames (cell_names p) → AreNames p.nets → IsDrawable p (drawn_of placed)
drawable p placed sound of_problem cells nets =
    let places = places_of placed in
    let many : length places ≡ length p.cells = length-map placed.spots place_of ∙ of_problem.cells in
    let names : length (cell_names p) ≡ length p.cells = length-map p.cells (λ (cell : Cell). cell.name) in
    let range = places_range p placed.spots of_problem.spots in
    record {
      few_top = omega (arith, lines_few Top 0 places, many, sound.few_cells);
      few_bottom = omega (arith, lines_few Bottom 0 places, many, sound.few_cells);
      few_terminals = omega (arith, terminals_few 0 placed.terminals, of_problem.nets, sound.few_nets);
      top_lines = lines_sayable p cells Top 0 places range (omega (arith, many, names));
      bottom_lines = lines_sayable p cells Bottom 0 places range (omega (arith, many, names));
      terminal_lines = terminals_sayable p nets 0 placed.terminals of_problem.centres (omega (arith, of_problem.nets));
    }

-- what is written of a placement is read as what was drawn
pub reads_back : (p : Netlist) (placed : Placed) → IsSound p → IsPlacementOf p placed → AreNames (cell_names p) → AreNames p.nets → ReadsOut p (out_text p (drawn_of placed)) (drawn_of placed)
reads_back p placed sound of_problem cells nets = says_drawing p (drawn_of placed) (drawable p placed sound of_problem cells nets)
