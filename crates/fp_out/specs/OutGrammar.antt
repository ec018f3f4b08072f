-- The grammar of the output file, as a relation between a drawing and the tokens that spell it: each statement takes the first words, and
-- the rest follow.
use Rattle.std.specs.Prelude.{◌≡◌, ℕ, ◌^◌, true, List, [], ◌∷◌, length, All, Some, slice_get, codes, ℤ, pos}
use Rattle.fp_base.specs.declared.ids.Die.TheVariants.{Top, Bottom}
use Rattle.fp_base.specs.declared.ids.Point.{Point}
use Rattle.fp_text.specs.Words.{Word, words_of}
use Rattle.fp_text.specs.Numbers.{is_name, Spells}
use Rattle.fp_text.specs.Items.{Each}
use Rattle.fp_netlist.specs.Netlist.{Netlist, cell_names}
use Rattle.fp_place.specs.declared.drawn.DrawnCell.{DrawnCell}
use Rattle.fp_place.specs.declared.drawn.DrawnTerminal.{DrawnTerminal}
use Rattle.fp_place.specs.Drawing.{Drawing}
use Rattle.fp_out.specs.OutText.{die_word}

-- the greatest coordinate, and the most lines of a part
abbrev pub most_coordinate : ℕ
most_coordinate = 2 ^ 30

abbrev pub most_lines : ℕ
most_lines = 2 ^ 18

-- the first word is this keyword
abbrev pub Keyword : List ℕ → List Word → List Word → Type 0
Keyword keyword words rest = (word : Word) × (words ≡ word ∷ rest) × (word.text ≡ keyword)

-- the first word is a number up to a greatest one
abbrev pub Number : ℕ → ℕ → List Word → List Word → Type 0
Number most n words rest = (word : Word) × (words ≡ word ∷ rest) × Spells 0 most word.text n

-- the first word is a name, that of this number among these names
abbrev pub Names : List (List ℕ) → ℕ → List Word → List Word → Type 0
Names names number words rest = (word : Word) × (words ≡ word ∷ rest) × (is_name word.text ≡ true) × (slice_get names number ≡ Some word.text)

-- all of these are names
abbrev pub AreNames : List (List ℕ) → Type 0
AreNames names = All (λ name. is_name name ≡ true) names

-- the first word is a coordinate
abbrev pub Coordinate : ℤ → List Word → List Word → Type 0
Coordinate at words rest = (n : ℕ) × (at ≡ pos n) × Number most_coordinate n words rest

-- `keyword name x y`, where the name is that of this number among these names
pub record IsLine (keyword : List ℕ) (names : List (List ℕ)) (number : ℕ) (at : Point) (words rest : List Word) : Type 0 where
  pub after_keyword : List Word
  pub after_name : List Word
  pub after_x : List Word
  pub begins : Keyword keyword words after_keyword
  pub name : Names names number after_keyword after_name
  pub x : Coordinate at.x after_name after_x
  pub y : Coordinate at.y after_x rest

-- `Inst cell x y`
abbrev pub IsInst : Netlist → DrawnCell → List Word → List Word → Type 0
IsInst p line = IsLine (codes "Inst") (cell_names p) line.cell.0 (record { x = line.x; y = line.y })

-- `Terminal net x y`
abbrev pub IsTerminal : Netlist → DrawnTerminal → List Word → List Word → Type 0
IsTerminal p line = IsLine (codes "Terminal") p.nets line.net.0 (record { x = line.x; y = line.y })

-- `keyword n`, then n lines
pub record IsPart {A : Type 0} (keyword : List ℕ) (stands : A → List Word → List Word → Type 0) (lines : List A) (words rest : List Word) : Type 0 where
  pub after_keyword : List Word
  pub after_count : List Word
  pub begins : Keyword keyword words after_keyword
  pub count : Number most_lines (length lines) after_keyword after_count
  pub items : Each (λ before. stands) [] lines after_count rest

-- the words of a whole file: the top die's cells, the bottom die's cells, and the terminals
pub record IsDrawing (p : Netlist) (drawing : Drawing) (words : List Word) : Type 0 where
  pub after_top : List Word
  pub after_bottom : List Word
  pub top : IsPart (die_word Top) (IsInst p) drawing.top words after_top
  pub bottom : IsPart (die_word Bottom) (IsInst p) drawing.bottom after_top after_bottom
  pub terminals : IsPart (codes "NumTerminals") (IsTerminal p) drawing.terminals after_bottom []

-- the bytes are an output file that says this drawing
abbrev pub ReadsOut : Netlist → List ℕ → Drawing → Type 0
ReadsOut p bytes drawing = IsDrawing p drawing (words_of bytes)
