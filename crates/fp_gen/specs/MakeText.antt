-- The input that a number makes: two technologies of eight library cells, two dies of the same square frame, cells of library cells that are
-- drawn by lot, and as many nets, each of two to four pins of cells that are numbered near the net's own number.
use Rattle.std.specs.Prelude.{ℕ, zero, suc, ◌+◌, ◌-◌, ◌*◌, ◌/◌, ◌%◌, nat_le, Bool, List, [], ◌∷◌, ◌++◌, map, find, unwrap_or, codes, decimal}
use Rattle.std.specs.List.{range_with_len}
use Rattle.fp_tech.specs.Book.{Pin}
use Rattle.fp_tech.specs.declared.dies.DieSpec.{DieSpec}
use Rattle.fp_contest_in.specs.declared.section.Setup.{Setup}
use Rattle.fp_contest_in.specs.Text.{LibText, TechText, InstText, ConnText, NetText, ProblemText}
use Rattle.fp_contest_in.specs.PrintedText.{text_lines}
use Rattle.rand_pcg.specs.Lcg.{Lcg, started, increment_of}
use Rattle.rand_pcg.specs.Pcg.{multiplier_64, pcg32}

-- the words of a number: those of PCG32 from it on, in the stream 54
abbrev pub words_of : ℕ → Lcg
words_of number = started 64 multiplier_64 number (increment_of 64 54)

-- the first word, and the words behind it
abbrev pub word : Lcg → ℕ
word words = (pcg32 words).0

abbrev pub behind : Lcg → Lcg
behind words = (pcg32 words).1

-- the first of the things that are made one after the other, so many, each by its number from 0 and from the words that are left; and the
-- words behind them
unfoldable pub made_first : {A : Type 0} → (ℕ → Lcg → A × Lcg) → ℕ → Lcg → List A × Lcg
made_first make zero words = ([], words)
made_first make (suc n) words =
    ((made_first make n words).0 ++ (make n (made_first make n words).1).0 ∷ [], (make n (made_first make n words).1).1)

-- a name: a letter and a number
abbrev pub numbered : List ℕ → ℕ → List ℕ
numbered letter number = letter ++ decimal number

-- ---- the technologies

-- the pins P0 to P3 of a library cell stand on a rising line, in one technology higher than in the other
abbrev pub made_pin : ℕ → ℕ → ℕ → Pin
made_pin width lift pin = record { name = numbered (codes "P") pin; x = pin * (width - 1) / 3; y = 3 * pin + lift }

abbrev pub made_pins : ℕ → ℕ → List Pin
made_pins width lift = map (made_pin width lift) (range_with_len 0 4)

-- the library cells L0 to L7 are each wider by one than the one before
abbrev pub made_lib : ℕ → ℕ → ℕ → ℕ → LibText
made_lib narrowest height lift lib = record {
  name = numbered (codes "L") lib;
  width = narrowest + lib;
  height = height;
  pins = made_pins (narrowest + lib) lift;
}

abbrev pub made_libs : ℕ → ℕ → ℕ → List LibText
made_libs narrowest height lift = map (made_lib narrowest height lift) (range_with_len 0 8)

abbrev pub made_tech : List ℕ → ℕ → ℕ → ℕ → TechText
made_tech name narrowest height lift = record { name = name; libs = made_libs narrowest height lift }

abbrev pub made_techs : List TechText
made_techs = made_tech (codes "TA") 2 10 0 ∷ made_tech (codes "TB") 3 12 1 ∷ []

-- ---- the dies

-- whether a square of a side of 60 k has an area of at least 160 for each cell
abbrev pub is_wide : ℕ → ℕ → Bool
is_wide cells k = nat_le (160 * cells) (3600 * (k * k))

-- the side of the frame: 60 k for the least such k from 1
abbrev pub side_of : ℕ → ℕ
side_of cells = 60 * unwrap_or (find (is_wide cells) (range_with_len 1 cells)) 0

-- as many rows of a height as the frame holds
abbrev pub made_die : ℕ → ℕ → ℕ → ℕ → DieSpec
made_die side height tech percent = record { tech = record { 0 = tech }; start_x = 0; start_y = 0; length = side; height = height; repeat = side / height; percent = percent }

abbrev pub made_setup : ℕ → ℕ → Setup
made_setup side percent = record {
  frame = record { llx = 0; lly = 0; urx = side; ury = side };
  top = made_die side 10 0 percent;
  bottom = made_die side 12 1 80;
  terminal = record { size_x = 2; size_y = 2; spacing = 1; cost = 0 };
}

-- ---- the cells and the nets

-- a cell's word says its library cell
abbrev pub made_inst : ℕ → Lcg → InstText × Lcg
made_inst cell words = (record { name = numbered (codes "C") cell; lib = numbered (codes "L") (word words % 8) }, behind words)

-- a pin's word says the cell, of the sixteen from the net's number on, and the pin
abbrev pub made_conn : ℕ → ℕ → ℕ → Lcg → ConnText × Lcg
made_conn cells net number words =
    (record { inst = (net + word words % 16) % cells; pin = numbered (codes "P") (word words / 16 % 4) }, behind words)

abbrev pub made_conns : ℕ → ℕ → Lcg → List ConnText × Lcg
made_conns cells net words = made_first (made_conn cells net) (2 + word words % 3) (behind words)

-- a net's first word says how many pins it has
abbrev pub made_net : ℕ → ℕ → Lcg → NetText × Lcg
made_net cells net words = (record { name = numbered (codes "N") net; pins = (made_conns cells net words).0 }, (made_conns cells net words).1)

abbrev pub made_insts : ℕ → ℕ → List InstText × Lcg
made_insts number cells = made_first made_inst cells (words_of number)

-- The problem of a number: so many cells, and as many nets; the top die may be used up to a percentage, the bottom die up to 80.
abbrev pub made_problem : ℕ → ℕ → ℕ → ProblemText
made_problem number cells percent = record {
  techs = made_techs;
  setup = made_setup (side_of cells) percent;
  blocks = [];
  insts = (made_insts number cells).0;
  nets = (made_first (made_net cells) cells (made_insts number cells).1).0;
}

-- and its canonical text
unfoldable pub make_text : ℕ → ℕ → ℕ → List ℕ
make_text number cells percent = text_lines (made_problem number cells percent)
