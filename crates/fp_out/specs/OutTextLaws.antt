-- The text of a placement without cells and nets.
use Rattle.std.specs.Prelude.{◌≡◌, ℕ, List, [], ◌++◌, map, codes}
use Rattle.std.proofs.Common.{ap, ◌∙◌, arith}
use Rattle.std.proofs.lemmas.Fmt.{decimal_digit}
use Rattle.fp_netlist.specs.Netlist.{Netlist}
use Rattle.fp_place.specs.Drawing.{empty, drawing_of, lines_from, terminals_from}
use Rattle.fp_place.specs.Placed.{Placed, place_of, drawn_of}
use Rattle.fp_out.specs.OutText.{out_text}

pub no_lines_text : (p : Netlist) → out_text p empty ≡ codes "TopDiePlacement 0\nBottomDiePlacement 0\nNumTerminals 0\n"
no_lines_text p = ap heads (decimal_digit 0 (omega arith))
  where
    part : List ℕ → List ℕ → List ℕ
    part word digits = word ++ codes " " ++ digits ++ codes "\n" ++ []

    heads : List ℕ → List ℕ
    heads digits = part (codes "TopDiePlacement") digits ++ part (codes "BottomDiePlacement") digits ++ part (codes "NumTerminals") digits

pub no_lines_drawn : (placed : Placed) → placed.spots ≡ [] → placed.terminals ≡ [] → drawn_of placed ≡ empty
unfolding lines_from terminals_from
no_lines_drawn placed no_spots no_terminals = λ i. drawing_of (map place_of (no_spots i)) (no_terminals i)

pub no_cells_text : (p : Netlist) (placed : Placed) → placed.spots ≡ [] → placed.terminals ≡ []
    → out_text p (drawn_of placed) ≡ codes "TopDiePlacement 0\nBottomDiePlacement 0\nNumTerminals 0\n"
no_cells_text p placed no_spots no_terminals = ap (out_text p) (no_lines_drawn placed no_spots no_terminals) ∙ no_lines_text p
