-- How the text is written: piece by piece, the lines of the cells and the nets: a cell in a net by its number.
use Rattle.std.specs.Prelude.{◌≡◌, ℕ, List, [], ◌∷◌, ◌++◌, length, flat_map, codes}
use Rattle.fp_contest_in.specs.Text.{ConnText, NetText}
use Rattle.fp_contest_in.specs.Grammar.{slash}
use Rattle.fp_contest_in.specs.PrintedText.{line, numbers, inst_line}
use Rattle.rand_pcg.specs.Lcg.{Lcg}
use Rattle.fp_gen.specs.MakeText.{numbered, made_inst, made_net, made_first}

-- a text that grew by a piece
pub record Adds (piece old new : List ℕ) : Type 0 where
  pub is : new ≡ old ++ piece

abbrev pub conn_text : ConnText → List ℕ
conn_text conn = line (codes "Pin") ((numbered (codes "C") conn.inst ++ slash ∷ conn.pin) ∷ [])

abbrev pub net_text : NetText → List ℕ
net_text net = line (codes "Net") (net.name ∷ numbers (length net.pins ∷ [])) ++ flat_map conn_text net.pins

-- the cells and the nets that words make
abbrev pub netlist_text : ℕ → Lcg → List ℕ
netlist_text cells words =
    line (codes "NumInstances") (numbers (cells ∷ [])) ++ flat_map inst_line (made_first made_inst cells words).0
    ++ line (codes "NumNets") (numbers (cells ∷ [])) ++ flat_map net_text (made_first (made_net cells) cells (made_first made_inst cells words).1).0
