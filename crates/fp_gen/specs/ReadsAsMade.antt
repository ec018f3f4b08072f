-- What a text that is made reads as.
use Rattle.std.specs.Prelude.{◌≡◌, ℕ, ◌<◌, ◌^◌, length}
use Rattle.fp_contest_in.specs.Text.{netlist_of}
use Rattle.fp_contest_in.specs.Grammar.{Reads}
use Rattle.fp_gen.specs.MakeText.{made_problem, make_text}

-- the text of a number reads as its problem, which has so many cells and as many nets, and is shorter than 2^28 bytes
pub record ReadsAsMade (number cells percent : ℕ) : Type 0 where
  pub reads : Reads (make_text number cells percent) (made_problem number cells percent)
  pub as_many_cells : length (netlist_of (made_problem number cells percent)).cells ≡ cells
  pub as_many_nets : length (netlist_of (made_problem number cells percent)).nets ≡ cells
  pub short : length (make_text number cells percent) < 2 ^ 28
