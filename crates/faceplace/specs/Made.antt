-- The inputs that are made.
use Rattle.std.specs.Prelude.{◌≡◌, ℕ, ◌≤◌, ◌^◌, List, length, Ok}
use Rattle.fp_netlist.specs.Netlist.{Netlist, IsSound}
use Rattle.fp_gen.specs.MakeText.{make_text}
use Rattle.faceplace.specs.declared.request.Making.{Making}
use Rattle.faceplace.specs.Report.{counts_line}
use Rattle.faceplace.specs.Sources.{problem_read}

-- the text of an input
abbrev pub text_made : Making → List ℕ
text_made making = make_text making.number making.cells making.percent

-- it says this problem, which is sound
pub record IsMade (making : Making) (p : Netlist) : Type 0 where
  pub says : problem_read (text_made making) ≡ Ok p
  pub sound : IsSound p

-- the line of its counts and its length
abbrev pub made_line : Making → Netlist → List ℕ
made_line making p = counts_line (length p.cells) (length p.nets) (length (text_made making))
