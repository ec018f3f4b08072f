use Rattle.std.proofs.Common.{◌≡◌, ◌++◌, flat_map}
use Rattle.fp_contest_in.specs.PrintedText.{inst_line}
use Rattle.fp_gen.specs.MakeText.{made_inst, made_first}
use Rattle.fp_gen.proofs.cells.push_insts.Given as goal

abbrev pub invariant-loop-cell : goal.invariant-loop-cell
invariant-loop-cell l =
    (l.text.items ≡ l.fn.text.items ++ flat_map inst_line (made_first made_inst l.cell l.fn.words).0) × (l.words ≡ (made_first made_inst l.cell l.fn.words).1)
