use Rattle.std.proofs.Common.{◌≡◌, ◌++◌, map}
use Rattle.std.specs.List.{range_with_len}
use Rattle.fp_contest_in.specs.PrintedText.{libs_lines}
use Rattle.fp_gen.specs.MakeText.{made_lib}
use Rattle.fp_gen.proofs.techs.push_libs.Given as goal

abbrev pub invariant-loop-lib : goal.invariant-loop-lib
invariant-loop-lib l =
    l.text.items ≡ l.fn.text.items ++ libs_lines (map (made_lib l.shape.narrowest l.shape.height l.shape.lift) (range_with_len 0 l.lib))
