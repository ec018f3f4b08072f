use Rattle.std.proofs.Common.{◌≡◌, ◌++◌, take, flat_map}
use Rattle.fp_contest_in.specs.PrintedText.{spaced, numbers}
use Rattle.fp_gen.proofs.lines.push_numbers.Given as goal

abbrev pub invariant-loop-value : goal.invariant-loop-value
invariant-loop-value l = l.text.items ≡ l.fn.text.items ++ flat_map spaced (numbers (take l.value-index l.fn.values))
