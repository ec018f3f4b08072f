use Rattle.std.proofs.Common.{◌≡◌, ◌++◌, map}
use Rattle.std.specs.List.{range_with_len}
use Rattle.fp_contest_in.specs.PrintedText.{pin_lines}
use Rattle.fp_gen.specs.MakeText.{made_pin}
use Rattle.fp_gen.proofs.techs.push_pins.Given as goal

abbrev pub invariant-loop-pin : goal.invariant-loop-pin
invariant-loop-pin l = l.text.items ≡ l.fn.text.items ++ pin_lines (map (made_pin l.width l.lift) (range_with_len 0 l.pin))
