use Rattle.std.proofs.Common.{◌≡◌, ◌≤◌, drop}
use Rattle.fp_text.specs.Numbers.{value_from, value_of}
use Rattle.fp_text.proofs.numbers.digits_value.Given as goal

abbrev pub invariant-loop-byte : goal.invariant-loop-byte
invariant-loop-byte l = (value_from l.value (drop l.byte-index l.digits) ≡ value_of l.digits)
    × (l.value ≤ l.most)
