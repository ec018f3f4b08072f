use Rattle.std.proofs.Common.{◌≡◌, take}
use Rattle.fp_check.specs.CutLines.{slots_of}
use Rattle.fp_check.proofs.cuts.slots_of.Given as goal

abbrev pub invariant-loop-cut : goal.invariant-loop-cut
invariant-loop-cut l = l.slots.items ≡ slots_of (take l.cut-index l.cuts)
