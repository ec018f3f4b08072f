use Rattle.std.proofs.Common.{◌≡◌, map, take}
use Rattle.fp_place.specs.Placed.{lanes_of}
use Rattle.fp_flow.specs.Still.{still_row, with_rows}
use Rattle.fp_flow.proofs.still.show_die.Given as goal

abbrev pub invariant-loop-segment : goal.invariant-loop-segment
invariant-loop-segment l = l.trial ≡ with_rows l.fn.trial l.die (map (still_row l.placement) (take l.segment (lanes_of l.placement l.die)))
