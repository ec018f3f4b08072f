use Rattle.std.proofs.Common.{◌≡◌, ◌++◌, drop}
use Rattle.fp_tech.proofs.SweepLemmas.{parts}
use Rattle.fp_tech.proofs.cutting.cut_row.Given as goal

abbrev pub invariant-loop-block : goal.invariant-loop-block
invariant-loop-block l = l.segments.items ++ parts l.fn.spec l.row l.end l.at (drop l.block-index l.own) ≡ l.fn.segments.items ++ parts l.fn.spec l.row l.end l.fn.spec.start_x l.own
