use Rattle.fp_coarse.specs.Nearest.{IsHullBelow}
use Rattle.fp_coarse.proofs.nearest.hull_of.Given as goal

abbrev pub invariant-loop-segment : goal.invariant-loop-segment
invariant-loop-segment l = IsHullBelow l.segments l.segment-index l.hull
