use Rattle.fp_rows.specs.Squares.{squared_rise}
use Rattle.fp_rows.specs.NeedsLaws.{IsRaising}
use Rattle.fp_abacus.proofs.Rises.{most_of}
use Rattle.fp_abacus.proofs.duals.raise_to_least.Given as goal

abbrev pub invariant-loop-i : goal.invariant-loop-i
invariant-loop-i l = IsRaising squared_rise most_of l.cells l.xs l.duals l.i l.spare
