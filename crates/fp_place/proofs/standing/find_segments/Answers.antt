use Rattle.std.proofs.Common.{ap, arith, length}
use Rattle.std.proofs.lemmas.List.{length_push}
use Rattle.fp_place.specs.Legal.{StandsOnSegment}
use Rattle.fp_place.specs.FirstFaults.{cell_subject}
use Rattle.fp_place.proofs.StandingLemmas.{no_segment, in_segment, numbers_more}
use Rattle.fp_place.proofs.FaultLemmas.{told}
use Rattle.fp_place.proofs.standing.find_segments.Goals as goal

pub returns-in-None : goal.returns-in-None
returns-in-None c =
    told (length c.args.problem.now.cells) (StandsOnSegment c.args.problem.now c.args.places.now) 2 cell_subject c.loop-cell.cell c.broken_by.result c.broken_by.ensures (omega arith)
    (no_segment c.args.problem.now c.args.places.now c.loop-cell.cell c.index-places-cell.result (omega arith) c.index-places-cell.is c.in-None.ensures)
    (λ before less. in_segment c.args.problem.now c.args.places.now c.loop-cell.numbers.items before (c.loop-cell.invariant.1 before less))

pub loop-cell-preserved : goal.loop-cell-preserved
loop-cell-preserved c = (
  omega (arith, ap length c.in_ok-push-in-Some.ensures.items, length_push c.loop-cell.numbers.items c.in-Some.number, c.loop-cell.invariant.0),
  numbers_more c.args.problem.now c.args.places.now c.loop-cell.numbers.items _ c.in-Some.number c.loop-cell.cell c.index-places-cell.result c.in_ok-push-in-Some.ensures.items c.loop-cell.invariant.0 (omega arith)
      c.index-places-cell.is c.in-Some.ensures c.loop-cell.invariant.1,
)
