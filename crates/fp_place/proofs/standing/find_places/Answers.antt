use Rattle.std.proofs.Common.{◌≡◌, ◌∙◌, ap, arith, length}
use Rattle.fp_place.specs.Drawing.{places_in}
use Rattle.fp_place.specs.Legal.{StandsOnce}
use Rattle.fp_place.specs.Seen.{cell_number, corner_of}
use Rattle.fp_place.specs.FirstFaults.{cell_subject}
use Rattle.fp_place.proofs.StandingLemmas.{place_more, places_more, below_next, cell_told}
use Rattle.fp_place.proofs.SeenLemmas.{seen_many}
use Rattle.fp_place.proofs.FaultLemmas.{told}
use Rattle.fp_place.proofs.standing.find_places.Goals as goal

pub index-requires : goal.index-requires
index-requires c = omega (arith, seen_many cell_number corner_of c.cells-2.result.now c.in_ok-top.top.items c.cells.result c.in_ok-top.ensures, c.in_ok-top.top.ok.0)

pub index-requires-in-loop-cell : goal.index-requires-in-loop-cell
index-requires-in-loop-cell c =
    omega (arith, seen_many cell_number corner_of c.cells-4.result.now c.in_ok-bottom.bottom.items c.cells-3.result c.in_ok-bottom.ensures, c.in_ok-bottom.bottom.ok.0)

pub returns-in-None : goal.returns-in-None
returns-in-None c =
    let top = cell_told c.cells-2.result.now c.args.drawn.now.top c.in_ok-top.top.items c.cells.result c.loop-cell.cell c.index.result.now c.in_ok-top.ensures c.cells-2.ensures.lines (omega arith) c.index.ensures in
    let bottom = cell_told c.cells-4.result.now c.args.drawn.now.bottom c.in_ok-bottom.bottom.items c.cells-3.result c.loop-cell.cell c.index-in-loop-cell.result.now c.in_ok-bottom.ensures c.cells-4.ensures.lines (omega arith) c.index-in-loop-cell.ensures in
    let found = place_more c.args.drawn.now c.loop-cell.cell c.index.result.now c.index-in-loop-cell.result.now c.place_once.result top bottom c.place_once.ensures in
    told (length c.args.problem.now.cells) (StandsOnce c.args.drawn.now) 1 cell_subject c.loop-cell.cell c.broken_by.result c.broken_by.ensures (omega arith) (found.not_once c.in-None.is) c.loop-cell.invariant.1

pub loop-cell-preserved : goal.loop-cell-preserved
loop-cell-preserved c =
    let top = cell_told c.cells-2.result.now c.args.drawn.now.top c.in_ok-top.top.items c.cells.result c.loop-cell.cell c.index.result.now c.in_ok-top.ensures c.cells-2.ensures.lines (omega arith) c.index.ensures in
    let bottom = cell_told c.cells-4.result.now c.args.drawn.now.bottom c.in_ok-bottom.bottom.items c.cells-3.result c.loop-cell.cell c.index-in-loop-cell.result.now c.in_ok-bottom.ensures c.cells-4.ensures.lines (omega arith) c.index-in-loop-cell.ensures in
    let found = place_more c.args.drawn.now c.loop-cell.cell c.index.result.now c.index-in-loop-cell.result.now c.place_once.result top bottom c.place_once.ensures in (
      c.in_ok-push-in-Some.ensures.items ∙ places_more c.args.drawn.now c.loop-cell.cell c.in-Some.place c.loop-cell.places.items c.loop-cell.invariant.0 (found.is c.in-Some.place c.in-Some.is),
      below_next (StandsOnce c.args.drawn.now) c.loop-cell.cell c.loop-cell.invariant.1 (found.once c.in-Some.place c.in-Some.is),
    )

pub returns : goal.returns
returns c =
    let all : c.loop-cell.cell ≡ length c.args.problem.now.cells = omega arith in
    record { places_are = c.loop-cell.invariant.0 ∙ ap (places_in c.args.drawn.now) all; once = λ cell less. c.loop-cell.invariant.1 cell (omega (arith, less)) }
