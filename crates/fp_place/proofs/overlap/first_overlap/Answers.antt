use Rattle.std.proofs.Common.{◌<◌, length, Option, sym, subst}
use Rattle.fp_base.specs.declared.ids.CellId.{CellId}
use Rattle.fp_base.specs.declared.ids.Die.TheVariants.{Top, Bottom}
use Rattle.fp_place.specs.Legal.{IsClear}
use Rattle.fp_place.specs.LaneOverlaps.{OverlapsSome, IsFirst}
use Rattle.fp_place.proofs.LinClear.{lanes_ranked, first_of_both}
use Rattle.fp_place.proofs.overlap.first_overlap.Goals as goal

pub first_on-top-requires-clause-lanes : goal.first_on-top-requires-clause-lanes
first_on-top-requires-clause-lanes c = lanes_ranked c.args.problem.now c.args.places.now c.args.lined.now.top c.args.lined.now.bottom c.requires.sound c.requires.ranked Top

pub first_on-bottom-requires-clause-lanes : goal.first_on-bottom-requires-clause-lanes
first_on-bottom-requires-clause-lanes c = lanes_ranked c.args.problem.now c.args.places.now c.args.lined.now.top c.args.lined.now.bottom c.requires.sound c.requires.ranked Bottom

pub returns : goal.returns
returns c =
    subst (λ (o : Option CellId). IsFirst (OverlapsSome c.args.problem.now c.args.places.now) (λ (cell : CellId). IsClear c.args.problem.now c.args.places.now cell.0) (λ (cell : CellId). cell.0 < length c.args.problem.now.cells) o)
    (sym c.earlier.ensures)
    (first_of_both c.args.problem.now c.args.places.now c.args.lined.now.top c.args.lined.now.bottom c.requires.ranked c.first_on-top.result c.first_on-bottom.result
    c.first_on-top.ensures c.first_on-bottom.ensures)
