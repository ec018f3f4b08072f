use Rattle.std.proofs.Common.{◌≡◌, List, slice_get, Some, ap, sym, ◌∙◌, refl, below_more, arith}
use Rattle.std.specs.Prelude.{Decides}
use Rattle.std.proofs.lemmas.Option.{same_Some}
use Rattle.std.proofs.lemmas.Slice.Eq.{slice_eq-Decides}
use lib.Pointwise.{pointwise}
use Rattle.fp_base.specs.contracts.ids.CellIdPartialEq.TheImpl.{eq-value}
use Rattle.fp_base.specs.declared.ids.CellId.{CellId}
use Rattle.fp_base.specs.declared.ids.Die.{Die}
use Rattle.fp_place.specs.Placed.{LaneList, lanes_of}
use Rattle.fp_check.proofs.Pairs.{same_by_get, none_where, all_where, differs, is_same}
use Rattle.fp_check.proofs.Pickings.{cells_same, lanes_long}
use Rattle.fp_check.proofs.picks.are_lanes.Given as given
use Rattle.fp_check.proofs.picks.are_lanes.Goals as goal
use Rattle.fp_check.proofs.picks.are_lanes.Goals.{After-lane-in-loop-segment}

-- the lanes that are compared
mine : (g : given.Over) (c : After-lane-in-loop-segment g) → slice_get c.args.lanes.now c.loop-segment.segment ≡ Some c.lane.result.now
mine g c = ap (slice_get c.args.lanes.now) (sym c.new.ensures) ∙ c.lane.ensures

its : (g : given.Over) (c : After-lane-in-loop-segment g) → slice_get (lanes_of c.args.placement.now g.S.Side.DIE) c.loop-segment.segment ≡ Some c.lane-in-loop-segment.result.now
its g c = ap (λ (die : Die). slice_get (lanes_of c.args.placement.now die) c.loop-segment.segment) (sym c.DIE.ensures) ∙ c.lane-in-loop-segment.ensures.lane

-- what equality of lanes says
lanes_same : (xs ys : List CellId) → Decides (pointwise eq-value.it xs ys) (xs ≡ ys)
lanes_same xs ys = slice_eq-Decides cells_same xs ys (pointwise eq-value.it xs ys) refl

pub returns-then-ne : goal.returns-then-ne
returns-then-ne g c =
    let at = (goal.at.returns-then-ne g c).After-lane-in-loop-segment in
    let first = c.lane.result.now in
    let second = c.lane-in-loop-segment.result.now in
    none_where (λ all. differs (pointwise eq-value.it first second) c.ne.result (lanes_same first second) c.ne.ensures c.if-ne.true
    (same_Some first second (sym (mine g at) ∙ ap (λ (list : LaneList). slice_get list c.loop-segment.segment) all ∙ its g at)))

pub loop-segment-preserved : goal.loop-segment-preserved
loop-segment-preserved g c =
    let at = (goal.at.loop-segment-preserved g c).After-lane-in-loop-segment in
    let first = c.lane.result.now in
    let second = c.lane-in-loop-segment.result.now in
    below_more _ _ c.loop-segment.invariant
    (mine g at ∙ ap Some (is_same (pointwise eq-value.it first second) c.ne.result (lanes_same first second) c.ne.ensures c.if-ne.false) ∙ sym (its g at))

pub returns : goal.returns
returns g c =
    all_where (same_by_get c.args.lanes.now (lanes_of c.args.placement.now g.S.Side.DIE)
    (c.requires.many ∙ sym (lanes_long c.args.problem.now c.args.placement.now g.S.Side.DIE c.requires.of_problem))
    (λ k below. c.loop-segment.invariant k (omega (arith, below, c.loop-segment-test.false, c.len-segment-end.ensures))))
