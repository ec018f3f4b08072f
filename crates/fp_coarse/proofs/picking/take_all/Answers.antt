use Rattle.std.proofs.Common.{◌≡◌, ◌∙◌, ◌+◌, List, [], ◌∷◌, ◌++◌, All, Some, None, length, get_or, drop, sym, ap, subst, arith}
use Rattle.std.proofs.lemmas.List.Elements.{All-push}
use Rattle.fp_base.specs.declared.ids.CellId.{CellId}
use Rattle.fp_tech.specs.Plan.{Plan, segments, IsPlan}
use Rattle.fp_score.specs.Pick.{Taken, taken_by}
use Rattle.fp_coarse.specs.declared.order.Choice.{Choice}
use Rattle.fp_coarse.specs.Nearest.{AreSegments, IsHull}
use Rattle.fp_coarse.specs.Orders.{taken_of, numbers_of}
use Rattle.fp_coarse.specs.Picking.{AreLeft, IsChoice}
use Rattle.fp_coarse.specs.Rooms.{lengths}
use Rattle.fp_coarse.specs.SegmentsLaws.{rows_are}
use Rattle.fp_coarse.proofs.Taking.{nearest_is, take_step, take_none, take_end, left_first, left_more, left_free, first_of, none_left, taken_push}
use Rattle.fp_coarse.proofs.picking.take_all.Goals as goal

pub hull_of-hull-requires : goal.hull_of-hull-requires
hull_of-hull-requires c =
    subst AreSegments (sym c.segments_of-segments.ensures.segments) (rows_are c.dies.result.now c.segments_of-segments.ensures.plan c.args.die)

pub new-requires : goal.new-requires
new-requires c =
    (subst AreSegments (sym c.segments_of-segments.ensures.segments) (rows_are c.dies.result.now c.segments_of-segments.ensures.plan c.args.die)).few

pub loop-cell-init : goal.loop-cell-init
loop-cell-init c =
    let p = c.args.problem.now in
    let segments_is = c.segments_of-segments.ensures.segments ∙ ap (λ (plan : Plan). segments plan c.args.die) c.dies.ensures in
    let are = rows_are p.plan (subst IsPlan c.dies.ensures c.segments_of-segments.ensures.plan) c.args.die in
    let items = c.in_ok-choices.ensures.items in
    record {
      taken_is = ap (λ (choices : List Choice). taken_by p c.args.die c.args.targets.now (taken_of choices) (numbers_of c.args.order.now)) items;
      rooms_are = c.in_ok-rooms.ensures.rooms;
      left = subst (λ (choices : List Choice). AreLeft p c.args.die (taken_of choices) c.in_ok-rooms.rooms.free.items) (sym items)
          (left_first p c.args.die c.in_ok-rooms.rooms.free.items are (c.in_ok-rooms.ensures.free ∙ ap lengths segments_is));
      each = λ k d below. absurd (omega (arith, below, ap length items));
    }

pub take_nearest-requires-clause-many : goal.take_nearest-requires-clause-many
take_nearest-requires-clause-many c = c.loop-cell.invariant.left.many

pub take_nearest-requires-clause-hull : goal.take_nearest-requires-clause-hull
take_nearest-requires-clause-hull c =
    subst (λ segments. IsHull segments c.hull_of-hull.result) (c.segments_of-segments.ensures.segments ∙ ap (λ (plan : Plan). segments plan c.args.die) c.dies.ensures)
    c.hull_of-hull.ensures

pub take_nearest-requires-clause-free : goal.take_nearest-requires-clause-free
take_nearest-requires-clause-free c =
    left_free c.args.problem.now c.args.die (taken_of c.loop-cell.choices.items) c.loop-cell.rooms.free.items c.loop-cell.invariant.left

pub loop-cell-preserved : goal.loop-cell-preserved
loop-cell-preserved c =
    let p = c.args.problem.now in
    let die = c.args.die in
    let targets = c.args.targets.now in
    let order = c.args.order.now in
    let index = c.loop-cell.cell-index in
    let below = c.loop-cell-test.true in
    let cell : CellId = get_or order index (record { 0 = 0 }) in
    let taken : List Taken = taken_of c.loop-cell.choices.items in
    let choice : Choice = record { cell = cell; segment = c.in-Some.segment } in
    let items : c.push.new.self.items ≡ c.loop-cell.choices.items ++ choice ∷ [] = c.in_ok-push-in-Some.ensures.items in
    let more : taken_of c.push.new.self.items ≡ taken ++ record { cell = cell.0; segment = c.in-Some.segment } ∷ [] =
    ap taken_of items ∙ taken_push c.loop-cell.choices.items choice in
    let next = nearest_is p targets die taken c.loop-cell.rooms.free.items cell.0 (Some c.in-Some.segment) c.loop-cell.invariant.left c.in-Some.ensures.nearest in
    let rest = numbers_of (drop (index + 1) order) in
    record {
      taken_is = ap (λ (t : List Taken). taken_by p die targets t rest) more ∙ sym (take_step p targets die taken cell.0 c.in-Some.segment rest next)
          ∙ sym (ap (taken_by p die targets taken) (first_of order index (record { 0 = 0 }) below)) ∙ c.loop-cell.invariant.taken_is;
      rooms_are = c.in-Some.ensures.rooms;
      left = subst (λ (t : List Taken). AreLeft p die t c.take_nearest.new.rooms.free.items) (sym more)
          (left_more p die taken c.loop-cell.rooms.free.items c.take_nearest.new.rooms.free.items cell.0 c.in-Some.segment c.loop-cell.invariant.left
          c.in-Some.ensures.nearest.below c.in-Some.ensures.nearest.passing c.in-Some.ensures.free);
      each = subst (All (IsChoice p die)) (sym items) (All-push (IsChoice p die) c.loop-cell.choices.items choice c.loop-cell.invariant.each
          (record { cell = c.requires.order index (record { 0 = 0 }) below; segment = c.in-Some.ensures.nearest.below }));
    }

pub returns-in-None-clause-taken : goal.returns-in-None-clause-taken
returns-in-None-clause-taken c =
    let p = c.args.problem.now in
    let die = c.args.die in
    let targets = c.args.targets.now in
    let order = c.args.order.now in
    let index = c.loop-cell.cell-index in
    let cell : CellId = get_or order index (record { 0 = 0 }) in
    let taken : List Taken = taken_of c.loop-cell.choices.items in
    sym c.loop-cell.invariant.taken_is ∙ ap (taken_by p die targets taken) (first_of order index (record { 0 = 0 }) c.loop-cell-test.true)
    ∙ take_none p targets die taken cell.0 (numbers_of (drop (index + 1) order))
    (nearest_is p targets die taken c.loop-cell.rooms.free.items cell.0 None c.loop-cell.invariant.left c.in-None.ensures.nearest)

pub returns-clause-taken : goal.returns-clause-taken
returns-clause-taken c =
    let p = c.args.problem.now in
    let taken : List Taken = taken_of c.loop-cell.choices.items in
    sym c.loop-cell.invariant.taken_is
    ∙ ap (taken_by p c.args.die c.args.targets.now taken) (none_left c.args.order.now c.loop-cell.cell-index (omega (arith, c.loop-cell-test.false)))
    ∙ take_end p c.args.targets.now c.args.die taken
