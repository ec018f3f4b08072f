use Rattle.std.proofs.Common.{◌∙◌, ℕ, List, [], ◌∷◌, ◌++◌, ℤ, pos, length, get_or, set, take, replicate, sym, ap, subst, arith}
use Rattle.std.proofs.lemmas.List.{take_more, take_all}
use Rattle.fp_base.specs.declared.ids.CellId.{CellId}
use Rattle.fp_tech.specs.Plan.{Plan, segments}
use Rattle.fp_tech.specs.PlanLaws.{few_segments}
use Rattle.fp_place.specs.Placed.{LaneList}
use Rattle.fp_coarse.specs.Orders.{AreByTarget}
use Rattle.fp_coarse.proofs.Laying.{HoldEntries, hold_none, hold_more, lanes_are, entries_within}
use Rattle.fp_coarse.proofs.picking.lanes_of.Goals as goal

pub overflow_cast-segments : goal.overflow_cast-segments
overflow_cast-segments g c = omega (arith, few_segments c.dies.result.now c.segments-segments.ensures.plan g.S.Side.DIE, ap length c.segments-segments.ensures.segments)

pub loop-entry-init : goal.loop-entry-init
loop-entry-init g c =
    hold_none (length (segments c.args.problem.now.plan g.S.Side.DIE)) c.in_ok-lanes.lanes
    (c.in_ok-lanes.ensures ∙ ap (λ n. let lanes : LaneList = replicate n [] in lanes)
    (ap length (c.segments-segments.ensures.segments ∙ ap (λ (plan : Plan). segments plan g.S.Side.DIE) c.dies.ensures)))

pub push-requires : goal.push-requires
push-requires g c =
    let are = subst (AreByTarget c.args.targets.now c.args.choices.now) (sym c.as_slice-entry-items.ensures.value) c.in_ok-entries.ensures in
    let inside = entries_within c.args.problem.now g.S.Side.DIE c.args.targets.now c.args.choices.now c.as_slice-entry-items.result.now are c.requires.choices
    c.loop-entry.entry-index (pos 0, 0, 0) c.loop-entry-test.true in
    omega (arith, c.new-in-loop-entry.ensures, inside, c.loop-entry.invariant.long)

pub loop-entry-preserved : goal.loop-entry-preserved
loop-entry-preserved g c =
    let count = length (segments c.args.problem.now.plan g.S.Side.DIE) in
    let entries = c.as_slice-entry-items.result.now in
    let index = c.loop-entry.entry-index in
    let entry : ℤ × ℕ × ℕ = get_or entries index (pos 0, 0, 0) in
    let are = subst (AreByTarget c.args.targets.now c.args.choices.now) (sym c.as_slice-entry-items.ensures.value) c.in_ok-entries.ensures in
    let inside = entries_within c.args.problem.now g.S.Side.DIE c.args.targets.now c.args.choices.now entries are c.requires.choices index (pos 0, 0, 0) c.loop-entry-test.true in
    let cell : CellId = record { 0 = entry.1 } in
    subst (λ (these : List (ℤ × ℕ × ℕ)). HoldEntries count these c.push.new.self) (sym (take_more entries index (pos 0, 0, 0) c.loop-entry-test.true))
    (hold_more count (take index entries) entry c.loop-entry.lanes c.push.new.self c.loop-entry.invariant inside
    (c.in_ok-push.ensures ∙ ap (λ n. let lanes : LaneList = set c.loop-entry.lanes n (get_or c.loop-entry.lanes n [] ++ cell ∷ []) in lanes) c.new-in-loop-entry.ensures))

pub returns : goal.returns
returns g c =
    let entries = c.as_slice-entry-items.result.now in
    let are = subst (AreByTarget c.args.targets.now c.args.choices.now) (sym c.as_slice-entry-items.ensures.value) c.in_ok-entries.ensures in
    lanes_are c.args.problem.now g.S.Side.DIE c.args.targets.now c.args.choices.now entries c.loop-entry.lanes are
    (subst (λ (these : List (ℤ × ℕ × ℕ)). HoldEntries (length (segments c.args.problem.now.plan g.S.Side.DIE)) these c.loop-entry.lanes)
    (take_all c.loop-entry.entry-index entries (omega (arith, c.loop-entry-test.false))) c.loop-entry.invariant)
