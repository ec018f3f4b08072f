use Rattle.std.proofs.Common.{◌≡◌, ◌<◌, ◌≤◌, List, length, None, Result, Ok, Err, sym, subst}
use Rattle.std.specs.Prelude.{IfOk}
use Rattle.std.proofs.lemmas.Result.{IfOk-weaker}
use Rattle.fp_base.specs.declared.ids.Die.{Die}
use Rattle.fp_base.specs.declared.ids.Die.TheVariants.{Top, Bottom}
use Rattle.fp_tech.specs.Slots.{slot_count}
use Rattle.fp_place.specs.Cut.{cut}
use Rattle.fp_place.specs.Places.{dies_of}
use Rattle.fp_place.specs.Placed.{places_of}
use Rattle.fp_score.specs.Pick.{picked}
use Rattle.fp_coarse.specs.Picking.{HoldAll, HoldsAll, IsPicked}
use Rattle.fp_cert.specs.Trials.{IsRowless}
use Rattle.fp_flow.specs.Steps.{IsFinished, IsOfTargets}
use Rattle.fp_flow.proofs.Laying.{can_place}
use Rattle.fp_flow.proofs.Stepping.{laid_dies, laid_rules, of_rows, of_no_row}
use Rattle.fp_flow.proofs.step.by_targets.Goals as goal
use Rattle.fp_flow.proofs.step.by_targets.Goals.{In-Rows, In_ok-laid-in-Rows}

hold : (c : In-Rows) → HoldAll c.args.problem.now c.args.dies.now c.in-Rows.top c.in-Rows.bottom
hold c = subst (HoldsAll c.args.problem.now c.args.dies.now) c.in-Rows.is c.in_ok-top.ensures.holds

pub lay-requires-clause-top_rows : goal.lay-requires-clause-top_rows
lay-requires-clause-top_rows c =
    can_place c.args.problem.now c.args.dies.now c.in-Rows.top c.in-Rows.bottom c.args.targets.now c.cells-cells.ensures.sound (hold (goal.at.lay-requires-clause-top_rows c).In-Rows) c.requires.targets c.requires.near Top

pub lay-requires-clause-bottom_rows : goal.lay-requires-clause-bottom_rows
lay-requires-clause-bottom_rows c =
    can_place c.args.problem.now c.args.dies.now c.in-Rows.top c.in-Rows.bottom c.args.targets.now c.cells-cells.ensures.sound (hold (goal.at.lay-requires-clause-bottom_rows c).In-Rows) c.requires.targets c.requires.near Bottom

dies_are : (c : In_ok-laid-in-Rows) → dies_of (places_of c.in_ok-laid-in-Rows.laid.placement) ≡ c.args.dies.now
dies_are c =
    laid_dies c.args.problem.now c.args.dies.now c.in-Rows.top c.in-Rows.bottom c.args.targets.now c.in_ok-laid-in-Rows.laid.trial c.in_ok-laid-in-Rows.laid.placement
    (subst (HoldsAll c.args.problem.now c.args.dies.now) c.in-Rows.is c.in_ok-top.ensures.holds) c.requires.rules c.in_ok-laid-in-Rows.ensures

pub finish-requires-clause-rules : goal.finish-requires-clause-rules
finish-requires-clause-rules c =
    laid_rules c.args.problem.now c.args.dies.now c.in-Rows.top c.in-Rows.bottom c.args.targets.now c.in_ok-laid-in-Rows.laid.trial c.in_ok-laid-in-Rows.laid.placement
    (subst (HoldsAll c.args.problem.now c.args.dies.now) c.in-Rows.is c.in_ok-top.ensures.holds) c.requires.rules c.in_ok-laid-in-Rows.ensures

pub finish-requires-clause-slots : goal.finish-requires-clause-slots
finish-requires-clause-slots c = subst (λ (dies : List Die). cut c.args.problem.now dies ≤ slot_count c.args.grid.now) (sym (dies_are (goal.at.finish-requires-clause-slots c).In_ok-laid-in-Rows)) c.requires.slots

pub finish-requires-clause-rows : goal.finish-requires-clause-rows
finish-requires-clause-rows c = subst (λ (dies : List Die). cut c.args.problem.now dies ≤ c.args.buffers.now.matcher.row_room) (sym (dies_are (goal.at.finish-requires-clause-rows c).In_ok-laid-in-Rows)) c.requires.room.rows

pub returns-in_ok-laid-in-Rows-clause-made : goal.returns-in_ok-laid-in-Rows-clause-made
returns-in_ok-laid-in-Rows-clause-made c =
    let p = c.args.problem.now in
    let dies = c.args.dies.now in
    let old = c.in_ok-laid-in-Rows.laid in
    let holds = subst (HoldsAll p dies) c.in-Rows.is c.in_ok-top.ensures.holds in
    let pick : picked p dies c.args.targets.now ≡ Ok (record { top = c.in-Rows.top; bottom = c.in-Rows.bottom }) = subst (IsPicked p dies c.args.targets.now) c.in-Rows.is c.in_ok-top.ensures.picked in
    IfOk-weaker c.finish.result (λ made. IsFinished p c.args.grid.now c.args.before old.trial old.placement made.trial made.better)
    (λ made. IsOfTargets p c.args.grid.now dies c.args.targets.now c.args.before made.trial made.better)
    (λ made is. of_rows p c.args.grid.now dies c.args.targets.now c.in-Rows.top c.in-Rows.bottom c.args.before old.trial made.trial old.placement made.better pick holds c.requires.rules
    c.in_ok-laid-in-Rows.ensures is) c.finish.ensures.made

both_ok : {X Y : Type 0} (P Q R : X → Type 0) (r : Result X Y) → ((x : X) → P x → Q x → R x) → IfOk r P → IfOk r Q → IfOk r R
both_ok P Q R (Ok x) f p q = f x p q
both_ok P Q R (Err e) f p q = tt

pub returns-in-NoRow-clause-made : goal.returns-in-NoRow-clause-made
returns-in-NoRow-clause-made c =
    let p = c.args.problem.now in
    let dies = c.args.dies.now in
    let cell = c.in-NoRow.cell.0 in
    let pick : picked p dies c.args.targets.now ≡ Err cell = subst (IsPicked p dies c.args.targets.now) c.in-NoRow.is c.in_ok-top.ensures.picked in
    let below : cell < length p.cells = subst (HoldsAll p dies) c.in-NoRow.is c.in_ok-top.ensures.holds in
    both_ok (λ made. IsRowless p dies cell made.trial) (λ made. made.better ≡ None)
    (λ made. IsOfTargets p c.args.grid.now dies c.args.targets.now c.args.before made.trial made.better) c.without_row.result
    (λ made rowless none. of_no_row p c.args.grid.now dies c.args.targets.now c.args.before cell made.trial made.better c.cells-cells.ensures.sound pick below rowless none)
    c.without_row.ensures.trial c.without_row.ensures.none
