use Rattle.std.proofs.Common.{Ok, Err}
use Rattle.fp_base.specs.declared.ids.Die.TheVariants.{Top, Bottom}
use Rattle.fp_coarse.proofs.Picks.{picks_same, picked_both, picked_none_top, picked_none_bottom, holds_both, none_within}
use Rattle.fp_coarse.proofs.picking.pick.Goals as goal

pub returns-in-Err-clause-picked : goal.returns-in-Err-clause-picked
returns-in-Err-clause-picked c =
    let p = c.args.problem.now in
    picked_none_top p c.args.dies.now c.args.targets.now c.in-Err.cell
    (picks_same p c.args.dies.now c.args.targets.now Top c.in_ok-lanes.field-0 (Err c.in-Err.cell) c.in-Err.is c.in_ok-lanes.ensures)

pub returns-in-Err-clause-holds : goal.returns-in-Err-clause-holds
returns-in-Err-clause-holds c =
    let p = c.args.problem.now in
    none_within p c.args.dies.now c.args.targets.now Top c.in-Err.cell
    (picks_same p c.args.dies.now c.args.targets.now Top c.in_ok-lanes.field-0 (Err c.in-Err.cell) c.in-Err.is c.in_ok-lanes.ensures)

pub returns-in-Ok-2-clause-picked : goal.returns-in-Ok-2-clause-picked
returns-in-Ok-2-clause-picked c =
    let p = c.args.problem.now in
    picked_both p c.args.dies.now c.args.targets.now c.in-Ok.lanes c.in-Ok-2.bottom
    (picks_same p c.args.dies.now c.args.targets.now Top c.in_ok-lanes.field-0 (Ok c.in-Ok.lanes) c.in-Ok.is c.in_ok-lanes.ensures)
    (picks_same p c.args.dies.now c.args.targets.now Bottom c.in_ok-bottom.field-0 (Ok c.in-Ok-2.bottom) c.in-Ok-2.is c.in_ok-bottom.ensures)

pub returns-in-Ok-2-clause-holds : goal.returns-in-Ok-2-clause-holds
returns-in-Ok-2-clause-holds c =
    let p = c.args.problem.now in
    holds_both p c.args.dies.now c.args.targets.now c.in-Ok.lanes c.in-Ok-2.bottom c.cells-cells.ensures.sound
    (picks_same p c.args.dies.now c.args.targets.now Top c.in_ok-lanes.field-0 (Ok c.in-Ok.lanes) c.in-Ok.is c.in_ok-lanes.ensures)
    (picks_same p c.args.dies.now c.args.targets.now Bottom c.in_ok-bottom.field-0 (Ok c.in-Ok-2.bottom) c.in-Ok-2.is c.in_ok-bottom.ensures)

pub returns-in-Err-2-clause-picked : goal.returns-in-Err-2-clause-picked
returns-in-Err-2-clause-picked c =
    let p = c.args.problem.now in
    picked_none_bottom p c.args.dies.now c.args.targets.now c.in-Ok.lanes c.in-Err-2.cell
    (picks_same p c.args.dies.now c.args.targets.now Top c.in_ok-lanes.field-0 (Ok c.in-Ok.lanes) c.in-Ok.is c.in_ok-lanes.ensures)
    (picks_same p c.args.dies.now c.args.targets.now Bottom c.in_ok-bottom.field-0 (Err c.in-Err-2.cell) c.in-Err-2.is c.in_ok-bottom.ensures)

pub returns-in-Err-2-clause-holds : goal.returns-in-Err-2-clause-holds
returns-in-Err-2-clause-holds c =
    let p = c.args.problem.now in
    none_within p c.args.dies.now c.args.targets.now Bottom c.in-Err-2.cell
    (picks_same p c.args.dies.now c.args.targets.now Bottom c.in_ok-bottom.field-0 (Err c.in-Err-2.cell) c.in-Err-2.is c.in_ok-bottom.ensures)
