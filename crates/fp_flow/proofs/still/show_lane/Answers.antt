use Rattle.std.proofs.Common.{◌≡◌, ◌∙◌, ◌++◌, [], map, ap, sym, subst}
use Rattle.std.specs.Prelude.{OnOk}
use Rattle.std.proofs.lemmas.Option.{get_or_from_slice_get}
use Rattle.fp_place.specs.Placed.{lanes_of}
use Rattle.fp_cert.specs.Shown.{ShownRow, with_row}
use Rattle.fp_flow.specs.Still.{still_cell, still_row}
use Rattle.fp_flow.proofs.Stills.{lane_within, of_match}
use Rattle.fp_flow.proofs.still.show_lane.Goals as goal

pub push_still-requires : goal.push_still-requires
push_still-requires c = lane_within c.args.placement.now c.args.die c.args.segment c.lane.result.now c.lane.ensures.agree c.lane.ensures.lane

pub returns-in-Ok : goal.returns-in-Ok
returns-in-Ok c =
    let lane = get_or_from_slice_get (lanes_of c.args.placement.now c.args.die) c.args.segment c.lane.result.now [] c.lane.ensures.lane in
    let row = c.in-Ok.ensures ∙ ap (λ (row : ShownRow). record row { cells = row.cells ++ map (still_cell c.args.placement.now) c.lane.result.now }) c.new-row.ensures
    ∙ ap (still_row c.args.placement.now) (sym lane) in
    subst (λ shown. OnOk c.push_row.result (c.push_row.new.self ≡ with_row c.args.trial.now c.args.die shown)) row (of_match _ _ c.push_row.result c.push_row.ensures)
