use Rattle.std.proofs.Common.{◌+◌, ◌*◌, FitsSigned, w64, rules}
use Rattle.std.proofs.lemmas.Int.{to_z-of_z}
use Rattle.fp_slots.specs.CutNets.{IsWindow}
use Rattle.fp_slots.specs.KeptTable.{table_of}
use Rattle.fp_slots.proofs.ColumnLemmas.{AreNearColumns, nears}
use Rattle.fp_slots.proofs.slot_costs.SlotCostsCosts.near.Goals as goal

found : (c : goal.After-before-3)
    → AreNearColumns c.args.self.now c.args.row c.args.stripe c.args.limit (c.args.stripe * c.of-columns.result.count + c.before-2.result)
    (c.args.stripe * c.of-columns.result.count + c.before-3.result)
found c =
    let y_fits : FitsSigned w64 c.centre-first.result.y = search rules in
    let window : IsWindow c.index.result.now c.centre-first.result.y c.args.limit c.window-window.result.start c.window-window.result.end =
    simp to_z-of_z at c.window-window.ensures in
    nears (table_of c.self.inside) c.args.self.now c.args.row c.args.stripe c.args.limit _ _ _ _ _ _ _ _ _ c.self.view_is c.self.invariant.near_rows c.self.invariant.near_slots
    c.requires.row_in c.requires.stripe_in c.index.ensures c.of-columns.ensures.count c.centre-first.ensures c.of-columns.ensures.places window
    c.before-2.ensures.exact c.before-3.ensures.exact c.before-3.ensures.most

pub returns-clause-near : goal.returns-clause-near
returns-clause-near c = (found c).near

pub returns-clause-short : goal.returns-clause-short
returns-clause-short c = (found c).short
