use Rattle.std.proofs.Common.{◌≡◌, pos, FitsSigned, w64, rules}
use Rattle.std.proofs.lemmas.Int.{to_z-of_z}
use Rattle.fp_slots.specs.CutNets.{length_with}
use Rattle.fp_slots.specs.KeptTable.{table_of}
use Rattle.fp_slots.proofs.Tables.{floors}
use Rattle.fp_slots.proofs.slot_costs.SlotCostsCosts.floor.Goals as goal

pub returns-clause-exact : goal.returns-clause-exact
returns-clause-exact c =
    let x_fits : FitsSigned w64 c.best_x.result = search rules in
    let y_fits : FitsSigned w64 c.centre-first.result.y = search rules in
    let length_is : pos c.length_with.result ≡ length_with c.index-row.result.now (record { x = c.best_x.result; y = c.centre-first.result.y }) =
    simp to_z-of_z at c.length_with.ensures.length in
    (floors (table_of c.self.inside) c.args.self.now c.args.row c.args.stripe _ _ _ _ _ c.self.view_is c.self.invariant.near_rows c.self.invariant.near_slots
    c.requires.row_in c.requires.stripe_in c.index-row.ensures c.best_x.ensures c.across.ensures c.centre-first.ensures length_is).0

pub returns-clause-floor : goal.returns-clause-floor
returns-clause-floor c =
    let x_fits : FitsSigned w64 c.best_x.result = search rules in
    let y_fits : FitsSigned w64 c.centre-first.result.y = search rules in
    let length_is : pos c.length_with.result ≡ length_with c.index-row.result.now (record { x = c.best_x.result; y = c.centre-first.result.y }) =
    simp to_z-of_z at c.length_with.ensures.length in
    (floors (table_of c.self.inside) c.args.self.now c.args.row c.args.stripe _ _ _ _ _ c.self.view_is c.self.invariant.near_rows c.self.invariant.near_slots
    c.requires.row_in c.requires.stripe_in c.index-row.ensures c.best_x.ensures c.across.ensures c.centre-first.ensures length_is).1
