use Rattle.std.proofs.Common.{◌≤ℤ◌, ◌^◌, pos, FitsSigned, w64, rules, sym, subst}
use Rattle.std.proofs.lemmas.Int.{to_z-of_z}
use Rattle.fp_slots.specs.CutNets.{IsNearNet, IsWindow}
use Rattle.fp_slots.specs.KeptTable.{table_of}
use Rattle.fp_slots.proofs.StripeLemmas.{found_near, turned_near, best_in_range, near_found}
use Rattle.fp_slots.proofs.slot_costs.SlotCostsCosts.near_stripes.Goals as goal

near_net : (c : goal.After-best_x) → IsNearNet c.index-net.result.now
near_net c = found_near (table_of c.self.inside) c.args.self.now c.args.row _ c.self.view_is c.self.invariant.near_rows c.requires.row_in c.index-net.ensures

best : (c : goal.After-best_x) → (pos 0 ≤ℤ c.best_x.result) × (c.best_x.result ≤ℤ pos (2 ^ 31))
best c = best_in_range c.index-net.result.now c.best_x.result c.best_x.ensures (near_net c)

pub window-window-requires-clause-net : goal.window-window-requires-clause-net
window-window-requires-clause-net c = subst IsNearNet (sym c.turned.ensures) (turned_near c.index-net.result.now (near_net c))

pub window-window-requires-clause-least : goal.window-window-requires-clause-least
window-window-requires-clause-least c =
    let x_fits : FitsSigned w64 c.best_x.result = search rules in
    rw (to_z-of_z w64 c.best_x.result x_fits) (best c).0

pub window-window-requires-clause-most : goal.window-window-requires-clause-most
window-window-requires-clause-most c =
    let x_fits : FitsSigned w64 c.best_x.result = search rules in
    rw (to_z-of_z w64 c.best_x.result x_fits) (best c).1

pub returns : goal.returns
returns c =
    let x_fits : FitsSigned w64 c.best_x.result = search rules in
    let window : IsWindow c.turned.result c.best_x.result c.args.limit c.window-window.result.start c.window-window.result.end =
    simp to_z-of_z at c.window-window.ensures in
    near_found (table_of c.self.inside) c.args.self.now c.args.row c.args.limit _ _ _ _ _ _ _ _ _ _ c.self.view_is c.self.invariant.near_rows c.self.invariant.near_slots
    c.requires.row_in c.index-net.ensures c.turned.ensures c.best_x.ensures c.stripes_of-stripes.ensures.count c.stripes_of-stripes.ensures.places window
    c.before-2.ensures.exact c.before-3.ensures.exact
