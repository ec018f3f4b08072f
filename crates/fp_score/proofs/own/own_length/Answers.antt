use Rattle.std.proofs.Common.{◌≡◌, ◌+◌, ◌<◌, ◌∷◌, List, ℕ, pos, ◌+ℤ◌, ◌^◌, ◌≤◌, FitsSigned, w64, get_or, length, drop, subst, sym, ap, ◌∙◌, arith, rules}
use Rattle.std.proofs.lemmas.Int.{ints, to_z-of_z}
use Rattle.std.proofs.lemmas.Option.{get_or_from_slice_get}
use Rattle.fp_base.specs.declared.ids.ConnId.{ConnId}
use Rattle.fp_netlist.specs.declared.problem.Conn.{Conn}
use Rattle.fp_netlist.specs.Netlist.{conns_of_cell}
use Rattle.fp_netlist.specs.NetlistLaws.{cell_conns_within}
use Rattle.fp_netlist.specs.Points.{offset}
use Rattle.fp_place.specs.Cut.{no_conn, conn_at}
use Rattle.fp_place.specs.Placed.{places_of}
use Rattle.fp_score.specs.Ends.{length_to, ends_of}
use Rattle.fp_score.specs.Target.{along, others_at}
use Rattle.fp_score.specs.Walks.{conn_next, conn_each, conns_end, items_few}
use Rattle.fp_score.proofs.Others.{Added, added_none, added_one, added_all}
use Rattle.fp_score.proofs.own.own_length.Goals as goal

abbrev none : ConnId
none = record { 0 = 0 }

pub loop-conn-init : goal.loop-conn-init
loop-conn-init c =
    let at : FitsSigned w64 c.args.at = search rules in
    record { added = simp to_z-of_z (added_none c.args.problem.now (places_of c.args.base.now) c.args.cell.0 c.args.die c.args.axis c.args.at); small = omega arith }

pub conn-requires : goal.conn-requires
conn-requires c =
    conn_each (λ k. k < length c.args.problem.now.conns) (conns_of_cell c.args.problem.now c.args.cell.0) c.loop-conn.conn-index c.conns_of_cell-conn-items.result.now none
    c.conns_of_cell-conn-items.ensures c.loop-conn-test.true (cell_conns_within c.args.problem.now c.args.cell.0)

pub offset_along-requires : goal.offset_along-requires
offset_along-requires c =
    conn_each (λ k. k < length c.args.problem.now.conns) (conns_of_cell c.args.problem.now c.args.cell.0) c.loop-conn.conn-index c.conns_of_cell-conn-items.result.now none
    c.conns_of_cell-conn-items.ensures c.loop-conn-test.true (cell_conns_within c.args.problem.now c.args.cell.0)

pub overflow_add-total : goal.overflow_add-total
overflow_add-total c =
    let few = items_few c.args.problem.now c.args.cell.0 c.conns_of_cell-conn-items.result.now c.conns_of_cell-conn-items.ensures in
    let most : length c.args.problem.now.conns ≤ 2 ^ 21 = c.conns-few.ensures.sound.few_conns in
    omega (arith, few, most, c.loop-conn.invariant.small, c.length_to-total.ensures.small, c.loop-conn-test.true)

pub loop-conn-preserved : goal.loop-conn-preserved
loop-conn-preserved c =
    let p = c.args.problem.now in
    let base = places_of c.args.base.now in
    let cell = c.args.cell.0 in
    let die = c.args.die in
    let axis = c.args.axis in
    let at = c.args.at in
    let off = c.offset_along.result in
    let left = drop (c.loop-conn.conn-index + 1) (conns_of_cell p cell) in
    let k = (get_or c.conns_of_cell-conn-items.result.now c.loop-conn.conn-index none).0 in
    let next = conn_next (conns_of_cell p cell) c.loop-conn.conn-index c.conns_of_cell-conn-items.result.now none c.conns_of_cell-conn-items.ensures c.loop-conn-test.true in
    let fits : FitsSigned w64 at = search rules in
    let off_fits : FitsSigned w64 off = search rules in
    let sum_fits : FitsSigned w64 (at +ℤ off) = omega (arith, ints, c.requires.near.0, c.requires.near.1, c.offset_along.ensures.range.0, c.offset_along.ensures.range.1) in
    let conn : conn_at p k ≡ c.conn.result = get_or_from_slice_get p.conns k c.conn.result no_conn c.conn.ensures.conn in
    let more : pos c.length_to-total.result ≡ length_to c.others.result (at +ℤ off) = simp to_z-of_z at c.length_to-total.ensures.length in
    let ends : c.others.result ≡ ends_of (others_at p base cell axis (conn_at p k).net.0) = c.others.ensures.ends ∙ ap (λ (n : Conn). ends_of (others_at p base cell axis n.net.0)) (sym conn) in
    let adds : pos c.length_to-total.result ≡ length_to (ends_of (others_at p base cell axis (conn_at p k).net.0)) (at +ℤ along axis (offset p (conn_at p k) die)) =
    more ∙ (λ i. length_to (ends i) (at +ℤ c.offset_along.ensures.offset i)) in
    let added : Added p base cell die axis at (drop c.loop-conn.conn-index (conns_of_cell p cell)) c.loop-conn.total = simp to_z-of_z at c.loop-conn.invariant.added in
    let before : Added p base cell die axis at (k ∷ left) c.loop-conn.total = subst (λ (l : List ℕ). Added p base cell die axis at l c.loop-conn.total) next added in
    record {
      added = simp to_z-of_z (added_one p base cell die axis at k left c.loop-conn.total c.length_to-total.result adds before);
      small = omega (arith, c.loop-conn.invariant.small, c.length_to-total.ensures.small);
    }

pub returns-clause-length : goal.returns-clause-length
returns-clause-length c =
    let p = c.args.problem.now in
    let base = places_of c.args.base.now in
    let at : FitsSigned w64 c.args.at = search rules in
    let none_left = conns_end (conns_of_cell p c.args.cell.0) c.loop-conn.conn-index c.conns_of_cell-conn-items.result.now c.conns_of_cell-conn-items.ensures c.loop-conn-test.false in
    let added : Added p base c.args.cell.0 c.args.die c.args.axis c.args.at (drop c.loop-conn.conn-index (conns_of_cell p c.args.cell.0)) c.loop-conn.total = simp to_z-of_z at c.loop-conn.invariant.added in
    added_all p base c.args.cell.0 c.args.die c.args.axis c.args.at c.loop-conn.total (subst (λ (l : List ℕ). Added p base c.args.cell.0 c.args.die c.args.axis c.args.at l c.loop-conn.total) none_left added)

pub returns-clause-small : goal.returns-clause-small
returns-clause-small c =
    let few = items_few c.args.problem.now c.args.cell.0 c.conns_of_cell-conn-items.result.now c.conns_of_cell-conn-items.ensures in
    let most : length c.args.problem.now.conns ≤ 2 ^ 21 = c.conns-few.ensures.sound.few_conns in
    omega (arith, few, most, c.loop-conn.invariant.small, c.loop-conn.auto.conn-index-end)
