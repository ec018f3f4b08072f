use Rattle.std.proofs.Common.{◌≡◌, ◌+◌, ◌<◌, [], ◌∷◌, ◌++◌, All, List, ℕ, ℤ, ◌-ℤ◌, Some, FitsSigned, w64, get_or, length, drop, subst, sym, ap, ◌∙◌, arith}
use Rattle.std.proofs.lemmas.Int.{ints, to_z-of_z}
use Rattle.std.proofs.lemmas.List.Elements.{All-push}
use Rattle.std.proofs.lemmas.Option.{get_or_from_slice_get}
use Rattle.fp_base.specs.declared.ids.ConnId.{ConnId}
use Rattle.fp_netlist.specs.declared.problem.Conn.{Conn}
use Rattle.fp_netlist.specs.Netlist.{conns_of_cell}
use Rattle.fp_netlist.specs.NetlistLaws.{cell_conns_within}
use Rattle.fp_place.specs.Cut.{no_conn, conn_at}
use Rattle.fp_place.specs.Placed.{places_of}
use Rattle.fp_score.specs.Ends.{ends_of}
use Rattle.fp_score.specs.Target.{others_at}
use Rattle.fp_score.specs.Walks.{conn_next, conn_each, conns_end}
use Rattle.fp_coarse.specs.EndsOfNets.{no_ends, AreInRange}
use Rattle.fp_coarse.specs.Targets.{IsTargetPlace}
use Rattle.fp_coarse.proofs.KeptEnds.{ArePushed, pushed_same, pushed_both, pushed_all, ends_without_cell}
use Rattle.fp_coarse.proofs.median_targets.push_breakpoints.Goals as goal
use Rattle.fp_coarse.proofs.median_targets.push_breakpoints.Goals.{in-Some+in_ok-push+in_ok-push-2, in_default}

abbrev none : ConnId
none = record { 0 = 0 }

pub conn-requires : goal.conn-requires
conn-requires c =
    conn_each (λ k. k < length c.args.problem.now.conns) (conns_of_cell c.args.problem.now c.args.cell.0) c.loop-conn.conn-index c.conns_of_cell-conn-items.result.now none
    c.conns_of_cell-conn-items.ensures c.loop-conn-test.true (cell_conns_within c.args.problem.now c.args.cell.0)

pub offset_along-offset-requires : goal.offset_along-offset-requires
offset_along-offset-requires c =
    conn_each (λ k. k < length c.args.problem.now.conns) (conns_of_cell c.args.problem.now c.args.cell.0) c.loop-conn.conn-index c.conns_of_cell-conn-items.result.now none
    c.conns_of_cell-conn-items.ensures c.loop-conn-test.true (cell_conns_within c.args.problem.now c.args.cell.0)

pub loop-conn-preserved : goal.loop-conn-preserved
loop-conn-preserved c =
    let p = c.args.problem.now in
    let base = places_of c.args.base.now in
    let cell = c.args.cell.0 in
    let die = c.args.die in
    let axis = c.args.axis in
    let left = drop (c.loop-conn.conn-index + 1) (conns_of_cell p cell) in
    let k = (get_or c.conns_of_cell-conn-items.result.now c.loop-conn.conn-index none).0 in
    let next = conn_next (conns_of_cell p cell) c.loop-conn.conn-index c.conns_of_cell-conn-items.result.now none c.conns_of_cell-conn-items.ensures c.loop-conn-test.true in
    let conn : conn_at p k ≡ c.conn.result = get_or_from_slice_get p.conns k c.conn.result no_conn c.conn.ensures.conn in
    let before : ArePushed p base cell die axis (k ∷ left) c.loop-conn.breakpoints.items =
    subst (λ (l : List ℕ). ArePushed p base cell die axis l c.loop-conn.breakpoints.items) next c.loop-conn.invariant.pushed in
    let net = c.conn.result.net.0 in
    let there : net < length c.args.nets.now = omega (arith, c.conn.ensures.within.net, c.requires.nets.many) in
    let ends : c.without.result ≡ ends_of (others_at p base cell axis (conn_at p k).net.0) =
    c.without.ensures.ends ∙ ends_without_cell p base axis net cell (get_or c.args.nets.now net no_ends) (c.requires.nets.each net there)
    ∙ ap (λ (n : Conn). ends_of (others_at p base cell axis n.net.0)) (sym conn) in
    elim c.match-without.branch [
      | in-Some+in_ok-push+in_ok-push-2 w ↦
          let found = w.in-Some.ends in
          let off = w.offset_along-offset.result in
          let is : ends_of (others_at p base cell axis (conn_at p k).net.0) ≡ Some found = sym ends ∙ w.in-Some.is in
          let near : AreInRange found = w.in-Some.ensures.range in
          let low_fits : FitsSigned w64 found.low = omega (arith, ints, near.low_least, near.low_most) in
          let high_fits : FitsSigned w64 found.high = omega (arith, ints, near.high_least, near.high_most) in
          let off_fits : FitsSigned w64 off = omega (arith, ints, w.offset_along-offset.ensures.range.0, w.offset_along-offset.ensures.range.1) in
          let low : IsTargetPlace (found.low -ℤ off) =
          (omega (arith, ints, near.low_least, w.offset_along-offset.ensures.range.1), omega (arith, ints, near.low_most, w.offset_along-offset.ensures.range.0)) in
          let high : IsTargetPlace (found.high -ℤ off) =
          (omega (arith, ints, near.high_least, w.offset_along-offset.ensures.range.1), omega (arith, ints, near.high_most, w.offset_along-offset.ensures.range.0)) in
          let lower_fits : FitsSigned w64 (found.low -ℤ off) = omega (arith, ints, low.0, low.1) in
          let upper_fits : FitsSigned w64 (found.high -ℤ off) = omega (arith, ints, high.0, high.1) in
          let first : w.push.new.self.items ≡ c.loop-conn.breakpoints.items ++ (found.low -ℤ off) ∷ [] = simp to_z-of_z at w.in_ok-push.ensures.items in
          let second : w.push-in-Some.new.self.items ≡ w.push.new.self.items ++ (found.high -ℤ off) ∷ [] = simp to_z-of_z at w.in_ok-push-2.ensures.items in
          let both : c.match-without.breakpoints.items ≡ (c.loop-conn.breakpoints.items ++ (found.low -ℤ off) ∷ []) ++ (found.high -ℤ off) ∷ [] =
          ap (λ v. v.items) w.breakpoints-is ∙ second ∙ ap (λ (l : List ℤ). l ++ (found.high -ℤ off) ∷ []) first in
          record {
            pushed = pushed_both p base cell die axis k left c.loop-conn.breakpoints.items c.match-without.breakpoints.items found off is (sym w.offset_along-offset.ensures.offset) both before;
            range = subst (All IsTargetPlace) (sym both)
                (All-push IsTargetPlace (c.loop-conn.breakpoints.items ++ (found.low -ℤ off) ∷ []) (found.high -ℤ off)
                (All-push IsTargetPlace c.loop-conn.breakpoints.items (found.low -ℤ off) c.loop-conn.invariant.range low) high);
          }
      | in_default w ↦
          let same : c.match-without.breakpoints.items ≡ c.loop-conn.breakpoints.items = ap (λ v. v.items) w.breakpoints-is in
          record {
            pushed = subst (ArePushed p base cell die axis left) (sym same) (pushed_same p base cell die axis k left c.loop-conn.breakpoints.items (sym ends ∙ w.in_default.is) before);
            range = subst (All IsTargetPlace) (sym same) c.loop-conn.invariant.range;
          }
    ]

pub returns-clause-all : goal.returns-clause-all
returns-clause-all c =
    let p = c.args.problem.now in
    let base = places_of c.args.base.now in
    let none_left = conns_end (conns_of_cell p c.args.cell.0) c.loop-conn.conn-index c.conns_of_cell-conn-items.result.now c.conns_of_cell-conn-items.ensures c.loop-conn-test.false in
    pushed_all p base c.args.cell.0 c.args.die c.args.axis c.loop-conn.breakpoints.items
    (subst (λ (l : List ℕ). ArePushed p base c.args.cell.0 c.args.die c.args.axis l c.loop-conn.breakpoints.items) none_left c.loop-conn.invariant.pushed)
