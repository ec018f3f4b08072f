use Rattle.std.proofs.Common.{◌≡◌, ◌≢◌, FitsSigned, w64, rules, IfSome, ◌+◌, ◌<◌, ◌∷◌, List, ℕ, true, false, not, nat_eq, Some, get_or, length, drop, subst, sym, ap, ◌∙◌, arith}
use Rattle.std.proofs.lemmas.Bool.Decides.{nat_tests}
use Rattle.std.proofs.lemmas.Int.{to_z-of_z}
use Rattle.std.proofs.lemmas.Option.{get_or_from_slice_get}
use Rattle.fp_base.specs.declared.ids.ConnId.{ConnId}
use Rattle.fp_netlist.specs.declared.problem.Conn.{Conn}
use Rattle.fp_netlist.specs.Netlist.{conns_of_net}
use Rattle.fp_netlist.specs.NetlistLaws.{net_conns_within}
use Rattle.fp_place.specs.Cut.{no_conn, conn_at}
use Rattle.fp_place.specs.Placed.{places_of}
use Rattle.fp_score.specs.Score.{point}
use Rattle.fp_score.specs.Ends.{widened, AreNearEnds}
use Rattle.fp_score.specs.Target.{along, is_other}
use Rattle.fp_score.specs.Walks.{conn_next, conn_each, conns_end}
use Rattle.fp_score.proofs.Others.{Seen, seen_none, seen_other, seen_own, seen_all}
use Rattle.fp_score.proofs.own.others.Goals as goal
use Rattle.fp_score.proofs.own.others.Goals.{then-conn-cell, else-conn-cell}

abbrev none : ConnId
none = record { 0 = 0 }

apart : (at cell : ℕ) → at ≢ cell → not (nat_eq at cell) ≡ true
apart at cell differ = grind (arith, nat_tests)

same : (at cell : ℕ) → at ≡ cell → not (nat_eq at cell) ≡ false
same at cell is = grind (arith, nat_tests)

pub loop-conn-init : goal.loop-conn-init
loop-conn-init c = record { seen = seen_none c.args.problem.now (places_of c.args.base.now) c.args.cell.0 c.args.axis c.args.net.0; near = tt }

pub conn-requires : goal.conn-requires
conn-requires c =
    conn_each (λ k. k < length c.args.problem.now.conns) (conns_of_net c.args.problem.now c.args.net.0) c.loop-conn.conn-index c.conns_of_net-conn-items.result.now none
    c.conns_of_net-conn-items.ensures c.loop-conn-test.true (net_conns_within c.args.problem.now c.args.net.0)

pub pin_along-requires-clause-conn : goal.pin_along-requires-clause-conn
pin_along-requires-clause-conn c =
    conn_each (λ k. k < length c.args.problem.now.conns) (conns_of_net c.args.problem.now c.args.net.0) c.loop-conn.conn-index c.conns_of_net-conn-items.result.now none
    c.conns_of_net-conn-items.ensures c.loop-conn-test.true (net_conns_within c.args.problem.now c.args.net.0)

pub loop-conn-preserved : goal.loop-conn-preserved
loop-conn-preserved c =
    let p = c.args.problem.now in
    let base = places_of c.args.base.now in
    let cell = c.args.cell.0 in
    let axis = c.args.axis in
    let net = c.args.net.0 in
    let left = drop (c.loop-conn.conn-index + 1) (conns_of_net p net) in
    let k = (get_or c.conns_of_net-conn-items.result.now c.loop-conn.conn-index none).0 in
    let next = conn_next (conns_of_net p net) c.loop-conn.conn-index c.conns_of_net-conn-items.result.now none c.conns_of_net-conn-items.ensures c.loop-conn-test.true in
    let before : Seen p base cell axis net (k ∷ left) c.loop-conn.ends = subst (λ (l : List ℕ). Seen p base cell axis net l c.loop-conn.ends) next c.loop-conn.invariant.seen in
    let conn : conn_at p k ≡ c.conn.result = get_or_from_slice_get p.conns k c.conn.result no_conn c.conn.ensures.conn in
    elim c.if-conn-cell.branch [
      | then-conn-cell w ↦
          let other : is_other p cell k ≡ true = ap (λ (n : Conn). not (nat_eq n.cell.0 cell)) conn ∙ apart c.conn.result.cell.0 cell w.if-conn-cell.true in
          let fits : FitsSigned w64 w.pin_along.result = search rules in
          let with : w.widened.result ≡ widened c.loop-conn.ends w.pin_along.result = simp to_z-of_z at w.widened.ensures.widened in
          let ends : c.if-conn-cell.ends ≡ Some (widened c.loop-conn.ends (along axis (point p base k))) = w.ends-is ∙ ap Some (with ∙ ap (widened c.loop-conn.ends) w.pin_along.ensures.at) in
          record {
            seen = subst (Seen p base cell axis net left) (sym ends) (seen_other p base cell axis net k left c.loop-conn.ends other before);
            near = subst (λ o. IfSome o AreNearEnds) (sym w.ends-is) w.widened.ensures.near;
          }
      | else-conn-cell w ↦
          let its_own : is_other p cell k ≡ false = ap (λ (n : Conn). not (nat_eq n.cell.0 cell)) conn ∙ same c.conn.result.cell.0 cell w.if-conn-cell.false in
          record {
            seen = subst (Seen p base cell axis net left) (sym w.ends-is) (seen_own p base cell axis net k left c.loop-conn.ends its_own before);
            near = subst (λ o. IfSome o AreNearEnds) (sym w.ends-is) c.loop-conn.invariant.near;
          }
    ]

pub returns-clause-ends : goal.returns-clause-ends
returns-clause-ends c =
    let p = c.args.problem.now in
    let base = places_of c.args.base.now in
    let net = c.args.net.0 in
    let none_left = conns_end (conns_of_net p net) c.loop-conn.conn-index c.conns_of_net-conn-items.result.now c.conns_of_net-conn-items.ensures c.loop-conn-test.false in
    seen_all p base c.args.cell.0 c.args.axis net c.loop-conn.ends (subst (λ (l : List ℕ). Seen p base c.args.cell.0 c.args.axis net l c.loop-conn.ends) none_left c.loop-conn.invariant.seen)
