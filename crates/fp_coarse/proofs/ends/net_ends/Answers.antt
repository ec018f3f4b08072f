use Rattle.std.proofs.Common.{◌≡◌, ◌+◌, ◌<◌, ◌^◌, ◌∷◌, List, ℕ, ℤ, pos, neg_ℤ, ◌-ℤ◌, not, nat_eq, Option, Some, FitsSigned, w64, get_or, length, drop, subst, sym, ap, ◌∙◌, arith, rules}
use Rattle.std.proofs.lemmas.Int.{ints, to_z-of_z}
use Rattle.std.proofs.lemmas.Option.{get_or_from_slice_get}
use Rattle.fp_base.specs.declared.ids.ConnId.{ConnId}
use Rattle.fp_netlist.specs.Netlist.{conns_of_net}
use Rattle.fp_netlist.specs.NetlistLaws.{net_conns_within}
use Rattle.fp_place.specs.Cut.{no_conn, conn_at}
use Rattle.fp_place.specs.Placed.{places_of}
use Rattle.fp_score.specs.Score.{point}
use Rattle.fp_score.specs.Target.{along, is_other}
use Rattle.fp_score.specs.Walks.{conn_next, conn_each, conns_end}
use Rattle.fp_coarse.specs.declared.ends.Least.{Least}
use Rattle.fp_coarse.specs.EndsOfNets.{kept_for, with_pin}
use Rattle.fp_coarse.proofs.KeptEnds.{IsKept, kept_none, kept_more, kept_all}
use Rattle.fp_coarse.proofs.ends.net_ends.Goals as goal

abbrev none : ConnId
none = record { 0 = 0 }

pub loop-conn-init : goal.loop-conn-init
loop-conn-init c = record {
  low = kept_none (λ at. at) c.args.problem.now (places_of c.args.base.now) c.args.axis c.args.net.0;
  high = kept_none neg_ℤ c.args.problem.now (places_of c.args.base.now) c.args.axis c.args.net.0;
  low_ordered = tt;
  high_ordered = tt;
  low_within = tt;
  high_within = tt;
}

pub conn-requires : goal.conn-requires
conn-requires c =
    conn_each (λ k. k < length c.args.problem.now.conns) (conns_of_net c.args.problem.now c.args.net.0) c.loop-conn.conn-index c.conns_of_net-conn-items.result.now none
    c.conns_of_net-conn-items.ensures c.loop-conn-test.true (net_conns_within c.args.problem.now c.args.net.0)

pub pin_along-at-requires-clause-conn : goal.pin_along-at-requires-clause-conn
pin_along-at-requires-clause-conn c =
    conn_each (λ k. k < length c.args.problem.now.conns) (conns_of_net c.args.problem.now c.args.net.0) c.loop-conn.conn-index c.conns_of_net-conn-items.result.now none
    c.conns_of_net-conn-items.ensures c.loop-conn-test.true (net_conns_within c.args.problem.now c.args.net.0)

pub loop-conn-preserved : goal.loop-conn-preserved
loop-conn-preserved c =
    let p = c.args.problem.now in
    let base = places_of c.args.base.now in
    let axis = c.args.axis in
    let net = c.args.net.0 in
    let at = c.pin_along-at.result in
    let left = drop (c.loop-conn.conn-index + 1) (conns_of_net p net) in
    let k = (get_or c.conns_of_net-conn-items.result.now c.loop-conn.conn-index none).0 in
    let next = conn_next (conns_of_net p net) c.loop-conn.conn-index c.conns_of_net-conn-items.result.now none c.conns_of_net-conn-items.ensures c.loop-conn-test.true in
    let conn : conn_at p k ≡ c.conn.result = get_or_from_slice_get p.conns k c.conn.result no_conn c.conn.ensures.conn in
    let fits : FitsSigned w64 at = search rules in
    let negative : FitsSigned w64 (pos 0 -ℤ at) = omega (arith, ints, c.pin_along-at.ensures.range.0, c.pin_along-at.ensures.range.1) in
    let low : (other : ℕ) → kept_for (Some c.joined.result) other ≡ with_pin (kept_for c.loop-conn.low other) (not (nat_eq c.conn.result.cell.0 other)) at = simp to_z-of_z at c.joined.ensures.kept in
    let high : (other : ℕ) → kept_for (Some c.joined-in-loop-conn.result) other ≡ with_pin (kept_for c.loop-conn.high other) (not (nat_eq c.conn.result.cell.0 other)) (pos 0 -ℤ at) =
    simp to_z-of_z at c.joined-in-loop-conn.ensures.kept in
    let turned : pos 0 -ℤ at ≡ neg_ℤ at = omega (arith, ints) in
    let here : (turn : ℤ → ℤ) (least : Option Least) (cell : ℕ)
    → with_pin (kept_for least cell) (not (nat_eq c.conn.result.cell.0 cell)) (turn at) ≡ with_pin (kept_for least cell) (is_other p cell k) (turn (along axis (point p base k))) =
    λ turn least cell i. with_pin (kept_for least cell) (not (nat_eq (sym conn i).cell.0 cell)) (turn (c.pin_along-at.ensures.at i)) in
    let lows : IsKept (λ z. z) p base axis net (k ∷ left) c.loop-conn.low = subst (λ (l : List ℕ). IsKept (λ z. z) p base axis net l c.loop-conn.low) next c.loop-conn.invariant.low in
    let highs : IsKept neg_ℤ p base axis net (k ∷ left) c.loop-conn.high = subst (λ (l : List ℕ). IsKept neg_ℤ p base axis net l c.loop-conn.high) next c.loop-conn.invariant.high in
    record {
      low = kept_more (λ z. z) p base axis net k left c.loop-conn.low c.joined.result (λ cell. low cell ∙ here (λ z. z) c.loop-conn.low cell) lows;
      high = kept_more neg_ℤ p base axis net k left c.loop-conn.high c.joined-in-loop-conn.result (λ cell. high cell ∙ ap (with_pin (kept_for c.loop-conn.high cell) (not (nat_eq c.conn.result.cell.0 cell))) turned ∙ here neg_ℤ c.loop-conn.high cell) highs;
      low_ordered = c.joined.ensures.ordered;
      high_ordered = c.joined-in-loop-conn.ensures.ordered;
      low_within = c.joined.ensures.within (pos 0) (pos (2 ^ 31)) c.loop-conn.invariant.low_within (omega (arith, ints, c.pin_along-at.ensures.range.0)) (omega (arith, ints, c.pin_along-at.ensures.range.1));
      high_within = c.joined-in-loop-conn.ensures.within (pos 0 -ℤ pos (2 ^ 31)) (pos 0) c.loop-conn.invariant.high_within
          (omega (arith, ints, c.pin_along-at.ensures.range.0, c.pin_along-at.ensures.range.1)) (omega (arith, ints, c.pin_along-at.ensures.range.0, c.pin_along-at.ensures.range.1));
    }

pub returns-clause-ends : goal.returns-clause-ends
returns-clause-ends c =
    let p = c.args.problem.now in
    let base = places_of c.args.base.now in
    let net = c.args.net.0 in
    let none_left = conns_end (conns_of_net p net) c.loop-conn.conn-index c.conns_of_net-conn-items.result.now c.conns_of_net-conn-items.ensures c.loop-conn-test.false in
    kept_all p base c.args.axis net c.loop-conn.low c.loop-conn.high
    (subst (λ (l : List ℕ). IsKept (λ z. z) p base c.args.axis net l c.loop-conn.low) none_left c.loop-conn.invariant.low)
    (subst (λ (l : List ℕ). IsKept neg_ℤ p base c.args.axis net l c.loop-conn.high) none_left c.loop-conn.invariant.high)
