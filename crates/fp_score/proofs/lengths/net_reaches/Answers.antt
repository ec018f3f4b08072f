use Rattle.std.proofs.Common.{◌≡◌, ◌+◌, ◌<◌, ◌∷◌, List, length, ℕ, get_or, drop, subst, sym, ◌∙◌}
use Rattle.fp_base.specs.declared.ids.ConnId.{ConnId}
use Rattle.fp_netlist.specs.Netlist.{conns_of_net}
use Rattle.fp_netlist.specs.NetlistLaws.{net_conns_within}
use Rattle.fp_place.specs.Placed.{places_of}
use Rattle.fp_score.specs.Score.{point}
use Rattle.fp_score.specs.Reaches.{die_of, with_point}
use Rattle.fp_score.specs.Walks.{conn_next, conn_each, conns_end}
use Rattle.fp_score.proofs.Pins.{Walked, walk_starts, walk_on, walk_ends}
use Rattle.fp_score.proofs.lengths.net_reaches.Goals as goal

abbrev none : ConnId
none = record { 0 = 0 }

pub loop-conn-init : goal.loop-conn-init
loop-conn-init c = record {
  walked = subst (Walked c.args.problem.now (places_of c.args.placement.now) c.args.net.0 (conns_of_net c.args.problem.now c.args.net.0)) (sym c.none-reaches.ensures.none)
      (walk_starts c.args.problem.now (places_of c.args.placement.now) c.args.net.0);
  near = c.none-reaches.ensures.near;
}

pub pin-pin-requires-clause-conn : goal.pin-pin-requires-clause-conn
pin-pin-requires-clause-conn c =
    conn_each (λ k. k < length c.args.problem.now.conns) (conns_of_net c.args.problem.now c.args.net.0) c.loop-conn.conn-index c.conns_of_net-conn-items.result.now none
    c.conns_of_net-conn-items.ensures c.loop-conn-test.true (net_conns_within c.args.problem.now c.args.net.0)

pub loop-conn-preserved : goal.loop-conn-preserved
loop-conn-preserved c =
    let p = c.args.problem.now in
    let places = places_of c.args.placement.now in
    let net = c.args.net.0 in
    let left = drop (c.loop-conn.conn-index + 1) (conns_of_net p net) in
    let k = (get_or c.conns_of_net-conn-items.result.now c.loop-conn.conn-index none).0 in
    let next = conn_next (conns_of_net p net) c.loop-conn.conn-index c.conns_of_net-conn-items.result.now none c.conns_of_net-conn-items.ensures c.loop-conn-test.true in
    let before : Walked p places net (k ∷ left) c.loop-conn.reaches = subst (λ (l : List ℕ). Walked p places net l c.loop-conn.reaches) next c.loop-conn.invariant.walked in
    let same : c.with-reaches.result ≡ with_point c.loop-conn.reaches (die_of p places k) (point p places k) =
    c.with-reaches.ensures.with ∙ (λ i. with_point c.loop-conn.reaches (c.pin-pin.ensures.die i) (c.pin-pin.ensures.point i)) in
    record {
      walked = subst (Walked p places net left) (sym same) (walk_on p places net k left c.loop-conn.reaches before);
      near = c.with-reaches.ensures.near;
    }

pub returns-clause-reaches : goal.returns-clause-reaches
returns-clause-reaches c =
    let p = c.args.problem.now in
    let places = places_of c.args.placement.now in
    let net = c.args.net.0 in
    let none_left = conns_end (conns_of_net p net) c.loop-conn.conn-index c.conns_of_net-conn-items.result.now c.conns_of_net-conn-items.ensures c.loop-conn-test.false in
    walk_ends p places net c.loop-conn.reaches (subst (λ (l : List ℕ). Walked p places net l c.loop-conn.reaches) none_left c.loop-conn.invariant.walked)
