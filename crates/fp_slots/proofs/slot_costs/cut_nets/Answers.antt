use Rattle.std.proofs.Common.{[], Some, None, sym, ◌∙◌, ap}
use Rattle.std.proofs.lemmas.List.{append-nil}
use Rattle.std.proofs.lemmas.List.Elements.{All-nil, All-same, All-push}
use Rattle.fp_place.specs.Placed.{places_of}
use Rattle.fp_slots.specs.CutNets.{cut_nets, IsNearNet}
use Rattle.fp_slots.proofs.Rows.{more, cut_net_near}
use Rattle.fp_slots.proofs.slot_costs.cut_nets.Goals as goal
use Rattle.fp_slots.proofs.slot_costs.cut_nets.Goals.{in-Some+in_ok-push, in_default}

pub loop-net-init : goal.loop-net-init
unfolding cut_nets
loop-net-init c = record {
  are = c.new-rows.ensures.items;
  near = All-same IsNearNet _ [] c.new-rows.ensures.items (All-nil IsNearNet);
}

pub loop-net-preserved : goal.loop-net-preserved
loop-net-preserved c =
    elim c.match-of.branch [
      | in-Some+in_ok-push w ↦ (let grown = ap (λ v. v.items) w.rows-is ∙ w.in_ok-push.ensures.items in
          record {
            are = more c.args.problem.now (places_of c.args.placement.now) c.loop-net.net _ (Some w.in-Some.row) _ _ c.loop-net.invariant.are c.net_reaches.ensures.reaches w.in-Some.ensures grown;
            near = All-same IsNearNet _ _ grown (All-push IsNearNet _ _ c.loop-net.invariant.near (cut_net_near _ _ _ c.net_reaches.ensures.near w.in-Some.ensures));
          })
      | in_default w ↦ (let same = ap (λ v. v.items) w.rows-is in
          record {
            are = more c.args.problem.now (places_of c.args.placement.now) c.loop-net.net _ None _ _ c.loop-net.invariant.are c.net_reaches.ensures.reaches w.in_default.ensures (same ∙ sym (append-nil _));
            near = All-same IsNearNet _ _ same c.loop-net.invariant.near;
          })
    ]
