use Rattle.std.proofs.Common.{◌∙◌, length, None, sym, subst}
use Rattle.fp_gains.specs.OrderParts.{IsBestRoomy, IsBestWithRoom}
use Rattle.fp_gains.proofs.OrderLemmas.{IsHeldOrder, held_order, leader_within, leader_roomy, leaves_within, leaves_rise, all_slots, none_roomy, front_best}
use Rattle.fp_gains.proofs.order.Order.best_with_room.Goals as goal
use Rattle.fp_gains.proofs.order.Order.best_with_room.Goals.{After-leader}

holds : (c : After-leader) → IsHeldOrder c.args.problem.now c.self.inside.die c.self.inside.slots c.self.inside.tournament
holds c = held_order c.args.problem.now c.self.inside.die c.self.inside.slots c.self.inside.tournament c.args.self.now c.self.invariant c.self.view_is c.requires

pub returns-in_default : goal.returns-in_default
returns-in_default c =
    let tournament = c.self.inside.tournament in
    subst (λ o. IsBestWithRoom c.args.problem.now c.args.caps.now o None) c.self.view_is
    (none_roomy c.args.problem.now c.args.caps.now c.self.inside.die c.self.inside.slots tournament (length tournament) (holds (goal.at.returns-in_default c).After-leader)
    (all_slots c.args.problem.now c.args.caps.now c.self.inside.die tournament) c.in_default.ensures)

pub room-requires : goal.room-requires
room-requires c = leader_within c.args.problem.now c.self.inside.die c.self.inside.slots c.self.inside.tournament c.in-Some.leader (holds (goal.at.room-requires c).After-leader) c.in-Some.ensures

pub returns-then-room : goal.returns-then-room
returns-then-room c =
    subst (λ o. IsBestRoomy c.args.problem.now c.args.caps.now o c.in-Some.leader) c.self.view_is
    (leader_roomy c.args.problem.now c.args.caps.now c.self.inside.die c.self.inside.slots c.self.inside.tournament c.in-Some.leader (holds (goal.at.returns-then-room c).After-leader) c.in-Some.ensures
    (sym c.room.ensures ∙ c.if-room.true))

pub count_with_room-count-requires-clause-within : goal.count_with_room-count-requires-clause-within
count_with_room-count-requires-clause-within c =
    leaves_within c.args.problem.now c.self.inside.die c.self.inside.slots c.self.inside.tournament (holds (goal.at.count_with_room-count-requires-clause-within c).After-leader)

pub count_with_room-count-requires-clause-rising : goal.count_with_room-count-requires-clause-rising
count_with_room-count-requires-clause-rising c =
    leaves_rise c.args.problem.now c.self.inside.die c.self.inside.slots c.self.inside.tournament (holds (goal.at.count_with_room-count-requires-clause-rising c).After-leader)

pub returns : goal.returns
returns c =
    subst (λ o. IsBestWithRoom c.args.problem.now c.args.caps.now o c.first.result) c.self.view_is
    (front_best c.args.problem.now c.args.caps.now c.self.inside.die c.self.inside.slots c.self.inside.tournament c.count_with_room-count.result c.first.result (holds (goal.at.returns c).After-leader)
    c.count_with_room-count.ensures
    c.first.ensures)
