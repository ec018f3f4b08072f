use Rattle.std.proofs.Common.{◌≡◌, ◌≤◌, length, None, Err, ap, sym, subst, ◌∙◌, arith}
use Rattle.std.proofs.lemmas.List.{length-map}
use Rattle.fp_tech.specs.Slots.{slot_count}
use Rattle.fp_place.specs.Cut.{cut}
use Rattle.fp_score.specs.declared.stop.Stop.TheVariants.{NoSlots}
use Rattle.fp_score.specs.FirstFit.{Seat, seat_dies, fit_terminals}
use Rattle.fp_seed.specs.Seats.{Fills}
use Rattle.fp_seed.specs.FeasibleLaws.{as_many_seats}
use Rattle.fp_seed.proofs.Fitting.{stops_for_room, stops_for_slots, seats_on_dies, stands}
use Rattle.fp_seed.proofs.Setting.{with_list}
use Rattle.fp_seed.proofs.fit.fit_with.Goals as goal
use Rattle.fp_seed.proofs.fit.fit_with.Goals.{In_default, After-deref-2, After-slots-slots}

pub returns-in-Some : goal.returns-in-Some
returns-in-Some c =
    let stuck = subst (λ o. Fills c.args.problem.now c.args.first o c.fill.new.self) c.in-Some.is c.in_ok-cell.ensures.fills in
    stops_for_room c.args.problem.now (slot_count c.args.grid.now) c.args.first _ stuck

fills : (c : In_default) → Fills c.args.problem.now c.args.first None c.fill.new.self
fills c = subst (λ o. Fills c.args.problem.now c.args.first o c.fill.new.self) c.in_default.is c.in_ok-cell.ensures.fills

dies_are : (c : After-deref-2) → c.deref-2.result.now ≡ seat_dies c.fill.new.self.seats.items
dies_are c = c.deref-2.ensures.value ∙ c.in_ok-dies.ensures ∙ ap seat_dies c.deref.ensures.value

cut_is : (c : After-slots-slots) → c.cut-cut.result ≡ cut c.args.problem.now (seat_dies c.fill.new.self.seats.items)
cut_is c = c.cut-cut.ensures.count ∙ ap (cut c.args.problem.now) (c.deref-2.ensures.value ∙ c.in_ok-dies.ensures ∙ ap seat_dies c.deref.ensures.value)

pub cut-cut-requires : goal.cut-cut-requires
cut-cut-requires c =
    ap length (dies_are (goal.at.cut-cut-requires c).After-deref-2) ∙ length-map c.fill.new.self.seats.items (λ (seat : Seat). seat.die)
    ∙ as_many_seats c.args.problem.now c.args.first c.fill.new.self.seats.items (fills (goal.at.cut-cut-requires c).In_default).0

pub returns-then-cut-slots : goal.returns-then-cut-slots
returns-then-cut-slots c =
    let is_cut = cut_is (goal.at.returns-then-cut-slots c).After-slots-slots in
    stops_for_slots c.args.problem.now (slot_count c.args.grid.now) c.args.first c.fill.new.self.seats.items (fills (goal.at.returns-then-cut-slots c).In_default).0
    (omega (arith, c.if-cut-slots.true, is_cut, c.slots-slots.ensures.count))
    ∙ ap (λ n. Err (NoSlots n (slot_count c.args.grid.now))) (sym is_cut) ∙ ap (λ n. Err (NoSlots c.cut-cut.result n)) (sym c.slots-slots.ensures.count)

pub laid-requires-clause-all : goal.laid-requires-clause-all
laid-requires-clause-all c = as_many_seats c.args.problem.now c.args.first c.fill.new.self.seats.items (fills (goal.at.laid-requires-clause-all c).In_default).0

pub laid-requires-clause-range : goal.laid-requires-clause-range
laid-requires-clause-range c =
    seats_on_dies c.args.problem.now c.args.first c.fill.new.self.seats.items c.in_ok-cell.ensures.sound (fills (goal.at.laid-requires-clause-range c).In_default).0

pub returns : goal.returns
returns c =
    let is_cut = cut_is (goal.at.returns c).After-slots-slots in
    let enough : cut c.args.problem.now (seat_dies c.fill.new.self.seats.items) ≤ slot_count c.args.grid.now = omega (arith, c.if-cut-slots.false, is_cut, c.slots-slots.ensures.count) in
    stands c.args.problem.now c.args.grid.now c.args.first c.fill.new.self.seats.items c.in_ok-placement.placement c.set_terminals.new.placement
    c.in_ok-cell.ensures.sound c.requires (fills (goal.at.returns c).In_default).0 enough c.in_ok-placement.ensures
    (c.set_terminals.ensures ∙ ap (λ dies. with_list c.in_ok-placement.placement (fit_terminals c.args.problem.now c.args.grid.now dies))
    (c.deref-3.ensures.value ∙ c.in_ok-dies.ensures ∙ ap seat_dies c.deref.ensures.value))
