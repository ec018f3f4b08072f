use Rattle.std.proofs.Common.{refl}
use Rattle.fp_base.specs.declared.ids.Die.TheVariants.{Top, Bottom}
use Rattle.fp_seed.proofs.Seated.{IsHeld, found_holds, all_of_ok, took, left_alone}
use Rattle.fp_seed.proofs.seating.Seating.take.Goals as goal
use Rattle.fp_seed.proofs.seating.Seating.take.Goals.{In-Top, In-Bottom}

on_top : (c : In-Top) → IsHeld c.args.problem.now Top c.args.self.now.top.used.items c.args.cell.0 c.args.segment
on_top c =
    let p = c.args.problem.now in let s = c.args.self.now in
    found_holds p Top c.args.die s.seats.items s.top.used.items s.top.lanes c.args.cell.0 c.args.segment c.requires.seating.top_holds c.in-Top.is c.requires.room

on_bottom : (c : In-Bottom) → IsHeld c.args.problem.now Bottom c.args.self.now.bottom.used.items c.args.cell.0 c.args.segment
on_bottom c =
    let p = c.args.problem.now in let s = c.args.self.now in
    found_holds p Bottom c.args.die s.seats.items s.bottom.used.items s.bottom.lanes c.args.cell.0 c.args.segment c.requires.seating.bottom_holds c.in-Bottom.is c.requires.room

pub take-requires-clause-within : goal.take-requires-clause-within
take-requires-clause-within c = (on_top (goal.at.take-requires-clause-within c).In-Top).within

pub take-requires-clause-room : goal.take-requires-clause-room
take-requires-clause-room c = (on_top (goal.at.take-requires-clause-room c).In-Top).held

pub take-requires-in-Bottom-clause-within : goal.take-requires-in-Bottom-clause-within
take-requires-in-Bottom-clause-within c = (on_bottom (goal.at.take-requires-in-Bottom-clause-within c).In-Bottom).within

pub take-requires-in-Bottom-clause-room : goal.take-requires-in-Bottom-clause-room
take-requires-in-Bottom-clause-room c = (on_bottom (goal.at.take-requires-in-Bottom-clause-room c).In-Bottom).held

pub returns-in-Top : goal.returns-in-Top
returns-in-Top c =
    let p = c.args.problem.now in let s = c.args.self.now in let is = c.requires.seating in
    let held = on_top (goal.at.returns-in-Top c).In-Top in
    all_of_ok c.take.result _ _ _ _ _ c.take.ensures.x c.take.ensures.ready c.take.ensures.used c.take.ensures.lanes (λ x is_x ready used lanes.
    let here = took p Top c.args.die s.seats.items s.top.used.items c.take.new.self.used.items s.top.first.items s.top.lanes c.take.new.self.lanes c.args.segment c.args.cell x
    is.top_ready is.top_holds held.within c.requires.next c.in-Top.is is_x used lanes in
    record {
      x_is = here.x_is;
      seats_are = refl;
      caps_are = refl;
      top_ready = ready;
      bottom_ready = is.bottom_ready;
      top_holds = here.holds_more;
      bottom_holds = left_alone p Top Bottom c.args.die s.seats.items s.bottom.used.items s.bottom.lanes c.args.segment is.bottom_holds c.in-Top.is refl;
    })

pub returns-in-Bottom : goal.returns-in-Bottom
returns-in-Bottom c =
    let p = c.args.problem.now in let s = c.args.self.now in let is = c.requires.seating in
    let held = on_bottom (goal.at.returns-in-Bottom c).In-Bottom in
    all_of_ok c.take-in-Bottom.result _ _ _ _ _ c.take-in-Bottom.ensures.x c.take-in-Bottom.ensures.ready c.take-in-Bottom.ensures.used c.take-in-Bottom.ensures.lanes
    (λ x is_x ready used lanes.
    let here = took p Bottom c.args.die s.seats.items s.bottom.used.items c.take-in-Bottom.new.self.used.items s.bottom.first.items s.bottom.lanes c.take-in-Bottom.new.self.lanes
    c.args.segment c.args.cell x is.bottom_ready is.bottom_holds held.within c.requires.next c.in-Bottom.is is_x used lanes in
    record {
      x_is = here.x_is;
      seats_are = refl;
      caps_are = refl;
      top_ready = is.top_ready;
      bottom_ready = ready;
      top_holds = left_alone p Bottom Top c.args.die s.seats.items s.top.used.items s.top.lanes c.args.segment is.top_holds c.in-Bottom.is refl;
      bottom_holds = here.holds_more;
    })
