use Rattle.std.proofs.Common.{ap, sym, ◌∙◌}
use Rattle.fp_base.specs.declared.ids.Die.TheVariants.{Top, Bottom}
use Rattle.fp_score.specs.FirstFit.{first_room}
use Rattle.fp_seed.proofs.Seated.{room_first}
use Rattle.fp_seed.proofs.seating.Seating.find.Goals as goal

pub returns-in-Top-clause-room : goal.returns-in-Top-clause-room
returns-in-Top-clause-room c =
    let p = c.args.problem.now in let s = c.args.self.now in
    c.find.ensures.room ∙ room_first p Top s.seats.items s.caps s.top.used.items s.top.lanes c.args.cell.0 c.requires.seating.top_holds c.requires.seating.top_area
    ∙ ap (first_room p s.seats.items c.args.cell.0) (sym c.in-Top.is)

pub returns-in-Bottom-clause-room : goal.returns-in-Bottom-clause-room
returns-in-Bottom-clause-room c =
    let p = c.args.problem.now in let s = c.args.self.now in
    c.find-in-Bottom.ensures.room ∙ room_first p Bottom s.seats.items s.caps s.bottom.used.items s.bottom.lanes c.args.cell.0 c.requires.seating.bottom_holds c.requires.seating.bottom_area
    ∙ ap (first_room p s.seats.items c.args.cell.0) (sym c.in-Bottom.is)
