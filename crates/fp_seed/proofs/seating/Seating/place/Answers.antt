use Rattle.std.proofs.Common.{◌++◌, ◌∷◌, [], ap, sym, ◌∙◌}
use Rattle.fp_place.specs.Places.{other_die}
use Rattle.fp_score.specs.FirstFit.{seat_on, first_room}
use Rattle.fp_seed.proofs.Seated.{next_on_first, next_on_second, next_nowhere}
use Rattle.fp_seed.proofs.seating.Seating.place.Goals as goal

pub returns-in-Some : goal.returns-in-Some
returns-in-Some c =
    let p = c.args.problem.now in let seats = c.args.self.now.seats.items in
    record {
      seat = seat_on p seats c.args.first c.in-Some.segment;
      next = next_on_first p c.args.first seats c.args.cell.0 c.in-Some.segment c.requires.next (sym c.in-Some.ensures.room);
      seats_are = c.in_ok-put.ensures.seats ∙ ap (λ before. before ++ seat_on p before c.args.first c.in-Some.segment ∷ []) c.in-Some.ensures.seats;
      seating = c.in_ok-put.ensures.seating;
    }

pub returns-in-Some-find : goal.returns-in-Some-find
returns-in-Some-find c =
    let p = c.args.problem.now in let seats = c.args.self.now.seats.items in let segment = c.in-Some-find.segment in let second = other_die c.args.first in
    let same = c.in-Some-find.ensures.seats ∙ c.in_default.ensures.seats in
    let found = ap (λ s. first_room p s c.args.cell.0 second) (sym c.in_default.ensures.seats)
    ∙ ap (first_room p c.find.new.self.seats.items c.args.cell.0) (sym c.other-second.ensures) ∙ sym c.in-Some-find.ensures.room in
    record {
      seat = seat_on p seats second segment;
      next = next_on_second p c.args.first seats c.args.cell.0 segment c.requires.next (sym c.in_default.ensures.room) found;
      seats_are = c.in_ok-put-2.ensures.seats ∙ ap (λ before. before ++ seat_on p before c.other-second.result segment ∷ []) same
          ∙ ap (λ die. seats ++ seat_on p seats die segment ∷ []) c.other-second.ensures;
      seating = c.in_ok-put-2.ensures.seating;
    }

pub returns : goal.returns
returns c =
    let p = c.args.problem.now in let seats = c.args.self.now.seats.items in
    let nowhere = ap (λ s. first_room p s c.args.cell.0 (other_die c.args.first)) (sym c.in_default.ensures.seats)
    ∙ ap (first_room p c.find.new.self.seats.items c.args.cell.0) (sym c.other-second.ensures) ∙ sym c.in_default-find.ensures.room in
    next_nowhere p c.args.first seats c.args.cell.0 c.requires.next (sym c.in_default.ensures.room) nowhere
