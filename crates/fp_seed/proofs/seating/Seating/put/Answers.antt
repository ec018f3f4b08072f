use Rattle.std.proofs.Common.{◌≡◌, ◌++◌, ◌∷◌, [], FitsSigned, w64, refl, ap, ◌∙◌, rules}
use Rattle.std.proofs.lemmas.Int.{to_z-of_z}
use Rattle.fp_score.specs.FirstFit.{seat_on}
use Rattle.fp_seed.proofs.Seated.{has_room_is, seated}
use Rattle.fp_seed.proofs.seating.Seating.put.Goals as goal
use Rattle.fp_seed.proofs.seating.Seating.put.Goals.{In_ok-push}

pub add-requires-clause-room : goal.add-requires-clause-room
add-requires-clause-room c =
    has_room_is c.args.problem.now c.args.self.now c.take.new.self.caps c.args.die c.args.cell.0 c.args.segment c.requires.seating c.requires.room c.in_ok-x.ensures.caps_are

pushed : (c : In_ok-push) → c.push.new.self.items ≡ c.args.self.now.seats.items ++ seat_on c.args.problem.now c.args.self.now.seats.items c.args.die c.args.segment ∷ []
pushed c =
    let small : FitsSigned w64 c.in_ok-x.x = search rules in
    c.in_ok-push.ensures.items
    ∙ ap (λ x. c.take.new.self.seats.items ++ record { die = c.args.die; segment = c.args.segment; x = x } ∷ []) (to_z-of_z w64 c.in_ok-x.x small)
    ∙ ap (λ seats. seats ++ record { die = c.args.die; segment = c.args.segment; x = c.in_ok-x.x } ∷ []) c.in_ok-x.ensures.seats_are
    ∙ ap (λ x. c.args.self.now.seats.items ++ record { die = c.args.die; segment = c.args.segment; x = x } ∷ []) c.in_ok-x.ensures.x_is

pub returns-clause-seats : goal.returns-clause-seats
returns-clause-seats c = pushed c

pub returns-clause-seating : goal.returns-clause-seating
returns-clause-seating c =
    seated c.args.problem.now c.args.self.now c.take.new.self _ c.args.die c.args.segment c.args.cell.0 c.in_ok-x.x c.requires.seating c.in_ok-x.ensures c.requires.next
    c.add.ensures (pushed c) refl refl
