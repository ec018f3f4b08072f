use Rattle.std.proofs.Common.{◌≡◌, suc, ◌+◌, Err, ◌-◌, length, ap, sym, subst, ◌∙◌, arith}
use Rattle.std.proofs.lemmas.List.{length_push}
use Rattle.fp_score.specs.declared.stop.Stop.TheVariants.{NoRoom}
use Rattle.fp_score.specs.FirstFit.{filled}
use Rattle.fp_seed.specs.Seats.{Places}
use Rattle.fp_seed.proofs.Seated.{filled_next, filled_stuck, filled_whole}
use Rattle.fp_seed.proofs.seating.Seating.fill.Goals as goal

pub returns-then-not-branch-clause-fills : goal.returns-then-not-branch-clause-fills
returns-then-not-branch-clause-fills c =
    let placed = subst (λ b. Places c.args.problem.now c.args.first c.loop-number.self.seats.items b c.place.new.self) c.if-not-branch.true c.in_ok-place.ensures in
    let p = c.args.problem.now in let seats = c.loop-number.self.seats.items in let left = length p.cells - (c.loop-number.number + 1) in
    let more : length p.cells - c.loop-number.number ≡ suc left = omega (arith, c.loop-number-test.true, c.cells-number-end.ensures.count) in
    sym c.loop-number.invariant.rest ∙ filled_stuck p c.args.first (length p.cells - c.loop-number.number) left seats more placed
    ∙ ap (λ number. Err (NoRoom (record { 0 = number }))) c.loop-number.invariant.many

pub loop-number-preserved : goal.loop-number-preserved
loop-number-preserved c =
    let placed = subst (λ b. Places c.args.problem.now c.args.first c.loop-number.self.seats.items b c.place.new.self) c.if-not-branch.false c.in_ok-place.ensures in
    let p = c.args.problem.now in let seats = c.loop-number.self.seats.items in let left = length p.cells - (c.loop-number.number + 1) in
    let more : length p.cells - c.loop-number.number ≡ suc left = omega (arith, c.loop-number-test.true, c.cells-number-end.ensures.count) in
    record {
      many = ap length placed.seats_are ∙ length_push seats placed.seat ∙ ap (λ n. n + 1) c.loop-number.invariant.many;
      seating = placed.seating;
      rest = ap (filled p c.args.first left) placed.seats_are ∙ sym (filled_next p c.args.first (length p.cells - c.loop-number.number) left seats placed.seat more placed.next)
          ∙ c.loop-number.invariant.rest;
    }

pub returns-clause-fills : goal.returns-clause-fills
returns-clause-fills c = (
  sym c.loop-number.invariant.rest ∙ filled_whole c.args.problem.now c.args.first (length c.args.problem.now.cells - c.loop-number.number) c.loop-number.self.seats.items (omega arith),
  c.loop-number.invariant.seating,
)
