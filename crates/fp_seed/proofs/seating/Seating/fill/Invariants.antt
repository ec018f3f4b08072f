use Rattle.std.proofs.Common.{◌≡◌, ◌-◌, [], length}
use Rattle.fp_score.specs.FirstFit.{filled}
use Rattle.fp_seed.specs.Seats.{IsSeating}
use Rattle.fp_seed.proofs.seating.Seating.fill.Given as goal

abbrev pub invariant-loop-number : goal.invariant-loop-number
invariant-loop-number l = record {
  many : length l.self.seats.items ≡ l.number;
  seating : IsSeating l.problem l.self;
  rest : filled l.problem l.first (length l.problem.cells - l.number) l.self.seats.items ≡ filled l.problem l.first (length l.problem.cells) [];
}
