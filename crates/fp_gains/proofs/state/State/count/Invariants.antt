use Rattle.std.proofs.Common.{◌≡◌, ℕ, ◌<◌, get_or}
use Rattle.fp_gains.specs.Lists.{list_at}
use Rattle.fp_gains.specs.Sides.{no_sides, sides_of}
use Rattle.fp_gains.specs.Kept.{IsRanked}
use Rattle.fp_gains.specs.Changes.{Stands}
use Rattle.fp_gains.proofs.state.State.count.Given as goal

abbrev pub invariant-loop-net : goal.invariant-loop-net
invariant-loop-net l = record {
  counted : (net : ℕ) → net < l.net → get_or l.self.sides.items net no_sides ≡ sides_of l.self.dies.items (list_at l.members net);
  ranked : IsRanked l.members l.self;
  stands : Stands l.initial.self l.self;
}
