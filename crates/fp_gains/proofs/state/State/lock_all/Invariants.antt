use Rattle.std.proofs.Common.{◌≡◌, ◌++◌, take, drop, map, true}
use Rattle.fp_gains.specs.Kept.{AreShown}
use Rattle.fp_gains.specs.Changes.{Lies}
use Rattle.fp_gains.proofs.state.State.lock_all.Given as goal

abbrev pub invariant-loop-cell : goal.invariant-loop-cell
invariant-loop-cell l = record {
  shown : AreShown l.self.dies.items l.self.locked.items l.self.ranks;
  locked : l.self.locked.items ≡ map (λ _. true) (take l.cell l.initial.self.locked.items) ++ drop l.cell l.initial.self.locked.items;
  lies : Lies l.initial.self l.self;
}
