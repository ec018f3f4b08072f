use Rattle.std.proofs.Common.{take}
use Rattle.fp_gains.specs.Kept.{IsRanked}
use Rattle.fp_gains.specs.Changes.{AreTurned, Stands}
use Rattle.fp_gains.proofs.state.State.turn_nets.Given as goal

abbrev pub invariant-loop-net : goal.invariant-loop-net
invariant-loop-net l = record {
  sides : AreTurned (take l.net-index l.nets) l.die l.initial.self.sides.items l.self.sides.items;
  ranked : IsRanked l.members l.self;
  stands : Stands l.initial.self l.self;
}
