use Rattle.std.proofs.Common.{take}
use Rattle.fp_gains.specs.Kept.{AreShown, Follow}
use Rattle.fp_gains.specs.Changes.{AreReweighed}
use Rattle.fp_gains.proofs.ranks.Ranks.reweigh.Given as goal

abbrev pub invariant-loop-cell : goal.invariant-loop-cell
invariant-loop-cell l = record {
  keys : AreReweighed l.dies (take l.cell-index l.cells) l.before l.after l.initial.self.keys.items l.self.keys.items;
  shown : AreShown l.dies l.locked l.self;
  follow : Follow l.initial.self l.self;
}
