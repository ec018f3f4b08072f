use Rattle.std.proofs.Common.{◌≡◌, All, drop}
use Rattle.fp_score.specs.Pick.{taken_by}
use Rattle.fp_coarse.specs.Rooms.{AreRooms}
use Rattle.fp_coarse.specs.Orders.{taken_of, numbers_of}
use Rattle.fp_coarse.specs.Picking.{AreLeft, IsChoice, taken_in}
use Rattle.fp_coarse.proofs.picking.take_all.Given as goal

abbrev pub invariant-loop-cell : goal.invariant-loop-cell
invariant-loop-cell l = record {
  taken_is : taken_by l.problem l.die l.targets (taken_of l.choices.items) (numbers_of (drop l.cell-index l.order)) ≡ taken_in l.problem l.targets l.die l.order;
  rooms_are : AreRooms l.rooms.free.items l.rooms.most.items;
  left : AreLeft l.problem l.die (taken_of l.choices.items) l.rooms.free.items;
  each : All (IsChoice l.problem l.die) l.choices.items;
}
