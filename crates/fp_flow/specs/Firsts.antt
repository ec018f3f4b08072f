-- A placement that is the seed's.
use Rattle.std.specs.Prelude.{List}
use Rattle.fp_base.specs.declared.ids.Die.{Die}
use Rattle.fp_tech.specs.Slots.{Slots, slot_count}
use Rattle.fp_netlist.specs.Netlist.{Netlist}
use Rattle.fp_place.specs.Placed.{Placed}
use Rattle.fp_score.specs.FirstFit.{Seat, IsSeed}
use Rattle.fp_seed.specs.Seeded.{IsSeated}

pub record IsSeedPlaced (p : Netlist) (grid : Slots) (placed : Placed) : Type 0 where
  pub first : Die
  pub seats : List Seat
  pub seed : IsSeed p (slot_count grid) first seats
  pub seated : IsSeated p grid seats placed
