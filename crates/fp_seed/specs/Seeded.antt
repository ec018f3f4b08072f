-- What a seed is: the first fit of one first die as a placement, or why neither first fit stands.
use Rattle.std.specs.Prelude.{◌≡◌, List, map, Result, Ok, Err}
use Rattle.fp_base.specs.declared.ids.Die.TheVariants.{Top, Bottom}
use Rattle.fp_tech.specs.Slots.{Slots, slot_count, IsGrid}
use Rattle.fp_netlist.specs.Netlist.{Netlist}
use Rattle.fp_place.specs.declared.placement.Spot.{Spot}
use Rattle.fp_place.specs.Placed.{Placed, places_of}
use Rattle.fp_score.specs.FirstFit.{Seat, seat_dies, seat_places, first_fit, fit_terminals, IsSeed}
use Rattle.fp_seed.specs.declared.seeding.Seeded.{Seeded}
use Rattle.fp_seed.specs.declared.seeding.SeedFault.{SeedFault}
use Rattle.fp_seed.specs.declared.seeding.SeedFault.TheVariants.{Unfit, Memory}

-- where a spot sits
abbrev pub spot_seat : Spot → Seat
spot_seat spot = record { die = spot.die; segment = spot.segment; x = spot.x }

-- a placement is that of these seats: each cell sits where its seat says, and the k-th cut net has slot k
pub record IsSeated (p : Netlist) (grid : Slots) (seats : List Seat) (placed : Placed) : Type 0 where
  pub seats_are : map spot_seat placed.spots ≡ seats
  pub places_are : places_of placed ≡ seat_places p.plan seats
  pub terminals_are : placed.terminals ≡ fit_terminals p grid (seat_dies seats)

-- The seed, over the problem's grid of slots; or, where both first fits stop, why each of them does.
abbrev pub SeedGives : Netlist → Result Seeded SeedFault → Type 0
SeedGives p (Ok s) =
    (grid : Slots) × IsGrid p.plan.frame p.plan.terminal grid × ((seats : List Seat) × IsSeed p (slot_count grid) s.first seats × IsSeated p grid seats s.placement)
SeedGives p (Err (Unfit top bottom)) =
    (grid : Slots) × IsGrid p.plan.frame p.plan.terminal grid × (first_fit p (slot_count grid) Top ≡ Err top) × (first_fit p (slot_count grid) Bottom ≡ Err bottom)
SeedGives p (Err Memory) = Unit {0}
