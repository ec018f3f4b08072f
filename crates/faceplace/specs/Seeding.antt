-- What the seed of a problem is, and that there is none.
use Rattle.std.specs.Prelude.{◌≡◌, ℕ, List, Err, ℤ, pos}
use Rattle.fp_base.specs.declared.ids.Die.{Die}
use Rattle.fp_base.specs.declared.ids.Die.TheVariants.{Top, Bottom}
use Rattle.fp_tech.specs.Slots.{Slots, IsGrid, slot_count}
use Rattle.fp_netlist.specs.Netlist.{Netlist}
use Rattle.fp_place.specs.Cut.{cut}
use Rattle.fp_place.specs.Drawing.{Drawing, drawing_of}
use Rattle.fp_place.specs.Placed.{Placed, places_of}
use Rattle.fp_place.specs.Places.{dies_of}
use Rattle.fp_score.specs.declared.stop.Stop.{Stop}
use Rattle.fp_score.specs.FirstFit.{Seat, seat_dies, seat_places, first_fit, fit_terminals, IsSeed}
use Rattle.fp_score.specs.Score.{score}
use Rattle.fp_out.specs.OutText.{out_text}
use Rattle.faceplace.specs.Report.{seed_report}

-- a grid of slots, a first die and the seats of the cells
pub record Seeding : Type 0 where
  pub grid : Slots
  pub first : Die
  pub seats : List Seat

-- these are the problem's grid and its seed
pub record IsSeeding (p : Netlist) (s : Seeding) : Type 0 where
  pub grid_is : IsGrid p.plan.frame p.plan.terminal s.grid
  pub seed_is : IsSeed p (slot_count s.grid) s.first s.seats

-- a grid of slots, and why each first fit stops
pub record Stopping : Type 0 where
  pub grid : Slots
  pub top_first : Stop
  pub bottom_first : Stop

-- this is the problem's grid, and neither first fit stands
pub record IsStopping (p : Netlist) (s : Stopping) : Type 0 where
  pub grid_is : IsGrid p.plan.frame p.plan.terminal s.grid
  pub top_stops : first_fit p (slot_count s.grid) Top ≡ Err s.top_first
  pub bottom_stops : first_fit p (slot_count s.grid) Bottom ≡ Err s.bottom_first

-- the seed as a drawing
abbrev pub seed_drawing : Netlist → Seeding → Drawing
seed_drawing p s = drawing_of (seat_places p.plan s.seats) (fit_terminals p s.grid (seat_dies s.seats))

-- the text of its output file
abbrev pub seed_text : Netlist → Seeding → List ℕ
seed_text p s = out_text p (seed_drawing p s)

-- its score
abbrev pub seed_score : Netlist → Seeding → ℤ
seed_score p s = score p (seat_places p.plan s.seats) (fit_terminals p s.grid (seat_dies s.seats))

-- the report of the seed
abbrev pub IsSeedReport : Netlist → Seeding → List ℕ → Type 0
IsSeedReport p s report = (total : ℕ) × (pos total ≡ seed_score p s) × (report ≡ seed_report total s.first (cut p (seat_dies s.seats)) (slot_count s.grid))

-- the line of a placement that a first die leads to: its score, its cut nets and the problem's slots
abbrev pub IsLineOf : Netlist → Die → Placed → List ℕ → Type 0
IsLineOf p first placed line = (total : ℕ) × (grid : Slots) × (pos total ≡ score p (places_of placed) placed.terminals) × IsGrid p.plan.frame p.plan.terminal grid
    × (line ≡ seed_report total first (cut p (dies_of (places_of placed))) (slot_count grid))
