-- What the seed's crate answers, as the program's endings say it.
use Rattle.std.proofs.Common.{◌≡◌, ℕ, suc, ◌+◌, ◌<◌, Bool, cond, List, [], ◌∷◌, length, Option, Some, None, Ok, Err, refl, sym, ap, subst, ◌∙◌, arith, inl, inr}
use Rattle.std.specs.Prelude.{is_some, slice_get}
use Rattle.std.proofs.lemmas.Option.{get_or_from_slice_get}
use Rattle.fp_base.specs.declared.ids.Point.{Point}
use Rattle.fp_base.specs.declared.ids.Die.{Die}
use Rattle.fp_base.specs.declared.ids.Die.TheVariants.{Top, Bottom}
use Rattle.fp_tech.specs.Plan.{Plan}
use Rattle.fp_tech.specs.Slots.{Slots, slot_count}
use Rattle.fp_tech.specs.SlotsLaws.{grid_once}
use Rattle.fp_netlist.specs.Netlist.{Netlist}
use Rattle.fp_place.specs.Cut.{cut, cut_below, is_cut}
use Rattle.fp_place.specs.Drawing.{drawing_of}
use Rattle.fp_place.specs.Placed.{Placed, places_of, drawn_of}
use Rattle.fp_place.specs.Places.{dies_of}
use Rattle.fp_score.specs.declared.stop.Stop.{Stop}
use Rattle.fp_score.specs.FirstFit.{Seat, seat_dies, seat_places, first_fit}
use Rattle.fp_score.specs.Score.{score}
use Rattle.fp_score.specs.Terminals.{AreOnCuts}
use Rattle.fp_out.specs.OutText.{out_text}
use Rattle.fp_seed.specs.declared.seeding.Seeded.{Seeded}
use Rattle.fp_seed.specs.declared.seeding.SeedFault.TheVariants as faults
use Rattle.fp_seed.specs.Seeded.{SeedGives, IsSeated}
use Rattle.fp_seed.specs.SeededLaws.{not_both}
use Rattle.faceplace.specs.Report.{seed_report}
use Rattle.faceplace.specs.Outcome.{Outcome}
use Rattle.faceplace.specs.Due.{SeedStands, SeedDue}
use Rattle.faceplace.specs.Owed.{SeedOwes}
use Rattle.faceplace.specs.Seeding.{Seeding, Stopping, IsSeeding, IsStopping, seed_text, IsSeedReport, IsLineOf}

-- a seed stands, or both first fits stop
pub exclusive : (p : Netlist) (s : Seeding) (t : Stopping) → IsSeeding p s → IsStopping p t → ⊥
exclusive p s t is_s is_t =
    let same : t.grid ≡ s.grid = grid_once p.plan.frame p.plan.terminal t.grid s.grid is_t.grid_is is_s.grid_is in
    not_both p (slot_count s.grid) s.first s.seats is_s.seed_is (record {
      top_first = t.top_first;
      bottom_first = t.bottom_first;
      top_stops = at Top t.top_first same is_t.top_stops;
      bottom_stops = at Bottom t.bottom_first same is_t.bottom_stops;
    })
  where
    at : (first : Die) (stop : Stop) → t.grid ≡ s.grid → first_fit p (slot_count t.grid) first ≡ Err stop → first_fit p (slot_count s.grid) first ≡ Err stop
    at first stop same e = subst (λ (g : Slots). first_fit p (slot_count g) first ≡ Err stop) same e

-- the seed that was found
abbrev pub seeding : (p : Netlist) (found : Seeded) → SeedGives p (Ok found) → Seeding
seeding p found gives = record { grid = gives.0; first = found.first; seats = gives.2.0 }

pub is_seeding : (p : Netlist) (found : Seeded) (gives : SeedGives p (Ok found)) → IsSeeding p (seeding p found gives)
is_seeding p found gives = record { grid_is = gives.1; seed_is = gives.2.1 }

-- why there is none
abbrev pub stopping : (p : Netlist) (top bottom : Stop) → SeedGives p (Err (faults.Unfit top bottom)) → Stopping
stopping p top bottom gives = record { grid = gives.0; top_first = top; bottom_first = bottom }

pub is_stopping : (p : Netlist) (top bottom : Stop) (gives : SeedGives p (Err (faults.Unfit top bottom))) → IsStopping p (stopping p top bottom gives)
is_stopping p top bottom gives = record { grid_is = gives.1; top_stops = gives.2; bottom_stops = gives.3 }

-- the text that is written is the seed's
pub text_is : (p : Netlist) (found : Seeded) (gives : SeedGives p (Ok found)) → out_text p (drawn_of found.placement) ≡ seed_text p (seeding p found gives)
text_is p found gives =
    let seated : IsSeated p gives.0 gives.2.0 found.placement = gives.2.2 in
    ap (λ places. out_text p (drawing_of places found.placement.terminals)) seated.places_are
    ∙ ap (λ terminals. out_text p (drawing_of (seat_places p.plan gives.2.0) terminals)) seated.terminals_are

dies_are : (plan : Plan) (seats : List Seat) → dies_of (seat_places plan seats) ≡ seat_dies seats
dies_are plan [] = refl
dies_are plan (seat ∷ seats) = ap (λ dies. seat.die ∷ dies) (dies_are plan seats)

-- the line that is told is the seed's
pub line_is : (p : Netlist) (found : Seeded) (gives : SeedGives p (Ok found)) (line : List ℕ) → IsLineOf p found.first found.placement line → IsSeedReport p (seeding p found gives) line
line_is p found gives line (total, grid, scored, is_grid, is) =
    let seats : List Seat = gives.2.0 in
    let seated : IsSeated p gives.0 seats found.placement = gives.2.2 in
    let same : grid ≡ gives.0 = grid_once p.plan.frame p.plan.terminal grid gives.0 is_grid gives.1 in
    let dies : dies_of (places_of found.placement) ≡ seat_dies seats = ap dies_of seated.places_are ∙ dies_are p.plan seats in (
      total,
      scored ∙ ap (λ places. score p places found.placement.terminals) seated.places_are ∙ ap (score p (seat_places p.plan seats)) seated.terminals_are,
      is ∙ ap (λ d. seed_report total found.first (cut p d) (slot_count grid)) dies ∙ ap (λ g. seed_report total found.first (cut p (seat_dies seats)) (slot_count g)) same,
    )

-- one more net
pub cut_more : (p : Netlist) (dies : List Die) (net : ℕ) (b : Bool) → b ≡ is_cut p dies net → cut_below p dies (net + 1) ≡ cut_below p dies net + cond b 1 0
unfolding cut_below
cut_more p dies net b is =
    let up : net + 1 ≡ suc net = omega arith in
    ap (cut_below p dies) up ∙ ap (λ b. cut_below p dies net + cond b 1 0) (sym is)

-- a net with a terminal is cut, and no other
pub terminal_cut : (p : Netlist) (placed : Placed) (net : ℕ) (centre : Option Point) (b : Bool) → AreOnCuts p (dies_of (places_of placed)) placed.terminals → net < length p.nets
    → slice_get placed.terminals net ≡ Some centre → b ≡ is_some centre → b ≡ is_cut p (dies_of (places_of placed)) net
terminal_cut p placed net centre b on_cuts below there is =
    is ∙ ap is_some (sym (get_or_from_slice_get placed.terminals net centre None there)) ∙ on_cuts net below

-- what is due where a seed was found
pub stands_due : (p : Netlist) (found : Seeded) (output line : List ℕ) → SeedGives p (Ok found) → IsLineOf p found.first found.placement line
    → SeedStands p output (record { status = 0; report = line; writings = record { name = output; text = out_text p (drawn_of found.placement) } ∷ [] })
stands_due p found output line gives line_of = record {
  seeding = seeding p found gives;
  stands = is_seeding p found gives;
  line = line;
  reports = line_is p found gives line line_of;
  is = ap (λ text. record { status = 0; report = line; writings = record { name = output; text = text } ∷ [] }) (text_is p found gives);
}

-- what is due for a problem has the status that is owed
pub seed_owed : (p : Netlist) (output : List ℕ) (outcome : Outcome) (status : ℕ) → SeedDue p output outcome → SeedOwes p status → outcome.status ≡ status
seed_owed p output outcome status (inl due) (inl owed) = ap (λ (o : Outcome). o.status) due.is ∙ sym owed.2
seed_owed p output outcome status (inl due) (inr owed) = absurd (exclusive p due.seeding owed.0 due.stands owed.1)
seed_owed p output outcome status (inr due) (inl owed) = absurd (exclusive p owed.0 due.stopping owed.1 due.stops)
seed_owed p output outcome status (inr due) (inr owed) = ap (λ (o : Outcome). o.status) due.is ∙ sym owed.2
