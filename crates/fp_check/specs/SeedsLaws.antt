-- Laws of the seed as the checker holds it: whether a problem's seed stands, and whether a trial is from the seed.
use Rattle.std.specs.Prelude.{◌≡◌, ℕ, ◌<◌, ◌≤◌, List, length, map, get_or, Ok, Err}
use Rattle.std.proofs.Common.{sym, ap, subst, ◌∙◌, arith}
use Rattle.std.proofs.lemmas.List.{get_or-map}
use Rattle.fp_tech.specs.Slots.{Slots, slot_count, IsGrid}
use Rattle.fp_tech.specs.SlotsLaws.{grid_once}
use Rattle.fp_netlist.specs.Netlist.{Netlist}
use Rattle.fp_place.specs.Cut.{cut}
use Rattle.fp_place.specs.Places.{dies_of}
use Rattle.fp_place.specs.Placed.{Placed, no_spot, spot_at, places_of, IsPlacementOf}
use Rattle.fp_place.specs.Settled.{KeepRules}
use Rattle.fp_score.specs.FirstFit.{Seat, IsSeed}
use Rattle.fp_score.specs.declared.stop.Stop.{Stop}
use Rattle.fp_seed.specs.declared.seeding.SeedFault.TheVariants.{Unfit}
use Rattle.fp_seed.specs.declared.seeding.Seeded.{Seeded}
use Rattle.fp_seed.specs.Seeded.{spot_seat, IsSeated, SeedGives}
use Rattle.fp_seed.specs.SeededLaws.{one_seed, not_both}
use Rattle.fp_cert.specs.Shown.{ShownTrial}
use Rattle.fp_cert.specs.Standing.{spots_shown, targets_shown, placed_shown}
use Rattle.fp_cert.specs.Trials.{no_seat, IsAt, IsFromSeed}
use Rattle.fp_check.specs.Conditions.{HasSeed}
use Rattle.fp_check.specs.Seeds.{IsSeedPlaced, StartsLike}

-- ---- whether the seed stands

-- a seed's placement is the seed's over the problem's grid,
pub seed_placed : (p : Netlist) (grid : Slots) (seeded : Seeded) → IsGrid p.plan.frame p.plan.terminal grid → SeedGives p (Ok seeded) → IsPlacementOf p seeded.placement
    → KeepRules p (dies_of (places_of seeded.placement))
    → ((other : Slots) → IsGrid p.plan.frame p.plan.terminal other → cut p (dies_of (places_of seeded.placement)) ≤ slot_count other) → IsSeedPlaced p grid seeded.placement
seed_placed p grid seeded is_grid (other, other_is, (seats, seed, seated)) of_problem rules slots =
    let same : other ≡ grid = grid_once p.plan.frame p.plan.terminal other grid other_is is_grid in
    record {
      first = seeded.first;
      seats = seats;
      seed = rw same at seed;
      seated = subst (λ (g : Slots). IsSeated p g seats seeded.placement) same seated;
      of_problem = of_problem;
      rules = rules;
      slots = slots grid is_grid;
    }

-- which so has a seed;
pub placed_has_seed : (p : Netlist) (grid : Slots) (placed : Placed) → IsSeedPlaced p grid placed → HasSeed p grid
placed_has_seed p grid placed is = (is.first, is.seats, is.seed)

-- where both first fits stop, it has none.
pub no_seed : (p : Netlist) (grid : Slots) (top bottom : Stop) → IsGrid p.plan.frame p.plan.terminal grid → SeedGives p (Err (Unfit top bottom)) → HasSeed p grid → ⊥
no_seed p grid top bottom is_grid lacks has =
    let same = grid_once p.plan.frame p.plan.terminal grid lacks.0 is_grid lacks.1 in
    not_both p (slot_count lacks.0) has.0 has.1 (subst (λ g. IsSeed p (slot_count g) has.0 has.1) same has.2)
    (record { top_first = top; bottom_first = bottom; top_stops = lacks.2; bottom_stops = lacks.3 })

-- ---- whether a trial is from the seed

-- a seat of the seed is its cell's spot
seat_at : (seats : List Seat) (seed : Placed) (cell : ℕ) → map spot_seat seed.spots ≡ seats → cell < length seed.spots → spot_seat (spot_at seed.spots cell) ≡ get_or seats cell no_seat
seat_at seats seed cell are below =
    sym (get_or-map spot_seat seed.spots cell no_spot no_seat below) ∙ ap (λ (list : List Seat). get_or list cell no_seat) are

-- a trial whose cells stand as the seed's, in order, each with its own place as target, is from the seed,
pub starts_from_seed : (p : Netlist) (grid : Slots) (seed : Placed) (trial : ShownTrial) → IsSeedPlaced p grid seed
    → StartsLike p seed (placed_shown p grid trial) (targets_shown p trial) → IsFromSeed p grid trial
starts_from_seed p grid seed trial is like = record {
  first = is.first;
  seats = is.seats;
  seed = is.seed;
  seated = λ cell below.
      let alike = like.alike cell below in
      subst (λ seat. IsAt seat (spot_at (spots_shown p trial) cell)) (seat_at is.seats seed cell is.seated.seats_are (omega (arith, below, is.of_problem.cells)))
      (record { die_is = alike.die_is; segment_is = alike.segment_is; x_is = alike.x_is });
  in_order = like.in_order;
  targets_are = like.targets_are;
}

-- and the other way round.
pub from_seed_starts : (p : Netlist) (grid : Slots) (seed : Placed) (trial : ShownTrial) → IsSeedPlaced p grid seed → IsFromSeed p grid trial
    → StartsLike p seed (placed_shown p grid trial) (targets_shown p trial)
from_seed_starts p grid seed trial is from = record {
  alike = λ cell below.
      let same : from.seats ≡ is.seats = one_seed p (slot_count grid) from.first is.first from.seats is.seats from.seed is.seed in
      let seat : get_or from.seats cell no_seat ≡ spot_seat (spot_at seed.spots cell) =
      ap (λ (list : List Seat). get_or list cell no_seat) same ∙ sym (seat_at is.seats seed cell is.seated.seats_are (omega (arith, below, is.of_problem.cells))) in
      let at : IsAt (spot_seat (spot_at seed.spots cell)) (spot_at (spots_shown p trial) cell) = subst (λ s. IsAt s (spot_at (spots_shown p trial) cell)) seat (from.seated cell below) in
      record { die_is = at.die_is; segment_is = at.segment_is; x_is = at.x_is };
  in_order = from.in_order;
  targets_are = from.targets_are;
}
