-- Laws of the seed: it is legal, there is at most one, and it stands exactly where one of the two first fits does.
use Rattle.std.specs.Prelude.{◌≡◌, ℕ, ◌≤◌, List, Some, Result, Ok, Err, ◌⊎◌, slice_get, ◌+ℤ◌}
use Rattle.std.proofs.Common.{refl, sym, ap, subst, ◌∙◌, inl, inr}
use Rattle.fp_base.specs.declared.ids.Die.{Die}
use Rattle.fp_base.specs.declared.ids.Die.TheVariants.{Top, Bottom}
use Rattle.fp_tech.specs.declared.dies.Segment.{Segment}
use Rattle.fp_tech.specs.Plan.{segments, IsPlan}
use Rattle.fp_tech.specs.Slots.{Slots, slot_count, IsGrid}
use Rattle.fp_tech.specs.SlotsLaws.{grid_once}
use Rattle.fp_netlist.specs.Netlist.{Netlist}
use Rattle.fp_place.specs.Cut.{cut}
use Rattle.fp_place.specs.Drawing.{drawing_of}
use Rattle.fp_place.specs.Legal.{IsLegal}
use Rattle.fp_place.specs.Placed.{Placed, drawn_of, StandBetween}
use Rattle.fp_place.specs.Settled.{KeepRules}
use Rattle.fp_score.specs.declared.stop.Stop.{Stop}
use Rattle.fp_score.specs.FirstFit.{Seat, seat_dies, seat_places, sitters, first_fit, fit_terminals, IsSeed}
use Rattle.fp_seed.specs.FeasibleLaws.{all_feasible, as_many_seats, first_fit_is}
use Rattle.fp_seed.specs.InOrderLaws.{seats_in_order}
use Rattle.fp_seed.specs.RulesLaws.{seats_keep_rules}
use Rattle.fp_seed.specs.StandsLaws.{seats_are_legal}
use Rattle.fp_seed.specs.declared.seeding.Seeded.{Seeded}
use Rattle.fp_seed.specs.declared.seeding.SeedFault.TheVariants.{Unfit}
use Rattle.fp_seed.specs.Seeded.{IsSeated, SeedGives}

stands_or_stops : (seats : List Seat) (stop : Stop) (r : Result (List Seat) Stop) → r ≡ Ok seats → r ≡ Err stop → ⊥
stands_or_stops seats stop r stands stops = let both : ◌≡◌ {A = Result (List Seat) Stop} (Ok seats) (Err stop) = sym stands ∙ stops in cc

same_seats : (a b : List Seat) (r : Result (List Seat) Stop) → r ≡ Ok a → r ≡ Ok b → a ≡ b
same_seats a b r is_a is_b = let both : ◌≡◌ {A = Result (List Seat) Stop} (Ok a) (Ok b) = sym is_a ∙ is_b in cc

-- the seed is a first fit with its first die
pub fits_first : (p : Netlist) (slots : ℕ) (first : Die) (seats : List Seat) → IsSeed p slots first seats → first_fit p slots first ≡ Ok seats
fits_first p slots Top seats is = is
fits_first p slots Bottom seats is = is.1

-- the dies of a first fit keep the rules: each cell fits its die, and both dies keep their percents
pub fit_keeps_rules : (p : Netlist) (slots : ℕ) (first : Die) (seats : List Seat) → first_fit p slots first ≡ Ok seats → KeepRules p (seat_dies seats)
fit_keeps_rules p slots first seats fit =
    let is = first_fit_is p slots first seats fit in
    seats_keep_rules p seats (all_feasible p first seats is.fills) (as_many_seats p first seats is.fills)

-- the drawing of a first fit is legal
pub fit_is_legal : (p : Netlist) (grid : Slots) (first : Die) (seats : List Seat) → IsPlan p.plan → IsGrid p.plan.frame p.plan.terminal grid
    → first_fit p (slot_count grid) first ≡ Ok seats → IsLegal p (drawing_of (seat_places p.plan seats) (fit_terminals p grid (seat_dies seats)))
fit_is_legal p grid first seats plan is_grid fit =
    let is = first_fit_is p (slot_count grid) first seats fit in
    seats_are_legal p grid seats plan is_grid (all_feasible p first seats is.fills) (as_many_seats p first seats is.fills) is.enough

-- the seed's dies keep the rules
pub seed_keeps_rules : (p : Netlist) (slots : ℕ) (first : Die) (seats : List Seat) → IsSeed p slots first seats → KeepRules p (seat_dies seats)
seed_keeps_rules p slots first seats is = fit_keeps_rules p slots first seats (fits_first p slots first seats is)

-- the seed's cut nets are at most the slots
pub seed_has_slots : (p : Netlist) (slots : ℕ) (first : Die) (seats : List Seat) → IsSeed p slots first seats → cut p (seat_dies seats) ≤ slots
seed_has_slots p slots first seats is = (first_fit_is p slots first seats (fits_first p slots first seats is)).enough

-- the seed's cells stand in order on each segment
pub seed_is_in_order : (p : Netlist) (slots : ℕ) (first : Die) (seats : List Seat) → IsSeed p slots first seats
    → (die : Die) (number : ℕ) (segment : Segment) → slice_get (segments p.plan die) number ≡ Some segment
    → StandBetween p die (seat_places p.plan seats) segment.start (segment.start +ℤ segment.length) (sitters die number seats)
seed_is_in_order p slots first seats is =
    seats_in_order p seats (all_feasible p first seats (first_fit_is p slots first seats (fits_first p slots first seats is)).fills)

-- a placement of given seats and of the first fit's terminals has their drawing
drawn_is : (p : Netlist) (grid : Slots) (seats : List Seat) (placed : Placed) → IsSeated p grid seats placed
    → drawn_of placed ≡ drawing_of (seat_places p.plan seats) (fit_terminals p grid (seat_dies seats))
drawn_is p grid seats placed is = ap (λ places. drawing_of places placed.terminals) is.places_are ∙ ap (drawing_of (seat_places p.plan seats)) is.terminals_are

-- The seed is legal: each placement of it is.
pub seed_is_legal : (p : Netlist) (grid : Slots) (first : Die) (seats : List Seat) (placed : Placed) → IsPlan p.plan → IsGrid p.plan.frame p.plan.terminal grid
    → IsSeed p (slot_count grid) first seats → IsSeated p grid seats placed → IsLegal p (drawn_of placed)
seed_is_legal p grid first seats placed plan is_grid seed seated =
    subst (IsLegal p) (sym (drawn_is p grid seats placed seated)) (fit_is_legal p grid first seats plan is_grid (fits_first p (slot_count grid) first seats seed))

-- a seed has one first die, and one seat for each cell
pub one_first : (p : Netlist) (slots : ℕ) (a b : Die) (xs ys : List Seat) → IsSeed p slots a xs → IsSeed p slots b ys → a ≡ b
one_first p slots Top Top xs ys x y = refl
one_first p slots Top Bottom xs ys x y = absurd (stands_or_stops xs y.0.0 (first_fit p slots Top) x y.0.1)
one_first p slots Bottom Top xs ys x y = absurd (stands_or_stops ys x.0.0 (first_fit p slots Top) y x.0.1)
one_first p slots Bottom Bottom xs ys x y = refl

pub one_seed : (p : Netlist) (slots : ℕ) (a b : Die) (xs ys : List Seat) → IsSeed p slots a xs → IsSeed p slots b ys → xs ≡ ys
one_seed p slots a b xs ys x y =
    same_seats xs ys (first_fit p slots a) (fits_first p slots a xs x)
    (ap (first_fit p slots) (one_first p slots a b xs ys x y) ∙ fits_first p slots b ys y)

-- there is a seed, or both first fits stop
pub record Stops (p : Netlist) (slots : ℕ) : Type 0 where
  pub top_first : Stop
  pub bottom_first : Stop
  pub top_stops : first_fit p slots Top ≡ Err top_first
  pub bottom_stops : first_fit p slots Bottom ≡ Err bottom_first

pub seed_or_stops : (p : Netlist) (slots : ℕ) → ((first : Die) × (seats : List Seat) × IsSeed p slots first seats) ⊎ Stops p slots
seed_or_stops p slots = by (first_fit p slots Top) (first_fit p slots Bottom) refl refl
  where
    by : (top bottom : Result (List Seat) Stop) → first_fit p slots Top ≡ top → first_fit p slots Bottom ≡ bottom
        → ((first : Die) × (seats : List Seat) × IsSeed p slots first seats) ⊎ Stops p slots
    by (Ok seats) bottom is_top is_bottom = inl (Top, seats, is_top)
    by (Err stop) (Ok seats) is_top is_bottom = inl (Bottom, seats, ((stop, is_top), is_bottom))
    by (Err stop) (Err other) is_top is_bottom = inr (record { top_first = stop; bottom_first = other; top_stops = is_top; bottom_stops = is_bottom })

-- never both: a problem's seed stands or not
pub not_both : (p : Netlist) (slots : ℕ) (first : Die) (seats : List Seat) → IsSeed p slots first seats → Stops p slots → ⊥
not_both p slots Top seats is stops = stands_or_stops seats stops.top_first (first_fit p slots Top) is stops.top_stops
not_both p slots Bottom seats is stops = stands_or_stops seats stops.bottom_first (first_fit p slots Bottom) is.1 stops.bottom_stops

-- no two calls for a problem differ in whether they give a seed
pub gives_one : (p : Netlist) (s : Seeded) (top bottom : Stop) → SeedGives p (Ok s) → SeedGives p (Err (Unfit top bottom)) → ⊥
gives_one p s top bottom gave lacks =
    let same = grid_once p.plan.frame p.plan.terminal gave.0 lacks.0 gave.1 lacks.1 in
    not_both p (slot_count lacks.0) s.first gave.2.0 (subst (λ grid. IsSeed p (slot_count grid) s.first gave.2.0) same gave.2.1)
    (record { top_first = top; bottom_first = bottom; top_stops = lacks.2; bottom_stops = lacks.3 })

-- a problem has one seed: each call that gives one gives the same first die and the same drawing
pub same_first : (p : Netlist) (a b : Seeded) → SeedGives p (Ok a) → SeedGives p (Ok b) → a.first ≡ b.first
same_first p a b x y =
    let same = grid_once p.plan.frame p.plan.terminal x.0 y.0 x.1 y.1 in
    one_first p (slot_count y.0) a.first b.first x.2.0 y.2.0 (subst (λ grid. IsSeed p (slot_count grid) a.first x.2.0) same x.2.1) y.2.1

pub same_drawing : (p : Netlist) (a b : Seeded) → SeedGives p (Ok a) → SeedGives p (Ok b) → drawn_of a.placement ≡ drawn_of b.placement
same_drawing p a b x y =
    let same = grid_once p.plan.frame p.plan.terminal x.0 y.0 x.1 y.1 in
    let seats = one_seed p (slot_count y.0) a.first b.first x.2.0 y.2.0 (subst (λ grid. IsSeed p (slot_count grid) a.first x.2.0) same x.2.1) y.2.1 in
    drawn_is p x.0 x.2.0 a.placement x.2.2
    ∙ ap (λ grid. drawing_of (seat_places p.plan x.2.0) (fit_terminals p grid (seat_dies x.2.0))) same
    ∙ ap (λ all. drawing_of (seat_places p.plan all) (fit_terminals p y.0 (seat_dies all))) seats
    ∙ sym (drawn_is p y.0 y.2.0 b.placement y.2.2)
