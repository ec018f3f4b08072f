-- The whole run of a seed is what the placer answers: its answer is legal, and scores no more than the seed.
use Rattle.std.proofs.Common.{◌≡◌, ℕ, ◌≤◌, List, map, get_or, slice_get, Some, Option, Ok, pos, sym, ap, subst, ◌∙◌, arith}
use Rattle.std.proofs.lemmas.Int.{ints}
use Rattle.std.proofs.lemmas.Option.{same_Some, slice_get-get_or}
use Rattle.fp_base.specs.declared.ids.Die.{Die}
use Rattle.fp_base.specs.declared.ids.Point.{Point}
use Rattle.fp_tech.specs.Slots.{Slots, slot_count, IsGrid}
use Rattle.fp_tech.specs.SlotsLaws.{grid_once}
use Rattle.fp_netlist.specs.Netlist.{Netlist, IsSound}
use Rattle.fp_place.specs.declared.placement.Spot.{Spot}
use Rattle.fp_place.specs.Cut.{cut}
use Rattle.fp_place.specs.Legal.{IsLegal}
use Rattle.fp_place.specs.LegalLaws.{in_order_is_legal}
use Rattle.fp_place.specs.OnSlots.{AreOnCuts, AreOnSlots}
use Rattle.fp_place.specs.Places.{Place, dies_of}
use Rattle.fp_place.specs.Placed.{Placed, place_of, places_of, drawn_of, DoAgree, IsInOrder, IsPlacementOf}
use Rattle.fp_place.specs.Settled.{KeepRules}
use Rattle.fp_score.specs.FirstFit.{seat_dies, fit_terminals}
use Rattle.fp_score.specs.Score.{score}
use Rattle.fp_score.specs.SlotBest.{IsSlotBest}
use Rattle.fp_score.specs.SlotBestLaws.{chosen_on_cuts, chosen_on_slots, slot_best_by_fit}
use Rattle.fp_seed.specs.declared.seeding.Seeded.{Seeded}
use Rattle.fp_seed.specs.Seeded.{IsSeated, SeedGives}
use Rattle.fp_seed.specs.RulesLaws.{dies_of_seats}
use Rattle.fp_cert.specs.Endings.{has_rows}
use Rattle.fp_cert.specs.OfProblemLaws.{chain_of_problem}
use Rattle.fp_cert.specs.Shown.{ShownTrial, ShownRun}
use Rattle.fp_cert.specs.Standing.{places_shown, terminals_shown}
use Rattle.fp_cert.specs.Trials.{no_trial, answer_of}
use Rattle.fp_flow.specs.Bases.{IsBase}
use Rattle.fp_flow.specs.Chains.{CanStart, IsBegun, IsRunFrom}
use Rattle.fp_flow.specs.Firsts.{IsSeedPlaced}
use Rattle.fp_flow.specs.Outcomes.{IsSeedOf, IsPlaced}

-- ---- the seed

-- a seed's placement is the seed's over the problem's grid
pub seed_placed : (p : Netlist) (grid : Slots) (seeded : Seeded) → IsGrid p.plan.frame p.plan.terminal grid → SeedGives p (Ok seeded) → IsSeedPlaced p grid seeded.placement
seed_placed p grid seeded is_grid (other, other_is, (seats, seed, seated)) =
    let same : other ≡ grid = grid_once p.plan.frame p.plan.terminal other grid other_is is_grid in
    record {
      first = seeded.first;
      seats = seats;
      seed = rw same at seed;
      seated = subst (λ (g : Slots). IsSeated p g seats seeded.placement) same seated;
    }

-- a run can begin from it
pub can_start : (p : Netlist) (grid : Slots) (seeded : Seeded) → IsGrid p.plan.frame p.plan.terminal grid → SeedGives p (Ok seeded) → IsPlacementOf p seeded.placement
    → DoAgree seeded.placement → IsInOrder p seeded.placement → AreOnCuts p (dies_of (places_of seeded.placement)) seeded.placement.terminals
    → KeepRules p (dies_of (places_of seeded.placement))
    → ((other : Slots) → IsGrid p.plan.frame p.plan.terminal other → cut p (dies_of (places_of seeded.placement)) ≤ slot_count other) → CanStart p grid seeded.placement
can_start p grid seeded is_grid seed of_problem agree in_order on_cuts rules slots = record {
  of_problem = of_problem;
  agree = agree;
  in_order = in_order;
  on_cuts = on_cuts;
  rules = rules;
  slots = slots grid is_grid;
  seed = seed_placed p grid seeded is_grid seed;
}

-- and has its score
pub seed_scored : (p : Netlist) (grid : Slots) (placed : Placed) (total : ℕ) → IsSeedPlaced p grid placed → pos total ≡ score p (places_of placed) placed.terminals → IsSeedOf p grid total
seed_scored p grid placed total seed is = record {
  first = seed.first;
  seats = seed.seats;
  seed = seed.seed;
  total_is = is ∙ (λ i. score p (seed.seated.places_are i) (seed.seated.terminals_are i));
}

-- ---- the answer

-- a base's placement is legal
pub base_legal : (p : Netlist) (grid : Slots) (trial : ShownTrial) (placed : Placed) → IsSound p → IsGrid p.plan.frame p.plan.terminal grid → IsBase p grid trial placed → IsLegal p (drawn_of placed)
base_legal p grid trial placed sound is_grid base =
    in_order_is_legal p grid placed sound.plan is_grid base.of_problem base.agree base.in_order base.rules
    (subst (AreOnCuts p dies) (sym best.terminals_are) (chosen_on_cuts p grid dies best.chosen))
    (subst (AreOnSlots grid) (sym best.terminals_are) (chosen_on_slots p grid dies best.chosen sound.plan is_grid best.are_slots))
  where
    dies : List Die
    dies = dies_of (places_of placed)

    places : places_shown p trial ≡ places_of placed
    places = ap (λ (pl : Placed). places_of pl) base.shown

    terminals : terminals_shown p grid trial ≡ placed.terminals
    terminals = ap (λ (pl : Placed). pl.terminals) base.shown

    best : IsSlotBest p (places_of placed) grid placed.terminals
    best = subst (λ (list : List (Option Point)). IsSlotBest p (places_of placed) grid list) terminals
        (subst (λ (ps : List Place). IsSlotBest p ps grid (terminals_shown p grid trial)) places base.scored.slots)

-- the first trial scores no more than the seed
first_most : (p : Netlist) (grid : Slots) (limit : ℕ) (placed : Placed) (run : ShownRun) (answer : Placed) (total : ℕ) (first : ShownTrial) → CanStart p grid placed
    → pos total ≡ score p (places_of placed) placed.terminals → IsRunFrom p grid limit placed run answer → slice_get run.trials 0 ≡ Some first → first.score ≤ total
first_most p grid limit placed run answer total first can is from at =
    let start = from.whole.chain.start first at in
    let places : places_shown p first ≡ places_of placed = from.first first at in
    let dies : seat_dies can.seed.seats ≡ dies_of (places_of placed) = sym (dies_of_seats p.plan can.seed.seats) ∙ ap dies_of (sym can.seed.seated.places_are) in
    let best = subst (λ (ps : List Place). IsSlotBest p ps grid (terminals_shown p grid first)) places start.scored.slots in
    let less = slot_best_by_fit p (places_of placed) grid (terminals_shown p grid first) best can.slots in
    let mine : pos first.score ≡ score p (places_of placed) (terminals_shown p grid first) =
    start.scored.score_is ∙ ap (λ (ps : List Place). score p ps (terminals_shown p grid first)) places in
    let its : pos total ≡ score p (places_of placed) (fit_terminals p grid (dies_of (places_of placed))) =
    is ∙ ap (score p (places_of placed)) (can.seed.seated.terminals_are ∙ ap (fit_terminals p grid) dies) in
    omega (arith, ints, less, mine, its)

-- What is answered.
pub placed_is : (p : Netlist) (grid : Slots) (limit : ℕ) (placed : Placed) (run : ShownRun) (answer : Placed) (total : ℕ) → IsSound p → 1 ≤ limit → limit ≤ 8 → IsGrid p.plan.frame p.plan.terminal grid
    → CanStart p grid placed → pos total ≡ score p (places_of placed) placed.terminals → IsRunFrom p grid limit placed run answer → IsPlaced p limit grid run total answer
placed_is p grid limit placed run answer total sound some few is_grid can is from = record {
  grid_is = is_grid;
  chain = from.whole.chain;
  run_of_problem = chain_of_problem p grid limit run sound some few from.whole.chain from.whole.trials;
  certified = from.whole.certified;
  seed = seed_scored p grid placed total can.seed is;
  answer_is = sym from.whole.base.shown;
  of_problem = from.whole.base.of_problem;
  legal = base_legal p grid (answer_of run) answer sound is_grid from.whole.base;
  scored =
      from.whole.base.scored.score_is ∙ ap (λ (pl : Placed). score p (places_of pl) pl.terminals) from.whole.base.shown;
  at_most_seed =
      let first = get_or run.trials 0 no_trial in
      let at = slice_get-get_or run.trials 0 no_trial (omega (arith, from.whole.chain.going.some)) in
      let start = from.whole.chain.start first at in
      let least = from.whole.least 0 first at (ap has_rows start.ending_is) in
      omega (arith, least, first_most p grid limit placed run answer total first can is from at);
  at_most_each = from.whole.least;
}

-- the trial that a run begins with shows the placement's cells where they stand
pub begun_first : (p : Netlist) (grid : Slots) (limit : ℕ) (placed answer : Placed) (begun run : ShownRun) → IsBegun p grid limit placed begun answer
    → slice_get run.trials 0 ≡ slice_get begun.trials 0 → (trial : ShownTrial) → slice_get run.trials 0 ≡ Some trial → places_shown p trial ≡ places_of placed
begun_first p grid limit placed answer begun run is same trial at =
    let mine : is.trial ≡ trial =
    same_Some is.trial trial (sym (ap (λ (r : ShownRun). slice_get r.trials 0) is.run_is) ∙ sym same ∙ at) in
    subst (λ (t : ShownTrial). places_shown p t ≡ places_of placed) mine
    (ap (λ (pl : Placed). places_of pl) is.base.shown ∙ ap (λ (spots : List Spot). map place_of spots) is.spots_are)
