-- Laws of the rules that the dies of the first fit keep: each cell fits its die, and both dies keep their percents.
use Rattle.std.specs.Prelude.{◌≡◌, ℕ, zero, suc, ◌+◌, ◌*◌, ◌<◌, ◌≤◌, Bool, true, false, if◌then◌else◌, List, [], ◌∷◌, ◌++◌, length, take, get_or}
use Rattle.std.proofs.Common.{refl, sym, ap, subst, ◌∙◌, arith}
use Rattle.std.proofs.lemmas.List.{map_push, take_more, take_all, length-map, length-take-le, get_or-map}
use Rattle.std.proofs.lemmas.Bool.{le-leb}
use Rattle.fp_base.specs.declared.ids.Die.{Die}
use Rattle.fp_base.specs.declared.ids.Die.TheVariants.{Top}
use Rattle.fp_netlist.specs.Netlist.{Netlist}
use Rattle.fp_netlist.specs.Points.{area}
use Rattle.fp_tech.specs.Plan.{Plan, spec_of}
use Rattle.fp_place.specs.Places.{same_die, dies_of}
use Rattle.fp_place.specs.PlacesLaws.{same_die-true}
use Rattle.fp_place.specs.Areas.{fits, frame_area, keeps, area_from, area_on}
use Rattle.fp_place.specs.Settled.{KeepRules}
use Rattle.fp_score.specs.FirstFit.{Seat, seat_dies, seat_places}
use Rattle.fp_seed.specs.FeasibleLaws.{no_seat, IsFeasible, AreFeasible}

-- one more cell adds its area to that of the cells of its own die alone
abbrev area_by : Netlist → Die → ℕ → Die → ℕ
area_by p die cell on = if same_die on die then area p cell die else 0

area_from-push : (p : Netlist) (die : Die) (cell : ℕ) (dies : List Die) (on : Die) (last : ℕ) → cell + length dies ≡ last
    → area_from p die cell (dies ++ on ∷ []) ≡ area_from p die cell dies + area_by p die last on
unfolding area_from
area_from-push p die cell [] on last e =
    let same : cell ≡ last = omega arith in
    omega (arith, ap (λ c. area_by p die c on) same)
area_from-push p die cell (first ∷ dies) on last e = omega (arith, area_from-push p die (cell + 1) dies on last (omega arith))

pub area_push : (p : Netlist) (die : Die) (dies : List Die) (on : Die) (last : ℕ) → length dies ≡ last
    → area_on p die (dies ++ on ∷ []) ≡ area_on p die dies + area_by p die last on
area_push p die dies on last e = area_from-push p die 0 dies on last (omega arith)

area_more : (p : Netlist) (die : Die) (seats : List Seat) (k : ℕ) (d : Seat) → k < length seats
    → area_on p die (seat_dies (take (suc k) seats)) ≡ area_on p die (seat_dies (take k seats)) + area_by p die k (get_or seats k d).die
area_more p die seats k d below =
    ap (λ n. area_on p die (seat_dies (take n seats))) (let next : suc k ≡ k + 1 = omega arith in next)
    ∙ ap (λ s. area_on p die (seat_dies s)) (take_more seats k d below)
    ∙ ap (area_on p die) (map_push (λ (seat : Seat). seat.die) (take k seats) (get_or seats k d))
    ∙ area_push p die (seat_dies (take k seats)) (get_or seats k d).die k
    (length-map (take k seats) (λ (seat : Seat). seat.die) ∙ length-take-le k seats (omega arith))

-- the first seats keep a die's percent
front_keeps : (p : Netlist) (die : Die) (seats : List Seat) (d : Seat) → AreFeasible p seats → (k : ℕ) → k ≤ length seats
    → keeps p.plan die (area_on p die (seat_dies (take k seats))) ≡ true
unfolding area_from
front_keeps p die seats d are zero within = le-leb 0 ((spec_of p.plan die).percent * frame_area p.plan) (omega arith)
front_keeps p die seats d are (suc k) within =
    ap (keeps p.plan die) (area_more p die seats k d (omega arith)) ∙ by (same_die (get_or seats k d).die die) refl (front_keeps p die seats d are k (omega arith))
  where
    is : IsFeasible p (take k seats) k (get_or seats k d)
    is = are k d (omega arith)

    by : (b : Bool) → same_die (get_or seats k d).die die ≡ b → keeps p.plan die (area_on p die (seat_dies (take k seats))) ≡ true
        → keeps p.plan die (area_on p die (seat_dies (take k seats)) + (if b then area p k die else 0)) ≡ true
    by true here rest =
        subst (λ on. keeps p.plan on (area_on p on (seat_dies (take k seats)) + area p k on) ≡ true) (same_die-true (get_or seats k d).die die here) is.keeps_percent
    by false here rest = ap (keeps p.plan die) (let same : area_on p die (seat_dies (take k seats)) + 0 ≡ area_on p die (seat_dies (take k seats)) = omega arith in same) ∙ rest

-- the dies of the seats' places are those of the seats
pub dies_of_seats : (plan : Plan) (seats : List Seat) → dies_of (seat_places plan seats) ≡ seat_dies seats
dies_of_seats plan [] = refl
dies_of_seats plan (seat ∷ seats) = ap (λ rest. seat.die ∷ rest) (dies_of_seats plan seats)

-- feasible seats of all cells keep the rules
pub seats_keep_rules : (p : Netlist) (seats : List Seat) → AreFeasible p seats → length seats ≡ length p.cells → KeepRules p (seat_dies seats)
seats_keep_rules p seats are many = record {
  cells = length-map seats (λ (seat : Seat). seat.die) ∙ many;
  fitting = λ cell below.
      let within : cell < length seats = omega (arith, below, many) in
      ap (fits p cell) (get_or-map (λ (seat : Seat). seat.die) seats cell no_seat Top within) ∙ (are cell no_seat within).fits_die;
  percents = λ die.
      ap (λ all. keeps p.plan die (area_on p die (seat_dies all))) (sym (take_all (length seats) seats (omega arith)))
      ∙ front_keeps p die seats no_seat are (length seats) (omega arith);
}
