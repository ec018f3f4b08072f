-- The area that a die's cells take, cell by cell.
use Rattle.std.proofs.Common.{◌≡◌, ℕ, zero, suc, ◌+◌, ◌<◌, ◌≤◌, if◌then◌else◌, List, [], ◌∷◌, length, drop, drop-cons, get_or, refl, sym, ap, ◌∙◌, arith}
use Rattle.std.proofs.lemmas.List.{get_or-map, length-map}
use Rattle.fp_base.specs.declared.ids.Die.{Die}
use Rattle.fp_netlist.specs.Netlist.{Netlist}
use Rattle.fp_netlist.specs.Points.{area}
use Rattle.fp_place.specs.Places.{Place, same_die, dies_of}
use Rattle.fp_place.specs.Areas.{area_from}

abbrev pub area_by : Netlist → Die → ℕ → Die → ℕ
area_by p die cell on = if same_die on die then area p cell die else 0

-- one more cell
pub area_more : (p : Netlist) (die : Die) (places : List Place) (cell : ℕ) (place : Place) (more : ℕ) → cell < length places → place ≡ get_or places cell place → more ≡ area_by p die cell place.die
    → area_from p die cell (drop cell (dies_of places)) ≡ more + area_from p die (cell + 1) (drop (cell + 1) (dies_of places))
unfolding area_from
area_more p die places cell place more below is e =
    let here : get_or (dies_of places) cell place.die ≡ place.die =
    get_or-map (λ (place : Place). place.die) places cell place place.die below ∙ sym (ap (λ (place : Place). place.die) is) in
    ap (area_from p die cell) (drop-cons (dies_of places) cell place.die (omega (arith, below, length-map places (λ (place : Place). place.die))))
    ∙ ap (λ on. area_by p die cell on + area_from p die (cell + 1) (drop (suc cell) (dies_of places))) here
    ∙ ap (λ n. n + area_from p die (cell + 1) (drop (suc cell) (dies_of places))) (sym e)
    ∙ ap (λ j. more + area_from p die (cell + 1) (drop j (dies_of places))) (let next : suc cell ≡ cell + 1 = omega arith in next)

pub area_end : (p : Netlist) (die : Die) (places : List Place) (cell : ℕ) → length places ≡ cell → area_from p die cell (drop cell (dies_of places)) ≡ 0
unfolding area_from
area_end p die places cell many = ap (area_from p die cell) (drop_past (dies_of places) cell (omega (arith, many, length-map places (λ (place : Place). place.die))))
  where
    drop_past : {A : Type 0} (xs : List A) (i : ℕ) → length xs ≤ i → drop i xs ≡ []
    drop_past [] zero past = refl
    drop_past [] (suc i) past = refl
    drop_past (x ∷ xs) zero past = absurd (omega (arith, past))
    drop_past (x ∷ xs) (suc i) past = drop_past xs i (omega (arith, past))
