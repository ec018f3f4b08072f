-- Laws of dies and places.
use Rattle.std.specs.Prelude.{◌≡◌, ℕ, ◌<◌, true, false, List, length}
use Rattle.std.proofs.Common.{refl}
use Rattle.std.proofs.lemmas.List.{get_or-map}
use Rattle.fp_base.specs.declared.ids.Die.{Die}
use Rattle.fp_base.specs.declared.ids.Die.TheVariants.{Top, Bottom}
use Rattle.fp_place.specs.Places.{Place, same_die, nowhere, place_at, dies_of, die_at}

-- the test of two dies tells whether they are one
pub same_die-true : (a b : Die) → same_die a b ≡ true → a ≡ b
same_die-true Top Top e = refl
same_die-true Top Bottom e = absurd (let nothing : false ≡ true = e in cc)
same_die-true Bottom Top e = absurd (let nothing : false ≡ true = e in cc)
same_die-true Bottom Bottom e = refl

pub same_die-refl : (die : Die) → same_die die die ≡ true
same_die-refl Top = refl
same_die-refl Bottom = refl

-- a cell's die is its place's
pub die_of_place : (places : List Place) (cell : ℕ) → cell < length places → die_at (dies_of places) cell ≡ (place_at places cell).die
die_of_place places cell below = get_or-map (λ (place : Place). place.die) places cell nowhere Top below
