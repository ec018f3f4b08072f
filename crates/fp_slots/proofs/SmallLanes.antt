-- The lanes of the tests: two cells, each of which stands once.
use Rattle.std.proofs.Common.{◌≡◌, ℕ, zero, suc, ◌<◌, [], ◌∷◌, get_or, Some, None, refl, sym, subst, ◌∙◌, arith}
use Rattle.std.proofs.lemmas.Option.{same_Some}
use Rattle.fp_base.specs.declared.ids.Die.{Die}
use Rattle.fp_base.specs.declared.ids.Die.TheVariants.{Top, Bottom}
use Rattle.fp_base.specs.declared.ids.CellId.{CellId}
use Rattle.fp_place.specs.Placed.{LaneList, lanes_on, entry_at, StandOnce}

abbrev cell_id : ℕ → CellId
cell_id n = record { 0 = n }

-- a cell on the lower one of two rows
abbrev lanes_with : ℕ → LaneList
lanes_with cell = (cell_id cell ∷ []) ∷ [] ∷ []

-- where a cell stands
record StandsThere (die : Die) (segment rank cell : ℕ) : Type 0 where
  die_is : die ≡ get_or (Top ∷ Bottom ∷ []) cell Top
  segment_is : segment ≡ 0
  rank_is : rank ≡ 0
  within : cell < 2

there : (die : Die) (segment rank : ℕ) (cell : CellId) → entry_at (lanes_on (lanes_with 0) (lanes_with 1) die) segment rank ≡ Some cell → StandsThere die segment rank cell.0
unfolding entry_at
there Top zero zero cell entry = subst (λ (c : CellId). StandsThere Top 0 0 c.0) (same_Some (cell_id 0) cell entry) (record { die_is = refl; segment_is = refl; rank_is = refl; within = omega arith })
there Top zero (suc rank) cell entry = absurd (let nothing : None ≡ Some cell = entry in cc)
there Top (suc zero) rank cell entry = absurd (let nothing : None ≡ Some cell = entry in cc)
there Top (suc (suc segment)) rank cell entry = absurd (let nothing : None ≡ Some cell = entry in cc)
there Bottom zero zero cell entry = subst (λ (c : CellId). StandsThere Bottom 0 0 c.0) (same_Some (cell_id 1) cell entry) (record { die_is = refl; segment_is = refl; rank_is = refl; within = omega arith })
there Bottom zero (suc rank) cell entry = absurd (let nothing : None ≡ Some cell = entry in cc)
there Bottom (suc zero) rank cell entry = absurd (let nothing : None ≡ Some cell = entry in cc)
there Bottom (suc (suc segment)) rank cell entry = absurd (let nothing : None ≡ Some cell = entry in cc)

stand_once : StandOnce 2 (lanes_with 0) (lanes_with 1)
unfolding entry_at
stand_once = record {
  there = here;
  within = λ die segment rank cell entry. (there die segment rank cell entry).within;
  one_die = λ a b i j r s cell first second. (there a i r cell first).die_is ∙ sym (there b j s cell second).die_is;
  one_segment = λ a b i j r s cell first second. (there a i r cell first).segment_is ∙ sym (there b j s cell second).segment_is;
  one_rank = λ a b i j r s cell first second. (there a i r cell first).rank_is ∙ sym (there b j s cell second).rank_is;
}
  where
    here : (cell : ℕ) → cell < 2 → (die : Die) × (segment : ℕ) × (rank : ℕ) × (entry_at (lanes_on (lanes_with 0) (lanes_with 1) die) segment rank ≡ Some (cell_id cell))
    here zero less = (Top, 0, 0, refl)
    here (suc zero) less = (Bottom, 0, 0, refl)
    here (suc (suc cell)) less = absurd (omega arith)

pub small_once : (cells : ℕ) (top bottom : LaneList) → cells ≡ 2 → top ≡ lanes_with 0 → bottom ≡ lanes_with 1 → StandOnce cells top bottom
small_once cells top bottom two tops bottoms =
    subst (λ n. StandOnce n top bottom) (sym two) (subst (λ t. StandOnce 2 t bottom) (sym tops) (subst (StandOnce 2 (lanes_with 0)) (sym bottoms) stand_once))
