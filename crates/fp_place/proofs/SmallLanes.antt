-- The lanes of the tests: three cells, each of which stands once.
use Rattle.std.proofs.Common.{◌≡◌, ℕ, zero, suc, ◌<◌, [], ◌∷◌, get_or, Some, None, refl, sym, subst, ◌∙◌, arith}
use Rattle.std.proofs.lemmas.Option.{same_Some}
use Rattle.fp_base.specs.declared.ids.Die.{Die}
use Rattle.fp_base.specs.declared.ids.Die.TheVariants.{Top, Bottom}
use Rattle.fp_base.specs.declared.ids.CellId.{CellId}
use Rattle.fp_place.specs.Placed.{LaneList, lanes_on, entry_at, StandOnce}

abbrev cell_id : ℕ → CellId
cell_id n = record { 0 = n }

abbrev small_top : LaneList
small_top = [] ∷ [] ∷ (cell_id 2 ∷ cell_id 0 ∷ []) ∷ []

abbrev small_bottom : LaneList
small_bottom = (cell_id 1 ∷ []) ∷ []

-- where a cell stands
record StandsThere (die : Die) (segment rank cell : ℕ) : Type 0 where
  die_is : die ≡ get_or (Top ∷ Bottom ∷ Top ∷ []) cell Top
  segment_is : segment ≡ get_or (2 ∷ 0 ∷ 2 ∷ []) cell 0
  rank_is : rank ≡ get_or (1 ∷ 0 ∷ 0 ∷ []) cell 0
  within : cell < 3

there : (die : Die) (segment rank : ℕ) (cell : CellId) → entry_at (lanes_on small_top small_bottom die) segment rank ≡ Some cell → StandsThere die segment rank cell.0
unfolding entry_at
there Top zero rank cell entry = absurd (let nothing : None ≡ Some cell = entry in cc)
there Top (suc zero) rank cell entry = absurd (let nothing : None ≡ Some cell = entry in cc)
there Top (suc (suc zero)) zero cell entry = subst (λ (c : CellId). StandsThere Top 2 0 c.0) (same_Some (cell_id 2) cell entry) (record { die_is = refl; segment_is = refl; rank_is = refl; within = omega arith })
there Top (suc (suc zero)) (suc zero) cell entry = subst (λ (c : CellId). StandsThere Top 2 1 c.0) (same_Some (cell_id 0) cell entry) (record { die_is = refl; segment_is = refl; rank_is = refl; within = omega arith })
there Top (suc (suc zero)) (suc (suc rank)) cell entry = absurd (let nothing : None ≡ Some cell = entry in cc)
there Top (suc (suc (suc segment))) rank cell entry = absurd (let nothing : None ≡ Some cell = entry in cc)
there Bottom zero zero cell entry = subst (λ (c : CellId). StandsThere Bottom 0 0 c.0) (same_Some (cell_id 1) cell entry) (record { die_is = refl; segment_is = refl; rank_is = refl; within = omega arith })
there Bottom zero (suc rank) cell entry = absurd (let nothing : None ≡ Some cell = entry in cc)
there Bottom (suc segment) rank cell entry = absurd (let nothing : None ≡ Some cell = entry in cc)

stand_once : StandOnce 3 small_top small_bottom
unfolding entry_at
stand_once = record {
  there = here;
  within = λ die segment rank cell entry. (there die segment rank cell entry).within;
  one_die = λ a b i j r s cell first second. (there a i r cell first).die_is ∙ sym (there b j s cell second).die_is;
  one_segment = λ a b i j r s cell first second. (there a i r cell first).segment_is ∙ sym (there b j s cell second).segment_is;
  one_rank = λ a b i j r s cell first second. (there a i r cell first).rank_is ∙ sym (there b j s cell second).rank_is;
}
  where
    here : (cell : ℕ) → cell < 3 → (die : Die) × (segment : ℕ) × (rank : ℕ) × (entry_at (lanes_on small_top small_bottom die) segment rank ≡ Some (cell_id cell))
    here zero less = (Top, 2, 1, refl)
    here (suc zero) less = (Bottom, 0, 0, refl)
    here (suc (suc zero)) less = (Top, 2, 0, refl)
    here (suc (suc (suc cell))) less = absurd (omega arith)

pub small_once : (cells : ℕ) (top bottom : LaneList) → cells ≡ 3 → top ≡ small_top → bottom ≡ small_bottom → StandOnce cells top bottom
small_once cells top bottom three tops bottoms =
    subst (λ n. StandOnce n top bottom) (sym three) (subst (λ t. StandOnce 3 t bottom) (sym tops) (subst (StandOnce 3 small_top) (sym bottoms) stand_once))
