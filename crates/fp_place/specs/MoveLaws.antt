-- What a move of one cell to its other die changes: the areas of both dies. A move may be made exactly where it keeps the rules, and a
-- move and its return change nothing.
use Rattle.std.specs.Prelude.{◌≡◌, ℕ, zero, suc, ◌+◌, ◌*◌, ◌<◌, ◌≤◌, ◌≢◌, if◌then◌else◌, List, [], ◌∷◌, length, set, IsTrue, ◌⊎◌}
use Rattle.std.proofs.Common.{refl, ap, sym, subst, ◌∙◌, inl, inr, ⊎_elim, arith}
use Rattle.std.proofs.lemmas.List.{length-set, get_or-set_same, get_or-set_other, set-get_or, set-set}
use Rattle.std.proofs.lemmas.Bool.{and_parts, and_from, leb-true, le-leb, cases_eq}
use Rattle.fp_base.specs.declared.ids.Die.{Die}
use Rattle.fp_base.specs.declared.ids.Die.TheVariants.{Top, Bottom}
use Rattle.fp_tech.specs.Plan.{Plan, spec_of}
use Rattle.fp_netlist.specs.Netlist.{Netlist}
use Rattle.fp_netlist.specs.Points.{area}
use Rattle.fp_place.specs.Places.{die_at, same_die, other_die}
use Rattle.fp_place.specs.Areas.{fits, frame_area, keeps, area_from, area_on}
use Rattle.fp_place.specs.Settled.{far_die, flipped, may_move, KeepRules}

-- the area that a cell takes of a die, where it stands on another die or on this one
abbrev pub area_if : Netlist → Die → ℕ → Die → ℕ
area_if p die cell on = if same_die on die then area p cell die else 0

-- a cell that is put on another die takes its area along
area_moved : (p : Netlist) (die new : Die) (start cell : ℕ) (dies : List Die) → cell < length dies
    → area_from p die start (set dies cell new) + area_if p die (start + cell) (die_at dies cell) ≡ area_from p die start dies + area_if p die (start + cell) new
unfolding area_from
area_moved p die new start cell [] below = absurd (omega (arith, below))
area_moved p die new start zero (first ∷ others) below =
    let here : start + 0 ≡ start = omega arith in
    subst (λ k. (area_if p die start new + area_from p die (start + 1) others) + area_if p die k first ≡ (area_if p die start first + area_from p die (start + 1) others) + area_if p die k new)
    (sym here) (omega arith)
area_moved p die new start (suc cell) (first ∷ others) below =
    let here : start + 1 + cell ≡ start + suc cell = omega arith in
    let later : area_from p die (start + 1) (set others cell new) + area_if p die (start + suc cell) (die_at others cell)
    ≡ area_from p die (start + 1) others + area_if p die (start + suc cell) new =
    subst (λ k. area_from p die (start + 1) (set others cell new) + area_if p die k (die_at others cell) ≡ area_from p die (start + 1) others + area_if p die k new)
    here (area_moved p die new (start + 1) cell others (omega (arith, below))) in
    omega (arith, later)

area_flipped : (p : Netlist) (die : Die) (dies : List Die) (cell : ℕ) → cell < length dies
    → area_on p die (flipped dies cell) + area_if p die cell (die_at dies cell) ≡ area_on p die dies + area_if p die cell (far_die dies cell)
area_flipped p die dies cell below =
    let here : 0 + cell ≡ cell = omega arith in
    subst (λ k. area_on p die (flipped dies cell) + area_if p die k (die_at dies cell) ≡ area_on p die dies + area_if p die k (far_die dies cell))
    here (area_moved p die (far_die dies cell) 0 cell dies below)

-- the die that a cell leaves loses the cell's area
pub area_left : (p : Netlist) (dies : List Die) (cell : ℕ) → cell < length dies
    → area_on p (die_at dies cell) (flipped dies cell) + area p cell (die_at dies cell) ≡ area_on p (die_at dies cell) dies
area_left p dies cell below = by (die_at dies cell) (area_flipped p (die_at dies cell) dies cell below)
  where
    by : (own : Die) → area_on p own (flipped dies cell) + area_if p own cell own ≡ area_on p own dies + area_if p own cell (other_die own)
        → area_on p own (flipped dies cell) + area p cell own ≡ area_on p own dies
    by Top moved = omega (arith, moved)
    by Bottom moved = omega (arith, moved)

-- the die that it comes to gains its area there
pub area_entered : (p : Netlist) (dies : List Die) (cell : ℕ) → cell < length dies
    → area_on p (far_die dies cell) (flipped dies cell) ≡ area_on p (far_die dies cell) dies + area p cell (far_die dies cell)
area_entered p dies cell below = by (die_at dies cell) (area_flipped p (far_die dies cell) dies cell below)
  where
    by : (own : Die) → area_on p (other_die own) (flipped dies cell) + area_if p (other_die own) cell own ≡ area_on p (other_die own) dies + area_if p (other_die own) cell (other_die own)
        → area_on p (other_die own) (flipped dies cell) ≡ area_on p (other_die own) dies + area p cell (other_die own)
    by Top moved = omega (arith, moved)
    by Bottom moved = omega (arith, moved)

-- a die is a cell's own or its other one
pub own_or_far : (own die : Die) → (die ≡ own) ⊎ (die ≡ other_die own)
own_or_far Top Top = inl refl
own_or_far Top Bottom = inr refl
own_or_far Bottom Top = inr refl
own_or_far Bottom Bottom = inl refl

-- less area keeps a percent that more area keeps
pub keeps_less : (plan : Plan) (die : Die) (less more : ℕ) → less ≤ more → IsTrue (keeps plan die more) → IsTrue (keeps plan die less)
keeps_less plan die less more at_most kept =
    let limit = (spec_of plan die).percent * frame_area plan in
    let within : 100 * more ≤ limit = leb-true (100 * more) limit kept in
    le-leb (100 * less) limit (omega (arith, at_most, within))

-- a move that may be made keeps the rules
pub move_keeps : (p : Netlist) (dies : List Die) (cell : ℕ) → KeepRules p dies → cell < length p.cells → IsTrue (may_move p dies cell) → KeepRules p (flipped dies cell)
unfolding may_move
move_keeps p dies cell rules below may = record {
  cells = length-set dies cell (far_die dies cell) ∙ rules.cells;
  fitting = fitting;
  percents = percents;
}
  where
    far : Die
    far = far_die dies cell

    within : cell < length dies
    within = omega (arith, below, rules.cells)

    parts : IsTrue (fits p cell far) × IsTrue (keeps p.plan far (area_on p far dies + area p cell far))
    parts = and_parts (fits p cell far) (keeps p.plan far (area_on p far dies + area p cell far)) may

    fitting : (other : ℕ) → other < length p.cells → IsTrue (fits p other (die_at (flipped dies cell) other))
    fitting other there = ⊎_elim
        (λ (same : other ≡ cell). subst (λ k. IsTrue (fits p k (die_at (flipped dies cell) k))) (sym same)
        (subst (λ die. IsTrue (fits p cell die)) (sym (get_or-set_same dies cell far Top within)) parts.0))
        (λ (apart : other ≢ cell). subst (λ die. IsTrue (fits p other die)) (sym (get_or-set_other dies cell other far Top apart)) (rules.fitting other there))
        (cases_eq other cell)

    percents : (die : Die) → IsTrue (keeps p.plan die (area_on p die (flipped dies cell)))
    percents die = ⊎_elim
        (λ (own : die ≡ die_at dies cell). subst (λ d. IsTrue (keeps p.plan d (area_on p d (flipped dies cell)))) (sym own)
        (keeps_less p.plan (die_at dies cell) (area_on p (die_at dies cell) (flipped dies cell)) (area_on p (die_at dies cell) dies)
        (omega (arith, area_left p dies cell within)) (rules.percents (die_at dies cell))))
        (λ (other : die ≡ far). subst (λ d. IsTrue (keeps p.plan d (area_on p d (flipped dies cell)))) (sym other)
        (subst (λ taken. IsTrue (keeps p.plan far taken)) (sym (area_entered p dies cell within)) parts.1))
        (own_or_far (die_at dies cell) die)

-- a move that keeps the rules may be made
pub keeping_may_move : (p : Netlist) (dies : List Die) (cell : ℕ) → cell < length p.cells → KeepRules p (flipped dies cell) → IsTrue (may_move p dies cell)
unfolding may_move
keeping_may_move p dies cell below kept =
    let far : Die = far_die dies cell in
    let within : cell < length dies = omega (arith, below, kept.cells, length-set dies cell far) in
    and_from (fits p cell far) (keeps p.plan far (area_on p far dies + area p cell far))
    (subst (λ die. IsTrue (fits p cell die)) (get_or-set_same dies cell far Top within) (kept.fitting cell below))
    (subst (λ taken. IsTrue (keeps p.plan far taken)) (area_entered p dies cell within) (kept.percents far))

other_of_other : (die : Die) → other_die (other_die die) ≡ die
other_of_other Top = refl
other_of_other Bottom = refl

-- a cell that moves twice is back
pub flipped_back : (dies : List Die) (cell : ℕ) → cell < length dies → flipped (flipped dies cell) cell ≡ dies
flipped_back dies cell below =
    ap (λ die. set (flipped dies cell) cell (other_die die)) (get_or-set_same dies cell (far_die dies cell) Top below)
    ∙ set-set dies cell (far_die dies cell) (other_die (far_die dies cell))
    ∙ ap (set dies cell) (other_of_other (die_at dies cell))
    ∙ set-get_or dies cell Top
