-- The areas of both dies after a move.
use Rattle.std.specs.Prelude.{◌≡◌, ℕ, ◌+◌, ◌-◌, ◌<◌, ◌≤◌, List, length, IsTrue}
use Rattle.std.proofs.Common.{ap, sym, subst, ◌∙◌, arith}
use Rattle.std.proofs.lemmas.Bool.{and_parts}
use Rattle.fp_base.specs.declared.ids.Die.{Die}
use Rattle.fp_base.specs.declared.ids.Die.TheVariants.{Top, Bottom}
use Rattle.fp_netlist.specs.Netlist.{Netlist}
use Rattle.fp_netlist.specs.Points.{area}
use Rattle.fp_place.specs.Places.{die_at, other_die}
use Rattle.fp_place.specs.Areas.{fits, keeps, area_on}
use Rattle.fp_place.specs.Held.{Held, held_on, held_by, with_area, without_area, has_room}
use Rattle.fp_place.specs.MoveLaws.{area_left, area_entered}
use Rattle.fp_place.specs.Settled.{far_die, flipped, may_move}

-- there is room for a cell that may move
pub room_to_move : (p : Netlist) (dies : List Die) (held : Held) (cell : ℕ) (far : Die) → held ≡ held_by p dies → far ≡ far_die dies cell → IsTrue (may_move p dies cell)
    → IsTrue (has_room p held cell far)
unfolding may_move
room_to_move p dies held cell far is_held is_far may =
    let taken = area_on p (far_die dies cell) dies + area p cell (far_die dies cell) in
    let room : IsTrue (has_room p (held_by p dies) cell (far_die dies cell)) =
    by (far_die dies cell) (and_parts (fits p cell (far_die dies cell)) (keeps p.plan (far_die dies cell) taken) may).1 in
    subst (λ d. IsTrue (has_room p held cell d)) (sym is_far) (subst (λ h. IsTrue (has_room p h cell (far_die dies cell))) (sym is_held) room)
  where
    by : (die : Die) → IsTrue (keeps p.plan die (area_on p die dies + area p cell die)) → IsTrue (has_room p (held_by p dies) cell die)
    by Top room = room
    by Bottom room = room

-- the areas that a move leaves
pub record IsCarried (p : Netlist) (dies : List Die) (cell : ℕ) (own far : Die) (held added : Held) : Type 0 where
  pub within : cell < length dies
  pub own_is : own ≡ die_at dies cell
  pub far_is : far ≡ other_die own
  pub held_is : held ≡ held_by p dies
  pub added_is : added ≡ with_area held far (area p cell far)

carried : (p : Netlist) (dies : List Die) (cell : ℕ) (own far : Die) (held added : Held) → IsCarried p dies cell own far held added
    → added ≡ with_area (held_by p dies) (far_die dies cell) (area p cell (far_die dies cell))
carried p dies cell own far held added is =
    let far_is : far ≡ far_die dies cell = is.far_is ∙ ap other_die is.own_is in
    is.added_is ∙ ap (λ h. with_area h far (area p cell far)) is.held_is ∙ ap (λ d. with_area (held_by p dies) d (area p cell d)) far_is

-- the area of the cell is still held where it stood
pub still_held : (p : Netlist) (dies : List Die) (cell : ℕ) (own far : Die) (held added : Held) → IsCarried p dies cell own far held added → area p cell own ≤ held_on added own
still_held p dies cell own far held added is =
    subst (λ d. area p cell d ≤ held_on added d) (sym is.own_is)
    (subst (λ h. area p cell (die_at dies cell) ≤ held_on h (die_at dies cell)) (sym (carried p dies cell own far held added is)) (by (die_at dies cell) (area_left p dies cell is.within)))
  where
    by : (die : Die) → area_on p die (flipped dies cell) + area p cell die ≡ area_on p die dies
        → area p cell die ≤ held_on (with_area (held_by p dies) (other_die die) (area p cell (other_die die))) die
    by Top left = omega (arith, left)
    by Bottom left = omega (arith, left)

pub held_after : (p : Netlist) (dies : List Die) (cell : ℕ) (own far : Die) (held added taken : Held) → IsCarried p dies cell own far held added
    → taken ≡ without_area added own (area p cell own) → taken ≡ held_by p (flipped dies cell)
held_after p dies cell own far held added taken is is_taken =
    is_taken ∙ ap (λ h. without_area h own (area p cell own)) (carried p dies cell own far held added is)
    ∙ ap (λ d. without_area (with_area (held_by p dies) (far_die dies cell) (area p cell (far_die dies cell))) d (area p cell d)) is.own_is
    ∙ by (die_at dies cell) (area_left p dies cell is.within) (area_entered p dies cell is.within)
  where
    by : (die : Die) → area_on p die (flipped dies cell) + area p cell die ≡ area_on p die dies
        → area_on p (other_die die) (flipped dies cell) ≡ area_on p (other_die die) dies + area p cell (other_die die)
        → without_area (with_area (held_by p dies) (other_die die) (area p cell (other_die die))) die (area p cell die) ≡ held_by p (flipped dies cell)
    by Top left entered =
        let less : area_on p Top dies - area p cell Top ≡ area_on p Top (flipped dies cell) = omega (arith, left) in
        cc (less, entered)
    by Bottom left entered =
        let less : area_on p Bottom dies - area p cell Bottom ≡ area_on p Bottom (flipped dies cell) = omega (arith, left) in
        cc (less, entered)
