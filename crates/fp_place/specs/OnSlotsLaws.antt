-- Laws of terminals that stand on slots: they keep the rules for terminals.
use Rattle.std.specs.Prelude.{◌≡◌, ◌≢◌, ◌⊎◌, ℕ, ◌<◌, ◌≤◌, Bool, if◌then◌else◌, List, length, All, Option, Some, None, get_or}
use Rattle.std.proofs.Common.{sym, ap, subst, ◌∙◌, arith, inl, inr}
use Rattle.std.proofs.lemmas.List.Elements.{All-weaker}
use Rattle.std.proofs.lemmas.Bool.{cases_order}
use Rattle.std.proofs.lemmas.Int.{ints}
use Rattle.fp_base.specs.declared.ids.Point.{Point}
use Rattle.fp_tech.specs.declared.dies.TermSpec.{TermSpec}
use Rattle.fp_tech.specs.Plan.{Plan, IsPlan, IsTermSpec}
use Rattle.fp_tech.specs.Slots.{Slots, IsGrid, KeepsEdges, AreApart, slot_count, centre_of}
use Rattle.fp_tech.specs.SlotsLaws.{slot_keeps_edges, slots_apart}
use Rattle.fp_netlist.specs.Netlist.{Netlist}
use Rattle.fp_place.specs.declared.drawn.DrawnTerminal.{DrawnTerminal}
use Rattle.fp_place.specs.Places.{Place, dies_of}
use Rattle.fp_place.specs.Drawing.{centre_of as drawn_centre, terminals_from, drawing_of}
use Rattle.fp_place.specs.DrawnLaws.{IsDrawnFrom, terminals_drawn, one_terminal}
use Rattle.fp_place.specs.Placed.{IsCentre}
use Rattle.fp_place.specs.Legal.{HasItsTerminal, KeepsFromEdges, KeepsFromOthers}
use Rattle.fp_place.specs.OnSlots.{AreOnCuts, IsOnSlot, AreOnSlots}

-- a slot of a plan's grid keeps its distance from each edge
pub slot_keeps : (plan : Plan) (grid : Slots) (slot : ℕ) → IsPlan plan → IsGrid plan.frame plan.terminal grid → slot < slot_count grid
    → KeepsEdges plan.frame plan.terminal (centre_of grid slot)
slot_keeps plan grid slot is is_grid within =
    subst (λ frame. KeepsEdges frame plan.terminal (centre_of grid slot)) is_grid.frame_is
    (subst (λ terminal. KeepsEdges grid.frame terminal (centre_of grid slot)) is_grid.terminal_is
    (slot_keeps_edges grid (subst IsTermSpec (sym is_grid.terminal_is) is.setup.terminal) is_grid.some_stride slot within))

-- what keeps its distance from each edge lies in range
pub centre_in_range : (plan : Plan) (centre : Point) → IsPlan plan → KeepsEdges plan.frame plan.terminal centre → IsCentre centre
centre_in_range plan centre is keeps_edges =
    let right = is.setup.frame.right in
    let upper = is.setup.frame.upper in
    let left = keeps_edges.left in
    let far = keeps_edges.right in
    let low = keeps_edges.low in
    let high = keeps_edges.high in
    record {
      x = record { least = omega (arith, ints, left); most = omega (arith, ints, far, right) };
      y = record { least = omega (arith, ints, low); most = omega (arith, ints, high, upper) };
    }

-- a slot's centre lies in range
pub slot_in_range : (plan : Plan) (grid : Slots) (slot : ℕ) → IsPlan plan → IsGrid plan.frame plan.terminal grid → slot < slot_count grid
    → IsCentre (centre_of grid slot)
slot_in_range plan grid slot is is_grid within = centre_in_range plan (centre_of grid slot) is (slot_keeps plan grid slot is is_grid within)

-- a cut net has exactly one drawn terminal, every other net none
pub drawn_on_cuts : (p : Netlist) (places : List Place) (terminals : List (Option Point)) → length terminals ≡ length p.nets → AreOnCuts p (dies_of places) terminals
    → (net : ℕ) → net < length p.nets → HasItsTerminal p (drawing_of places terminals) places net
drawn_on_cuts p places terminals many on_cuts net below =
    one_terminal terminals net (omega (arith, below, many)) ∙ ap (λ (b : Bool). if b then 1 else 0) (on_cuts net below)

-- a drawn line is that of a net's terminal
record IsLineOf (terminals : List (Option Point)) (line : DrawnTerminal) : Type 0 where
  within : line.net.0 < length terminals
  is : get_or terminals line.net.0 None ≡ Some (drawn_centre line)

line_of : (terminals : List (Option Point)) (line : DrawnTerminal) → IsDrawnFrom 0 terminals line → IsLineOf terminals line
line_of terminals line is =
    let same : is.place ≡ line.net.0 = omega (arith, is.net_is) in
    record { within = omega (arith, is.within, same); is = ap (λ net. get_or terminals net None) (sym same) ∙ is.is }

lines_of : (terminals : List (Option Point)) → All (IsLineOf terminals) (terminals_from 0 terminals)
lines_of terminals = All-weaker (IsDrawnFrom 0 terminals) (IsLineOf terminals) (line_of terminals) (terminals_from 0 terminals) (terminals_drawn 0 terminals)

-- terminals on slots keep their distance from the edges
pub slots_keep_edges : (p : Netlist) (grid : Slots) (places : List Place) (terminals : List (Option Point)) → IsPlan p.plan → IsGrid p.plan.frame p.plan.terminal grid
    → AreOnSlots grid terminals → (net : ℕ) → KeepsFromEdges p (drawing_of places terminals) net
slots_keep_edges p grid places terminals is is_grid on net =
    All-weaker (IsLineOf terminals) (λ line. line.net.0 ≡ net → KeepsEdges p.plan.frame p.plan.terminal (drawn_centre line))
    (λ line of same.
    let at : IsOnSlot grid (drawn_centre line) = on.on_slot line.net.0 (drawn_centre line) of.within of.is in
    subst (KeepsEdges p.plan.frame p.plan.terminal) (sym at.at) (slot_keeps p.plan grid at.slot is is_grid at.within))
    (terminals_from 0 terminals) (lines_of terminals)

-- terminals on two slots are apart
apart_swapped : (terminal : TermSpec) (a b : Point) → AreApart terminal a b → AreApart terminal b a
apart_swapped terminal a b (inl (inl left)) = inl (inr left)
apart_swapped terminal a b (inl (inr right)) = inl (inl right)
apart_swapped terminal a b (inr (inl below)) = inr (inr below)
apart_swapped terminal a b (inr (inr above)) = inr (inl above)

slots_differ : (grid : Slots) (terminal : TermSpec) (a b : ℕ) → grid.terminal ≡ terminal → 1 ≤ grid.stride → a ≢ b → AreApart terminal (centre_of grid a) (centre_of grid b)
slots_differ grid terminal a b is some differ = subst (λ t. AreApart t (centre_of grid a) (centre_of grid b)) is (by (cases_order a b))
  where
    by : (a ≡ b) ⊎ ((a < b) ⊎ (b < a)) → AreApart grid.terminal (centre_of grid a) (centre_of grid b)
    by (inl same) = absurd (differ same)
    by (inr (inl less)) = slots_apart grid some a b less
    by (inr (inr more)) = apart_swapped grid.terminal (centre_of grid b) (centre_of grid a) (slots_apart grid some b a more)

lines_apart : (plan : Plan) (grid : Slots) (terminals : List (Option Point)) (line other : DrawnTerminal) → IsGrid plan.frame plan.terminal grid → AreOnSlots grid terminals
    → IsLineOf terminals line → IsLineOf terminals other → line.net.0 ≢ other.net.0 → AreApart plan.terminal (drawn_centre line) (drawn_centre other)
lines_apart plan grid terminals line other is_grid on of of_other differ =
    subst (λ c. AreApart plan.terminal c (drawn_centre other)) (sym at.at)
    (subst (λ c. AreApart plan.terminal (centre_of grid at.slot) c) (sym at_other.at)
    (slots_differ grid plan.terminal at.slot at_other.slot is_grid.terminal_is is_grid.some_stride
    (λ same. differ (on.apart line.net.0 other.net.0 (drawn_centre line) of.within of_other.within of.is
    (of_other.is ∙ ap Some (at_other.at ∙ ap (centre_of grid) (sym same) ∙ sym at.at))))))
  where
    at : IsOnSlot grid (drawn_centre line)
    at = on.on_slot line.net.0 (drawn_centre line) of.within of.is

    at_other : IsOnSlot grid (drawn_centre other)
    at_other = on.on_slot other.net.0 (drawn_centre other) of_other.within of_other.is

pub slots_keep_apart : (p : Netlist) (grid : Slots) (places : List Place) (terminals : List (Option Point)) → IsGrid p.plan.frame p.plan.terminal grid
    → AreOnSlots grid terminals → (net : ℕ) → KeepsFromOthers p (drawing_of places terminals) net
slots_keep_apart p grid places terminals is_grid on net =
    All-weaker (IsLineOf terminals)
    (λ line. line.net.0 ≡ net → All (λ other. other.net.0 ≢ net → AreApart p.plan.terminal (drawn_centre line) (drawn_centre other)) (terminals_from 0 terminals))
    (λ line of same.
    All-weaker (IsLineOf terminals) (λ other. other.net.0 ≢ net → AreApart p.plan.terminal (drawn_centre line) (drawn_centre other))
    (λ other of_other differ. lines_apart p.plan grid terminals line other is_grid on of of_other (λ e. differ (sym e ∙ same)))
    (terminals_from 0 terminals) (lines_of terminals))
    (terminals_from 0 terminals) (lines_of terminals)
