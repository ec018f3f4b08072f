-- The centres of slots, and the slots of one y.
use Rattle.std.proofs.Common.{◌≡◌, ℕ, zero, suc, ◌+◌, ◌-◌, ◌*◌, ◌/◌, ◌%◌, ◌<◌, ◌≤◌, ◌==◌, ◌↔◌, if◌then◌else◌, pos, ◌-ℤ◌, unsigned_abs, sym, ap, subst, ◌∙◌, arith}
use Rattle.std.proofs.lemmas.Bool.Decides.{nat_tests}
use Rattle.std.proofs.lemmas.Int.{ints}
use Rattle.std.proofs.lemmas.Nat.{div-mul-add, div-add-mod'}
use Rattle.std.proofs.Math.Nat.{mod-eq_of_lt, mul_comm, mul-div_left, mul-div_cancel_left, div-lt_iff_lt-mul}
use Rattle.fp_base.specs.declared.ids.Point.{Point}
use Rattle.fp_tech.specs.declared.dies.Frame.{Frame}
use Rattle.fp_tech.specs.declared.dies.TermSpec.{TermSpec}
use Rattle.fp_tech.specs.Plan.{IsFrame, IsTermSpec}
use Rattle.fp_tech.specs.Slots.{Slots, pitch_x, pitch_y, across, up, slot_count, stripe_of, column_x, row_y, centre_of, KeepsEdges, IsGrid}
use Rattle.fp_tech.specs.SlotsLaws.{slot_keeps_edges, step_some}
use Rattle.fp_score.specs.Reaches.{IsNear}

-- a slot's centre is in range
pub centre_near : (frame : Frame) (terminal : TermSpec) (grid : Slots) → IsFrame frame → IsTermSpec terminal → IsGrid frame terminal grid
    → (slot : ℕ) → slot < slot_count grid → IsNear (centre_of grid slot)
centre_near frame terminal grid is_frame is_terminal is slot below =
    let keeps : KeepsEdges grid.frame grid.terminal (centre_of grid slot) =
    slot_keeps_edges grid (subst IsTermSpec (sym is.terminal_is) is_terminal) is.some_stride slot below in
    let framed : IsFrame grid.frame = subst IsFrame (sym is.frame_is) is_frame in
    record {
      left = omega (arith, ints);
      right = omega (arith, ints, keeps.right, framed.right);
      low = omega (arith, ints);
      high = omega (arith, ints, keeps.high, framed.upper);
    }

-- a grid has a step
pub step_of_grid : (frame : Frame) (terminal : TermSpec) (grid : Slots) → IsTermSpec terminal → IsGrid frame terminal grid → 0 < grid.stride * pitch_x grid.terminal
step_of_grid frame terminal grid is_terminal is =
    let here : IsTermSpec grid.terminal = subst IsTermSpec (sym is.terminal_is) is_terminal in
    step_some grid.stride grid.terminal.size_x grid.terminal.spacing is.some_stride here.some_x

-- and one upwards
pub rise_of_grid : (frame : Frame) (terminal : TermSpec) (grid : Slots) → IsTermSpec terminal → IsGrid frame terminal grid → 0 < grid.stride * pitch_y grid.terminal
rise_of_grid frame terminal grid is_terminal is =
    let here : IsTermSpec grid.terminal = subst IsTermSpec (sym is.terminal_is) is_terminal in
    step_some grid.stride grid.terminal.size_y grid.terminal.spacing is.some_stride here.some_y

-- a stripe is a row of slots, where there are any
pub stripe_is : (grid : Slots) (slot : ℕ) → slot < slot_count grid → stripe_of grid ≡ across grid
stripe_is grid slot below = chosen (slot_count grid) (across grid) below
  where
    chosen : (count width : ℕ) → slot < count → (if count == 0 then 1 else width) ≡ width
    chosen count width some = grind (arith, nat_tests)

-- the slots of a stripe are those of a row
pub row_of : (grid : Slots) (stripe slot : ℕ) → stripe * stripe_of grid ≤ slot → slot < stripe * stripe_of grid + stripe_of grid → slot < slot_count grid
    → slot / across grid ≡ stripe
row_of grid stripe slot from to below = by (stripe_of grid) (stripe_is grid slot below) from to
  where
    by : (width : ℕ) → width ≡ across grid → stripe * width ≤ slot → slot < stripe * width + width → slot / across grid ≡ stripe
    by width is from to =
        ap (λ w. slot / w) (sym is)
        ∙ ap (λ n. n / width) (let same : slot ≡ stripe * width + (slot - stripe * width) = omega arith in same)
        ∙ div-mul-add stripe width (slot - stripe * width) (omega arith)

-- a stripe has slots
some_across : (width rows slot : ℕ) → slot < width * rows → 0 < width
some_across zero rows slot below = omega arith
some_across (suc width) rows slot below = omega arith

-- the first slot of a stripe has the y of its row
pub first_of_row : (grid : Slots) (stripe : ℕ) → stripe * stripe_of grid < slot_count grid → (centre_of grid (stripe * across grid)).y ≡ pos (row_y grid stripe)
first_of_row grid stripe below =
    let same : stripe_of grid ≡ across grid = stripe_is grid (stripe * stripe_of grid) below in
    let wide : 0 < across grid = some_across (across grid) (up grid) (stripe * stripe_of grid) below in
    let to : stripe * stripe_of grid < stripe * stripe_of grid + stripe_of grid = omega arith in
    ap (λ width. pos (row_y grid ((stripe * width) / across grid))) (sym same) ∙ ap (λ row. pos (row_y grid row)) (row_of grid stripe (stripe * stripe_of grid) (omega arith) to below)

pub first_below : (grid : Slots) (stripe : ℕ) → stripe * stripe_of grid < slot_count grid → stripe * across grid < slot_count grid
first_below grid stripe below = subst (λ width. stripe * width < slot_count grid) (stripe_is grid (stripe * stripe_of grid) below) below

-- the next slot of a row stands a step further
pub step_is : (grid : Slots) (step : ℕ) (first second : Point) → 1 < across grid → first ≡ centre_of grid 0 → second ≡ centre_of grid 1
    → step ≡ unsigned_abs (second.x -ℤ first.x) → step ≡ grid.stride * pitch_x grid.terminal
unfolding column_x
step_is grid step first second two first_is second_is is =
    is
    ∙ (λ i. unsigned_abs ((second_is i).x -ℤ (first_is i).x))
    ∙ (λ i. unsigned_abs (pos (column_x grid (second_at i)) -ℤ pos (column_x grid (first_at i))))
    ∙ ap unsigned_abs apart
  where
    first_at : 0 % across grid ≡ 0
    first_at = mod-eq_of_lt (omega (arith, two))

    second_at : 1 % across grid ≡ 1
    second_at = mod-eq_of_lt two

    apart : pos (column_x grid 1) -ℤ pos (column_x grid 0) ≡ pos (grid.stride * pitch_x grid.terminal)
    apart = omega (arith, ints)

-- each slot of a row is so many steps from the first
pub steps_are : (grid : Slots) (step : ℕ) → step ≡ grid.stride * pitch_x grid.terminal → (k : ℕ) → column_x grid 0 + k * step ≡ column_x grid k
unfolding column_x
steps_are grid step is k = omega (arith, ap (λ n. k * n) is)

-- a slot of a stripe is in the column that it is past the stripe's first
pub column_of : (grid : Slots) (stripe slot : ℕ) → stripe * stripe_of grid ≤ slot → slot < stripe * stripe_of grid + stripe_of grid → slot < slot_count grid
    → stripe * across grid + slot % across grid ≡ slot
column_of grid stripe slot from to below =
    omega (arith, ap (λ row. row * across grid) (row_of grid stripe slot from to below), div-add-mod' slot (across grid))

-- a grid that has slots has columns and stripes
pub both_some : (wide tall : ℕ) → 0 < wide * tall → (0 < wide) × (0 < tall)
both_some zero tall below = absurd (omega arith)
both_some (suc wide) zero below = absurd (omega arith)
both_some (suc wide) (suc tall) below = (omega arith, omega arith)

-- so many stripes are all slots by those of a row
pub stripes_are : (grid : Slots) (slots wide : ℕ) → 0 < slot_count grid → slots ≡ slot_count grid → wide ≡ stripe_of grid → slots / wide ≡ up grid
stripes_are grid slots wide some slots_is wide_is =
    let some_wide : 0 < across grid = (both_some (across grid) (up grid) some).0 in
    let is : wide ≡ across grid = wide_is ∙ stripe_is grid 0 some in
    (λ i. slots_is i / is i) ∙ mul-div_cancel_left (up grid) some_wide

-- the next stripe stands a step higher
pub rise_is : (grid : Slots) (step wide : ℕ) (first second : Point) → 0 < slot_count grid → 1 < up grid → wide ≡ stripe_of grid → first ≡ centre_of grid 0 → second ≡ centre_of grid wide
    → step ≡ unsigned_abs (second.y -ℤ first.y) → step ≡ grid.stride * pitch_y grid.terminal
unfolding row_y
rise_is grid step wide first second some two wide_is first_is second_is is =
    is
    ∙ (λ i. unsigned_abs ((second_is i).y -ℤ (first_is i).y))
    ∙ (λ i. unsigned_abs (pos (row_y grid (second_at i)) -ℤ pos (row_y grid (first_at i))))
    ∙ ap unsigned_abs apart
  where
    some_wide : 0 < across grid
    some_wide = (both_some (across grid) (up grid) some).0

    first_at : 0 / across grid ≡ 0
    first_at = omega (arith, some_wide, div-mul-add 0 (across grid) 0 some_wide)

    second_at : wide / across grid ≡ 1
    second_at = ap (λ w. w / across grid) (wide_is ∙ stripe_is grid 0 some ∙ (let same : across grid ≡ 1 * across grid + 0 = omega arith in same)) ∙ div-mul-add 1 (across grid) 0 some_wide

    apart : pos (row_y grid 1) -ℤ pos (row_y grid 0) ≡ pos (grid.stride * pitch_y grid.terminal)
    apart = omega (arith, ints)

pub rises_are : (grid : Slots) (step : ℕ) → step ≡ grid.stride * pitch_y grid.terminal → (k : ℕ) → row_y grid 0 + k * step ≡ row_y grid k
unfolding row_y
rises_are grid step is k = omega (arith, ap (λ n. k * n) is)

-- a slot's stripe is in range, and before a number of stripes exactly where the slot is before their slots
pub stripe_in : (grid : Slots) (slot : ℕ) → slot < slot_count grid → slot / across grid < up grid
stripe_in grid slot below =
    (div-lt_iff_lt-mul (some_across (across grid) (up grid) slot below)).1 (omega (arith, mul_comm (across grid) (up grid)))

pub stripe_before : (grid : Slots) (slot count : ℕ) → slot < slot_count grid → (slot / across grid < count) ↔ (slot < count * stripe_of grid)
stripe_before grid slot count below =
    subst (λ w. (slot / across grid < count) ↔ (slot < count * w)) (sym (stripe_is grid slot below))
    (div-lt_iff_lt-mul (some_across (across grid) (up grid) slot below))

-- a stripe of those that there are has slots
pub stripe_there : (grid : Slots) (stripe : ℕ) → 0 < slot_count grid → stripe < up grid → stripe * stripe_of grid < slot_count grid
stripe_there grid stripe some below =
    let wide : 0 < across grid = (both_some (across grid) (up grid) some).0 in
    let there : stripe * across grid < up grid * across grid =
    (div-lt_iff_lt-mul wide).0 (subst (λ j. j < up grid) (sym (mul-div_left stripe wide)) below) in
    subst (λ w. stripe * w < slot_count grid) (sym (stripe_is grid 0 some)) (omega (arith, there, mul_comm (across grid) (up grid)))
