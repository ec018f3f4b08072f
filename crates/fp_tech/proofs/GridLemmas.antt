-- That a centre's numbers fit, and that the bisection keeps its bounds.
use Rattle.std.proofs.Common.{inl, inr, ◌≡◌, ℕ, ◌+◌, ◌*◌, ◌/◌, ◌%◌, ◌<◌, ◌≤◌, ◌^◌, refl, subst, arith}
use Rattle.std.proofs.lemmas.Nat.{mul-le}
use Rattle.std.proofs.lemmas.Bool.{cases_lt}
use Rattle.std.specs.Prelude.{ℤ}
use Rattle.fp_base.specs.declared.ids.Point.{Point}
use Rattle.fp_tech.specs.declared.dies.Frame.{Frame}
use Rattle.fp_tech.specs.declared.dies.TermSpec.{TermSpec}
use Rattle.fp_tech.specs.declared.grid.Grid.TheInside.{Inside}
use Rattle.fp_tech.specs.Plan.{IsFrame, IsTermSpec}
use Rattle.fp_tech.specs.Slots.{Slots, margin, axis_count, pitch_x, pitch_y, across, up, slot_count, slot_limit, column_x, row_y, grid_with, IsLeast}
use Rattle.fp_tech.specs.SlotsLaws.{counted_fits, column_in, row_in, slots_fall}
use Rattle.fp_tech.specs.KeptGrid.{slots_of, fields_of, IsKept}

-- a slot's numbers, as the grid's fields give them
pub record IsPlaced (s : Slots) (g : Inside) (slot : ℕ) : Type 0 where
  pub x : g.first_x + slot % g.across * g.step_x ≡ column_x s (slot % across s)
  pub right : column_x s (slot % across s) ≤ 2 ^ 30
  pub y : g.first_y + slot / g.across * g.step_y ≡ row_y s (slot / across s)
  pub high : row_y s (slot / across s) ≤ 2 ^ 30

placed : (s : Slots) (slot : ℕ) → IsFrame s.frame → slot < slot_count s → IsPlaced s (fields_of s) slot
unfolding column_x row_y across up
placed s slot frame below =
    let x_fits = counted_fits s.frame.llx s.frame.urx (margin s.terminal.size_x s.terminal.spacing) (s.stride * pitch_x s.terminal) (slot % across s) (column_in s slot below) in
    let y_fits = counted_fits s.frame.lly s.frame.ury (margin s.terminal.size_y s.terminal.spacing) (s.stride * pitch_y s.terminal) (slot / across s) (row_in s slot below) in
    record {
      x = refl;
      right = omega (arith, x_fits, frame.right);
      y = refl;
      high = omega (arith, y_fits, frame.upper);
    }

pub slot_placed : (g : Inside) (s : Slots) → IsKept g → slots_of g ≡ s → (slot : ℕ) → slot < slot_count s → IsPlaced s g slot
slot_placed g s kept view slot h =
    subst (λ t. IsPlaced t g slot) view (subst (λ i. IsPlaced (slots_of g) i slot) kept.same
    (placed (slots_of g) slot kept.is_frame (rw view h)))

-- at a stride that leaves too many slots each lesser one does
pub least_more : (frame : Frame) (terminal : TermSpec) (middle : ℕ) → IsTermSpec terminal
    → slot_limit < slot_count (grid_with frame terminal middle) → IsLeast frame terminal (middle + 1)
least_more frame terminal middle is_terminal many lesser some less =
    omega (arith, many, slots_fall frame terminal lesser middle is_terminal some (omega arith))

few_along : (low high edge step : ℕ) → high ≤ 2 ^ 30 → 2 ^ 21 ≤ step → axis_count low high edge step ≤ 513
few_along low high edge step small long =
    elim (cases_lt 513 (axis_count low high edge step)) [
      | inl more ↦ absurd (omega (arith, counted_fits low high edge step 513 more, mul-le 513 (2 ^ 21) 513 step (omega arith) long))
      | inr few ↦ few
    ]

-- the widest stride leaves few enough slots
pub few_at_widest : (frame : Frame) (terminal : TermSpec) → IsFrame frame → IsTermSpec terminal
    → slot_count (grid_with frame terminal (2 ^ 21)) ≤ slot_limit
unfolding across up
few_at_widest frame terminal is_frame is_terminal =
    let columns = few_along frame.llx frame.urx (margin terminal.size_x terminal.spacing) (2 ^ 21 * pitch_x terminal) is_frame.right (mul-le (2 ^ 21) 1 (2 ^ 21) (pitch_x terminal) (omega arith) (omega (arith, is_terminal.some_x))) in
    let rows = few_along frame.lly frame.ury (margin terminal.size_y terminal.spacing) (2 ^ 21 * pitch_y terminal) is_frame.upper (mul-le (2 ^ 21) 1 (2 ^ 21) (pitch_y terminal) (omega arith) (omega (arith, is_terminal.some_y))) in
    omega (arith, mul-le (across (grid_with frame terminal (2 ^ 21))) (up (grid_with frame terminal (2 ^ 21))) 513 513 columns rows)

pub same_point : {a b x y : ℤ} → a ≡ x → b ≡ y → ◌≡◌ {A = Point} (record { x = a; y = b }) (record { x = x; y = y })
same_point e f = cc
