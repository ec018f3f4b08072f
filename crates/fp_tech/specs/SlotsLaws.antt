-- Laws of the grid of slots.
use Rattle.std.specs.Prelude.{◌≡◌, ◌⊎◌, ℕ, ◌+◌, ◌*◌, ◌/◌, ◌%◌, ◌<◌, ◌≤◌}
use Rattle.std.proofs.Common.{zero, suc, sym, ◌∙◌, ap, inl, inr, arith}
use Rattle.std.proofs.Math.Nat.{div-mul-le_self, div-add-mod}
use Rattle.std.proofs.lemmas.Nat.{mul-le, le-div, rows}
use Rattle.std.proofs.lemmas.Bool.{cases_lt}
use Rattle.std.proofs.lemmas.Bool.Decides.{nat_tests}
use Rattle.std.proofs.lemmas.Int.{ints}
use Rattle.fp_tech.specs.Plan.{IsTermSpec}
use Rattle.fp_tech.specs.declared.dies.Frame.{Frame}
use Rattle.fp_tech.specs.declared.dies.TermSpec.{TermSpec}
use Rattle.fp_tech.specs.Slots.{Slots, margin, axis_count, pitch_x, pitch_y, across, up, slot_count, column_x, row_y, centre_of, slot_limit, grid_with, IsGrid, CountsAreExact, KeepsEdges, AreApart}

steps_below : (room step k : ℕ) → k < room / step + 1 → k * step ≤ room
steps_below room step k h =
    let near : k ≤ room / step = omega arith in
    omega (arith, mul-le k step (room / step) step near (omega arith), div-mul-le_self room step)

-- a counted centre keeps the margin of the far edge
pub counted_fits : (low high edge step k : ℕ) → k < axis_count low high edge step → low + 2 * edge + k * step ≤ high
counted_fits low high edge step k h = grind (arith, nat_tests, steps_below)

-- a centre that keeps the margin of the far edge is counted
pub fitting_counts : (low high edge step k : ℕ) → 0 < step → low + 2 * edge + k * step ≤ high → k < axis_count low high edge step
fitting_counts low high edge step k some h = grind (arith, nat_tests, le-div)

-- a longer step counts no more centres
pub counts_fall : (low high edge step longer : ℕ) → 0 < step → step ≤ longer → axis_count low high edge longer ≤ axis_count low high edge step
counts_fall low high edge step longer some h =
    all_below (axis_count low high edge longer) (axis_count low high edge step) (λ k counted.
    let fits : low + 2 * edge + k * longer ≤ high = counted_fits low high edge longer k counted in
    let less : k * step ≤ k * longer = mul-le k step k longer (omega arith) h in
    fitting_counts low high edge step k some (omega arith))
  where
    all_below : (m n : ℕ) → ((k : ℕ) → k < m → k < n) → m ≤ n
    all_below zero n below = omega arith
    all_below (suc k) n below = let here : k < n = below k (omega arith) in omega arith

-- twice the margin is the least distance of the rule, rounded up to an even number
pub margin_enough : (size spacing : ℕ) → size + 2 * spacing ≤ 2 * margin size spacing
margin_enough size spacing = omega arith

pub margin_least : (size spacing : ℕ) → 2 * margin size spacing ≤ size + 2 * spacing + 1
margin_least size spacing = omega arith

-- the two together: a centre is counted exactly where it keeps the distance from the far edge
counted_keeps : (low high size spacing step k : ℕ) → k < axis_count low high (margin size spacing) step
    → 2 * (low + margin size spacing + k * step) + size + 2 * spacing ≤ 2 * high
counted_keeps low high size spacing step k h =
    let fits : low + 2 * margin size spacing + k * step ≤ high = counted_fits low high (margin size spacing) step k h in
    omega (arith, margin_enough size spacing)

keeping_counts : (low high size spacing step k : ℕ) → 0 < step
    → 2 * (low + margin size spacing + k * step) + size + 2 * spacing ≤ 2 * high → k < axis_count low high (margin size spacing) step
keeping_counts low high size spacing step k some h =
    let fits : low + 2 * margin size spacing + k * step ≤ high = omega (arith, margin_least size spacing) in
    fitting_counts low high (margin size spacing) step k some fits

pub step_some : (stride size spacing : ℕ) → 1 ≤ stride → 1 ≤ size → 0 < stride * (size + spacing)
step_some stride size spacing some sized =
    let least : 1 * 1 ≤ stride * (size + spacing) = mul-le 1 1 stride (size + spacing) some (omega arith) in
    omega arith

step_long : (stride pitch : ℕ) → 1 ≤ stride → pitch ≤ stride * pitch
step_long stride pitch some = let least : 1 * pitch ≤ stride * pitch = mul-le 1 pitch stride pitch some (omega arith) in omega arith

-- what the counts of a grid mean
pub counts_exact : (s : Slots) → IsTermSpec s.terminal → 1 ≤ s.stride → CountsAreExact s
unfolding across up column_x row_y
counts_exact s terminal some =
    let across_step : 0 < s.stride * pitch_x s.terminal = step_some s.stride s.terminal.size_x s.terminal.spacing some terminal.some_x in
    let up_step : 0 < s.stride * pitch_y s.terminal = step_some s.stride s.terminal.size_y s.terminal.spacing some terminal.some_y in
    record {
      columns = λ k h. counted_keeps s.frame.llx s.frame.urx s.terminal.size_x s.terminal.spacing (s.stride * pitch_x s.terminal) k h;
      no_more_columns = λ k h. keeping_counts s.frame.llx s.frame.urx s.terminal.size_x s.terminal.spacing (s.stride * pitch_x s.terminal) k across_step h;
      rows = λ k h. counted_keeps s.frame.lly s.frame.ury s.terminal.size_y s.terminal.spacing (s.stride * pitch_y s.terminal) k h;
      no_more_rows = λ k h. keeping_counts s.frame.lly s.frame.ury s.terminal.size_y s.terminal.spacing (s.stride * pitch_y s.terminal) k up_step h;
    }

-- more slots at a lesser stride
pub slots_fall : (frame : Frame) (terminal : TermSpec) (stride longer : ℕ) → IsTermSpec terminal → 1 ≤ stride → stride ≤ longer
    → slot_count (grid_with frame terminal longer) ≤ slot_count (grid_with frame terminal stride)
unfolding across up
slots_fall frame terminal stride longer is_terminal some h =
    mul-le (across (grid_with frame terminal longer)) (up (grid_with frame terminal longer)) (across (grid_with frame terminal stride)) (up (grid_with frame terminal stride))
    (counts_fall frame.llx frame.urx (margin terminal.size_x terminal.spacing) (stride * pitch_x terminal) (longer * pitch_x terminal)
    (step_some stride terminal.size_x terminal.spacing some is_terminal.some_x) (mul-le stride (pitch_x terminal) longer (pitch_x terminal) h (omega arith)))
    (counts_fall frame.lly frame.ury (margin terminal.size_y terminal.spacing) (stride * pitch_y terminal) (longer * pitch_y terminal)
    (step_some stride terminal.size_y terminal.spacing some is_terminal.some_y) (mul-le stride (pitch_y terminal) longer (pitch_y terminal) h (omega arith)))

-- a slot's column and row are in range
pub column_in : (s : Slots) (slot : ℕ) → slot < slot_count s → slot % across s < across s
column_in s slot h = below_rest (across s) (up s) slot h
  where
    below_rest : (a b n : ℕ) → n < a * b → n % a < a
    below_rest zero b n h = omega arith
    below_rest (suc a) b n h = omega arith

pub row_in : (s : Slots) (slot : ℕ) → slot < slot_count s → slot / across s < up s
row_in s slot h = grind (arith, rows)

-- each slot keeps its distance from each edge
pub slot_keeps_edges : (s : Slots) → IsTermSpec s.terminal → 1 ≤ s.stride → (slot : ℕ) → slot < slot_count s
    → KeepsEdges s.frame s.terminal (centre_of s slot)
unfolding column_x row_y
slot_keeps_edges s terminal some slot h =
    let exact : CountsAreExact s = counts_exact s terminal some in
    let column : slot % across s < across s = column_in s slot h in
    let row : slot / across s < up s = row_in s slot h in
    let right = exact.columns (slot % across s) column in
    let high = exact.rows (slot / across s) row in
    record {
      left = omega (arith, ints, margin_enough s.terminal.size_x s.terminal.spacing);
      right = omega (arith, ints, right);
      low = omega (arith, ints, margin_enough s.terminal.size_y s.terminal.spacing);
      high = omega (arith, ints, high);
    }

-- a later place is at least a pitch further
next_place : (stride pitch j k : ℕ) → 1 ≤ stride → j < k → j * (stride * pitch) + pitch ≤ k * (stride * pitch)
next_place stride pitch j k some less =
    omega (arith, mul-le (j + 1) (stride * pitch) k (stride * pitch) (omega arith) (omega arith), step_long stride pitch some)

-- of two numbers the later is in a later row, or in a later column
rows_or_columns : (width a b : ℕ) → a < b → (a / width < b / width) ⊎ (a % width < b % width)
rows_or_columns width a b less =
    elim (cases_lt (a / width) (b / width)) [
      | inl later ↦ inl later
      | inr same ↦ inr (omega (arith, div-add-mod a width, div-add-mod b width, mul-le width (b / width) width (a / width) (omega arith) same))
    ]

-- any two slots are apart
pub slots_apart : (s : Slots) → 1 ≤ s.stride → (a b : ℕ) → a < b → AreApart s.terminal (centre_of s a) (centre_of s b)
unfolding column_x row_y
slots_apart s some a b less =
    elim (rows_or_columns (across s) a b less) [
      | inl rows ↦ inr (inl (let far = next_place s.stride (pitch_y s.terminal) (a / across s) (b / across s) some rows in omega (arith, ints, far)))
      | inr columns ↦ inl (inl (let far = next_place s.stride (pitch_x s.terminal) (a % across s) (b % across s) some columns in omega (arith, ints, far)))
    ]

-- a grid is one function of the frame and the terminal
pub grid_once : (frame : Frame) (terminal : TermSpec) (a b : Slots) → IsGrid frame terminal a → IsGrid frame terminal b → a ≡ b
grid_once frame terminal a b is_a is_b = sym (is_with a is_a) ∙ ap (grid_with frame terminal) same ∙ is_with b is_b
  where
    is_with : (s : Slots) → IsGrid frame terminal s → grid_with frame terminal s.stride ≡ s
    is_with s is_s = ap (λ f. grid_with f terminal s.stride) (sym is_s.frame_is) ∙ ap (λ t. grid_with s.frame t s.stride) (sym is_s.terminal_is)

    not_less : (s t : Slots) → IsGrid frame terminal s → IsGrid frame terminal t → s.stride ≤ t.stride
    not_less s t is_s is_t =
        elim (cases_lt t.stride s.stride) [
          | inl less ↦ absurd (let few : slot_count (grid_with frame terminal t.stride) ≤ slot_limit = rw (is_with t is_t) is_t.few in
              omega (arith, is_s.least t.stride is_t.some_stride less))
          | inr more ↦ more
        ]

    same : a.stride ≡ b.stride
    same = omega (arith, not_less a b is_a is_b, not_less b a is_b is_a)
