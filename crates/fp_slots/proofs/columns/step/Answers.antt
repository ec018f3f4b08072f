use Rattle.std.proofs.Common.{◌≡◌, ◌<◌, ◌*◌, ◌-ℤ◌, unsigned_abs, FitsSigned, w64, rules, arith}
use Rattle.std.proofs.lemmas.Int.{to_z-of_z}
use Rattle.fp_tech.specs.Slots.{across, pitch_x}
use Rattle.fp_slots.proofs.SlotLemmas.{stripe_is, step_is, steps_are}
use Rattle.fp_slots.proofs.columns.step.Goals as goal

step_found : (c : goal.After-abs_diff) → c.abs_diff.result ≡ c.args.grid.now.stride * pitch_x c.args.grid.now.terminal
step_found c =
    let first_fits : FitsSigned w64 c.centre-first.result.x = search rules in
    let second_fits : FitsSigned w64 c.centre-second.result.x = search rules in
    let is : c.abs_diff.result ≡ unsigned_abs (c.centre-second.result.x -ℤ c.centre-first.result.x) = simp to_z-of_z at c.abs_diff.ensures in
    let two : 1 < across c.args.grid.now = omega (arith, stripe_is c.args.grid.now 0 c.requires.slots, c.across.ensures, c.if-across-lt2.false) in
    step_is c.args.grid.now _ _ _ two c.centre-first.ensures c.centre-second.ensures is

pub returns-clause-some : goal.returns-clause-some
returns-clause-some c = omega (arith, step_found c, c.requires.some_step)

pub returns-clause-steps : goal.returns-clause-steps
returns-clause-steps c k in_row = steps_are c.args.grid.now _ (step_found c) k
