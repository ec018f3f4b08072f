use Rattle.std.proofs.Common.{◌≡◌, ◌<◌, ◌*◌, ◌-ℤ◌, unsigned_abs, FitsSigned, w64, rules, arith}
use Rattle.std.proofs.lemmas.Int.{to_z-of_z}
use Rattle.fp_tech.specs.Slots.{up, pitch_y}
use Rattle.fp_slots.proofs.SlotLemmas.{rise_is, rises_are}
use Rattle.fp_slots.proofs.columns.rise.Goals as goal

rise_found : (c : goal.After-abs_diff) → c.abs_diff.result ≡ c.args.grid.now.stride * pitch_y c.args.grid.now.terminal
rise_found c =
    let first_fits : FitsSigned w64 c.centre-first.result.y = search rules in
    let second_fits : FitsSigned w64 c.centre-second.result.y = search rules in
    let is : c.abs_diff.result ≡ unsigned_abs (c.centre-second.result.y -ℤ c.centre-first.result.y) = simp to_z-of_z at c.abs_diff.ensures in
    let two : 1 < up c.args.grid.now = omega (arith, c.requires.count, c.if-count-lt2.false) in
    rise_is c.args.grid.now _ _ _ _ c.requires.slots two c.across.ensures c.centre-first.ensures c.centre-second.ensures is

pub returns-clause-some : goal.returns-clause-some
returns-clause-some c = omega (arith, rise_found c, c.requires.some_step)

pub returns-clause-steps : goal.returns-clause-steps
returns-clause-steps c k in_grid = rises_are c.args.grid.now _ (rise_found c) k
