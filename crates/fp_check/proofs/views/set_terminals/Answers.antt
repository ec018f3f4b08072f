use Rattle.std.proofs.Common.{◌-◌, ℕ, length, drop, ap, ◌∙◌, arith}
use Rattle.fp_place.specs.Placed.{Placed}
use Rattle.fp_check.proofs.Viewing.{none_set, one_set, length-with_terminals}
use Rattle.fp_check.proofs.views.set_terminals.Goals as goal

pub loop-number-init : goal.loop-number-init
loop-number-init c = λ k all. none_set c.args.grid.now c.args.cuts.now c.args.placement.now k (omega (arith, all))

pub set_terminal-requires : goal.set_terminal-requires
set_terminal-requires c =
    let left : ℕ = length c.args.cuts.now - c.loop-number.number in
    let now = c.loop-number.invariant left (omega (arith, c.loop-number-test.true)) in
    let many = ap (λ (placed : Placed). length placed.terminals) now ∙ length-with_terminals c.args.grid.now (drop left c.args.cuts.now) c.args.placement.now.terminals in
    let inside = c.requires.cuts (length c.args.cuts.now - 1 - c.loop-number.number) (record { net = record { 0 = 0 }; slot = record { 0 = 0 }; price = 0 }) (omega (arith, c.loop-number-test.true)) in
    omega (arith, inside.0, many)

pub loop-number-preserved : goal.loop-number-preserved
loop-number-preserved c =
    λ k all. one_set c.args.grid.now c.args.cuts.now c.args.placement.now c.loop-number.placement c.set_terminal.new.self c.loop-number.number k
    (record { net = record { 0 = 0 }; slot = record { 0 = 0 }; price = 0 }) c.centre.result all c.loop-number.invariant c.centre.ensures c.set_terminal.ensures

pub returns : goal.returns
returns c = c.loop-number.invariant 0 (omega (arith, c.loop-number-test.false, c.loop-number.auto.number-end))
