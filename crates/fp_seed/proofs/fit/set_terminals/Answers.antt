use Rattle.std.proofs.Common.{◌+◌, Some, set, ap, sym, subst, ◌∙◌, arith}
use Rattle.fp_seed.proofs.Setting.{AreSet, set_none, set_one, set_no, set_all, slot_there, slot_small, with_list}
use Rattle.fp_seed.proofs.fit.set_terminals.Goals as goal
use Rattle.fp_seed.proofs.fit.set_terminals.Goals.{then-is_cut, else-is_cut}

pub loop-number-init : goal.loop-number-init
loop-number-init c = set_none c.args.problem.now c.args.grid.now c.args.dies.now c.args.placement.now c.requires.bare

pub centre-requires : goal.centre-requires
centre-requires c =
    slot_there c.args.problem.now c.args.grid.now c.args.dies.now c.args.placement.now c.loop-number.placement c.loop-number.number c.loop-number.slot c.loop-number.invariant
    (omega (arith, c.loop-number-test.true, c.nets-number-end.ensures.count)) (sym c.if-is_cut.ensures) c.requires.slots

pub overflow_add-slot : goal.overflow_add-slot
overflow_add-slot c =
    let small = slot_small c.args.problem.now c.args.grid.now c.args.dies.now c.args.placement.now c.loop-number.placement c.loop-number.number c.loop-number.slot c.loop-number.invariant in
    let few = c.nets-number-end.ensures.sound.few_nets in
    omega (arith, small, few, c.loop-number-test.true, c.nets-number-end.ensures.count)

pub loop-number-preserved : goal.loop-number-preserved
loop-number-preserved c =
    let p = c.args.problem.now in let grid = c.args.grid.now in let dies = c.args.dies.now in let before = c.args.placement.now in let number = c.loop-number.number in
    elim c.if-is_cut.branch [
      | then-is_cut w ↦
          subst (λ placed. AreSet p grid dies before placed (number + 1) c.if-is_cut.slot) (sym w.placement-is)
          (subst (AreSet p grid dies before w.set_terminal.new.self (number + 1)) (sym w.slot-is)
          (set_one p grid dies before c.loop-number.placement w.set_terminal.new.self number c.loop-number.slot c.loop-number.invariant
          (omega (arith, c.loop-number-test.true, c.nets-number-end.ensures.count)) (sym w.if-is_cut.ensures)
          (w.set_terminal.ensures ∙ ap (λ centre. with_list c.loop-number.placement (set c.loop-number.placement.terminals number (Some centre))) w.centre.ensures)))
      | else-is_cut w ↦
          subst (λ placed. AreSet p grid dies before placed (number + 1) c.if-is_cut.slot) (sym w.placement-is)
          (subst (AreSet p grid dies before c.loop-number.placement (number + 1)) (sym w.slot-is)
          (set_no p grid dies before c.loop-number.placement number c.loop-number.slot c.loop-number.invariant (sym w.if-is_cut.ensures)))
    ]

pub returns : goal.returns
returns c =
    set_all c.args.problem.now c.args.grid.now c.args.dies.now c.args.placement.now c.loop-number.placement c.loop-number.number c.loop-number.slot c.loop-number.invariant
    (omega (arith, c.loop-number-test.false, c.nets-number-end.ensures.count))
