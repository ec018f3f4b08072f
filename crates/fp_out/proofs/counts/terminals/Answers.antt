use Rattle.std.proofs.Common.{◌+◌, length, sym, ap, ◌∙◌, if◌then◌else◌, arith}
use Rattle.fp_out.proofs.Lists.{terminals_below, terminals_none, terminals_all, terminals_counted}
use Rattle.fp_out.proofs.counts.terminals.Goals as goal
use Rattle.fp_out.proofs.counts.terminals.Goals.{then-is_some, else-is_some}

pub loop-net-init : goal.loop-net-init
loop-net-init c = record {
  counted = sym (ap length (terminals_none c.args.placement.now.terminals));
  few = omega arith;
}

pub loop-net-preserved : goal.loop-net-preserved
loop-net-preserved c =
    let more = terminals_counted c.loop-net.net c.args.placement.now.terminals c.terminal.result c.terminal.ensures in
    let test = c.is_some.ensures in
    elim c.if-is_some.branch [
      | then-is_some w ↦
          let is = more ∙ ap (λ b. length (terminals_below c.loop-net.net c.args.placement.now.terminals) + (if b then 1 else 0)) (sym test ∙ w.if-is_some.true) in
          record { counted = omega (arith, is); few = omega arith }
      | else-is_some w ↦
          let is = more ∙ ap (λ b. length (terminals_below c.loop-net.net c.args.placement.now.terminals) + (if b then 1 else 0)) (sym test ∙ w.if-is_some.false) in
          record { counted = omega (arith, is); few = omega arith }
    ]

pub returns : goal.returns
returns c =
    c.loop-net.invariant.counted
    ∙ ap length (terminals_all c.loop-net.net c.args.placement.now.terminals (omega (arith, c.requires.nets)))
