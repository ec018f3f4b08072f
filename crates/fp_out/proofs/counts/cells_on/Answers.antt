use Rattle.std.proofs.Common.{◌+◌, length, sym, ap, ◌∙◌, if◌then◌else◌, arith}
use Rattle.fp_out.proofs.Lists.{lines_below, lines_none, lines_all, lines_counted, is_same_die}
use Rattle.fp_out.proofs.counts.cells_on.Goals as goal
use Rattle.fp_out.proofs.counts.cells_on.Goals.{then-eq, else-eq}

pub loop-cell-init : goal.loop-cell-init
loop-cell-init c = record {
  counted = sym (ap length (lines_none c.args.die c.args.placement.now));
  few = omega arith;
}

pub loop-cell-preserved : goal.loop-cell-preserved
loop-cell-preserved c =
    let more = lines_counted c.args.die c.loop-cell.cell c.args.placement.now c.spot.result c.spot.ensures.spot in
    let test = is_same_die c.spot.result.die c.args.die c.eq.result c.eq.ensures in
    elim c.if-eq.branch [
      | then-eq w ↦
          let is = more ∙ ap (λ b. length (lines_below c.args.die c.loop-cell.cell c.args.placement.now) + (if b then 1 else 0)) (test ∙ w.if-eq.true) in
          record { counted = omega (arith, is); few = omega arith }
      | else-eq w ↦
          let is = more ∙ ap (λ b. length (lines_below c.args.die c.loop-cell.cell c.args.placement.now) + (if b then 1 else 0)) (test ∙ w.if-eq.false) in
          record { counted = omega (arith, is); few = omega arith }
    ]

pub returns : goal.returns
returns c =
    c.loop-cell.invariant.counted
    ∙ ap length (lines_all c.args.die c.loop-cell.cell c.args.placement.now (omega (arith, c.requires.cells)))
