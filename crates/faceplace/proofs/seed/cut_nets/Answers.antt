use Rattle.std.proofs.Common.{true, false, refl, ◌∙◌, sym, arith}
use Rattle.fp_place.specs.Cut.{cut_below}
use Rattle.fp_place.specs.Places.{dies_of}
use Rattle.fp_place.specs.Placed.{places_of}
use Rattle.faceplace.proofs.Seeds.{cut_more, terminal_cut}
use Rattle.faceplace.proofs.seed.cut_nets.Goals as goal
use Rattle.faceplace.proofs.seed.cut_nets.Goals.{then-is_some, else-is_some}

pub loop-net-init : goal.loop-net-init
unfolding cut_below
loop-net-init c = (refl, omega arith)

pub overflow_add-count : goal.overflow_add-count
overflow_add-count c = omega (arith, c.loop-net.invariant.1)

pub loop-net-preserved : goal.loop-net-preserved
loop-net-preserved c =
    let is = terminal_cut c.args.problem.now c.args.placement.now c.loop-net.net c.terminal.result c.is_some.result c.requires.on_cuts (omega arith) c.terminal.ensures c.is_some.ensures in
    let dies = dies_of (places_of c.args.placement.now) in
    elim c.if-is_some.branch [
      | then-is_some w ↦ omega (arith, w.count-is, c.loop-net.invariant.0, c.loop-net.invariant.1, cut_more c.args.problem.now dies c.loop-net.net true (sym w.if-is_some.true ∙ is))
      | else-is_some w ↦ omega (arith, w.count-is, c.loop-net.invariant.0, c.loop-net.invariant.1, cut_more c.args.problem.now dies c.loop-net.net false (sym w.if-is_some.false ∙ is))
    ]
