use Rattle.std.proofs.Common.{true, false, refl, ◌∙◌, sym, arith}
use Rattle.fp_place.specs.Cut.{cut_below}
use Rattle.fp_place.proofs.CutLemmas.{cut_more}
use Rattle.fp_place.proofs.cut_nets.cut.Goals as goal
use Rattle.fp_place.proofs.cut_nets.cut.Goals.{then-is_cut, else-is_cut}

pub loop-net-init : goal.loop-net-init
unfolding cut_below
loop-net-init c = (refl, omega arith)

pub loop-net-preserved : goal.loop-net-preserved
loop-net-preserved c =
    elim c.if-is_cut.branch [
      | then-is_cut w ↦ omega (arith, w.count-is, c.loop-net.invariant.0, cut_more c.args.problem.now c.args.dies.now c.loop-net.net true (sym w.if-is_cut.true ∙ c.is_cut.ensures))
      | else-is_cut w ↦ omega (arith, w.count-is, c.loop-net.invariant.0, cut_more c.args.problem.now c.args.dies.now c.loop-net.net false (sym w.if-is_cut.false ∙ c.is_cut.ensures))
    ]
