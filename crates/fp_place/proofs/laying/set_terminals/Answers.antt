use Rattle.std.proofs.Common.{None, refl, arith}
use Rattle.fp_place.proofs.LinedUpLemmas.{none_set, one_set, all_set}
use Rattle.fp_place.proofs.laying.set_terminals.Goals as goal

pub set_terminal-requires : goal.set_terminal-requires
set_terminal-requires c = omega (arith, c.loop-net.invariant.many)

pub loop-net-init : goal.loop-net-init
loop-net-init c = none_set c.args.placement.now c.args.centres.now c.requires.many

pub loop-net-preserved : goal.loop-net-preserved
loop-net-preserved c =
    one_set c.args.placement.now c.loop-net.placement c.set_terminal.new.self c.args.centres.now c.loop-net.net _ None c.loop-net.invariant (omega arith) refl c.set_terminal.ensures

pub returns : goal.returns
returns c = all_set c.args.placement.now c.loop-net.placement c.args.centres.now c.loop-net.net (omega arith) c.loop-net.invariant
