use Rattle.std.proofs.Common.{arith}
use Rattle.fp_gains.proofs.StateLemmas.{turn_read, turned_more, stands_more}
use Rattle.fp_gains.proofs.state.State.turn_nets.Goals as goal

pub moved-after-requires-clause-there : goal.moved-after-requires-clause-there
moved-after-requires-clause-there c =
    (turn_read c.args.nets.now c.args.die c.args.self.now.sides.items c.loop-net.self.sides.items c.loop-net.net-index c.index.result.now c.loop-net.invariant.sides c.requires.once c.requires.there c.loop-net-test.true
    (let within = c.requires.within c.loop-net.net-index 0 c.loop-net-test.true in omega (arith, c.requires.ranked.weighed.all_nets)) c.index.ensures).some

pub moved-after-requires-clause-few : goal.moved-after-requires-clause-few
moved-after-requires-clause-few c =
    (turn_read c.args.nets.now c.args.die c.args.self.now.sides.items c.loop-net.self.sides.items c.loop-net.net-index c.index.result.now c.loop-net.invariant.sides c.requires.once c.requires.there c.loop-net-test.true
    (let within = c.requires.within c.loop-net.net-index 0 c.loop-net-test.true in omega (arith, c.requires.ranked.weighed.all_nets)) c.index.ensures).few

pub loop-net-preserved : goal.loop-net-preserved
loop-net-preserved c =
    let within = c.requires.within c.loop-net.net-index 0 c.loop-net-test.true in
    let next = turn_read c.args.nets.now c.args.die c.args.self.now.sides.items c.loop-net.self.sides.items c.loop-net.net-index c.index.result.now c.loop-net.invariant.sides c.requires.once c.requires.there c.loop-net-test.true
    (omega (arith, c.requires.ranked.weighed.all_nets)) c.index.ensures in
    record {
      sides = turned_more c.args.nets.now c.args.die c.args.self.now.sides.items c.loop-net.self.sides.items c.set_sides.new.self.sides.items c.loop-net.net-index c.index.result.now c.moved-after.result
          c.loop-net.invariant.sides c.loop-net-test.true (omega (arith, c.requires.ranked.weighed.all_nets)) next.is c.moved-after.ensures c.set_sides.ensures.sides;
      ranked = c.set_sides.ensures.ranked;
      stands = stands_more c.args.self.now c.loop-net.self c.set_sides.new.self c.loop-net.invariant.stands c.set_sides.ensures.stands;
    }
