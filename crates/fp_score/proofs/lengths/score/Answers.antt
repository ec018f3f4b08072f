use Rattle.std.proofs.Common.{arith}
use Rattle.fp_place.specs.Placed.{places_of}
use Rattle.fp_score.specs.ScoreLaws.{score_none, score_more}
use Rattle.fp_score.proofs.lengths.score.Goals as goal

pub loop-net-init : goal.loop-net-init
loop-net-init c = record {
  so_far = score_none c.args.problem.now (places_of c.args.placement.now) c.args.placement.now.terminals;
  small = omega arith;
}

pub loop-net-preserved : goal.loop-net-preserved
loop-net-preserved c = record {
  so_far = score_more c.args.problem.now (places_of c.args.placement.now) c.args.placement.now.terminals c.loop-net.net c.loop-net.total c.net_length.result
      c.terminal_cost.result c.loop-net.invariant.so_far c.net_length.ensures.length c.terminal_cost.ensures.cost;
  small = omega (arith, c.net_length.ensures.small, c.terminal_cost.ensures.most, c.loop-net.invariant.small);
}
