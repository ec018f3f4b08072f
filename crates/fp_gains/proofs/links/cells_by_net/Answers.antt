use Rattle.std.proofs.Common.{length, ◌∙◌, ap, arith}
use Rattle.std.proofs.lemmas.List.{length_push}
use Rattle.fp_gains.specs.Links.{cells_of_net}
use Rattle.fp_gains.proofs.LinkLemmas.{list_more}
use Rattle.fp_gains.proofs.links.cells_by_net.Goals as goal

pub loop-net-preserved : goal.loop-net-preserved
loop-net-preserved c =
    let found = c.in_ok-find_cells.ensures in
    record {
      many = omega (arith, ap length c.in_ok-push.ensures, length_push c.loop-net.lists c.keys.result.now, c.loop-net.invariant.many);
      each = list_more c.loop-net.lists c.push.new.self c.keys.result.now c.loop-net.net (cells_of_net c.args.problem.now) c.in_ok-push.ensures c.loop-net.invariant.many (c.keys.ensures ∙ found.found) c.loop-net.invariant.each;
      room = found.room ∙ c.loop-net.invariant.room;
      mark = omega (arith, found.mark, c.loop-net.invariant.mark);
    }
