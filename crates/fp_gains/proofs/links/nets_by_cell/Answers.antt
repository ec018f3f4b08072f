use Rattle.std.proofs.Common.{length, ◌∙◌, ap, arith}
use Rattle.std.proofs.lemmas.List.{length_push}
use Rattle.fp_gains.specs.Links.{nets_of_cell}
use Rattle.fp_gains.proofs.LinkLemmas.{list_more}
use Rattle.fp_gains.proofs.links.nets_by_cell.Goals as goal

pub loop-cell-preserved : goal.loop-cell-preserved
loop-cell-preserved c =
    let found = c.in_ok-find_nets.ensures in
    record {
      many = omega (arith, ap length c.in_ok-push.ensures, length_push c.loop-cell.lists c.keys.result.now, c.loop-cell.invariant.many);
      each = list_more c.loop-cell.lists c.push.new.self c.keys.result.now c.loop-cell.cell (nets_of_cell c.args.problem.now) c.in_ok-push.ensures c.loop-cell.invariant.many (c.keys.ensures ∙ found.found) c.loop-cell.invariant.each;
      room = found.room ∙ c.loop-cell.invariant.room;
      mark = omega (arith, found.mark, c.loop-cell.invariant.mark);
    }
