use Rattle.std.proofs.Common.{Some, sym, ap, ◌∙◌, arith}
use Rattle.fp_text.specs.Writing.{told}
use Rattle.fp_text.specs.WritingLaws.{adds_nothing, in_turn, as_piece}
use Rattle.fp_out.specs.OutText.{terminals_text}
use Rattle.fp_out.proofs.Lists.{terminals_none, terminals_all}
use Rattle.fp_out.proofs.Texts.{centres_more, centres_same}
use Rattle.fp_out.proofs.output.write_centres.Goals as goal

pub loop-net-init : goal.loop-net-init
loop-net-init g c = record {
  adds = as_piece (sym (ap (terminals_text c.args.problem.now) (terminals_none c.args.placement.now.terminals)))
      (adds_nothing c.args.name.now (told g.F.Folder.held g.F.Folder.made g.F.Folder.faults c.args.folder.now) c.args.writer.now);
  goes_on = c.requires.goes_on;
}

pub loop-net-preserved-in_default : goal.loop-net-preserved-in_default
loop-net-preserved-in_default g c = record {
  adds = as_piece (centres_same c.args.problem.now c.loop-net.net c.args.placement.now.terminals (c.terminal.ensures ∙ ap Some c.in_default.is)) c.loop-net.invariant.adds;
  goes_on = c.loop-net.invariant.goes_on;
}

pub loop-net-preserved : goal.loop-net-preserved
loop-net-preserved g c = record {
  adds = as_piece (centres_more c.args.problem.now c.loop-net.net c.args.placement.now.terminals c.in-Some.centre c.net_name.result.now c.in-Some.ensures c.net_name.ensures)
      (in_turn c.loop-net.invariant.adds c.write_line.ensures.adds);
  goes_on = c.write_line.ensures.goes_on;
}

pub returns-clause-adds : goal.returns-clause-adds
returns-clause-adds g c = as_piece (ap (terminals_text c.args.problem.now) (terminals_all c.loop-net.net c.args.placement.now.terminals (omega (arith, c.requires.of_problem.nets)))) c.loop-net.invariant.adds
