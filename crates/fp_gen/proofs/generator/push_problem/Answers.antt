use Rattle.std.proofs.lemmas.Result.{IfOk-weaker}
use Rattle.fp_gen.proofs.Growing.{then_adds, as_piece}
use Rattle.fp_gen.proofs.Whole.{text_is}
use Rattle.fp_gen.proofs.generator.push_problem.Goals as goal

pub returns : goal.returns
returns c =
    IfOk-weaker c.push_netlist.result _ _
    (λ x adds. as_piece (text_is c.args.number c.args.cells c.args.percent c.side_of.result c.new-words.result c.requires.some c.side_of.ensures c.new-words.ensures)
    (then_adds c.in_ok-push_techs.ensures (then_adds c.in_ok-push_setup.ensures adds))) c.push_netlist.ensures
