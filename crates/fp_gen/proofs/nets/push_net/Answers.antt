use Rattle.std.proofs.lemmas.Result.{IfOk-weaker}
use Rattle.fp_gen.proofs.Growing.{then_adds, as_piece}
use Rattle.fp_gen.proofs.NetLines.{net_lines_are}
use Rattle.fp_gen.proofs.nets.push_net.Goals as goal

pub returns-clause-text : goal.returns-clause-text
returns-clause-text c =
    IfOk-weaker c.push_conns.result _ _
    (λ x adds. as_piece (net_lines_are c.args.cells c.args.net c.next_word.result c.args.words.now c.next_word.new.self c.next_word.ensures)
    (then_adds c.in_ok-push_numbered.ensures (then_adds c.in_ok-push_numbered-2.ensures (then_adds c.in_ok-push_text.ensures adds)))) c.push_conns.ensures.text
