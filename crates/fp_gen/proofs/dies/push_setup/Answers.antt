use Rattle.std.proofs.lemmas.Result.{IfOk-weaker}
use Rattle.fp_gen.proofs.Growing.{then_adds, adds_last}
use Rattle.fp_gen.proofs.dies.push_setup.Goals as goal

pub returns : goal.returns
returns c =
    IfOk-weaker c.push_line-7.result _ _
    (λ x adds. then_adds c.in_ok-push_line.ensures (then_adds c.in_ok-push_line-2.ensures (then_adds c.in_ok-push_line-3.ensures
    (then_adds c.in_ok-push_line-4.ensures (then_adds c.in_ok-push_line-5.ensures (then_adds c.in_ok-push_text.ensures
    (then_adds c.in_ok-push_line-6.ensures (adds_last adds)))))))) c.push_line-7.ensures
