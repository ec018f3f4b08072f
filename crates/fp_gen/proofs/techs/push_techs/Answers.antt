use Rattle.std.proofs.lemmas.Result.{IfOk-weaker}
use Rattle.fp_gen.proofs.Growing.{then_adds, adds_last}
use Rattle.fp_gen.proofs.techs.push_techs.Goals as goal

pub returns : goal.returns
returns c =
    IfOk-weaker c.push_tech-2.result _ _ (λ x adds. then_adds c.in_ok-push_line.ensures (then_adds c.in_ok-push_tech.ensures (adds_last adds))) c.push_tech-2.ensures
