use Rattle.std.proofs.Common.{◌∙◌, map, ap, arith}
use Rattle.std.proofs.lemmas.List.{take_all}
use Rattle.fp_cert.specs.declared.shown.CellShown.{CellShown}
use Rattle.fp_cert.specs.StandingLaws.{targets_of_lines}
use Rattle.fp_cert.proofs.by_cell.targets_of.Goals as goal

pub returns : goal.returns
returns c =
    let all = take_all c.loop-line.line-index c.deref-line-items.result.now (omega (arith, c.loop-line-test.false)) in
    c.loop-line.invariant ∙ ap (map (λ (line : CellShown). line.target)) (all ∙ c.deref-line-items.ensures.value ∙ c.in_ok-lines.ensures) ∙ targets_of_lines c.args.problem.now c.args.trial.now
