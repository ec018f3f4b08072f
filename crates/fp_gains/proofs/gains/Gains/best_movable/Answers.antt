use Rattle.std.proofs.Common.{◌∙◌, ap, sym}
use Rattle.std.specs.Option.{option_map}
use Rattle.fp_gains.proofs.BestLemmas.{number_of, kept_best}
use Rattle.fp_gains.proofs.gains.Gains.best_movable.Goals as goal

pub returns-in_err-better : goal.returns-in_err-better
returns-in_err-better c =
    ap (option_map (λ cell. cell.0)) c.from_residual.ensures
    ∙ ap number_of (sym c.in_err-better.was)
    ∙ kept_best c.args.problem.now c.args.caps.now c.self.inside.members c.self.inside.nets c.self.inside.state c.args.self.now c.best-top.result c.best-bottom.result c.better.result c.self.invariant c.self.view_is c.requires
    c.best-top.ensures c.best-bottom.ensures c.better.ensures

pub returns : goal.returns
returns c =
    ap number_of (sym c.in_ok-better.was)
    ∙ kept_best c.args.problem.now c.args.caps.now c.self.inside.members c.self.inside.nets c.self.inside.state c.args.self.now c.best-top.result c.best-bottom.result c.better.result c.self.invariant c.self.view_is c.requires
    c.best-top.ensures c.best-bottom.ensures c.better.ensures
