use Rattle.fp_place.specs.Settled.{KeepRules}
use Rattle.fp_check.proofs.Nexts.{OfViews}
use Rattle.fp_check.proofs.dies.keep_rules.Given as goal

abbrev pub invariant-loop-number : goal.invariant-loop-number
invariant-loop-number l = OfViews l.views l.number (λ base view. KeepRules l.problem view.dies.items)
