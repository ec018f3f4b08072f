use Rattle.std.proofs.Common.{ℕ, List, sym, subst}
use Rattle.std.proofs.lemmas.Result.{IfOk-weaker}
use Rattle.fp_base.specs.declared.ids.Point.{Point}
use Rattle.fp_place.specs.Places.{dies_of}
use Rattle.fp_place.specs.Placed.{places_of}
use Rattle.fp_place.specs.Settled.{KeepRules}
use Rattle.fp_part.specs.SettledLaws.{settling_keeps}
use Rattle.fp_score.specs.Target.{AreTargets}
use Rattle.fp_flow.specs.Steps.{IsOfTargets, IsNext}
use Rattle.fp_flow.proofs.Stepping.{next_is}
use Rattle.fp_flow.proofs.step.step.Goals as goal
use Rattle.fp_flow.proofs.step.step.Goals.{Start}

rules : (c : Start) → KeepRules c.args.problem.now c.args.dies.now
rules c = subst (KeepRules c.args.problem.now) (sym c.requires.dies) (settling_keeps c.args.problem.now (dies_of (places_of c.args.base.now)) c.requires.base.rules).rules

pub targets-requires-clause-dies : goal.targets-requires-clause-dies
targets-requires-clause-dies c = (rules c).cells

pub by_targets-made-requires-clause-rules : goal.by_targets-made-requires-clause-rules
by_targets-made-requires-clause-rules c = rules (goal.at.by_targets-made-requires-clause-rules c).Start

pub returns-clause-next : goal.returns-clause-next
returns-clause-next c =
    let p = c.args.problem.now in
    let grid = c.args.grid.now in
    let dies = c.args.dies.now in
    let base = c.args.shown.now in
    let targets = c.deref.result.now in
    let are = subst (λ (list : List Point). AreTargets p (places_of c.args.base.now) dies list) (sym c.deref.ensures.value) c.in_ok-targets.ensures.targets in
    IfOk-weaker c.by_targets-made.result (λ made. IsOfTargets p grid dies targets c.score.result made.trial made.better) (λ made. IsNext p grid base made.trial made.better)
    (λ made is. next_is p grid dies targets base made.trial c.args.base.now made.better c.requires.base c.requires.dies are
    (subst (λ (n : ℕ). IsOfTargets p grid dies targets n made.trial made.better) c.score.ensures is)) c.by_targets-made.ensures.made
