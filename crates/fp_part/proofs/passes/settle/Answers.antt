use Rattle.std.proofs.Common.{◌≡◌, ◌<◌, ◌≤◌, ℕ, List, length, subst, sym, ◌∙◌, ap}
use Rattle.std.specs.Result.{IfOk}
use Rattle.std.proofs.lemmas.Result.{IfOk-weaker}
use Rattle.fp_base.specs.declared.ids.Die.{Die}
use Rattle.fp_place.specs.Cut.{cut}
use Rattle.fp_place.specs.Settled.{flipped, settled, KeepRules}
use Rattle.fp_part.specs.SettledLaws.{SettlingKeeps, settling_keeps}
use Rattle.fp_part.proofs.passes.settle.Goals as goal
use Rattle.fp_part.proofs.passes.settle.Goals.{After-drop}

abbrev Answers : After-drop → (List Die → Type 0) → Type 0
Answers c P = IfOk c.last_dies-dies.result (λ dies. P dies.items)

follows : (c : After-drop) (P Q : List Die → Type 0) → ((dies : List Die) → P dies → Q dies) → Answers c P → Answers c Q
follows c P Q each = IfOk-weaker c.last_dies-dies.result (λ dies. P dies.items) (λ dies. Q dies.items) (λ dies. each dies.items)

are_settled : (c : After-drop) → Answers c (λ dies. dies ≡ settled c.args.problem.now c.args.from.now)
are_settled c =
    let p = c.args.problem.now in
    follows c (λ dies. dies ≡ settled p c.in_ok-partition.partition.gains.dies) (λ dies. dies ≡ settled p c.args.from.now)
    (λ dies is. is ∙ ap (settled p) c.in_ok-partition.ensures.dies) c.last_dies-dies.ensures

keep : (c : After-drop) → Answers c (SettlingKeeps c.args.problem.now c.args.from.now)
keep c =
    let p = c.args.problem.now in let from = c.args.from.now in
    follows c (λ dies. dies ≡ settled p from) (SettlingKeeps p from)
    (λ dies is. subst (SettlingKeeps p from) (sym is) (settling_keeps p from c.requires)) (are_settled c)

pub returns : goal.returns
returns c =
    let p = c.args.problem.now in let from = c.args.from.now in let after = (goal.at.returns c).After-drop in
    record {
      settled = are_settled after;
      rules = follows after (SettlingKeeps p from) (KeepRules p) (λ dies keeps. keeps.rules) (keep after);
      cut = follows after (SettlingKeeps p from) (λ dies. cut p dies ≤ cut p from) (λ dies keeps. keeps.no_more_cut) (keep after);
      steady = follows after (SettlingKeeps p from) (λ dies. (cell : ℕ) → cell < length p.cells → KeepRules p (flipped dies cell) → cut p dies ≤ cut p (flipped dies cell))
          (λ dies keeps. keeps.steady) (keep after);
    }
