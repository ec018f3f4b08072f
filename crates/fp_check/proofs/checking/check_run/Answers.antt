use Rattle.std.proofs.Common.{◌≡◌, Bool, true, false, refl, sym, ◌∙◌}
use Rattle.std.specs.Prelude.{IsTrue}
use Rattle.fp_check.specs.Conditions.{TrialsGoOn, CellsStandOnce}
use Rattle.fp_check.specs.Finding.{HoldBelow}
use Rattle.fp_check.proofs.Driving.{below_two, told_on, told_first}
use Rattle.fp_check.proofs.checking.check_run.Goals as goal

not_so : (b : Bool) → b ≡ false → IsTrue b → ⊥
not_so b is so = absurd (let no : false ≡ true = sym is ∙ so in cc)

pub returns-then-not-goes_on : goal.returns-then-not-goes_on
returns-then-not-goes_on c =
    let p = c.args.problem.now in
    told_first p c.args.grid.now c.args.drawn.now c.args.run.now 2 c.goes_on.result (below_two p c.args.grid.now c.args.drawn.now c.args.run.now c.args.seed.now c.requires.seed)
    (record { condition = TrialsGoOn; number_is = refl; told = c.goes_on.ensures }) (not_so c.goes_on.result c.if-not-goes_on.true)

pub returns-then-not-branch : goal.returns-then-not-branch
returns-then-not-branch c =
    let p = c.args.problem.now in
    let two = below_two p c.args.grid.now c.args.drawn.now c.args.run.now c.args.seed.now c.requires.seed in
    let three : HoldBelow p c.args.grid.now c.args.drawn.now c.args.run.now 3 =
    told_on p c.args.grid.now c.args.drawn.now c.args.run.now 2 c.goes_on.result two (record { condition = TrialsGoOn; number_is = refl; told = c.goes_on.ensures }) c.if-not-goes_on.false in
    told_first p c.args.grid.now c.args.drawn.now c.args.run.now 3 c.in_ok-lists_once.field-0 three
    (record { condition = CellsStandOnce; number_is = refl; told = c.in_ok-lists_once.ensures }) (not_so c.in_ok-lists_once.field-0 c.if-not-branch.true)
