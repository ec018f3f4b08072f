use Rattle.std.proofs.Common.{◌≡◌, replicate, refl, rules}
use Rattle.fp_base.specs.declared.ids.Die.TheVariants.{Bottom}
use Rattle.fp_check.proofs.Viewing.{rowless_is}
use Rattle.fp_check.proofs.views.rowless_view.Goals as goal

pub returns : goal.returns
returns c =
    let bottoms : c.in_ok-dies.dies.items ≡ replicate c.cells.result Bottom = c.in_ok-dies.ensures.items_if_clones_equal (λ y same. search rules) in
    λ grid. rowless_is c.args.problem.now grid c.args.trial.now _ c.cells.result c.in_ok-dies.dies.items c.top_cells.result.now c.requires.rowless bottoms c.cells.ensures.count c.top_cells.ensures
    c.lift.ensures refl
