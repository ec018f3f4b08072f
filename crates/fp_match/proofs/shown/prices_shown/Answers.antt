use Rattle.std.proofs.Common.{refl}
use Rattle.fp_match.proofs.LeastShown.{shown_least}
use Rattle.fp_match.proofs.shown.prices_shown.Goals as goal

pub returns-then-unused_are_free-clause-least : goal.returns-then-unused_are_free-clause-least
returns-then-unused_are_free-clause-least g c = λ shown.
    shown_least (g.C.Costs.cost_of c.args.costs.now) (g.C.Costs.row_count c.args.costs.now) (g.C.Costs.column_count c.args.costs.now)
    c.choice.inside c.args.choice.now c.args.prices.now c.deref.result.now c.deref-then-unused_are_free.result.now
    c.deref.ensures.value c.deref-then-unused_are_free.ensures.value c.choice.view_is c.choice.invariant
    c.requires.rows c.requires.columns c.requires.prices
    (c.if-unused_are_free.ensures.0 refl) (c.rows_are_best.ensures.0 shown)
