use Rattle.std.proofs.Common.{ap, arith}
use Rattle.fp_match.proofs.Assigned.{solved_prices, solved_least, solved_capped}
use Rattle.fp_match.proofs.matcher.Matcher.solve.Goals as goal

pub returns-clause-prices : goal.returns-clause-prices
returns-clause-prices g c =
    rw (c.rows-self-inside.ensures.value, c.columns-self-inside.ensures)
    (solved_prices _ _ _ _ c.assign.ensures.matched (omega (arith, c.assign.ensures.sizes.chosen, c.requires.row_room, ap (λ v. v.row_room) c.self.view_is))
    c.rows-self-inside.ensures.limits.most_rows)

pub returns-clause-least : goal.returns-clause-least
returns-clause-least g c =
    rw c.rows-self-inside.ensures.value
    (solved_least _ _ _ _ c.assign.ensures.matched (omega (arith, c.assign.ensures.sizes.chosen, c.requires.row_room, ap (λ v. v.row_room) c.self.view_is))
    (omega (arith, c.assign.ensures.sizes.prices, c.requires.column_room, ap (λ v. v.column_room) c.self.view_is))
    c.rows-self-inside.ensures.limits.most_rows)

pub returns-clause-capped : goal.returns-clause-capped
returns-clause-capped g c =
    rw c.columns-self-inside.ensures
    (solved_capped _ _ _ _ c.assign.ensures.matched
    (omega (arith, c.assign.ensures.sizes.prices, c.requires.column_room, ap (λ v. v.column_room) c.self.view_is)))
