use Rattle.std.proofs.Common.{refl, subst}
use Rattle.fp_match.specs.Clashes.{IsRefused}
use Rattle.fp_check.proofs.Priced.{distinct_by_rows, no_clash}
use Rattle.fp_check.proofs.Scored.{never}
use Rattle.fp_check.proofs.cuts.are_distinct.Goals as goal

pub returns-in-Ok : goal.returns-in-Ok
returns-in-Ok c = (λ _. distinct_by_rows c.args.slots.now c.in-Ok.ensures.distinct, λ _. refl)

pub returns-in-Err-Same : goal.returns-in-Err-Same
returns-in-Err-Same c =
    let clash = subst (IsRefused c.args.slots.now) c.in-Err-Same.field-0-is c.in-Err-Same.ensures.refused in
    (never _, λ distinct. absurd (no_clash c.args.slots.now c.in-Err-Same.field-0-0 c.in-Err-Same.field-0-1 clash distinct))
