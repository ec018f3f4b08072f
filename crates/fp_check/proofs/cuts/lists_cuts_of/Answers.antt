use Rattle.std.proofs.Common.{◌↔◌, ◌∙◌, List, map, subst, sym, ap}
use Rattle.std.specs.Prelude.{nat_eq}
use Rattle.std.specs.List.{IsDistinct}
use Rattle.fp_cert.specs.declared.shown.CutShown.{CutShown}
use Rattle.fp_check.specs.Conditions.{AreCutsListed}
use Rattle.fp_check.specs.CutLines.{slots_of}
use Rattle.fp_check.proofs.Priced.{nets_shown}
use Rattle.fp_check.proofs.Scored.{never, ok_as}
use Rattle.fp_check.proofs.cuts.lists_cuts_of.Goals as goal

pub returns-then-not-listed : goal.returns-then-not-listed
returns-then-not-listed c =
    let rows = nets_shown c.args.problem.now c.args.grid.now c.args.trial.now c.args.layout.now.placement c.in_ok-costs.costs c.requires.layout.has c.requires.layout.placement_is c.in_ok-costs.ensures in
    (never _, λ listed. sym c.if-not-listed.true ∙ c.lists_rows-listed.ensures.1 (ap (map (λ (cut : CutShown). cut.net.0)) c.cuts.ensures ∙ listed.nets ∙ sym rows))

pub returns : goal.returns
returns c =
    let p = c.args.problem.now in
    let trial = c.args.trial.now in
    let rows = nets_shown p c.args.grid.now trial c.args.layout.now.placement c.in_ok-costs.costs c.requires.layout.has c.requires.layout.placement_is c.in_ok-costs.ensures in
    let nets = ap (map (λ (cut : CutShown). cut.net.0)) (sym c.cuts.ensures) ∙ c.lists_rows-listed.ensures.0 c.if-not-listed.false ∙ rows in
    ok_as c.have_own_slots.result (IsDistinct nat_eq (slots_of c.cuts-2.result.now)) (AreCutsListed p trial)
    (subst (λ (cuts : List CutShown). IsDistinct nat_eq (slots_of cuts) ↔ AreCutsListed p trial) (sym c.cuts-2.ensures)
    (λ distinct. record { nets = nets; slots = distinct }, λ listed. listed.slots)) c.have_own_slots.ensures
