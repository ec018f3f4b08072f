use Rattle.std.proofs.Common.{◌↔◌, ◌∙◌, List, map, subst, sym, ap}
use Rattle.fp_tech.specs.Slots.{slot_count}
use Rattle.fp_cert.specs.declared.shown.CutShown.{CutShown}
use Rattle.fp_cert.specs.Certified.{ArePricesShown}
use Rattle.fp_check.specs.CutLines.{AreBest}
use Rattle.fp_check.proofs.Priced.{IsPriced, many_lines, nets_shown, cuts_within, best_shown}
use Rattle.fp_check.proofs.Scored.{ok_as}
use Rattle.fp_check.proofs.cuts.has_prices_of.Goals as goal

pub are_best-shown-requires-clause-many : goal.are_best-shown-requires-clause-many
are_best-shown-requires-clause-many c =
    let p = c.args.problem.now in
    let trial = c.args.trial.now in
    let nets = c.requires.listed.nets
    ∙ sym (nets_shown p c.args.grid.now trial c.args.layout.now.placement c.in_ok-costs.costs c.requires.layout.has c.requires.layout.placement_is c.in_ok-costs.ensures) in
    many_lines c.in_ok-costs.costs c.cuts.result.now (ap (map (λ (cut : CutShown). cut.net.0)) c.cuts.ensures ∙ nets)

pub returns : goal.returns
returns c =
    let p = c.args.problem.now in
    let grid = c.args.grid.now in
    let trial = c.args.trial.now in
    let placed = c.args.layout.now.placement in
    let table = c.in_ok-costs.costs in
    let priced : IsPriced p grid trial placed table = record {
      shows = c.requires.layout.placement_is;
      costs = c.in_ok-costs.ensures;
      nets = c.requires.listed.nets ∙ sym (nets_shown p grid trial placed table c.requires.layout.has c.requires.layout.placement_is c.in_ok-costs.ensures);
      slots = c.requires.listed.slots;
      within = cuts_within p (slot_count grid) trial.cuts c.requires.cuts;
    } in
    ok_as c.are_best-shown.result (AreBest table c.cuts.result.now) (ArePricesShown p grid trial)
    (subst (λ (cuts : List CutShown). AreBest table cuts ↔ ArePricesShown p grid trial) (sym c.cuts.ensures) (best_shown p grid trial placed table priced)) c.are_best-shown.ensures
