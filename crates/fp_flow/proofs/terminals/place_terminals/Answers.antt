use Rattle.std.proofs.Common.{◌≡◌, ◌∙◌, ◌++◌, List, Option, map, ap, sym, subst, length, arith}
use Rattle.fp_base.specs.declared.ids.Point.{Point}
use Rattle.fp_tech.specs.Slots.{Slots, slot_count}
use Rattle.fp_place.specs.Places.{dies_of}
use Rattle.fp_place.specs.Placed.{Placed, places_of}
use Rattle.fp_match.specs.Prices.{IsChoice, ArePrices}
use Rattle.fp_score.specs.SlotBest.{chosen_terminals, IsSlotBest}
use Rattle.fp_slots.specs.LeastLaws.{least_is_best, chosen_by_rows}
use Rattle.fp_slots.specs.Table.{cost_of}
use Rattle.fp_cert.specs.Shown.{ShownTrial}
use Rattle.fp_flow.specs.Slotted.{with_slots, slotted_lines}
use Rattle.fp_flow.proofs.Slottings.{on_ok, others_stay, row_is_set, length-with_slots, nets_apart, lines_list_cuts, lines_list_slots, row_is_cut}
use Rattle.fp_flow.proofs.terminals.place_terminals.Goals as goal

pub returns-clause-slotted : goal.returns-clause-slotted
returns-clause-slotted c =
    on_ok c.list_cuts-listed.result (λ listed.
    let p = c.args.problem.now in
    let grid = c.args.grid.now in
    let placed = c.args.placement.now in
    let table = c.in_ok-costs.costs in
    let solution = c.solve.new.self in
    let is = c.in_ok-costs.ensures in
    let set_all = with_slots grid table solution.chosen (length table.rows) placed.terminals in
    let many : length set_all ≡ length p.nets = length-with_slots grid table solution.chosen (length table.rows) placed.terminals ∙ c.requires.of_problem.nets in
    let chosen : set_all ≡ chosen_terminals p grid (dies_of (places_of placed)) solution.chosen =
    chosen_by_rows p placed grid table solution.chosen set_all is many
    (λ row below. row_is_set grid table solution.chosen (length table.rows) placed.terminals row below (omega (arith, (is.rows row below).within, c.requires.of_problem.nets))
    (λ other above least. nets_apart p placed grid table is row other above least))
    (λ net below uncut. others_stay grid table solution.chosen (length table.rows) placed.terminals net (λ row within. row_is_cut p placed grid table is row within net uncut) ∙ c.requires.alone net below uncut) in
    let slotted = c.set_terminals.ensures ∙ ap (λ (terminals : List (Option Point)). record placed { terminals = terminals }) chosen in
    let after = listed ∙ ap (λ cuts. record c.args.trial.now { cuts = cuts ++ slotted_lines table solution (length table.rows) }) c.requires.no_cuts in
    record {
      table = table;
      solution = solution;
      costs = is;
      slotted_is = slotted;
      best = subst (IsSlotBest p (places_of placed) grid) (sym (ap (λ (placed : Placed). placed.terminals) slotted))
          (least_is_best p placed grid table solution.chosen c.requires.of_problem is c.solve.ensures.choice c.solve.ensures.least);
      choice = subst (λ (slots : Slots). IsChoice (length table.rows) (slot_count slots) solution.chosen) is.slots c.solve.ensures.choice;
      prices = subst (λ (slots : Slots). ArePrices (cost_of table) (slot_count slots) solution.chosen solution.prices) is.slots c.solve.ensures.prices;
      capped = c.solve.ensures.capped;
      many_prices = c.solve.ensures.each_column ∙ ap slot_count is.slots;
      after_is = after;
      nets_are = ap (λ (trial : ShownTrial). map (λ cut. cut.net.0) trial.cuts) after ∙ lines_list_cuts p placed grid table solution is;
      slots_are = ap (λ (trial : ShownTrial). map (λ cut. cut.slot.0) trial.cuts) after ∙ lines_list_slots table solution (length table.rows) c.solve.ensures.choice.each_row;
    }) c.list_cuts-listed.ensures
