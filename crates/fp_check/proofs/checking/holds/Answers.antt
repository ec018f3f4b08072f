use Rattle.std.proofs.Common.{rules, ◌≡◌, arith}
use Rattle.std.specs.Prelude.{◌↔◌, IsTrue}
use Rattle.std.proofs.lemmas.Result.{IfOk-weaker}
use Rattle.fp_check.specs.Conditions.{TrialsGoOn, CellsStandOnce, StartsFromSeed, DiesKeepRules, CutNoMore, DiesAreSettled, HaveTargets, HaveRows, RowsAreFeasible, RowsHaveDuals, CutNetsAreListed, SlotsHavePrices, ScoresAreRight, BetterIsBetter, DrawsAnswer, Holds, GoesOnFromStart}
use Rattle.fp_check.specs.Finding.{IsTold}
use Rattle.fp_check.specs.RoomLaws.{rooms, has_layouts}
use Rattle.fp_check.specs.SoundLaws.{answer_right}
use Rattle.fp_check.proofs.Driving.{first_layout, first_rules, start_told, answer_within, answer_for, draws_told}
use Rattle.fp_check.proofs.checking.holds.Goals as goal
use Rattle.fp_check.proofs.checking.holds.Goals.{Start}

goes : (c : Start) → GoesOnFromStart c.args.run.now
goes c = c.requires.below TrialsGoOn (omega (arith, c.requires.from))

pub starts_from_seed-requires-clause-first : goal.starts_from_seed-requires-clause-first
starts_from_seed-requires-clause-first c =
    first_layout c.args.problem.now c.args.grid.now c.args.run.now c.args.views.now c.requires.views (goes (goal.at.starts_from_seed-requires-clause-first c).Start)

pub are_settled-requires-clause-rules : goal.are_settled-requires-clause-rules
are_settled-requires-clause-rules c =
    first_rules c.args.problem.now c.args.grid.now c.args.run.now c.args.views.now c.requires.views (goes (goal.at.are_settled-requires-clause-rules c).Start)
    (c.requires.below StartsFromSeed (omega (arith, c.in-7.is)))

pub have_targets-requires-clause-bases : goal.have_targets-requires-clause-bases
have_targets-requires-clause-bases c = has_layouts c.args.run.now (goes (goal.at.have_targets-requires-clause-bases c).Start)

pub have_rows-requires-clause-bases : goal.have_rows-requires-clause-bases
have_rows-requires-clause-bases c = has_layouts c.args.run.now (goes (goal.at.have_rows-requires-clause-bases c).Start)

pub have_rows-requires-clause-rules : goal.have_rows-requires-clause-rules
have_rows-requires-clause-rules c = c.requires.below DiesKeepRules (omega (arith, c.in-9.is))

pub have_rows-requires-clause-targets : goal.have_rows-requires-clause-targets
have_rows-requires-clause-targets c = c.requires.below HaveTargets (omega (arith, c.in-9.is))

pub are_feasible-requires : goal.are_feasible-requires
are_feasible-requires c =
    rooms c.args.problem.now c.args.grid.now c.args.run.now c.cells-cells.ensures.sound c.requires.of_problem (c.requires.below CellsStandOnce (omega (arith, c.in-10.is)))
    (c.requires.below StartsFromSeed (omega (arith, c.in-10.is))) (c.requires.below HaveRows (omega (arith, c.in-10.is)))

pub have_duals-requires-clause-room : goal.have_duals-requires-clause-room
have_duals-requires-clause-room c =
    rooms c.args.problem.now c.args.grid.now c.args.run.now c.cells-cells.ensures.sound c.requires.of_problem (c.requires.below CellsStandOnce (omega (arith, c.in-11.is)))
    (c.requires.below StartsFromSeed (omega (arith, c.in-11.is))) (c.requires.below HaveRows (omega (arith, c.in-11.is)))

pub have_duals-requires-clause-feasible : goal.have_duals-requires-clause-feasible
have_duals-requires-clause-feasible c = c.requires.below RowsAreFeasible (omega (arith, c.in-11.is))

pub have_prices-requires-clause-listed : goal.have_prices-requires-clause-listed
have_prices-requires-clause-listed c = c.requires.below CutNetsAreListed (omega (arith, c.in-13.is))

pub have_scores-requires-clause-listed : goal.have_scores-requires-clause-listed
have_scores-requires-clause-listed c = c.requires.below CutNetsAreListed (omega (arith, c.in-14.is))

pub draws_answer-requires-clause-within : goal.draws_answer-requires-clause-within
draws_answer-requires-clause-within c =
    answer_within c.args.problem.now c.args.grid.now c.args.run.now c.args.views.now c.requires.views (goes (goal.at.draws_answer-requires-clause-within c).Start)

pub draws_answer-requires-clause-right : goal.draws_answer-requires-clause-right
draws_answer-requires-clause-right c =
    let p = c.args.problem.now in
    let last : c.args.number ≡ 16 = search rules in
    answer_for p c.args.grid.now c.args.run.now c.args.views.now c.requires.views (goes (goal.at.draws_answer-requires-clause-right c).Start) c.args.drawn.now c.cells-cells.ensures.sound c.requires.grid
    c.requires.nets
    (answer_right p c.args.grid.now c.args.drawn.now c.args.run.now c.cells-cells.ensures.sound c.requires.grid c.requires.of_problem (λ condition below. c.requires.below condition (omega (arith, below, last))))

pub returns-in-4 : goal.returns-in-4
returns-in-4 c = record {
  condition = StartsFromSeed;
  number_is = omega (arith, c.in-4.is);
  told = start_told c.args.problem.now c.args.grid.now c.args.run.now c.args.views.now c.requires.views (goes (goal.at.returns-in-4 c).Start) c.args.seed.now c.starts_from_seed.result c.requires.seed
      c.starts_from_seed.ensures;
}

pub returns-in-5 : goal.returns-in-5
returns-in-5 c = record { condition = DiesKeepRules; number_is = omega (arith, c.in-5.is); told = c.keep_rules.ensures }

pub returns-in-6 : goal.returns-in-6
returns-in-6 c = record { condition = CutNoMore; number_is = omega (arith, c.in-6.is); told = c.cut_no_more.ensures }

pub returns-in-15 : goal.returns-in-15
returns-in-15 c = record { condition = BetterIsBetter; number_is = omega (arith, c.in-15.is); told = c.are_better_rightly.ensures }

pub returns-in-7 : goal.returns-in-7
returns-in-7 c =
    IfOk-weaker c.are_settled.result (λ b. IsTrue b ↔ Holds c.args.problem.now c.args.grid.now c.args.drawn.now c.args.run.now DiesAreSettled)
    (IsTold c.args.problem.now c.args.grid.now c.args.drawn.now c.args.run.now c.args.number)
    (λ b told. record { condition = DiesAreSettled; number_is = omega (arith, c.in-7.is); told = told }) c.are_settled.ensures

pub returns-in-8 : goal.returns-in-8
returns-in-8 c =
    IfOk-weaker c.have_targets.result (λ b. IsTrue b ↔ Holds c.args.problem.now c.args.grid.now c.args.drawn.now c.args.run.now HaveTargets)
    (IsTold c.args.problem.now c.args.grid.now c.args.drawn.now c.args.run.now c.args.number)
    (λ b told. record { condition = HaveTargets; number_is = omega (arith, c.in-8.is); told = told }) c.have_targets.ensures

pub returns-in-9 : goal.returns-in-9
returns-in-9 c =
    IfOk-weaker c.have_rows.result (λ b. IsTrue b ↔ Holds c.args.problem.now c.args.grid.now c.args.drawn.now c.args.run.now HaveRows)
    (IsTold c.args.problem.now c.args.grid.now c.args.drawn.now c.args.run.now c.args.number)
    (λ b told. record { condition = HaveRows; number_is = omega (arith, c.in-9.is); told = told }) c.have_rows.ensures

pub returns-in-10 : goal.returns-in-10
returns-in-10 c =
    IfOk-weaker c.are_feasible.result (λ b. IsTrue b ↔ Holds c.args.problem.now c.args.grid.now c.args.drawn.now c.args.run.now RowsAreFeasible)
    (IsTold c.args.problem.now c.args.grid.now c.args.drawn.now c.args.run.now c.args.number)
    (λ b told. record { condition = RowsAreFeasible; number_is = omega (arith, c.in-10.is); told = told }) c.are_feasible.ensures

pub returns-in-11 : goal.returns-in-11
returns-in-11 c =
    IfOk-weaker c.have_duals.result (λ b. IsTrue b ↔ Holds c.args.problem.now c.args.grid.now c.args.drawn.now c.args.run.now RowsHaveDuals)
    (IsTold c.args.problem.now c.args.grid.now c.args.drawn.now c.args.run.now c.args.number)
    (λ b told. record { condition = RowsHaveDuals; number_is = omega (arith, c.in-11.is); told = told }) c.have_duals.ensures

pub returns-in-12 : goal.returns-in-12
returns-in-12 c =
    IfOk-weaker c.list_cuts.result (λ b. IsTrue b ↔ Holds c.args.problem.now c.args.grid.now c.args.drawn.now c.args.run.now CutNetsAreListed)
    (IsTold c.args.problem.now c.args.grid.now c.args.drawn.now c.args.run.now c.args.number)
    (λ b told. record { condition = CutNetsAreListed; number_is = omega (arith, c.in-12.is); told = told }) c.list_cuts.ensures

pub returns-in-13 : goal.returns-in-13
returns-in-13 c =
    IfOk-weaker c.have_prices.result (λ b. IsTrue b ↔ Holds c.args.problem.now c.args.grid.now c.args.drawn.now c.args.run.now SlotsHavePrices)
    (IsTold c.args.problem.now c.args.grid.now c.args.drawn.now c.args.run.now c.args.number)
    (λ b told. record { condition = SlotsHavePrices; number_is = omega (arith, c.in-13.is); told = told }) c.have_prices.ensures

pub returns-in-14 : goal.returns-in-14
returns-in-14 c = record { condition = ScoresAreRight; number_is = omega (arith, c.in-14.is); told = c.have_scores.ensures c.args.grid.now c.requires.views }

pub returns-in_default : goal.returns-in_default
returns-in_default c =
    let p = c.args.problem.now in
    let last : c.args.number ≡ 16 = search rules in
    IfOk-weaker c.draws_answer.result _ (IsTold p c.args.grid.now c.args.drawn.now c.args.run.now c.args.number)
    (λ b tells. record {
      condition = DrawsAnswer;
      number_is = omega (arith, last);
      told = draws_told p c.args.grid.now c.args.run.now c.args.views.now c.requires.views (goes (goal.at.returns-in_default c).Start) c.args.drawn.now b tells;
    }) c.draws_answer.ensures
