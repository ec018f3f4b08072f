-- Laws of the order of the conditions: one after the other holds, up to all of them or to the first that does not.
use Rattle.std.specs.Prelude.{◌≡◌, ◌⊎◌, ℕ, ◌+◌, ◌<◌, ◌≤◌, ◌==◌, if◌then◌else◌}
use Rattle.std.proofs.Common.{refl, sym, ap, subst, ◌∙◌, inl, inr, arith}
use Rattle.std.proofs.lemmas.Bool.{cases_order}
use Rattle.fp_tech.specs.Slots.{Slots, IsGrid}
use Rattle.fp_netlist.specs.Netlist.{Netlist}
use Rattle.fp_place.specs.Drawing.{Drawing}
use Rattle.fp_cert.specs.Shown.{ShownRun}
use Rattle.fp_check.specs.Conditions.{Condition, SeedStands, TrialsGoOn, CellsStandOnce, StartsFromSeed, DiesKeepRules, CutNoMore, DiesAreSettled, HaveTargets, HaveRows, RowsAreFeasible, RowsHaveDuals, CutNetsAreListed, SlotsHavePrices, ScoresAreRight, BetterIsBetter, DrawsAnswer, number_of, Holds, CertOk, IsFirstFalse, FirstFalse}

-- the condition of a number
abbrev condition_of : ℕ → Condition
condition_of number =
    if number == 1 then SeedStands else if number == 2 then TrialsGoOn else if number == 3 then CellsStandOnce else if number == 4 then StartsFromSeed
    else if number == 5 then DiesKeepRules else if number == 6 then CutNoMore else if number == 7 then DiesAreSettled else if number == 8 then HaveTargets
    else if number == 9 then HaveRows else if number == 10 then RowsAreFeasible else if number == 11 then RowsHaveDuals else if number == 12 then CutNetsAreListed
    else if number == 13 then SlotsHavePrices else if number == 14 then ScoresAreRight else if number == 15 then BetterIsBetter else DrawsAnswer

found_again : (condition : Condition) → condition_of (number_of condition) ≡ condition
found_again SeedStands = refl
found_again TrialsGoOn = refl
found_again CellsStandOnce = refl
found_again StartsFromSeed = refl
found_again DiesKeepRules = refl
found_again CutNoMore = refl
found_again DiesAreSettled = refl
found_again HaveTargets = refl
found_again HaveRows = refl
found_again RowsAreFeasible = refl
found_again RowsHaveDuals = refl
found_again CutNetsAreListed = refl
found_again SlotsHavePrices = refl
found_again ScoresAreRight = refl
found_again BetterIsBetter = refl
found_again DrawsAnswer = refl

-- each condition has a number of its own
pub same_condition : (a b : Condition) → number_of a ≡ number_of b → a ≡ b
same_condition a b same = sym (found_again a) ∙ ap condition_of same ∙ found_again b

-- from 1 to 16
record IsNumber (number : ℕ) : Type 0 where
  from : 1 ≤ number
  to : number < 17

in_range : (condition : Condition) → IsNumber (number_of condition)
in_range SeedStands = record { from = omega arith; to = omega arith }
in_range TrialsGoOn = record { from = omega arith; to = omega arith }
in_range CellsStandOnce = record { from = omega arith; to = omega arith }
in_range StartsFromSeed = record { from = omega arith; to = omega arith }
in_range DiesKeepRules = record { from = omega arith; to = omega arith }
in_range CutNoMore = record { from = omega arith; to = omega arith }
in_range DiesAreSettled = record { from = omega arith; to = omega arith }
in_range HaveTargets = record { from = omega arith; to = omega arith }
in_range HaveRows = record { from = omega arith; to = omega arith }
in_range RowsAreFeasible = record { from = omega arith; to = omega arith }
in_range RowsHaveDuals = record { from = omega arith; to = omega arith }
in_range CutNetsAreListed = record { from = omega arith; to = omega arith }
in_range SlotsHavePrices = record { from = omega arith; to = omega arith }
in_range ScoresAreRight = record { from = omega arith; to = omega arith }
in_range BetterIsBetter = record { from = omega arith; to = omega arith }
in_range DrawsAnswer = record { from = omega arith; to = omega arith }

-- none has a number below 1
pub none_before : (p : Netlist) (grid : Slots) (drawing : Drawing) (run : ShownRun) (condition : Condition) → number_of condition < 1 → Holds p grid drawing run condition
none_before p grid drawing run condition below = let number = in_range condition in absurd (omega (arith, below, number.from))

-- where the conditions before one hold and it does, they hold up to it
pub hold_on : (p : Netlist) (grid : Slots) (drawing : Drawing) (run : ShownRun) (condition : Condition)
    → ((other : Condition) → number_of other < number_of condition → Holds p grid drawing run other) → Holds p grid drawing run condition
    → (other : Condition) → number_of other < number_of condition + 1 → Holds p grid drawing run other
hold_on p grid drawing run condition before here other below = by (cases_order (number_of other) (number_of condition))
  where
    by : (number_of other ≡ number_of condition) ⊎ ((number_of other < number_of condition) ⊎ (number_of condition < number_of other)) → Holds p grid drawing run other
    by (inl same) = subst (Holds p grid drawing run) (sym (same_condition other condition same)) here
    by (inr (inl less)) = before other less
    by (inr (inr more)) = absurd (omega (arith, below, more))

-- where they hold up to the last, each holds,
pub each_holds : (p : Netlist) (grid : Slots) (drawing : Drawing) (run : ShownRun) → ((condition : Condition) → number_of condition < 17 → Holds p grid drawing run condition)
    → (condition : Condition) → Holds p grid drawing run condition
each_holds p grid drawing run hold condition = hold condition (in_range condition).to

-- and so all of them
pub all_hold : (p : Netlist) (grid : Slots) (drawing : Drawing) (run : ShownRun) → IsGrid p.plan.frame p.plan.terminal grid
    → ((condition : Condition) → number_of condition < 17 → Holds p grid drawing run condition) → CertOk p drawing run
all_hold p grid drawing run is_grid hold = (grid, is_grid, each_holds p grid drawing run hold)

-- and where one does not, it is the first that is false
pub first_false : (p : Netlist) (grid : Slots) (drawing : Drawing) (run : ShownRun) (condition : Condition) (number : ℕ) → IsGrid p.plan.frame p.plan.terminal grid
    → number ≡ number_of condition → IsFirstFalse p grid drawing run condition → FirstFalse p drawing run number
first_false p grid drawing run condition number is_grid same first = record { grid = grid; is_grid = is_grid; condition = condition; number_is = same; first = first }
