-- How far the conditions are known to hold, and what is found over a grid.
use Rattle.std.specs.Prelude.{◌≡◌, ◌↔◌, ℕ, ◌<◌, Bool, IsTrue}
use Rattle.fp_tech.specs.Slots.{Slots}
use Rattle.fp_netlist.specs.Netlist.{Netlist}
use Rattle.fp_place.specs.Drawing.{Drawing}
use Rattle.fp_cert.specs.declared.finding.Finding.{Finding}
use Rattle.fp_cert.specs.declared.finding.Finding.TheVariants.{Yes, No}
use Rattle.fp_cert.specs.Shown.{ShownRun}
use Rattle.fp_check.specs.Conditions.{Condition, number_of, Holds, IsFirstFalse}

-- each condition below a number holds
abbrev pub HoldBelow : Netlist → Slots → Drawing → ShownRun → ℕ → Type 0
HoldBelow p grid drawing run number = (condition : Condition) → number_of condition < number → Holds p grid drawing run condition

-- an answer tells whether the condition of a number holds
pub record IsTold (p : Netlist) (grid : Slots) (drawing : Drawing) (run : ShownRun) (number : ℕ) (answer : Bool) : Type 0 where
  pub condition : Condition
  pub number_is : number_of condition ≡ number
  pub told : IsTrue answer ↔ Holds p grid drawing run condition

-- over this grid all hold, or this is the first that does not
abbrev pub FindsAt : Netlist → Slots → Drawing → ShownRun → Finding → Type 0
FindsAt p grid drawing run Yes = (condition : Condition) → Holds p grid drawing run condition
FindsAt p grid drawing run (No number) = (condition : Condition) × (number ≡ number_of condition) × IsFirstFalse p grid drawing run condition
