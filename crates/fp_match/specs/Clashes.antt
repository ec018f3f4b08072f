-- Why a list is no choice.
use Rattle.std.specs.Prelude.{ℕ, List}
use Rattle.fp_match.specs.declared.choice.ChoiceFault.{ChoiceFault}
use Rattle.fp_match.specs.declared.choice.ChoiceFault.TheVariants.{Same, Memory}
use Rattle.fp_match.specs.Prices.{IsFirstClash}

-- the fault is told of the first clash, and want of memory freely
abbrev pub IsRefused : List ℕ → ChoiceFault → Type 0
IsRefused chosen (Same first second) = IsFirstClash chosen first second
IsRefused chosen Memory = Unit {0}
