-- Terminals that are too close to each other.
use Rattle.std.specs.Prelude.{◌≡◌, ◌≢◌, ℕ, ◌<◌, List, length, Option, Some, None, get_or}
use Rattle.fp_base.specs.declared.ids.Point.{Point}
use Rattle.fp_tech.specs.declared.dies.TermSpec.{TermSpec}
use Rattle.fp_tech.specs.Slots.{AreApart}

-- a net's terminal, if it has one, is apart from those of all other nets
abbrev pub IsApart : TermSpec → List (Option Point) → ℕ → Type 0
IsApart terminal centres net = (centre : Point) → get_or centres net None ≡ Some centre
    → (other : ℕ) → other ≢ net → (point : Point) → get_or centres other None ≡ Some point → AreApart terminal centre point

-- the first net whose terminal is too close to some other, or none
abbrev pub FindsClose : TermSpec → List (Option Point) → Option ℕ → Type 0
FindsClose terminal centres None = (net : ℕ) → net < length centres → IsApart terminal centres net
FindsClose terminal centres (Some net) = (net < length centres) × (IsApart terminal centres net → ⊥) × ((before : ℕ) → before < net → IsApart terminal centres before)
