-- The first subject of which a rule does not hold, and the first rule that is broken.
use Rattle.std.specs.Prelude.{◌≡◌, ℕ, ◌<◌, nat_le, if◌then◌else◌, List, Option, Some, None}
use Rattle.fp_base.specs.declared.ids.Die.{Die}
use Rattle.fp_base.specs.declared.ids.Die.TheVariants.{Top, Bottom}
use Rattle.fp_netlist.specs.Netlist.{Netlist}
use Rattle.fp_place.specs.declared.judge.Subject.{Subject}
use Rattle.fp_place.specs.declared.judge.Subject.TheVariants.{Cell, Net, Side}
use Rattle.fp_place.specs.declared.fault.Fault.{Fault}
use Rattle.fp_place.specs.declared.fault.Fault.TheVariants.{Memory, Breaks}
use Rattle.fp_place.specs.Places.{Place}
use Rattle.fp_place.specs.Drawing.{Drawing}
use Rattle.fp_place.specs.Breaks.{Rule, rule_number, HoldsOfAll, subject_of, IsBrokenFirst}

-- of so many numbers, something does not hold of this one, and holds of all before
pub record IsFirst (count : ℕ) (holds : ℕ → Type 0) (number : ℕ) : Type 0 where
  pub counted : number < count
  pub broken : holds number → ⊥
  pub first : (before : ℕ) → before < number → holds before

-- the first such number, or none where it holds of all
abbrev pub FindsFirst : ℕ → (ℕ → Type 0) → Option ℕ → Type 0
FindsFirst count holds None = (number : ℕ) → number < count → holds number
FindsFirst count holds (Some number) = IsFirst count holds number

-- the lesser of two numbers that may be there
abbrev pub earlier : Option ℕ → Option ℕ → Option ℕ
earlier None other = other
earlier (Some number) None = Some number
earlier (Some number) (Some other) = Some (if nat_le number other then number else other)

-- a fault names a rule and the subject of the first number
pub record NamesFirst (count : ℕ) (holds : ℕ → Type 0) (rule : ℕ) (subject : ℕ → Subject) (told_rule : ℕ) (told : Subject) : Type 0 where
  pub number : ℕ
  pub rule_is : told_rule ≡ rule
  pub subject_is : told ≡ subject number
  pub is_first : IsFirst count holds number

abbrev pub IsFaultOf : ℕ → (ℕ → Type 0) → ℕ → (ℕ → Subject) → Fault → Type 0
IsFaultOf count holds rule subject Memory = Unit {0}
IsFaultOf count holds rule subject (Breaks told_rule told) = NamesFirst count holds rule subject told_rule told

abbrev pub cell_subject : ℕ → Subject
cell_subject number = Cell (record { 0 = number })

abbrev pub net_subject : ℕ → Subject
net_subject number = Net (record { 0 = number })

abbrev pub side_subject : Die → ℕ → Subject
side_subject die number = Side die

-- the rule of each die's percent
abbrev pub percent_rule : Die → ℕ
percent_rule Top = 5
percent_rule Bottom = 6

-- the rules below this number hold
abbrev pub HoldBelow : Netlist → Drawing → List Place → ℕ → Type 0
HoldBelow p drawing places rule = (other : Rule) → rule_number other < rule → HoldsOfAll p drawing places other

-- a fault is want of memory or the first break
abbrev pub IsFirstFault : Netlist → Drawing → List Place → Fault → Type 0
IsFirstFault p drawing places Memory = Unit {0}
IsFirstFault p drawing places (Breaks rule subject) = (broken : Rule) × (number : ℕ) × (rule ≡ rule_number broken) × (subject ≡ subject_of broken number)
    × IsBrokenFirst p drawing places broken number
