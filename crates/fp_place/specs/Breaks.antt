-- The first rule that a drawing breaks, and its first subject in file order.
use Rattle.std.specs.Prelude.{◌≡◌, ℕ, ◌<◌, List, length, find, None, get_or}
use Rattle.std.specs.Option.{option_map}
use Rattle.fp_base.specs.declared.ids.Die.TheVariants as dies
use Rattle.fp_netlist.specs.Netlist.{Netlist}
use Rattle.fp_place.specs.declared.judge.Subject.{Subject}
use Rattle.fp_place.specs.declared.judge.Subject.TheVariants.{Cell, Net, Side}
use Rattle.fp_place.specs.declared.judge.Judged.{Judged}
use Rattle.fp_place.specs.declared.judge.Judged.TheVariants as judged
use Rattle.fp_place.specs.Places.{Place}
use Rattle.fp_place.specs.Drawing.{Drawing, is_net, centre_of, places_in}
use Rattle.fp_place.specs.Blocks.{KeepsOffBlocks}
use Rattle.fp_place.specs.Legal.{StandsOnce, StandsOnSegment, FitsItsDie, IsClear, KeepsPercent, HasItsTerminal, KeepsFromEdges, KeepsFromOthers, IsLegal}
use Rattle.fp_place.specs.Placed.{Placed, places_of, IsPlacementOf, IsInOrder}

-- the nine rules in the order in which they are tried
pub data Rule : Type 0 where
  EachOnce : Rule
  OnSegments : Rule
  Heights : Rule
  NoOverlaps : Rule
  TopPercent : Rule
  BottomPercent : Rule
  RightTerminals : Rule
  FromEdges : Rule
  FromOthers : Rule

abbrev pub rule_number : Rule → ℕ
rule_number EachOnce = 1
rule_number OnSegments = 2
rule_number Heights = 3
rule_number NoOverlaps = 4
rule_number TopPercent = 5
rule_number BottomPercent = 6
rule_number RightTerminals = 7
rule_number FromEdges = 8
rule_number FromOthers = 9

-- how many subjects a rule has: the cells, the one die, or the nets
abbrev pub subjects : Netlist → Rule → ℕ
subjects p EachOnce = length p.cells
subjects p OnSegments = length p.cells
subjects p Heights = length p.cells
subjects p NoOverlaps = length p.cells
subjects p TopPercent = 1
subjects p BottomPercent = 1
subjects p RightTerminals = length p.nets
subjects p FromEdges = length p.nets
subjects p FromOthers = length p.nets

abbrev pub subject_of : Rule → ℕ → Subject
subject_of EachOnce number = Cell (record { 0 = number })
subject_of OnSegments number = Cell (record { 0 = number })
subject_of Heights number = Cell (record { 0 = number })
subject_of NoOverlaps number = Cell (record { 0 = number })
subject_of TopPercent number = Side dies.Top
subject_of BottomPercent number = Side dies.Bottom
subject_of RightTerminals number = Net (record { 0 = number })
subject_of FromEdges number = Net (record { 0 = number })
subject_of FromOthers number = Net (record { 0 = number })

-- a rule holds of a subject
abbrev pub Holds : Netlist → Drawing → List Place → Rule → ℕ → Type 0
Holds p drawing places EachOnce cell = StandsOnce drawing cell
Holds p drawing places OnSegments cell = StandsOnSegment p places cell
Holds p drawing places Heights cell = FitsItsDie p places cell
Holds p drawing places NoOverlaps cell = IsClear p places cell
Holds p drawing places TopPercent number = KeepsPercent p places dies.Top
Holds p drawing places BottomPercent number = KeepsPercent p places dies.Bottom
Holds p drawing places RightTerminals net = HasItsTerminal p drawing places net
Holds p drawing places FromEdges net = KeepsFromEdges p drawing net
Holds p drawing places FromOthers net = KeepsFromOthers p drawing net

-- a rule holds of all its subjects
abbrev pub HoldsOfAll : Netlist → Drawing → List Place → Rule → Type 0
HoldsOfAll p drawing places rule = (number : ℕ) → number < subjects p rule → Holds p drawing places rule number

-- the rule is broken at this subject, at none before it, and every rule before it holds
pub record IsBrokenFirst (p : Netlist) (drawing : Drawing) (places : List Place) (rule : Rule) (number : ℕ) : Type 0 where
  pub counted : number < subjects p rule
  pub broken : Holds p drawing places rule number → ⊥
  pub first : (before : ℕ) → before < number → Holds p drawing places rule before
  pub rules_before : (other : Rule) → rule_number other < rule_number rule → HoldsOfAll p drawing places other

abbrev pub IsFirstBreak : Netlist → Drawing → ℕ → Subject → Type 0
IsFirstBreak p drawing rule subject = (broken : Rule) × (number : ℕ) × (rule ≡ rule_number broken) × (subject ≡ subject_of broken number)
    × IsBrokenFirst p drawing (places_in drawing (length p.cells)) broken number

-- a placement has the drawn places and terminals
pub record IsAsDrawn (p : Netlist) (drawing : Drawing) (placed : Placed) : Type 0 where
  pub cells_are : places_of placed ≡ places_in drawing (length p.cells)
  pub terminals_are : (net : ℕ) → net < length p.nets → get_or placed.terminals net None ≡ option_map centre_of (find (is_net net) drawing.terminals)

-- what a verdict says of a drawing
abbrev pub Judges : Netlist → Drawing → Judged → Type 0
Judges p drawing (judged.Legal placed) = IsLegal p drawing × IsAsDrawn p drawing placed × IsPlacementOf p placed × IsInOrder p placed
Judges p drawing (judged.Breaks rule subject) = IsFirstBreak p drawing rule subject

-- what it says of blockages: no cell of a legal drawing overlaps one of its die
abbrev pub KeepsOff : Netlist → Drawing → Judged → Type 0
KeepsOff p drawing (judged.Legal placed) = KeepsOffBlocks p drawing
KeepsOff p drawing (judged.Breaks rule subject) = Unit {0}
