-- Rules 4 to 6, one by one.
use Rattle.std.proofs.Common.{◌≡◌, ℕ, List, length, refl, Ok, Err, Result, subst}
use Rattle.fp_base.specs.declared.ids.CellId.{CellId}
use Rattle.fp_base.specs.declared.ids.Die.TheVariants.{Top, Bottom}
use Rattle.fp_netlist.specs.Netlist.{Netlist}
use Rattle.fp_place.specs.declared.judge.Subject.TheVariants.{Cell}
use Rattle.fp_place.specs.declared.lined.Lined.{Lined}
use Rattle.fp_place.specs.declared.fault.Fault.{Fault}
use Rattle.fp_place.specs.Places.{Place}
use Rattle.fp_place.specs.Drawing.{Drawing}
use Rattle.fp_place.specs.Legal.{IsClear, KeepsPercent}
use Rattle.fp_place.specs.Lining.{LinesUp}
use Rattle.fp_place.specs.Breaks.{NoOverlaps, TopPercent, BottomPercent}
use Rattle.fp_place.specs.FirstFaults.{IsFaultOf, NamesFirst, HoldBelow, cell_subject, side_subject}
use Rattle.fp_place.specs.LinedUp.{AreClear, IsFaultAfter}
use Rattle.fp_place.proofs.FaultLemmas.{one_more, first_fault}

pub first_overlap : (p : Netlist) (places : List Place) (numbers : List ℕ) (found : Result Lined CellId) (cell : CellId) → found ≡ Err cell → LinesUp p places numbers found
    → NamesFirst (length p.cells) (IsClear p places) 4 cell_subject 4 (Cell cell)
first_overlap p places numbers found cell e is =
    let here : LinesUp p places numbers (Err cell) = subst (LinesUp p places numbers) e is in
    record { number = cell.0; rule_is = refl; subject_is = refl; is_first = record { counted = here.0; broken = here.1; first = here.2 } }

pub fourth_done : (p : Netlist) (places : List Place) (numbers : List ℕ) (lined : Lined) → LinesUp p places numbers (Ok lined) → (drawing : Drawing) → HoldBelow p drawing places 4 → HoldBelow p drawing places 5
fourth_done p places numbers lined is drawing below = one_more p drawing places NoOverlaps 5 refl below is.0

pub fifth_done : (p : Netlist) (places : List Place) (numbers : List ℕ) (lined : Lined) → LinesUp p places numbers (Ok lined) → KeepsPercent p places Top → (drawing : Drawing)
    → HoldBelow p drawing places 4 → HoldBelow p drawing places 6
fifth_done p places numbers lined is top drawing below = one_more p drawing places TopPercent 6 refl (fourth_done p places numbers lined is drawing below) (λ number less. top)

pub sixth_done : (p : Netlist) (places : List Place) (numbers : List ℕ) (lined : Lined) → LinesUp p places numbers (Ok lined) → KeepsPercent p places Top → KeepsPercent p places Bottom
    → AreClear p places numbers lined.top lined.bottom
sixth_done p places numbers lined is top bottom = record {
  lined = is.1;
  holds = λ drawing below. one_more p drawing places BottomPercent 7 refl (fifth_done p places numbers lined is top drawing below) (λ number less. bottom);
}

pub fourth_broken : (p : Netlist) (places : List Place) (fault : Fault) → IsFaultOf (length p.cells) (IsClear p places) 4 cell_subject fault → IsFaultAfter p places fault
fourth_broken p places fault is drawing below = first_fault p drawing places NoOverlaps fault below is

pub fifth_broken : (p : Netlist) (places : List Place) (numbers : List ℕ) (lined : Lined) (fault : Fault) → LinesUp p places numbers (Ok lined)
    → IsFaultOf 1 (λ number. KeepsPercent p places Top) 5 (side_subject Top) fault → IsFaultAfter p places fault
fifth_broken p places numbers lined fault clear is drawing below =
    first_fault p drawing places TopPercent fault (fourth_done p places numbers lined clear drawing below) is

pub sixth_broken : (p : Netlist) (places : List Place) (numbers : List ℕ) (lined : Lined) (fault : Fault) → LinesUp p places numbers (Ok lined) → KeepsPercent p places Top
    → IsFaultOf 1 (λ number. KeepsPercent p places Bottom) 6 (side_subject Bottom) fault → IsFaultAfter p places fault
sixth_broken p places numbers lined fault clear top is drawing below =
    first_fault p drawing places BottomPercent fault (fifth_done p places numbers lined clear top drawing below) is
