-- The verdict from its steps.
use Rattle.std.proofs.Common.{◌≡◌, ℕ, List, length, get_or, Option, None, sym, ap, subst, ◌∙◌, arith}
use Rattle.std.proofs.lemmas.List.FromFn.{length-map-range_with_len}
use Rattle.fp_base.specs.declared.ids.Point.{Point}
use Rattle.fp_netlist.specs.Netlist.{Netlist}
use Rattle.fp_place.specs.declared.fault.Fault.{Fault}
use Rattle.fp_place.specs.declared.judge.Judged.TheVariants as judged
use Rattle.fp_place.specs.Places.{Place}
use Rattle.fp_place.specs.Drawing.{Drawing, place_in, places_in}
use Rattle.fp_place.specs.Placed.{LaneList, Placed}
use Rattle.fp_place.specs.Breaks.{Judges}
use Rattle.fp_place.specs.BreaksLaws.{all_hold, few_rules}
use Rattle.fp_place.specs.FirstFaults.{HoldBelow, IsFirstFault}
use Rattle.fp_place.specs.Standing.{AreStanding}
use Rattle.fp_place.specs.Joining.{AreTerminals}
use Rattle.fp_place.specs.LinedUp.{AreOnSegments, AreLinedUp, AreClear, IsFaultAfter, IsLaid}

pub many_standing : (p : Netlist) (drawing : Drawing) (places given : List Place) (numbers : List ℕ) → given ≡ places → AreStanding p drawing places numbers → length given ≡ length p.cells
many_standing p drawing places given numbers e standing = ap length (e ∙ standing.places_are) ∙ length-map-range_with_len (place_in drawing) 0 (length p.cells)

pub numbers_standing : (p : Netlist) (drawing : Drawing) (places given : List Place) (numbers given_numbers : List ℕ) → given ≡ places → given_numbers ≡ numbers → AreStanding p drawing places numbers
    → AreOnSegments p given given_numbers
numbers_standing p drawing places given numbers given_numbers e r standing =
    subst (λ ps. AreOnSegments p ps given_numbers) (sym e) (subst (AreOnSegments p places) (sym r) standing.on_segments)

pub settled_broken : (p : Netlist) (drawing : Drawing) (places given : List Place) (numbers : List ℕ) (fault : Fault) → given ≡ places → AreStanding p drawing places numbers
    → IsFaultAfter p given fault → IsFirstFault p drawing (places_in drawing (length p.cells)) fault
settled_broken p drawing places given numbers fault e standing is =
    subst (λ ps. IsFirstFault p drawing ps fault) standing.places_are (subst (λ ps. IsFaultAfter p ps fault) e is drawing standing.holds)

-- the first six rules hold
pub six_hold : (p : Netlist) (drawing : Drawing) (places given again : List Place) (numbers given_numbers : List ℕ) (top bottom : LaneList) → given ≡ places → again ≡ places
    → AreStanding p drawing places numbers → AreClear p given given_numbers top bottom → HoldBelow p drawing again 7
six_hold p drawing places given again numbers given_numbers top bottom e a standing clear =
    subst (λ ps. HoldBelow p drawing ps 7) (sym a)
    ((subst (λ ps. AreClear p ps given_numbers top bottom) e clear).holds drawing standing.holds)

pub joined_broken : (p : Netlist) (drawing : Drawing) (places given again : List Place) (numbers given_numbers : List ℕ) (top bottom : LaneList) (fault : Fault) → given ≡ places → again ≡ places
    → AreStanding p drawing places numbers → AreClear p given given_numbers top bottom → (HoldBelow p drawing again 7 → IsFirstFault p drawing again fault)
    → IsFirstFault p drawing (places_in drawing (length p.cells)) fault
joined_broken p drawing places given again numbers given_numbers top bottom fault e a standing clear is =
    subst (λ ps. IsFirstFault p drawing ps fault) (a ∙ standing.places_are)
    (is (six_hold p drawing places given again numbers given_numbers top bottom e a standing clear))

pub lined_up : (p : Netlist) (drawing : Drawing) (places given again : List Place) (numbers given_numbers : List ℕ) (top bottom : LaneList) → given ≡ places → again ≡ places → given_numbers ≡ numbers
    → AreStanding p drawing places numbers → AreClear p given given_numbers top bottom → AreLinedUp p again top bottom
lined_up p drawing places given again numbers given_numbers top bottom e a r standing clear =
    subst (λ ps. AreLinedUp p ps top bottom) (e ∙ sym a)
    (record { numbers = given_numbers; on_segments = numbers_standing p drawing places given numbers given_numbers e r standing; lined = clear.lined })

pub is_legal : (p : Netlist) (drawing : Drawing) (places given again laid_at : List Place) (numbers given_numbers : List ℕ) (top bottom : LaneList) (centres laid_centres : List (Option Point)) (placed : Placed)
    → given ≡ places → again ≡ places → laid_at ≡ places → laid_centres ≡ centres → AreStanding p drawing places numbers → AreClear p given given_numbers top bottom
    → AreTerminals p drawing again centres → IsLaid p laid_at laid_centres placed → Judges p drawing (judged.Legal placed)
is_legal p drawing places given again laid_at numbers given_numbers top bottom centres laid_centres placed e a l cs standing clear terminals laid =
    let holds : HoldBelow p drawing again 10 = terminals.holds (six_hold p drawing places given again numbers given_numbers top bottom e a standing clear) in
    let all : HoldBelow p drawing (places_in drawing (length p.cells)) 10 = subst (λ ps. HoldBelow p drawing ps 10) (a ∙ standing.places_are) holds in (
      all_hold p drawing (places_in drawing (length p.cells)) (λ rule. all rule (omega (arith, few_rules rule))),
      record {
        cells_are = laid.places_are ∙ l ∙ standing.places_are;
        terminals_are = λ net less. ap (λ ts. get_or ts net None) (laid.terminals_are ∙ cs) ∙ terminals.are.centre net less;
      },
      laid.of_problem,
      laid.in_order,
    )
