-- From the parts of an output file to the whole.
use Rattle.std.proofs.Common.{◌≡◌, List, ℕ, Result, Ok, Err, refl, sym, ap, subst, ◌∙◌}
use Rattle.std.specs.Prelude.{IfOk, codes}
use Rattle.fp_base.specs.declared.ids.Die.TheVariants.{Top, Bottom}
use Rattle.fp_text.specs.Reading.{Left, Fault, end_next, GivesFault, Ends}
use Rattle.fp_text.specs.ReadingLaws.{ok_is}
use Rattle.fp_text.specs.declared.fault.TextFault.{TextFault}
use Rattle.fp_text.specs.declared.fault.TextFault.TheVariants.{Wrong, Memory}
use Rattle.fp_netlist.specs.Netlist.{Netlist, cell_names, IsSound}
use Rattle.fp_place.specs.declared.drawn.DrawnCell.{DrawnCell}
use Rattle.fp_place.specs.declared.drawn.DrawnTerminal.{DrawnTerminal}
use Rattle.fp_place.specs.Drawing.{Drawing, empty}
use Rattle.fp_place.specs.Placed.{Placed, drawn_of, IsPlacementOf}
use Rattle.fp_out.specs.OutText.{die_word, out_text}
use Rattle.fp_out.specs.OutGrammar.{AreNames, ReadsOut}
use Rattle.fp_out.specs.OutReading.{inst_next, terminal_next, part_next, drawing_next, out_of, GivesDrawing}
use Rattle.fp_out.specs.Growing.{with_cells, with_terminals, Draws}
use Rattle.fp_out.specs.ReadBack.{reads_back}
use Rattle.fp_out.specs.OutReadingLaws.{read_is_in, is_in_read}

-- what the parts read
abbrev TopRead : Netlist → Drawing → Drawing → Left → Left → Type 0
TopRead p old new l after = (lines : List DrawnCell) × (part_next (die_word Top) (inst_next p) l ≡ Ok (lines, after)) × (new ≡ with_cells Top old lines)

abbrev BottomRead : Netlist → Drawing → Drawing → Left → Left → Type 0
BottomRead p old new l after = (lines : List DrawnCell) × (part_next (die_word Bottom) (inst_next p) l ≡ Ok (lines, after)) × (new ≡ with_cells Bottom old lines)

abbrev TerminalsRead : Netlist → Drawing → Drawing → Left → Left → Type 0
TerminalsRead p old new l after = (lines : List DrawnTerminal) × (part_next (codes "NumTerminals") (terminal_next p) l ≡ Ok (lines, after)) × (new ≡ with_terminals old lines)

pub top_fails : (e : TextFault) (p : Netlist) (l : Left) → GivesFault e (part_next (die_word Top) (inst_next p) l) → GivesFault e (drawing_next p l)
unfolding drawing_next
top_fails Memory p l fails = tt
top_fails (Wrong at kind) p l fails = rw fails refl

pub bottom_fails : (e : TextFault) (p : Netlist) (old mid : Drawing) (l l_2 : Left) → TopRead p old mid l l_2 → GivesFault e (part_next (die_word Bottom) (inst_next p) l_2)
    → GivesFault e (drawing_next p l)
unfolding drawing_next
bottom_fails Memory p old mid l l_2 top fails = tt
bottom_fails (Wrong at kind) p old mid l l_2 top fails = rw (top.1, fails) refl

pub terminals_fail : (e : TextFault) (p : Netlist) (old mid mid_2 : Drawing) (l l_2 l_3 : Left) → TopRead p old mid l l_2 → BottomRead p mid mid_2 l_2 l_3
    → GivesFault e (part_next (codes "NumTerminals") (terminal_next p) l_3) → GivesFault e (drawing_next p l)
unfolding drawing_next
terminals_fail Memory p old mid mid_2 l l_2 l_3 top bottom fails = tt
terminals_fail (Wrong at kind) p old mid mid_2 l l_2 l_3 top bottom fails = rw (top.1, bottom.1, fails) refl

pub all_read : {U : Type 0} (result : Result U TextFault) (p : Netlist) (old mid mid_2 new : Drawing) (l l_2 l_3 l_4 after : Left) → old ≡ empty → TopRead p old mid l l_2 → BottomRead p mid mid_2 l_2 l_3
    → TerminalsRead p mid_2 new l_3 l_4 → Ends result after (end_next l_4) → Draws result new (drawing_next p l)
unfolding drawing_next
all_read (Err Memory) p old mid mid_2 new l l_2 l_3 l_4 after is top bottom terminals ends = tt
all_read (Err (Wrong at kind)) p old mid mid_2 new l l_2 l_3 l_4 after is top bottom terminals ends = rw (top.1, bottom.1, terminals.1, ends) refl
all_read (Ok done) p old mid mid_2 new l l_2 l_3 l_4 after is top bottom terminals ends =
    let first : mid ≡ with_cells Top empty top.0 = top.2 ∙ ap (λ (d : Drawing). with_cells Top d top.0) is in
    let second : mid_2 ≡ with_cells Bottom (with_cells Top empty top.0) bottom.0 = bottom.2 ∙ ap (λ (d : Drawing). with_cells Bottom d bottom.0) first in
    let whole : new ≡ record { top = top.0; bottom = bottom.0; terminals = terminals.0 } = terminals.2 ∙ ap (λ (d : Drawing). with_terminals d terminals.0) second in
    rw (top.1, bottom.1, terminals.1, ends) (ap was_read (sym whole))
  where
    was_read : Drawing → Result Drawing Fault
    was_read d = Ok d

-- what was read is in the grammar
pub gives_reads : (p : Netlist) (bytes : List ℕ) (result : Result Drawing TextFault) → GivesDrawing result (out_of p bytes) → IfOk result (λ drawing. ReadsOut p bytes drawing)
gives_reads p bytes (Ok drawing) gives = read_is_in p bytes drawing gives
gives_reads p bytes (Err e) gives = tt

-- what is in the grammar is read
pub gives_only : (p : Netlist) → IsSound p → (bytes : List ℕ) (result : Result Drawing TextFault) (drawing : Drawing) → ReadsOut p bytes drawing → GivesDrawing result (out_of p bytes)
    → GivesDrawing result (Ok drawing)
gives_only p sound bytes result drawing reads gives = subst (λ read. GivesDrawing result read) (is_in_read p sound bytes drawing reads) gives

-- the text of a placement is read as what was drawn
pub gives_back : (p : Netlist) → IsSound p → (bytes : List ℕ) (result : Result Drawing TextFault) (placed : Placed) → IsPlacementOf p placed → AreNames (cell_names p) → AreNames p.nets
    → bytes ≡ out_text p (drawn_of placed) → GivesDrawing result (out_of p bytes) → GivesDrawing result (Ok (drawn_of placed))
gives_back p sound bytes result placed of_problem cells nets same gives =
    gives_only p sound bytes result (drawn_of placed) (subst (λ (bs : List ℕ). ReadsOut p bs (drawn_of placed)) (sym same) (reads_back p placed sound of_problem cells nets)) gives
