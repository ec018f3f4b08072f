-- The nets that a drawing names which was read are the problem's.
use Rattle.std.proofs.Common.{ℕ, ◌<◌, List, [], ◌∷◌, ◌++◌, length}
use Rattle.std.specs.Prelude.{All}
use Rattle.std.proofs.lemmas.List.Elements.{All-nil, All-cons}
use Rattle.std.proofs.lemmas.Option.{slice_get_within}
use Rattle.fp_text.specs.Items.{Each}
use Rattle.fp_text.specs.Words.{Word}
use Rattle.fp_netlist.specs.Netlist.{Netlist}
use Rattle.fp_place.specs.declared.drawn.DrawnTerminal.{DrawnTerminal}
use Rattle.fp_place.specs.Drawing.{Drawing}
use Rattle.fp_out.specs.OutGrammar.{IsTerminal, ReadsOut}
use Rattle.fp_check.specs.Answers.{AreNetsOf}

lines_name : (p : Netlist) (before lines : List DrawnTerminal) (words rest : List Word) → Each (λ before. IsTerminal p) before lines words rest
    → All (λ (line : DrawnTerminal). line.net.0 < length p.nets) lines
lines_name p before [] words rest each = All-nil (λ (line : DrawnTerminal). line.net.0 < length p.nets)
lines_name p before (line ∷ lines) words rest each =
    All-cons (λ (l : DrawnTerminal). l.net.0 < length p.nets) line lines (slice_get_within p.nets line.net.0 each.1.name.0.text each.1.name.3)
    (lines_name p (before ++ line ∷ []) lines each.0 rest each.2)

pub nets_read : (p : Netlist) (bytes : List ℕ) (drawing : Drawing) → ReadsOut p bytes drawing → AreNetsOf p drawing
nets_read p bytes drawing is = lines_name p [] drawing.terminals is.terminals.after_count [] is.terminals.items
