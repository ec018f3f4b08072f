use Rattle.std.proofs.Common.{take}
use Rattle.fp_text.specs.Writing.{told, GoesOn, Adds}
use Rattle.fp_tech.specs.Book.{pins_in}
use Rattle.fp_contest_in.specs.PrintedText.{pin_lines}
use Rattle.fp_contest_in.proofs.print_techs.write_pins.Given as goal

abbrev pub invariant-loop-pin : goal.invariant-loop-pin
invariant-loop-pin g l =
    let tells = told g.F.Folder.held g.F.Folder.made g.F.Folder.faults in
    record {
      adds : Adds l.name (pin_lines (take l.pin (pins_in l.book l.tech.0 l.lib.0))) (tells l.fn.folder) (tells l.folder) l.fn.writer l.writer;
      goes_on : GoesOn l.name (tells l.folder) l.writer;
    }
