use Rattle.std.proofs.Common.{take, map}
use Rattle.fp_text.specs.Writing.{told, GoesOn, Adds}
use Rattle.fp_tech.specs.Book.{libs_of}
use Rattle.fp_contest_in.specs.PrintedText.{libs_lines, lib_said}
use Rattle.fp_contest_in.proofs.print_techs.write_libs.Given as goal

abbrev pub invariant-loop-lib : goal.invariant-loop-lib
invariant-loop-lib g l =
    let tells = told g.F.Folder.held g.F.Folder.made g.F.Folder.faults in
    record {
      adds : Adds l.name (libs_lines (take l.lib-index (map (lib_said l.book.names) (libs_of l.book l.fn.tech.0)))) (tells l.fn.folder) (tells l.folder) l.fn.writer l.writer;
      goes_on : GoesOn l.name (tells l.folder) l.writer;
    }
