use Rattle.std.proofs.Common.{◌++◌, codes, length, take, flat_map}
use Rattle.fp_text.specs.Writing.{told, GoesOn, Adds}
use Rattle.fp_cert.specs.CertText.{number_line, top_line}
use Rattle.fp_cert.proofs.certificate.write_top_cells.Given as goal

abbrev pub invariant-loop-cell : goal.invariant-loop-cell
invariant-loop-cell g l =
    let tells = told g.F.Folder.held g.F.Folder.made g.F.Folder.faults in
    record {
      adds : Adds l.name (number_line (codes "TopCells") (length l.fn.cells) ++ flat_map top_line (take l.cell-index l.fn.cells)) (tells l.fn.folder) (tells l.folder) l.fn.writer l.writer;
      goes_on : GoesOn l.name (tells l.folder) l.writer;
    }
