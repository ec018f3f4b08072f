use Rattle.std.proofs.Common.{take, map, ◌++◌, [], ◌∷◌, length}
use Rattle.std.specs.Prelude.{codes, flat_map}
use Rattle.fp_text.specs.Writing.{told, GoesOn, Adds}
use Rattle.fp_contest_in.specs.PrintedText.{line, numbers, tech_lines, tech_said}
use Rattle.fp_contest_in.proofs.print_techs.write_techs.Given as goal

abbrev pub invariant-loop-tech : goal.invariant-loop-tech
invariant-loop-tech g l =
    let tells = told g.F.Folder.held g.F.Folder.made g.F.Folder.faults in
    record {
      adds : Adds l.name (line (codes "NumTechnologies") (numbers (length l.book.techs ∷ [])) ++ flat_map tech_lines (take l.tech (map (tech_said l.book.names) l.book.techs))) (tells l.fn.folder) (tells l.folder) l.fn.writer l.writer;
      goes_on : GoesOn l.name (tells l.folder) l.writer;
    }
