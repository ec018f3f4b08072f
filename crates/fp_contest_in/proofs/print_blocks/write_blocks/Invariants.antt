use Rattle.std.proofs.Common.{take, ◌++◌, [], ◌∷◌, length}
use Rattle.std.specs.Prelude.{codes, flat_map}
use Rattle.fp_text.specs.Writing.{told, GoesOn, Adds}
use Rattle.fp_contest_in.specs.PrintedText.{line, numbers, block_line}
use Rattle.fp_contest_in.proofs.print_blocks.write_blocks.Given as goal

abbrev pub invariant-loop-block : goal.invariant-loop-block
invariant-loop-block g l =
    let tells = told g.F.Folder.held g.F.Folder.made g.F.Folder.faults in
    record {
      adds : Adds l.name (line (codes "NumBlockages") (numbers (length l.blocks ∷ [])) ++ flat_map block_line (take l.block-index l.blocks)) (tells l.fn.folder) (tells l.folder) l.fn.writer l.writer;
      goes_on : GoesOn l.name (tells l.folder) l.writer;
    }
