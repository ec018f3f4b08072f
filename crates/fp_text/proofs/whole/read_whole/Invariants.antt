use Rattle.std.proofs.Common.{◌≡◌, ◌≤◌, ◌+◌, ◌-◌, vec_len}
use Rattle.fp_base.specs.Files.{WhereTold, bytes_of}
use Rattle.fp_text.specs.Whole.{IsFront}
use Rattle.fp_text.proofs.whole.read_whole.Given as goal

abbrev pub invariant-loop-piece : goal.invariant-loop-piece
invariant-loop-piece g l = record {
  front : WhereTold (g.F.Folder.held l.fn.folder)
      (λ files. IsFront (bytes_of files l.name) l.bytes.items);
  held : g.F.Folder.held l.folder ≡ g.F.Folder.held l.fn.folder;
  made : g.F.Folder.made l.folder ≡ g.F.Folder.made l.fn.folder;
  later : g.F.Folder.faults l.fn.folder ≤ g.F.Folder.faults l.folder;
}

abbrev pub decreases-loop-piece : goal.decreases-loop-piece
decreases-loop-piece g l = l.most + 1 - vec_len l.bytes
