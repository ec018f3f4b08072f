use Rattle.std.proofs.Common.{◌≡◌, vec_len}
use Rattle.std.specs.Prelude.{All}
use Rattle.fp_base.specs.MemoryFiles.{HasRoom}
use Rattle.fp_base.proofs.file_table.spare_files.Given as goal

abbrev pub invariant-loop-place : goal.invariant-loop-place
invariant-loop-place l = (vec_len l.spare ≡ l.place) × All (HasRoom l.room) l.spare.items
