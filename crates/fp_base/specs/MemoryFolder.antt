-- How a folder in memory is kept.
use Rattle.std.specs.Prelude.{◌≡◌, ◌≤◌, Some, None, IsSome, true, if◌then◌else◌}
use Rattle.fp_base.specs.declared.mem_folder.MemFolder.TheInside.{Inside}
use Rattle.fp_base.specs.Files.{bytes_of}
use Rattle.fp_base.specs.Memory.{FolderState}

abbrev pub folder_of : Inside → FolderState
folder_of f = record { table = f.table; made = if f.is_made then Some f.made.bytes else None; calls = f.calls; piece = f.piece }

-- the name that is made is held, and a read may give a byte
pub record IsSound (f : Inside) : Type 0 where
  pub name_room : f.made.room ≡ 255
  pub held : f.is_made ≡ true → IsSome (bytes_of f.table.files f.made.bytes)
  pub gives : 1 ≤ f.piece
