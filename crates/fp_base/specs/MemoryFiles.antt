-- How files in memory are kept.
use Rattle.std.specs.Prelude.{◌≡◌, ◌≤◌, ◌+◌, ℕ, List, [], map, length, vec_capacity, All}
use Rattle.std.specs.FinMap.{from_entries, len}
use Rattle.fp_base.specs.declared.file_table.MemFile.{MemFile}
use Rattle.fp_base.specs.declared.file_table.FileTable.TheInside.{Inside}
use Rattle.fp_base.specs.Files.{Files}
use Rattle.fp_base.specs.Memory.{Table}

-- a file's name with its bytes
abbrev pub entry_of : MemFile → List ℕ × List ℕ
entry_of file = (file.name.bytes, file.bytes.bytes)

-- what stands past the end of a list of files
abbrev pub no_file : MemFile
no_file = record { name = record { bytes = []; room = 0 }; bytes = record { bytes = []; room = 0 } }

-- the file with this name and these bytes
abbrev pub filled : MemFile → List ℕ → List ℕ → MemFile
filled file name bytes = record { name = record { bytes = name; room = file.name.room }; bytes = record { bytes = bytes; room = file.bytes.room } }

-- the file with these bytes
abbrev pub with_bytes : MemFile → List ℕ → MemFile
with_bytes file bytes = record file { bytes = record { bytes = bytes; room = file.bytes.room } }

-- the file has room for a name and for this many bytes
abbrev pub HasRoom : ℕ → MemFile → Type 0
HasRoom room file = (file.name.room ≡ 255) × (file.bytes.room ≡ room)

-- the files in use
abbrev pub files_of : List MemFile → Files
files_of used = from_entries (map entry_of used)

abbrev pub table_of : Inside → Table
table_of t = record { files = files_of t.used.items; most = t.most; room = t.room }

-- each place is in use or spare, with its room; and no two files in use have one name
pub record AreKept (used spare : List MemFile) (capacity most room : ℕ) : Type 0 where
  pub places : length used + length spare ≡ most
  pub within : most ≤ capacity
  pub used_room : All (HasRoom room) used
  pub spare_room : All (HasRoom room) spare
  pub apart : len (files_of used) ≡ length used

abbrev pub IsKept : Inside → Type 0
IsKept t = AreKept t.used.items t.spare.items (vec_capacity t.used) t.most t.room
