-- What a folder and a sink in memory are, and what each call makes of them.
use Rattle.std.specs.Prelude.{ℕ, ◌+◌, ◌-◌, ◌==◌, nat_lt, nat_le, min, Bool, not, ◌&&◌, ◌||◌, if◌then◌else◌, List, [], ◌++◌, length, take, Option, Some, None, unwrap_or, Result, Ok, Err, refl}
use Rattle.std.specs.Coded.{Coded, code_by, coded×, coded_ℕ, coded_list, coded_option}
use Rattle.std.specs.List.{list_any}
use Rattle.std.specs.FinMap.{contains_key, len, code}
use Rattle.fp_base.specs.declared.folder.ReadFault.{ReadFault}
use Rattle.fp_base.specs.declared.folder.ReadFault.TheVariants.{Missing, Failed}
use Rattle.fp_base.specs.Faults.{one_more}
use Rattle.fp_base.specs.Files.{Files, bytes_of, with_file}

-- the bytes in a buffer, and the greatest number of bytes that it holds
pub record Filled : Type 0 where
  pub bytes : List ℕ
  pub room : ℕ

abbrev pub filled_code : Coded Filled
filled_code = code_by (List ℕ × ℕ) (coded× (coded_list coded_ℕ) coded_ℕ) (λ f. (f.bytes, f.room)) (λ p. record { bytes = p.0; room = p.1 }) (λ _. refl)

-- how many calls there were, how many failed, and the numbers of those that are to fail, from 0
pub record Calls : Type 0 where
  pub so_far : ℕ
  pub faults : ℕ
  pub fails : List ℕ

abbrev pub calls_code : Coded Calls
calls_code =
    code_by (ℕ × (ℕ × List ℕ)) (coded× coded_ℕ (coded× coded_ℕ (coded_list coded_ℕ)))
    (λ c. (c.so_far, (c.faults, c.fails))) (λ p. record { so_far = p.0; faults = p.1.0; fails = p.1.1 }) (λ _. refl)

-- whether the next call is to fail
abbrev pub is_due : Calls → Bool
is_due calls = list_any (λ n. n == calls.so_far) calls.fails

-- after a call that did not fail
abbrev pub counted : Calls → Calls
counted calls = record calls { so_far = one_more calls.so_far }

-- after a call that failed
abbrev pub failed : Calls → Calls
failed calls = record calls { so_far = one_more calls.so_far; faults = one_more calls.faults }

-- files in memory, the greatest number of names, and the greatest number of bytes of a file
pub record Table : Type 0 where
  pub files : Files
  pub most : ℕ
  pub room : ℕ

abbrev pub table_code : Coded Table
table_code =
    code_by (Files × (ℕ × ℕ)) (coded× (code (coded_list coded_ℕ) (coded_list coded_ℕ)) (coded× coded_ℕ coded_ℕ))
    (λ t. (t.files, (t.most, t.room))) (λ p. record { files = p.0; most = p.1.0; room = p.1.1 }) (λ _. refl)

-- whether there is a place for the name: it has at most 255 bytes, and is held or one name more fits
abbrev pub has_place : Table → List ℕ → Bool
has_place table name = nat_le (length name) 255 && (contains_key table.files name || nat_lt (len table.files) table.most)

-- whether the name can hold these bytes
abbrev pub can_hold : Table → List ℕ → List ℕ → Bool
can_hold table name bytes = has_place table name && nat_le (length bytes) table.room

-- the table with this name holding these bytes
abbrev pub holding : Table → List ℕ → List ℕ → Table
holding table name bytes = record table { files = with_file table.files name bytes }

-- the bytes that the name holds, none where it is not held
abbrev pub bytes_under : Table → List ℕ → List ℕ
bytes_under table name = unwrap_or (bytes_of table.files name) []

-- a folder in memory, with the greatest number of bytes that one read gives
pub record FolderState : Type 0 where
  pub table : Table
  pub made : Option (List ℕ)
  pub calls : Calls
  pub piece : ℕ

abbrev pub folder_code : Coded FolderState
folder_code =
    code_by (Table × (Option (List ℕ) × (Calls × ℕ))) (coded× table_code (coded× (coded_option (coded_list coded_ℕ)) (coded× calls_code coded_ℕ)))
    (λ f. (f.table, (f.made, (f.calls, f.piece)))) (λ p. record { table = p.0; made = p.1.0; calls = p.1.1.0; piece = p.1.1.1 }) (λ _. refl)

-- what the folder tells of what it holds
abbrev pub files_told : FolderState → Option Files
files_told folder = Some folder.table.files

-- whether a `create` goes well
abbrev pub can_create : FolderState → List ℕ → Bool
can_create folder name = not (is_due folder.calls) && has_place folder.table name

-- after a `create` that went well
abbrev pub created : FolderState → List ℕ → FolderState
created folder name = record folder { table = holding folder.table name []; made = Some name; calls = counted folder.calls }

-- after a `create` that failed
abbrev pub not_created : FolderState → FolderState
not_created folder = record folder { made = None; calls = failed folder.calls }

-- whether an `append` goes well
abbrev pub can_append : FolderState → List ℕ → List ℕ → Bool
can_append folder name piece = not (is_due folder.calls) && nat_le (length (bytes_under folder.table name) + length piece) folder.table.room

-- after an `append` that went well
abbrev pub appended : FolderState → List ℕ → List ℕ → FolderState
appended folder name piece = record folder {
  table = holding folder.table name (bytes_under folder.table name ++ piece);
  calls = counted folder.calls;
}

-- after an `append` or a read that failed
abbrev pub call_failed : FolderState → FolderState
call_failed folder = record folder { calls = failed folder.calls }

-- after a read that did not fail
abbrev pub call_counted : FolderState → FolderState
call_counted folder = record folder { calls = counted folder.calls }

-- what a read at an offset says of these bytes, which may give so many at most
abbrev pub count_from : Option (List ℕ) → ℕ → ℕ → Result ℕ ReadFault
count_from None at most = Err Missing
count_from (Some bytes) at most = Ok (min most (length bytes - at))

-- what a read answers, for a buffer of this length
abbrev pub read_answer : FolderState → List ℕ → ℕ → ℕ → Result ℕ ReadFault
read_answer folder name at most = if is_due folder.calls then Err Failed else count_from (bytes_of folder.table.files name) at (min most folder.piece)

-- after a read
abbrev pub after_read : FolderState → FolderState
after_read folder = if is_due folder.calls then call_failed folder else call_counted folder

-- a sink in memory
pub record SinkState : Type 0 where
  pub output : Filled
  pub calls : Calls

abbrev pub sink_code : Coded SinkState
sink_code =
    code_by (Filled × Calls) (coded× filled_code calls_code) (λ s. (s.output, s.calls)) (λ p. record { output = p.0; calls = p.1 }) (λ _. refl)

-- what the sink tells of what was written
abbrev pub bytes_told : SinkState → Option (List ℕ)
bytes_told sink = Some sink.output.bytes

-- whether a put goes well
abbrev pub can_put : SinkState → List ℕ → Bool
can_put sink piece = not (is_due sink.calls) && nat_le (length sink.output.bytes + length piece) sink.output.room

-- the sink's output with this behind it
abbrev pub output_after : SinkState → List ℕ → Filled
output_after sink piece = record sink.output { bytes = sink.output.bytes ++ piece }

-- after a put that went well
abbrev pub put_whole : SinkState → List ℕ → SinkState
put_whole sink piece = record { output = output_after sink piece; calls = counted sink.calls }

-- what a failed put leaves of its piece: nothing where it was to fail, and else what fits
abbrev pub part_of : SinkState → List ℕ → List ℕ
part_of sink piece = if is_due sink.calls then [] else take (sink.output.room - length sink.output.bytes) piece

-- after a put that failed
abbrev pub put_part : SinkState → List ℕ → SinkState
put_part sink piece = record { output = output_after sink (part_of sink piece); calls = failed sink.calls }
