-- What the places of files in memory keep.
use Rattle.std.proofs.Common.{◌≡◌, ℕ, ◌+◌, ◌<◌, ◌≤◌, Bool, true, false, List, [], ◌∷◌, ◌++◌, length, Some, None, get_or, set, refl, sym, ap, ◌∙◌, arith, length-append}
use Rattle.std.specs.Prelude.{position, IsSome, is_some, nat_le, nat_lt, All, unwrap_or}
use Rattle.std.specs.FinMap.{len, len-empty}
use Rattle.std.specs.Ordering.{nat_cmp}
use Rattle.std.specs.Cmp.Lexicographic.{slice_cmp}
use Rattle.std.specs.Bool.{OnTrue, OnFalse}
use Rattle.std.specs.Str.{bytes_eq}
use Rattle.std.proofs.Math.ListN.{length-set}
use Rattle.std.proofs.lemmas.List.Quantifiers.{position-Some}
use Rattle.std.proofs.lemmas.List.Elements.{All-nil, All-set, All-push, All-get_or, All-pop}
use Rattle.std.proofs.lemmas.Bool.Decides.{nat_tests}
use Rattle.fp_base.specs.declared.file_table.MemFile.{MemFile}
use Rattle.fp_base.specs.Files.{Files, bytes_of, with_file}
use Rattle.fp_base.specs.Memory.{Table, can_hold, holding, bytes_under}
use Rattle.fp_base.specs.MemoryFiles.{AreKept, HasRoom, files_of, with_bytes, filled, no_file}
use Rattle.fp_base.proofs.Places.{files_set, bytes_found, files_push, count_held, count_new}

-- the table of these files
abbrev table : List MemFile → ℕ → ℕ → Table
table used most room = record { files = files_of used; most = most; room = room }

-- no file in use
pub kept_none : (spare : List MemFile) (capacity most room : ℕ) → length spare ≡ most → most ≤ capacity → All (HasRoom room) spare
    → AreKept [] spare capacity most room
kept_none spare capacity most room count fits roomy = record {
  places = omega arith;
  within = fits;
  used_room = All-nil (HasRoom room);
  spare_room = roomy;
  apart = len-empty (slice_cmp nat_cmp) (List ℕ);
}

-- the first file of a name given other bytes
pub kept_set : (used spare : List MemFile) (capacity most room : ℕ) (name bytes : List ℕ) (i : ℕ)
    → position (λ f. bytes_eq name f.name.bytes) used ≡ Some i → AreKept used spare capacity most room
    → AreKept (set used i (with_bytes (get_or used i no_file) bytes)) spare capacity most room
kept_set used spare capacity most room name bytes i place kept =
    let here = position-Some (λ (f : MemFile). bytes_eq name f.name.bytes) used i no_file place in
    record {
      places = simp length-set kept.places;
      within = kept.within;
      used_room = All-set (HasRoom room) used i _ (All-get_or (HasRoom room) used i no_file here.0 kept.used_room) kept.used_room;
      spare_room = kept.spare_room;
      apart = ap len (files_set used name bytes no_file i place)
          ∙ count_held (files_of used) name bytes (ap is_some (bytes_found used name no_file i place))
          ∙ kept.apart ∙ sym (length-set used i _);
    }

-- where a place is spare, the list of files in use has room for one more
pub room_for_one : (used spare rest : List MemFile) (capacity most room : ℕ) (f : MemFile) → spare ≡ rest ++ f ∷ []
    → AreKept used spare capacity most room → length used < capacity
room_for_one used spare rest capacity most room f popped kept =
    omega (arith, kept.places, kept.within, simp length-append at (ap length popped))

-- a file whose name is new, in a place that was spare
pub kept_push : (used spare rest new : List MemFile) (capacity wider most room : ℕ) (f : MemFile) (name bytes : List ℕ)
    → spare ≡ rest ++ f ∷ [] → new ≡ used ++ filled f name bytes ∷ [] → bytes_of (files_of used) name ≡ None → capacity ≤ wider
    → AreKept used spare capacity most room → AreKept new rest wider most room
kept_push used spare rest new capacity wider most room f name bytes popped pushed none widened kept =
    let parts = All-pop (HasRoom room) spare rest (Some f) popped kept.spare_room in
    rw pushed (record {
      places = simp length-append (omega (arith, kept.places, simp length-append at (ap length popped)));
      within = omega (arith, kept.within);
      used_room = All-push (HasRoom room) used (filled f name bytes) kept.used_room parts.1;
      spare_room = parts.0;
      apart = ap len (files_push used (filled f name bytes) name bytes none refl refl)
          ∙ count_new (files_of used) name bytes none
          ∙ ap (λ n. n + 1) kept.apart ∙ sym (length-append used (filled f name bytes ∷ []));
    })

-- the files in use after an append
abbrev Appends : Bool → List MemFile → List MemFile → ℕ → List ℕ → Type 0
Appends fits used new i piece =
    OnTrue fits (new ≡ set used i (with_bytes (get_or used i no_file) ((get_or used i no_file).bytes.bytes ++ piece)))

pub kept_append : (fits : Bool) (used new spare : List MemFile) (capacity most room : ℕ) (name piece : List ℕ) (i : ℕ)
    → position (λ f. bytes_eq name f.name.bytes) used ≡ Some i → Appends fits used new i piece → OnFalse fits (new ≡ used)
    → AreKept used spare capacity most room → AreKept new spare capacity most room
kept_append true used new spare capacity most room name piece i place held refused kept =
    rw held (kept_set used spare capacity most room name _ i place kept)
kept_append false used new spare capacity most room name piece i place held refused kept = rw refused kept

pub table_append : (fits : Bool) (used new : List MemFile) (most room : ℕ) (name piece : List ℕ) (i : ℕ)
    → position (λ f. bytes_eq name f.name.bytes) used ≡ Some i → Appends fits used new i piece
    → OnTrue fits (table new most room ≡ holding (table used most room) name (bytes_under (table used most room) name ++ piece))
table_append true used new most room name piece i place held =
    ap (λ (files : Files). record { files = files; most = most; room = room })
    (ap files_of held ∙ files_set used name _ no_file i place
    ∙ ap (λ bytes. with_file (files_of used) name (bytes ++ piece)) (sym (ap (λ o. unwrap_or o []) (bytes_found used name no_file i place))))
table_append false used new most room name piece i place held = tt

-- whether a piece fits
pub fits_append : (used spare : List MemFile) (capacity most room : ℕ) (name : List ℕ) (more i : ℕ)
    → position (λ f. bytes_eq name f.name.bytes) used ≡ Some i → AreKept used spare capacity most room
    → nat_le (length (get_or used i no_file).bytes.bytes + more) (get_or used i no_file).bytes.room
    ≡ nat_le (length (bytes_under (table used most room) name) + more) room
fits_append used spare capacity most room name more i place kept =
    let here = position-Some (λ (f : MemFile). bytes_eq name f.name.bytes) used i no_file place in
    let under : bytes_under (table used most room) name ≡ (get_or used i no_file).bytes.bytes = ap (λ o. unwrap_or o []) (bytes_found used name no_file i place) in
    let wide : (get_or used i no_file).bytes.room ≡ room = (All-get_or (HasRoom room) used i no_file here.0 kept.used_room).1 in
    rw (under, wide) refl

-- a name that is held can hold what fits
pub can_hold_found : (table : Table) (name bytes : List ℕ) → length name ≤ 255 → length bytes ≤ table.room → IsSome (bytes_of table.files name)
    → true ≡ can_hold table name bytes
can_hold_found table name bytes short fits held = grind (arith, nat_tests, held)

-- a name that is not held can hold what fits where there is a place
pub can_hold_new : (table : Table) (name bytes : List ℕ) → length name ≤ 255 → length bytes ≤ table.room → bytes_of table.files name ≡ None
    → nat_lt (len table.files) table.most ≡ can_hold table name bytes
can_hold_new table name bytes short fits none = grind (arith, nat_tests, none)
