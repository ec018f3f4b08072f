-- Files in memory, found and changed by their names.
use Rattle.std.proofs.Common.{◌≡◌, ℕ, suc, zero, ◌+◌, ◌<◌, ◌≤◌, Bool, true, false, cond, List, [], ◌∷◌, ◌++◌, length, map, Some, None, get_or, set, ltb, refl, sym, ap, ◌∙◌, arith}
use Rattle.std.specs.Prelude.{position, IsSome, is_some}
use mathlib.Core.Bool.{true≢false}
use Rattle.std.specs.Ordering.{nat_cmp}
use Rattle.std.specs.Cmp.Lexicographic.{slice_cmp, nat_list_cmp_total}
use Rattle.std.specs.FinMap.{find, len, from_entries, get-insert, get-from_entries, same_map, len-insert, from_entries_push, nat_cmp-IsAntisymmetric, slice_cmp-IsAntisymmetric}
use Rattle.std.specs.Str.{bytes_eq}
use Rattle.std.proofs.lemmas.Slice.Eq.{bytes_eq-Decides}
use Rattle.std.proofs.lemmas.Map.Text.{is_eq-slice_cmp}
use Rattle.std.proofs.lemmas.List.Quantifiers.{position-Some}
use Rattle.std.proofs.lemmas.Bool.Decides.{nat_tests}
use Rattle.std.proofs.lemmas.List.{map-append}
use Rattle.std.specs.List.{position_or_len}
use Rattle.fp_base.specs.declared.file_table.MemFile.{MemFile}
use Rattle.fp_base.specs.Files.{Files, bytes_of, with_file}
use Rattle.fp_base.specs.FilesLaws.{is_same, same_name}
use Rattle.fp_base.specs.MemoryFiles.{entry_of, files_of, with_bytes}

-- a test that is repeated
repeated : {A : Type 0} (a b : Bool) (x y z : A) → a ≡ b → cond b x z ≡ cond a x (cond b y z)
repeated true true x y z e = refl
repeated true false x y z e = cc
repeated false true x y z e = cc
repeated false false x y z e = refl

-- two tests that are not both true, the other way round
exchanged : {A : Type 0} (a b : Bool) (x y z : A) → (a ≡ true → b ≡ true → ⊥) → cond b y (cond a x z) ≡ cond a x (cond b y z)
exchanged true true x y z apart = absurd (apart refl refl)
exchanged true false x y z apart = refl
exchanged false b x y z apart = refl

-- a look-up after the first file of a name was given other bytes
pub find_first : (name bytes q : List ℕ) (d : MemFile) (files : List MemFile) (i : ℕ) → i < length files
    → bytes_eq name (get_or files i d).name.bytes ≡ true
    → ((k : ℕ) → k < i → bytes_eq name (get_or files k d).name.bytes ≡ false)
    → find (slice_cmp nat_cmp) q (map entry_of (set files i (with_bytes (get_or files i d) bytes)))
    ≡ cond (is_same q name) (Some bytes) (find (slice_cmp nat_cmp) q (map entry_of files))
find_first name bytes q d [] i within is first = absurd (omega arith)
find_first name bytes q d (f ∷ fs) zero within is first =
    repeated (is_same q name) (is_same q f.name.bytes) (Some bytes) (Some f.bytes.bytes) (find (slice_cmp nat_cmp) q (map entry_of fs))
    (ap (is_same q) ((bytes_eq-Decides name f.name.bytes).0 is))
find_first name bytes q d (f ∷ fs) (suc i) within is first =
    ap (cond (is_same q f.name.bytes) (Some f.bytes.bytes)) (find_first name bytes q d fs i (omega arith) is (λ k h. first (suc k) (omega arith)))
    ∙ exchanged (is_same q name) (is_same q f.name.bytes) (Some bytes) (Some f.bytes.bytes) (find (slice_cmp nat_cmp) q (map entry_of fs)) apart
  where
    apart : is_same q name ≡ true → is_same q f.name.bytes ≡ true → ⊥
    apart a b =
        let e : name ≡ f.name.bytes = sym (same_name q name a) ∙ same_name q f.name.bytes b in
        true≢false (sym ((bytes_eq-Decides name f.name.bytes).1 e) ∙ first zero (omega arith))

-- the files after the first file of a name was given other bytes
pub files_set : (files : List MemFile) (name bytes : List ℕ) (d : MemFile) (i : ℕ) → position (λ f. bytes_eq name f.name.bytes) files ≡ Some i
    → files_of (set files i (with_bytes (get_or files i d) bytes)) ≡ with_file (files_of files) name bytes
files_set files name bytes d i e =
    let here = position-Some (λ (f : MemFile). bytes_eq name f.name.bytes) files i d e in
    same_map nat_list_cmp_total (slice_cmp-IsAntisymmetric nat_cmp-IsAntisymmetric) _ _ (λ q.
    get-from_entries nat_list_cmp_total (map entry_of (set files i (with_bytes (get_or files i d) bytes))) q
    ∙ find_first name bytes q d files i here.0 here.1 here.2
    ∙ ap (cond (is_same q name) (Some bytes)) (sym (get-from_entries nat_list_cmp_total (map entry_of files) q))
    ∙ sym (get-insert nat_list_cmp_total (files_of files) name bytes q))

-- a look-up, by the first file of the name
find_found : (name : List ℕ) (d : MemFile) (files : List MemFile) (i : ℕ) → i < length files
    → bytes_eq name (get_or files i d).name.bytes ≡ true
    → ((k : ℕ) → k < i → bytes_eq name (get_or files k d).name.bytes ≡ false)
    → find (slice_cmp nat_cmp) name (map entry_of files) ≡ Some (get_or files i d).bytes.bytes
find_found name d [] i within is first = absurd (omega arith)
find_found name d (f ∷ fs) zero within is first =
    ap (λ b. cond b (Some f.bytes.bytes) (find (slice_cmp nat_cmp) name (map entry_of fs))) (is_eq-slice_cmp name f.name.bytes ∙ is)
find_found name d (f ∷ fs) (suc i) within is first =
    ap (λ b. cond b (Some f.bytes.bytes) (find (slice_cmp nat_cmp) name (map entry_of fs))) (is_eq-slice_cmp name f.name.bytes ∙ first zero (omega arith))
    ∙ find_found name d fs i (omega arith) is (λ k h. first (suc k) (omega arith))

-- what a name holds, by its place
pub bytes_found : (files : List MemFile) (name : List ℕ) (d : MemFile) (i : ℕ) → position (λ f. bytes_eq name f.name.bytes) files ≡ Some i
    → bytes_of (files_of files) name ≡ Some (get_or files i d).bytes.bytes
bytes_found files name d i e =
    let here = position-Some (λ (f : MemFile). bytes_eq name f.name.bytes) files i d e in
    get-from_entries nat_list_cmp_total (map entry_of files) name ∙ find_found name d files i here.0 here.1 here.2

-- a look-up where no file has the name
find_none : (name : List ℕ) (files : List MemFile) → length files ≤ position_or_len (λ f. bytes_eq name f.name.bytes) files
    → find (slice_cmp nat_cmp) name (map entry_of files) ≡ None
find_none name [] past = refl
find_none name (f ∷ fs) past = by_test (bytes_eq name f.name.bytes) refl (λ less. find_none name fs less)
  where
    rest : bytes_eq name f.name.bytes ≡ false → length fs ≤ position_or_len (λ f. bytes_eq name f.name.bytes) fs
    rest e = let less = rw e at past in omega (arith, less)

    by_test : (b : Bool) → bytes_eq name f.name.bytes ≡ b
        → (length fs ≤ position_or_len (λ f. bytes_eq name f.name.bytes) fs → find (slice_cmp nat_cmp) name (map entry_of fs) ≡ None)
        → find (slice_cmp nat_cmp) name (map entry_of (f ∷ fs)) ≡ None
    by_test true e tail = let none = rw e at past in absurd (omega (arith, none))
    by_test false e tail =
        ap (λ b. cond b (Some f.bytes.bytes) (find (slice_cmp nat_cmp) name (map entry_of fs))) (is_eq-slice_cmp name f.name.bytes ∙ e)
        ∙ tail (rest e)

-- a place that was not found
no_place : (n m : ℕ) → cond (ltb n m) (Some n) None ≡ None → m ≤ n
no_place n m e = grind (arith, nat_tests)

-- a name without a place is not held
pub none_found : (files : List MemFile) (name : List ℕ) → position (λ f. bytes_eq name f.name.bytes) files ≡ None → bytes_of (files_of files) name ≡ None
none_found files name e =
    get-from_entries nat_list_cmp_total (map entry_of files) name ∙ find_none name files (no_place _ _ e)

-- the files after one more, of a name that was not held
pub files_push : (files : List MemFile) (f : MemFile) (name bytes : List ℕ) → bytes_of (files_of files) name ≡ None → f.name.bytes ≡ name → f.bytes.bytes ≡ bytes
    → files_of (files ++ f ∷ []) ≡ with_file (files_of files) name bytes
files_push files f name bytes none is_name is_bytes =
    ap from_entries (map-append entry_of files (f ∷ []))
    ∙ ap (λ e. from_entries (map entry_of files ++ e ∷ [])) (λ i. (is_name i, is_bytes i))
    ∙ from_entries_push nat_list_cmp_total (slice_cmp-IsAntisymmetric nat_cmp-IsAntisymmetric) (map entry_of files) name bytes
    (sym (get-from_entries nat_list_cmp_total (map entry_of files) name) ∙ none)

-- how many names there are after one was set
pub count_held : (files : Files) (name bytes : List ℕ) → IsSome (bytes_of files name) → len (with_file files name bytes) ≡ len files
count_held files name bytes held = len-insert nat_list_cmp_total files name bytes ∙ ap (λ b. cond b (len files) (len files + 1)) held

pub count_new : (files : Files) (name bytes : List ℕ) → bytes_of files name ≡ None → len (with_file files name bytes) ≡ len files + 1
count_new files name bytes none = len-insert nat_list_cmp_total files name bytes ∙ ap (λ o. cond (is_some o) (len files) (len files + 1)) none
