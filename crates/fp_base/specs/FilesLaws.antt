-- What callers of a folder or a sink need: calls after one another, and one name changed among others.
use Rattle.std.specs.Prelude.{◌≡◌, ◌≢◌, ℕ, ◌+◌, ◌≤◌, Bool, true, false, cond, List, [], ◌++◌, length, take, Option, Some, None, IsSome, is_some, option_map, unwrap_or, refl}
use Rattle.std.proofs.Common.{sym, ◌∙◌, ap, arith, append_assoc, length-append}
use Rattle.std.proofs.Math.Seq.{take-length, take-append-add}
use Rattle.std.proofs.lemmas.List.{append-nil, take-append-le}
use Rattle.std.proofs.lemmas.Slice.Eq.{bytes_eq-Decides}
use Rattle.std.proofs.lemmas.Map.Text.{is_eq-slice_cmp}
use Rattle.std.specs.Ordering.{nat_cmp, eq_by_cmp, is_eq}
use Rattle.std.specs.Cmp.{tied_itself}
use Rattle.std.specs.Cmp.Lexicographic.{slice_cmp, nat_list_cmp_total}
use Rattle.std.specs.FinMap.{get-insert, same_map, nat_cmp-IsAntisymmetric, slice_cmp-IsAntisymmetric}
use Rattle.std.proofs.lemmas.Bool.Decides.{nat_tests}
use Rattle.fp_base.specs.Faults.{Rose, one_more}
use Rattle.fp_base.specs.Files.{Files, bytes_of, with_file, OthersStay, sets_file, followed_by, FrontFollows}

-- whether two names are one
abbrev pub is_same : List ℕ → List ℕ → Bool
is_same = eq_by_cmp (slice_cmp nat_cmp)

-- names that tie are equal
pub same_name : (q k : List ℕ) → is_same q k ≡ true → q ≡ k
same_name q k e = (bytes_eq-Decides q k).0 (sym (is_eq-slice_cmp q k) ∙ e)

different : (b : Bool) (q k : List ℕ) → is_same q k ≡ b → q ≢ k → is_same q k ≡ false
different true q k e apart = absurd (apart (same_name q k e))
different false q k e apart = e

apart_from : (q k : List ℕ) → is_same q k ≡ false → q ≢ k
apart_from q k e same =
    let tied : is_same k k ≡ true = ap is_eq (tied_itself nat_list_cmp_total k) in
    let untied : is_same k k ≡ false = sym (ap (λ r. is_same r k) same) ∙ e in
    cc

-- a name that was set holds these bytes
pub bytes_set : (files : Files) (name bytes : List ℕ) → bytes_of (with_file files name bytes) name ≡ Some bytes
bytes_set files name bytes =
    get-insert nat_list_cmp_total files name bytes name
    ∙ ap (λ r. cond (is_eq r) (Some bytes) (bytes_of files name)) (tied_itself nat_list_cmp_total name)

-- every other name holds what it held
pub bytes_others : (files : Files) (name bytes other : List ℕ) → other ≢ name
    → bytes_of (with_file files name bytes) other ≡ bytes_of files other
bytes_others files name bytes other apart =
    get-insert nat_list_cmp_total files name bytes other
    ∙ ap (λ b. cond b (Some bytes) (bytes_of files other)) (different (is_same other name) other name refl apart)

-- a name that was held is held after any name was set
pub held_later : (files : Files) (name bytes other : List ℕ) → IsSome (bytes_of files other)
    → IsSome (bytes_of (with_file files name bytes) other)
held_later files name bytes other held =
    ap is_some (get-insert nat_list_cmp_total files name bytes other) ∙ by_test (is_same other name)
  where
    by_test : (b : Bool) → is_some (cond b (Some bytes) (bytes_of files other)) ≡ true
    by_test true = refl
    by_test false = held

-- to set a name twice is to set it to the later bytes
pub set_twice : (files : Files) (name first second : List ℕ)
    → with_file (with_file files name first) name second ≡ with_file files name second
set_twice files name first second =
    same_map nat_list_cmp_total (slice_cmp-IsAntisymmetric nat_cmp-IsAntisymmetric) _ _ (λ other.
    get-insert nat_list_cmp_total (with_file files name first) name second other
    ∙ ap (cond (is_same other name) (Some second)) (get-insert nat_list_cmp_total files name first other)
    ∙ hidden (is_same other name) (Some second) (Some first) (bytes_of files other)
    ∙ sym (get-insert nat_list_cmp_total files name second other))
  where
    hidden : (b : Bool) (x y z : Option (List ℕ)) → cond b x (cond b y z) ≡ cond b x z
    hidden true x y z = refl
    hidden false x y z = refl

-- other names stay where nothing changes
pub others_refl : (name : List ℕ) (held : Option Files) → OthersStay name held held
others_refl name None = tt
others_refl name (Some files) = λ other apart. refl

-- other names stay through two calls where they stay through each
pub others_then : (name : List ℕ) (first second third : Option Files) → OthersStay name first second → OthersStay name second third
    → OthersStay name first third
others_then name None None third one two = two
others_then name None (Some files) third one two = absurd one
others_then name (Some files) None third one two = absurd one
others_then name (Some files) (Some files') None one two = absurd two
others_then name (Some files) (Some files') (Some files'') one two = λ other apart. two other apart ∙ one other apart

-- other names stay where this one is set
pub others_set : (name : List ℕ) (change : List ℕ → List ℕ) (held : Option Files) → OthersStay name held (sets_file name change held)
others_set name change None = tt
others_set name change (Some files) = λ other apart. bytes_others files name _ other apart

-- where other names stay and this one holds the bytes, the files are those of before with this name set
pub is_set : (old new : Files) (name bytes : List ℕ) → OthersStay name (Some old) (Some new) → bytes_of new name ≡ Some bytes
    → new ≡ with_file old name bytes
is_set old new name bytes stay holds =
    same_map nat_list_cmp_total (slice_cmp-IsAntisymmetric nat_cmp-IsAntisymmetric) _ _ (λ other.
    by_test other (is_same other name) refl ∙ sym (get-insert nat_list_cmp_total old name bytes other))
  where
    by_test : (other : List ℕ) (b : Bool) → is_same other name ≡ b → bytes_of new other ≡ cond b (Some bytes) (bytes_of old other)
    by_test other true e = ap (bytes_of new) (same_name other name e) ∙ holds
    by_test other false e = stay other (apart_from other name e)

-- two calls that set one name are one that sets it to what both make of its bytes
pub set_then : (name : List ℕ) (first second : List ℕ → List ℕ) (held : Option Files)
    → sets_file name second (sets_file name first held) ≡ sets_file name (λ bytes. second (first bytes)) held
set_then name first second None = refl
set_then name first second (Some files) =
    let bytes : List ℕ = first (unwrap_or (bytes_of files name) []) in
    ap Some (ap (λ o. with_file (with_file files name bytes) name (second (unwrap_or o []))) (bytes_set files name bytes)
    ∙ set_twice files name bytes (second bytes))

-- what the name holds after it was set
pub bytes_after : (name : List ℕ) (change : List ℕ → List ℕ) (held : Option Files)
    → option_map (λ files. unwrap_or (bytes_of files name) []) (sets_file name change held)
    ≡ option_map (λ files. change (unwrap_or (bytes_of files name) [])) held
bytes_after name change None = refl
bytes_after name change (Some files) = ap (λ o. Some (unwrap_or o [])) (bytes_set files name (change (unwrap_or (bytes_of files name) [])))

-- a count that rose has risen later too
pub rose_later : (before after later : ℕ) → Rose before after → after ≤ later → Rose before later
rose_later before after later rose le = omega arith

-- a count that rose has risen from any earlier count
pub rose_since : (earlier before after : ℕ) → earlier ≤ before → Rose before after → Rose earlier after
rose_since earlier before after le rose = omega arith

-- one more is no less
pub later_one_more : (count : ℕ) → count ≤ one_more count
later_one_more count = grind (arith, nat_tests)

-- one more is a rise
pub rose_one_more : (count : ℕ) → Rose count (one_more count)
rose_one_more count = grind (arith, nat_tests)

-- where nothing follows, all stays
pub followed_none : (written : Option (List ℕ)) → followed_by [] written ≡ written
followed_none None = refl
followed_none (Some bytes) = ap Some (append-nil bytes)

-- two pieces that follow one another are one
pub followed_then : (first second : List ℕ) (written : Option (List ℕ))
    → followed_by second (followed_by first written) ≡ followed_by (first ++ second) written
followed_then first second None = refl
followed_then first second (Some bytes) = ap Some (append_assoc bytes first second)

-- nothing of a piece is a front of it
pub front_none : (piece : List ℕ) (written : Option (List ℕ)) → FrontFollows piece written written
front_none piece written = (0, omega arith, sym (followed_none written))

-- the whole piece is a front of it
pub front_all : (piece : List ℕ) (written : Option (List ℕ)) → FrontFollows piece written (followed_by piece written)
front_all piece written = (length piece, omega arith, ap (λ p. followed_by p written) (sym (take-length piece)))

-- a front of the first piece is one of both
pub front_of_first : (first second : List ℕ) (old new : Option (List ℕ)) → FrontFollows first old new → FrontFollows (first ++ second) old new
front_of_first first second old new front =
    (front.0, simp length-append (omega (arith, front.1)), front.2 ∙ ap (λ p. followed_by p old) (sym (take-append-le front.0 first second front.1)))

-- a front of the second piece behind the first is one of both
pub front_of_second : (first second : List ℕ) (old new : Option (List ℕ)) → FrontFollows second (followed_by first old) new
    → FrontFollows (first ++ second) old new
front_of_second first second old new front = (
  length first + front.0,
  simp length-append (omega (arith, front.1)),
  front.2 ∙ followed_then first (take front.0 second) old ∙ ap (λ p. followed_by p old) (sym (take-append-add first second front.0)),
)
