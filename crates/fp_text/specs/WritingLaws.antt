-- Calls of a writer one after the other.
use Rattle.std.specs.Prelude.{◌≡◌, ℕ, ◌≤◌, Bool, true, false, List, [], ◌++◌, Option, Some, None, option_map, unwrap_or, Result, Ok, Err, OnOk, is_err}
use Rattle.std.proofs.Common.{refl, sym, ap, subst, ◌∙◌, arith, inl, inr}
use Rattle.std.proofs.lemmas.Bool.{cases_Bool, both_ways, cond-false}
use Rattle.fp_base.specs.Files.{Files, bytes_of, sets_file, followed_by, OthersStay}
use Rattle.fp_base.specs.FilesLaws.{bytes_set, is_set, others_refl, others_then, rose_later, rose_since, followed_none, followed_then}
use Rattle.fp_base.specs.Faults.{Rose}
use Rattle.fp_text.specs.Writing.{Waiting, Told, text_of, so_far, GoesOn, Starts, Adds, Finishes}

-- the text of a name that was set
pub text-set : (name : List ℕ) (change : List ℕ → List ℕ) (old new : Told)
    → new.held ≡ sets_file name change old.held
    → text_of name new ≡ option_map change (text_of name old)
text-set name change old new is = ap (option_map (λ files. unwrap_or (bytes_of files name) [])) is
    ∙ set old.held where
      set : (held : Option Files)
          → option_map (λ files. unwrap_or (bytes_of files name) [])
          (sets_file name change held) ≡ option_map change
          (option_map (λ files. unwrap_or (bytes_of files name) []) held)
      set None = refl
      set (Some files) =
          ap (λ (o : Option (List ℕ)). Some (unwrap_or o []))
          (bytes_set files name (change (unwrap_or (bytes_of files name) [])))

-- nothing added
pub adds_nothing : (name : List ℕ) (folder : Told) (writer : Waiting)
    → Adds name [] folder folder writer writer
adds_nothing name folder writer = record {
  text = λ running. sym (followed_none (so_far name folder writer));
  stays_failed = λ failed. failed;
  cause = λ running failed. absurd (both_ways _ running failed);
  others = others_refl name folder.held;
  made = refl;
  later = omega arith;
}

-- a writer that has failed adds any piece
pub adds_failed : (name piece : List ℕ) (folder : Told) (writer : Waiting) → writer.failed ≡ true
    → Adds name piece folder folder writer writer
adds_failed name piece folder writer failed = record {
  text = λ running. absurd (both_ways _ running failed);
  stays_failed = λ failed. failed;
  cause = λ running failed. absurd (both_ways _ running failed);
  others = others_refl name folder.held;
  made = refl;
  later = omega arith;
}

-- two pieces one after the other
pub adds_then : (name first second : List ℕ) (one two three : Told) (u v w : Waiting)
    → Adds name first one two u v → Adds name second two three v w
    → Adds name (first ++ second) one three u w
adds_then name first second one two three u v w p q = record {
  text = λ running.
      let was : v.failed ≡ false =
      elim
      (cases_Bool v.failed) [
        | inl failed ↦
            absurd (both_ways _ running (q.stays_failed failed))
        | inr ran ↦ ran
      ] in
      q.text running ∙ ap (followed_by second) (p.text was)
      ∙ followed_then first second (so_far name one u);
  stays_failed = λ failed. q.stays_failed (p.stays_failed failed);
  cause = λ running failed.
      elim (cases_Bool v.failed) [
        | inl stopped ↦
            rose_later one.faults two.faults three.faults (p.cause running stopped) q.later
        | inr ran ↦ rose_since one.faults two.faults three.faults p.later (q.cause ran failed)
      ];
  others = others_then name one.held two.held three.held p.others q.others;
  made = q.made ∙ p.made;
  later = let le : one.faults ≤ two.faults = p.later in let le' : two.faults ≤ three.faults =
      q.later in omega arith;
}

-- adds_then, where the two runs say which pieces and moments they are of
pub in_turn : {name first second : List ℕ} {one two three : Told} {u v w : Waiting}
    → Adds name first one two u v → Adds name second two three v w
    → Adds name (first ++ second) one three u w
in_turn {name = name} {first = first} {second = second} {one = one} {two = two} {three = three}
    {u = u} {v = v} {w = w} p q = adds_then name first second one two three u v w p q

-- a piece told by another term
pub as_piece : {name piece other : List ℕ} {one two : Told} {u v : Waiting} → piece ≡ other
    → Adds name piece one two u v → Adds name other one two u v
as_piece {name = name} {one = one} {two = two} {u = u} {v = v} same adds =
    subst (λ (text : List ℕ). Adds name text one two u v) same adds

-- a new writer may go on, and so may each one that was called
pub goes_on_start : (name : List ℕ) (old new : Told) (writer : Waiting) → Starts name old new writer
    → GoesOn name new writer
goes_on_start name old new writer start = λ running. start.made
    ∙ cond-false writer.failed None (Some name) running

pub goes_on_then : (name piece : List ℕ) (one two : Told) (u v : Waiting)
    → Adds name piece one two u v → GoesOn name one u → GoesOn name two v
goes_on_then name piece one two u v p before = λ running.
    p.made
    ∙ before
    (elim
    (cases_Bool u.failed) [
      | inl failed ↦
          absurd (both_ways _ running (p.stays_failed failed))
      | inr ran ↦ ran
    ])

-- what waits is appended
pub adds_flush : (name : List ℕ) (old new : Told) (before after : Waiting) → before.failed ≡ false
    → after ≡ record { bytes = []; failed = false }
    → new.held ≡ sets_file name (λ bytes. bytes ++ before.bytes) old.held
    → OthersStay name old.held new.held → new.made ≡ old.made → old.faults ≤ new.faults
    → Adds name [] old new before after
adds_flush name old new before after running empty held others made later =
    let text : so_far name new after ≡ followed_by [] (so_far name old before) =
    ap (λ (w : Waiting). so_far name new w) empty ∙ followed_none (text_of name new)
    ∙ text-set name (λ bytes. bytes ++ before.bytes) old new held
    ∙ sym (followed_none (so_far name old before)) in
    record {
      text = λ ran. text;
      stays_failed = λ failed. absurd (both_ways _ running failed);
      cause =
          λ ran failed. absurd
          (both_ways after.failed (ap (λ (w : Waiting). w.failed) empty) failed);
      others = others;
      made = made;
      later = later;
    }

-- a piece is appended, where nothing waits
pub adds_direct : (name piece : List ℕ) (old new : Told) (before after : Waiting)
    → before ≡ record { bytes = []; failed = false } → after ≡ before
    → new.held ≡ sets_file name (λ bytes. bytes ++ piece) old.held
    → OthersStay name old.held new.held → new.made ≡ old.made → old.faults ≤ new.faults
    → Adds name piece old new before after
adds_direct name piece old new before after empty same held others made later =
    let text : so_far name new after ≡ followed_by piece (so_far name old before) =
    ap (λ (w : Waiting). so_far name new w) (same ∙ empty) ∙ followed_none (text_of name new)
    ∙ text-set name (λ bytes. bytes ++ piece) old new held
    ∙ ap (followed_by piece)
    (sym (followed_none (text_of name old))
    ∙ ap (λ (w : Waiting). so_far name old w) (sym empty)) in
    record {
      text = λ ran. text;
      stays_failed =
          λ failed. absurd (both_ways before.failed (ap (λ (w : Waiting). w.failed) empty) failed);
      cause =
          λ ran failed. absurd
          (both_ways after.failed (ap (λ (w : Waiting). w.failed) (same ∙ empty)) failed);
      others = others;
      made = made;
      later = later;
    }

-- a piece waits
pub adds_kept : (name piece : List ℕ) (folder : Told) (before after : Waiting)
    → after ≡ record { bytes = before.bytes ++ piece; failed = before.failed }
    → Adds name piece folder folder before after
adds_kept name piece folder before after is =
    let text : so_far name folder after ≡ followed_by piece (so_far name folder before) =
    ap (λ (w : Waiting). so_far name folder w) is
    ∙ sym (followed_then before.bytes piece (text_of name folder)) in
    let same : after.failed ≡ before.failed = ap (λ (w : Waiting). w.failed) is in
    record {
      text = λ ran. text;
      stays_failed = λ failed. same ∙ failed;
      cause = λ running failed. absurd (both_ways _ running (sym same ∙ failed));
      others = others_refl name folder.held;
      made = refl;
      later = omega arith;
    }

-- a call of the folder failed
pub adds_stopped : (name piece : List ℕ) (old new : Told) (before after : Waiting)
    → before.failed ≡ false → after.failed ≡ true
    → Rose old.faults new.faults → OthersStay name old.held new.held → new.made ≡ old.made
    → old.faults ≤ new.faults
    → Adds name piece old new before after
adds_stopped name piece old new before after running stopped rose others made later = record {
  text = λ ran. absurd (both_ways _ ran stopped);
  stays_failed = λ failed. stopped;
  cause = λ running failed. rose;
  others = others;
  made = made;
  later = later;
}

-- what a name holds that was set
pub held-set : (name : List ℕ) (change : List ℕ → List ℕ) (held : Option Files)
    → option_map (λ files. bytes_of files name) (sets_file name change held) ≡ option_map Some
    (option_map change (option_map (λ files. unwrap_or (bytes_of files name) []) held))
held-set name change None = refl
held-set name change (Some files) =
    ap Some (bytes_set files name (change (unwrap_or (bytes_of files name) [])))

-- what the last append leaves
pub finishes : (name piece : List ℕ) (old new : Told) (writer : Waiting) (failed : Bool)
    → writer.failed ≡ false → piece ≡ writer.bytes
    → (failed ≡ false → new.held ≡ sets_file name (λ bytes. bytes ++ piece) old.held)
    → (failed ≡ true → Rose old.faults new.faults)
    → OthersStay name old.held new.held → new.made ≡ old.made → old.faults ≤ new.faults
    → Finishes name old new writer failed
finishes name piece old new writer failed running all held rose others made later = record {
  holds = λ ran. ap (option_map (λ files. bytes_of files name)) (held ran)
      ∙ held-set name (λ bytes. bytes ++ piece) old.held
      ∙ ap (λ (p : List ℕ). option_map Some (followed_by p (text_of name old))) all;
  stays_failed = λ stopped. absurd (both_ways _ running stopped);
  cause = λ ran stopped. rose stopped;
  others = others;
  made = made;
  later = later;
}

-- the files where every other name stays and this one holds the text
set_is : (name text : List ℕ) (old new : Option Files)
    → option_map (λ files. bytes_of files name) new ≡ option_map (λ _. Some text) old
    → OthersStay name old new → new ≡ sets_file name (λ _. text) old
set_is name text None None holds others = refl
set_is name text None (Some new) holds others = absurd others
set_is name text (Some old) None holds others = absurd others
set_is name text (Some old) (Some new) holds others = let is : bytes_of new name ≡ Some text = cc in
    ap Some (is_set old new name text others is)

-- the text of a created name
created : (name text : List ℕ) (held : Option Files)
    → option_map Some
    (followed_by text
    (followed_by []
    (option_map (λ _. [])
    (option_map (λ files. unwrap_or (bytes_of files name) []) held)))) ≡ option_map
    (λ _. Some text) held
created name text None = refl
created name text (Some files) = refl

-- A whole run: a new writer, the pieces, and the last call that answered Ok. The files are then
-- those of before, with the name holding the pieces; other names stay whatever was answered.
pub is_written : (name text : List ℕ) (before started ended after : Told) (first last : Waiting)
    → Starts name before started first → Adds name text started ended first last
    → Finishes name ended after last false → after.held ≡ sets_file name (λ _. text) before.held
is_written name text before started ended after first last new adds end =
    let ran : last.failed ≡ false =
    elim
    (cases_Bool last.failed) [
      | inl failed ↦
          absurd (both_ways _ refl (end.stays_failed failed))
      | inr ran ↦ ran
    ] in
    let began : first.failed ≡ false =
    elim
    (cases_Bool first.failed) [
      | inl failed ↦
          absurd (both_ways _ ran (adds.stays_failed failed))
      | inr ran ↦ ran
    ] in
    let start : so_far name started first ≡ followed_by []
    (option_map (λ _. []) (text_of name before)) =
    (λ i. followed_by (new.none_wait i)
    (text-set name (λ _. []) before started (new.empty began) i)) in
    let holds : option_map (λ files. bytes_of files name) after.held ≡ option_map
    (λ _. Some text) before.held =
    end.holds refl ∙ ap (option_map Some) (adds.text ran ∙ ap (followed_by text) start)
    ∙ created name text before.held in
    set_is name text before.held after.held holds
    (others_then name before.held ended.held after.held
    (others_then name before.held started.held ended.held new.others adds.others) end.others)

-- what is_written says, of whatever the last call answered
pub written_on_ok : {T E : Type 0} {name text : List ℕ} {before started ended after : Told}
    {first last : Waiting} (result : Result T E)
    → Starts name before started first → Adds name text started ended first last
    → Finishes name ended after last (is_err result)
    → OnOk result (after.held ≡ sets_file name (λ _. text) before.held)
written_on_ok {name = name} {text = text} {before = before} {started = started} {ended = ended}
    {after = after} {first = first} {last = last} (Ok x) start adds end =
    is_written name text before started ended after first last start adds end
written_on_ok (Err e) start adds end = tt
