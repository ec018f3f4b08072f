-- How each path of the program ends, and that what is due has the status that is owed.
use Rattle.std.proofs.Common.{◌≡◌, ◌⊎◌, ℕ, ◌≤◌, true, false, List, [], ◌∷◌, ◌++◌, Option, Some, None, Result, Ok, Err, OnOk, OnErr, is_err, refl, sym, ap, subst, ◌∙◌, inl, inr}
use Rattle.std.specs.Prelude.{MatchResult}
use Rattle.fp_base.specs.Faults.{Rose}
use Rattle.fp_base.specs.Files.{Files, followed_by, FrontFollows, OthersStay}
use Rattle.fp_base.specs.FilesLaws.{rose_since}
use Rattle.fp_tech.specs.Slots.{slot_count}
use Rattle.faceplace.specs.declared.status.Status.{Status}
use Rattle.faceplace.specs.declared.status.Status.TheVariants as statuses
use Rattle.faceplace.specs.Request.{Asked, Seed, Score, Place, Check, Gen, Demo}
use Rattle.faceplace.specs.Report.{Cause, words_report}
use Rattle.faceplace.specs.Outcome.{Writing, Outcome, with_writings, told}
use Rattle.faceplace.specs.Sources.{problem_in, drawing_in, cert_in}
use Rattle.faceplace.specs.Made.{made_line}
use Rattle.faceplace.specs.Due.{IsDue}
use Rattle.faceplace.specs.Owed.{IsOwed}
use Rattle.faceplace.specs.Status.{code_of, Tells, Refuses}
use Rattle.faceplace.specs.Run.{Outside, EndsAs, IsUnread}
use Rattle.faceplace.proofs.Checks.{check_owed}
use Rattle.faceplace.proofs.Placings.{place_owed}
use Rattle.faceplace.proofs.Scores.{score_owed}
use Rattle.faceplace.proofs.Seeds.{seed_owed}

-- a report that is due was told
pub refused : (asked : Option Asked) (refusal status : ℕ) (report : List ℕ) (old new : Outside) → IsDue asked old.held (told refusal report) → new.held ≡ old.held
    → Refuses report refusal status old.written new.written old.sink_faults new.sink_faults → EndsAs asked status old new
refused asked refusal status report old new due same (inl (is, put)) =
    inl (record { outcome = told refusal report; due = due; status_is = is; files = same; reports = put })
refused asked refusal status report old new due same (inr (inl (is, rose, front))) =
    inr (inr (inr (inr (record { outcome = told refusal report; due = due; status_is = is; files = same; rose = rose; front = front }))))
refused asked refusal status report old new due same (inr (inr (is, quiet, steady))) = inr (inl (record { status_is = is; files = same; nothing = (quiet, steady) }))

-- a report that was told
pub tells_refuses : (report : List ℕ) (wanted status : Status) (old new : Option (List ℕ)) (before after : ℕ) → Tells report wanted status old new before after
    → Refuses report (code_of wanted) (code_of status) old new before after
tells_refuses report wanted status old new before after (inl (is, put)) = inl (ap code_of is, put)
tells_refuses report wanted status old new before after (inr (is, rose, front)) = inr (inl (ap code_of is, rose, front))

-- the words are no request
pub no_request : (status : Status) (old new : Outside) → new.held ≡ old.held
    → Tells words_report statuses.BadWords status old.written new.written old.sink_faults new.sink_faults → EndsAs None (code_of status) old new
no_request status old new same tells =
    refused None 2 (code_of status) words_report old new refl same (tells_refuses words_report statuses.BadWords status old.written new.written old.sink_faults new.sink_faults tells)

-- the folder failed at reading a file
pub unread : (asked : Asked) (name : List ℕ) (old new : Outside) → IsUnread (Some asked) old.held name → Rose old.folder_faults new.folder_faults → new.held ≡ old.held
    → new.written ≡ old.written → new.sink_faults ≡ old.sink_faults → EndsAs (Some asked) 6 old new
unread asked name old new first rose same quiet steady =
    inr (inr (inl (record { name = name; unread = first; status_is = refl; rose = rose; files = same; nothing = (quiet, steady) })))

-- memory ran out
pub wanting : (asked : Option Asked) (old new : Outside) → new.held ≡ old.held → new.written ≡ old.written → new.sink_faults ≡ old.sink_faults → EndsAs asked 1 old new
wanting asked old new same quiet steady = inr (inl (record { status_is = refl; files = same; nothing = (quiet, steady) }))

-- a file that is due was not written, behind those that were
pub unwritten : {T E : Type 0} (result : Result T E) (asked : Option Asked) (outcome : Outcome) (done : List Writing) (writing : Writing) (rest : List Writing) (old new : Outside)
    → is_err result ≡ true → IsDue asked old.held outcome → outcome.writings ≡ done ++ writing ∷ rest
    → OthersStay writing.name (with_writings done old.held) new.held → OnErr result (Rose old.folder_faults new.folder_faults)
    → new.written ≡ old.written → new.sink_faults ≡ old.sink_faults → EndsAs asked 6 old new
unwritten (Ok x) asked outcome done writing rest old new err due writings others rose quiet steady = absurd cc
unwritten (Err e) asked outcome done writing rest old new err due writings others rose quiet steady = inr (inr (inr (inl (record {
  outcome = outcome;
  due = due;
  done = done;
  writing = writing;
  rest = rest;
  writings = writings;
  status_is = refl;
  rose = rose;
  files = others;
  nothing = (quiet, steady);
}))))

-- where a call fails, a device's faults rose since before the calls in front of it
pub since_earlier : {T E : Type 0} (result : Result T E) (old mid new : ℕ) → old ≤ mid → OnErr result (Rose mid new) → OnErr result (Rose old new)
since_earlier (Ok x) old mid new later cause = tt
since_earlier (Err e) old mid new later cause = rose_since old mid new later cause

-- all files that are due were written, and the report told
pub written : (asked : Option Asked) (report : List ℕ) (writings : List Writing) (status : Status) (old new : Outside)
    → IsDue asked old.held (record { status = 0; report = report; writings = writings }) → new.held ≡ with_writings writings old.held
    → Tells report statuses.Done status old.written new.written old.sink_faults new.sink_faults → EndsAs asked (code_of status) old new
written asked report writings status old new due files (inl (is, put)) = inl (record {
  outcome = record { status = 0; report = report; writings = writings };
  due = due;
  status_is = ap code_of is;
  files = files;
  reports = put;
})
written asked report writings status old new due files (inr (is, rose, front)) = inr (inr (inr (inr (record {
  outcome = record { status = 0; report = report; writings = writings };
  due = due;
  status_is = ap code_of is;
  files = files;
  rose = rose;
  front = front;
}))))

-- what a call promised where it succeeds, which it did
pub was_done : {T E : Type 0} (result : Result T E) (fact : Type 0) → is_err result ≡ false → OnOk result fact → fact
was_done (Ok x) fact ok promised = promised
was_done (Err e) fact ok promised = absurd cc

-- a run that reads, and ends so from there, ends so from where it began
pub since_read : (asked : Option Asked) (status : ℕ) (old mid new : Outside) → mid.held ≡ old.held → old.folder_faults ≤ mid.folder_faults
    → mid.written ≡ old.written → mid.sink_faults ≡ old.sink_faults → EndsAs asked status mid new → EndsAs asked status old new
since_read asked status old mid new same later quiet steady (inl done) = inl (record {
  outcome = done.outcome;
  due = subst (λ (held : Option Files). IsDue asked held done.outcome) same done.due;
  status_is = done.status_is;
  files = done.files ∙ ap (with_writings done.outcome.writings) same;
  reports = done.reports ∙ ap (followed_by done.outcome.report) quiet;
})
since_read asked status old mid new same later quiet steady (inr (inl none)) =
    inr (inl (record { status_is = none.status_is; files = none.files ∙ same; nothing = (none.nothing.0 ∙ quiet, none.nothing.1 ∙ steady) }))
since_read asked status old mid new same later quiet steady (inr (inr (inl fails))) = inr (inr (inl (record {
  name = fails.name;
  unread = subst (λ (held : Option Files). IsUnread asked held fails.name) same fails.unread;
  status_is = fails.status_is;
  rose = rose_since old.folder_faults mid.folder_faults new.folder_faults later fails.rose;
  files = fails.files ∙ same;
  nothing = (fails.nothing.0 ∙ quiet, fails.nothing.1 ∙ steady);
})))
since_read asked status old mid new same later quiet steady (inr (inr (inr (inl fails)))) = inr (inr (inr (inl (record {
  outcome = fails.outcome;
  due = subst (λ (held : Option Files). IsDue asked held fails.outcome) same fails.due;
  done = fails.done;
  writing = fails.writing;
  rest = fails.rest;
  writings = fails.writings;
  status_is = fails.status_is;
  rose = rose_since old.folder_faults mid.folder_faults new.folder_faults later fails.rose;
  files = subst (λ (held : Option Files). OthersStay fails.writing.name (with_writings fails.done held) new.held) same fails.files;
  nothing = (fails.nothing.0 ∙ quiet, fails.nothing.1 ∙ steady);
}))))
since_read asked status old mid new same later quiet steady (inr (inr (inr (inr fails)))) = inr (inr (inr (inr (record {
  outcome = fails.outcome;
  due = subst (λ (held : Option Files). IsDue asked held fails.outcome) same fails.due;
  status_is = fails.status_is;
  files = fails.files ∙ ap (with_writings fails.outcome.writings) same;
  rose = subst (λ (faults : ℕ). Rose faults new.sink_faults) steady fails.rose;
  front = subst (λ (put : Option (List ℕ)). FrontFollows fails.outcome.report put new.written) quiet fails.front;
}))))

-- two facts by what a file says are of one reading
by_reading : {A C : Type 0} (found read : Result A Cause) (P Q : A → Type 0) (U V : Cause → Type 0) → found ≡ read → MatchResult found P U → MatchResult read Q V
    → ((a : A) → P a → Q a → C) → ((cause : Cause) → U cause → V cause → C) → C
by_reading {A} {C} found read P Q U V same is wants says refuses = by read (subst (λ (r : Result A Cause). MatchResult r P U) same is) wants
  where
    by : (r : Result A Cause) → MatchResult r P U → MatchResult r Q V → C
    by (Ok a) one other = says a one other
    by (Err cause) one other = refuses cause one other

-- the status of an outcome that is this one
status_of : (a b : Outcome) (status : ℕ) → a ≡ b → status ≡ b.status → a.status ≡ status
status_of a b status is owed = ap (λ (o : Outcome). o.status) is ∙ sym owed

-- what is due has the status that is owed
due_is_owed : (asked : Option Asked) (files : Files) (outcome : Outcome) (status : ℕ) → IsDue asked (Some files) outcome → IsOwed asked files status → outcome.status ≡ status
due_is_owed None files outcome status due owed = status_of outcome _ status due owed
due_is_owed (Some (Seed input output)) files outcome status due owed =
    by_reading due.0 (problem_in input files) _ _ _ _ due.1 due.2 owed (λ p is wants. seed_owed p output outcome status is.1 (wants is.0)) (λ cause is wants. status_of outcome _ status is wants)
due_is_owed (Some (Score input output)) files outcome status due owed =
    by_reading due.0 (problem_in input files) _ _ _ _ due.1 due.2 owed (λ p is wants.
    by_reading is.1.0 (drawing_in p output files) _ _ _ _ is.1.1 is.1.2 (wants is.0) (λ drawing one other. score_owed p drawing outcome status one other) (λ cause one other. status_of outcome _ status one other))
    (λ cause is wants. status_of outcome _ status is wants)
due_is_owed (Some (Place input output cert trials)) files outcome status due owed =
    by_reading due.0 (problem_in input files) _ _ _ _ due.1 due.2 owed (λ p is wants. place_owed [] p output cert trials outcome status is.1 (wants is.0))
    (λ cause is wants. status_of outcome _ status is wants)
due_is_owed (Some (Check input output cert)) files outcome status due owed =
    by_reading due.0 (problem_in input files) _ _ _ _ due.1 due.2 owed (λ p is wants.
    by_reading is.1.0 (drawing_in p output files) _ _ _ _ is.1.1 is.1.2 (wants is.0) (λ drawing drawn wants_run.
    by_reading drawn.2.0 (cert_in p (slot_count drawn.0) cert files) _ _ _ _ drawn.2.1 drawn.2.2 (wants_run drawn.0 drawn.1) (λ run one other. check_owed p drawing run outcome status one other)
    (λ cause one other. status_of outcome _ status one other)) (λ cause one other. status_of outcome _ status one other))
    (λ cause is wants. status_of outcome _ status is wants)
due_is_owed (Some (Gen making output)) files outcome status due owed = status_of outcome _ status due owed
due_is_owed (Some (Demo making output cert)) files outcome status due owed = place_owed (made_line making due.0) due.0 output cert 3 outcome status due.2 (owed due.0 due.1)

-- Where no device fails, the status is the one that is owed, or memory ran out.
pub owed_or_wanting : (asked : Option Asked) (files : Files) (owed status : ℕ) (old new : Outside) → old.held ≡ Some files → IsOwed asked files owed
    → (Rose old.folder_faults new.folder_faults → ⊥) → (Rose old.sink_faults new.sink_faults → ⊥)
    → EndsAs asked status old new → (status ≡ owed) ⊎ (status ≡ 1)
owed_or_wanting asked files owed status old new held is_owed steady quiet (inl done) =
    inl (done.status_is ∙ due_is_owed asked files done.outcome owed (subst (λ (h : Option Files). IsDue asked h done.outcome) held done.due) is_owed)
owed_or_wanting asked files owed status old new held is_owed steady quiet (inr (inl w)) = inr w.status_is
owed_or_wanting asked files owed status old new held is_owed steady quiet (inr (inr (inl r))) = absurd (steady r.rose)
owed_or_wanting asked files owed status old new held is_owed steady quiet (inr (inr (inr (inl w)))) = absurd (steady w.rose)
owed_or_wanting asked files owed status old new held is_owed steady quiet (inr (inr (inr (inr r)))) = absurd (quiet r.rose)
