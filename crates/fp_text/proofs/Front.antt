-- The front of a file that was read, and one more piece.
use Rattle.std.proofs.Common.{◌≡◌, ℕ, ◌+◌, ◌≤◌, List, ◌++◌, length, take, Option, Some, None, Ok, sym, ap, subst, ◌∙◌, arith}
use Rattle.std.proofs.lemmas.List.{length-append, length-take-le}
use Rattle.std.proofs.Math.Seq.{take-add}
use Rattle.fp_base.specs.Files.{Files, WhereTold, ReadsAt, bytes_of}
use Rattle.fp_text.specs.Whole.{IsFront}

front_and : (bytes : Option (List ℕ)) (front piece more : List ℕ) (count : ℕ) → IsFront bytes front
    → ReadsAt bytes (length front) (Ok count) piece → count ≤ length piece
    → more ≡ front ++ take count piece → IsFront bytes more
front_and None front piece more count is read le all = absurd read
front_and (Some bytes) front piece more count is read le all =
    let long : length more ≡ length front + count =
    omega (
      arith,
      ap length all,
      length-append front
          (take count piece),
      length-take-le count piece le,
    ) in
    all ∙ (λ i. is i ++ read.0 i) ∙ sym (take-add (length front) count bytes)
    ∙ ap (λ n. take n bytes) (sym long)

pub front_more : (start now : Option Files) (name front piece more : List ℕ) (count at : ℕ)
    → now ≡ start → at ≡ length front
    → WhereTold start (λ files. IsFront (bytes_of files name) front)
    → WhereTold now (λ files. ReadsAt (bytes_of files name) at (Ok count) piece)
    → count ≤ length piece → more ≡ front ++ take count piece
    → WhereTold start (λ files. IsFront (bytes_of files name) more)
front_more None now name front piece more count at same place is read le all = tt
front_more (Some files) now name front piece more count at same place is read le all =
    front_and (bytes_of files name) front piece more count is
    (subst (λ n. ReadsAt (bytes_of files name) n (Ok count) piece) place
    (subst
    (λ (h : Option Files). WhereTold h
    (λ f. ReadsAt (bytes_of f name) at (Ok count) piece)) same read)) le all
