-- A write that took some bytes moves them from `rest`, and one that was interrupted took none.
use Rattle.std.proofs.Common.{◌≡◌, ℕ, Bor, ◌-◌, List, ◌++◌, length, take, drop, Option, Some, None, sym, ap, ◌∙◌, append_assoc, take-append-drop}
use Rattle.std.specs.Io.KnownBytes.{Appends, Keeps}
use Rattle.std.proofs.lemmas.List.{take_rest}
use Rattle.fp_base.proofs.device.write_whole.Goals as goal
use Rattle.fp_base.proofs.device.write_whole.Goals.{in-Ok, in-Err+else-ne}

appends_then : (a b c : Option (List ℕ)) (bs cs : List ℕ) → Appends a b bs → Appends b c cs → Appends a c (bs ++ cs)
appends_then None b c bs cs p q = tt
appends_then (Some x) None c bs cs p q = absurd p
appends_then (Some x) (Some y) None bs cs p q = absurd q
appends_then (Some x) (Some y) (Some z) bs cs p q = q ∙ ap (λ l. l ++ cs) p ∙ append_assoc x bs cs

appends_kept : (a b c : Option (List ℕ)) (bs : List ℕ) → Appends a b bs → Keeps b c → Appends a c bs
appends_kept None b c bs p q = tt
appends_kept (Some x) None c bs p q = absurd p
appends_kept (Some x) (Some y) None bs p q = absurd q
appends_kept (Some x) (Some y) (Some z) bs p q = q ∙ p

moves_front : (all done rest : List ℕ) (n : ℕ) → all ≡ done ++ rest → all ≡ (done ++ take n rest) ++ take (length rest - n) (drop n rest)
moves_front all done rest n e =
    e ∙ ap (λ l. done ++ l) (sym (take-append-drop n rest)) ∙ sym (append_assoc done (take n rest) (drop n rest))
    ∙ ap (λ l. (done ++ take n rest) ++ l) (sym (take_rest rest n))

pub loop-preserved : goal.loop-preserved
loop-preserved g c =
    let (done, split, appended) = c.loop.invariant in
    elim c.match-write.branch [
      | in-Ok w ↦ (
        done ++ take w.in-Ok.count c.loop.rest.now,
        moves_front c.args.piece.now done c.loop.rest.now w.in-Ok.count split
            ∙ ap (λ (r : Bor (List ℕ)). (done ++ take w.in-Ok.count c.loop.rest.now) ++ r.now) (sym w.rest-is),
        appends_then _ _ _ _ _ appended w.in-Ok.ensures.bytes,
      )
      | in-Err+else-ne w ↦
          (done, split ∙ ap (λ (r : Bor (List ℕ)). done ++ r.now) (sym w.rest-is), appends_kept _ _ _ _ appended w.in-Err.ensures.bytes)
    ]
