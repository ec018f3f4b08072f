use Rattle.std.proofs.Common.{◌+◌, [], ◌∷◌, ◌++◌, None, IfSome, ap, sym, ◌∙◌, subst, arith}
use Rattle.fp_place.specs.Placed.{IsCentre}
use Rattle.fp_place.proofs.CloseLemmas.{AreEntriesBelow, entries_pushed, entries_passed, entries_all}
use Rattle.fp_place.proofs.close.entries_of.Goals as goal
use Rattle.fp_place.proofs.close.entries_of.Goals.{in-Some+in_ok-push, in_default}

pub loop-net-preserved : goal.loop-net-preserved
loop-net-preserved c =
    elim c.match-centre.branch [
      | in-Some+in_ok-push w ↦
          subst (λ entries. AreEntriesBelow c.args.terminal c.args.centres.now entries (c.loop-net.net + 1))
          (sym (ap (λ v. v.items) w.entries-is ∙ w.in_ok-push.ensures.items ∙ ap (λ entry. c.loop-net.entries.items ++ entry ∷ []) w.entry_of.ensures))
          (entries_pushed c.args.terminal c.args.centres.now c.loop-net.entries.items c.loop-net.net w.in-Some.centre c.loop-net.invariant w.in-Some.is
          (subst (λ centre. IfSome centre IsCentre) w.in-Some.is (c.requires.range c.loop-net.net None c.loop-net-test.true)))
      | in_default w ↦
          subst (λ entries. AreEntriesBelow c.args.terminal c.args.centres.now entries (c.loop-net.net + 1)) (sym (ap (λ v. v.items) w.entries-is))
          (entries_passed c.args.terminal c.args.centres.now c.loop-net.entries.items c.loop-net.net c.loop-net.invariant w.in_default.is)
    ]

pub returns : goal.returns
returns c = entries_all c.args.terminal c.args.centres.now c.loop-net.entries.items c.loop-net.net (omega arith) c.loop-net.invariant
