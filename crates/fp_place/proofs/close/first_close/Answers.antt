use Rattle.std.proofs.Common.{sym, subst}
use Rattle.fp_place.specs.Buckets.{AreEntries}
use Rattle.fp_place.proofs.CloseLemmas.{entries_moved}
use Rattle.fp_place.proofs.close.first_close.Goals as goal

pub is_close-requires-clause-entries : goal.is_close-requires-clause-entries
is_close-requires-clause-entries c =
    subst (AreEntries c.args.terminal c.args.centres.now) (sym c.deref.ensures.value)
    (entries_moved c.args.terminal c.args.centres.now _ _ c.put_in_order.ensures.kept c.in_ok-entries.ensures)
