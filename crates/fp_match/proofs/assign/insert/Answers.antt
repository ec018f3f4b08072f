use Rattle.std.proofs.Common.{refl, arith}
use Rattle.std.proofs.lemmas.List.{with_items_is}
use Rattle.fp_match.proofs.Assigned.{fits_of}
use Rattle.fp_match.proofs.Insert.{level_low, can_raise, path_of, matched_more}
use Rattle.fp_match.proofs.assign.insert.Goals as goal

pub raise-requires : goal.raise-requires
raise-requires g c =
    let fits = fits_of _ _ _ _ _ c.requires.room c.requires.row_in in
    rw (c.deref.ensures.value, c.deref_mut.ensures.value)
    (can_raise _ _ _ _ _ c.requires.matched fits c.grow.ensures.grown
    (level_low _ _ _ _ _ _ c.rows-limits.ensures.limits c.requires.matched fits c.grow.ensures.grown c.requires.row_in c.requires.few))

pub augment-requires : goal.augment-requires
augment-requires g c =
    let fits = fits_of _ _ _ _ _ c.requires.room c.requires.row_in in
    path_of _ _ _ _ _ _ _ c.requires.matched fits c.grow.ensures.grown
    (level_low _ _ _ _ _ _ c.rows-limits.ensures.limits c.requires.matched fits c.grow.ensures.grown c.requires.row_in c.requires.few)
    (omega (arith, c.requires.row_in, c.rows-limits.ensures.limits.most_rows)) refl refl
    (with_items_is c.args.matching.now.prices c.raise.new.prices (omega (arith, c.raise.ensures.size, c.deref_mut.ensures.len)))
    (rw (c.deref.ensures.value, c.deref_mut.ensures.value) at c.raise.ensures)

pub returns-clause-matched : goal.returns-clause-matched
returns-clause-matched g c =
    let fits = fits_of _ _ _ _ _ c.requires.room c.requires.row_in in
    matched_more _ _ _ _ _ _ _ _ _ c.rows-limits.ensures.limits c.requires.matched fits c.grow.ensures.grown
    (level_low _ _ _ _ _ _ c.rows-limits.ensures.limits c.requires.matched fits c.grow.ensures.grown c.requires.row_in c.requires.few)
    c.requires.row_in
    (with_items_is c.args.matching.now.prices c.raise.new.prices (omega (arith, c.raise.ensures.size, c.deref_mut.ensures.len)))
    (rw (c.deref.ensures.value, c.deref_mut.ensures.value) at c.raise.ensures) c.augment.ensures
