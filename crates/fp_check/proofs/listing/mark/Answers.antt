use Rattle.std.proofs.Common.{◌≡◌, ◌∙◌, Bool, List, true, false, get_or, ap, sym}
use Rattle.fp_check.proofs.Marking.{marked_one, had_mark}
use Rattle.fp_check.proofs.listing.mark.Goals as goal

pub returns-then-is_marked : goal.returns-then-is_marked
returns-then-is_marked c =
    let had : get_or c.args.seen.now.items c.args.cell.0 true ≡ true =
    ap (λ (marks : List Bool). get_or marks c.args.cell.0 true) (sym c.as_slice.ensures.value) ∙ sym c.is_marked.ensures ∙ c.if-is_marked.true in
    sym (had_mark c.args.seen.now.items c.args.cell.0 had)

pub returns : goal.returns
returns c =
    let new : get_or c.args.seen.now.items c.args.cell.0 true ≡ false =
    ap (λ (marks : List Bool). get_or marks c.args.cell.0 true) (sym c.as_slice.ensures.value) ∙ sym c.is_marked.ensures ∙ c.if-is_marked.false in
    sym (marked_one c.args.seen.now.items c.args.cell.0 new)
