use Rattle.std.proofs.Common.{◌≡◌, ◌∙◌, false, replicate, ap, rules}
use Rattle.std.specs.List.{list_all}
use Rattle.fp_check.proofs.Standings.{not_stood, all_stood}
use Rattle.fp_check.proofs.listing.stand_once.Goals as goal

pub returns-then-not-mark_both : goal.returns-then-not-mark_both
returns-then-not-mark_both c =
    let none : c.in_ok-seen.seen.items ≡ replicate c.cells.result false = c.in_ok-seen.ensures.items_if_clones_equal (λ y same. search rules) in
    not_stood c.args.problem.now c.args.trial.now c.in_ok-seen.seen.items c.mark_both.new.seen.items c.cells.result c.mark_both.result none c.cells.ensures.count c.mark_both.ensures c.if-not-mark_both.true

pub returns : goal.returns
returns c =
    let none : c.in_ok-seen.seen.items ≡ replicate c.cells.result false = c.in_ok-seen.ensures.items_if_clones_equal (λ y same. search rules) in
    all_stood c.args.problem.now c.args.trial.now c.in_ok-seen.seen.items c.mark_both.new.seen.items c.cells.result c.mark_both.result c.are_all_marked.result none c.cells.ensures.count c.mark_both.ensures
    c.if-not-mark_both.false (c.are_all_marked.ensures ∙ ap (list_all (λ mark. mark)) c.deref.ensures.value)
