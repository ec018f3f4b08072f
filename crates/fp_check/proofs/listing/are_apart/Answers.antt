use Rattle.std.proofs.Common.{◌≡◌, ◌∙◌, ◌+◌, false, length, map, replicate, take, Some, refl, ap, sym, rules}
use Rattle.std.proofs.lemmas.Bool.{false≢true}
use Rattle.std.proofs.lemmas.List.{take_all}
use Rattle.fp_base.specs.declared.ids.CellId.{CellId}
use Rattle.fp_check.specs.Marks.{marked}
use Rattle.fp_check.proofs.Marking.{none_marked, go_on, stop_here, cell_more, cells_none, shows_apart, not_apart, numbers_within}
use Rattle.fp_check.proofs.listing.are_apart.Goals as goal

pub loop-cell-init : goal.loop-cell-init
loop-cell-init c =
    let marks : c.in_ok-seen.seen.items ≡ replicate c.cells.result false = c.in_ok-seen.ensures.items_if_clones_equal (λ y same. search rules) in
    none_marked (replicate (length c.args.problem.now.cells) false) ∙ ap Some (sym (marks ∙ ap (λ n. replicate n false) c.cells.ensures.count))

pub returns-then-not-mark : goal.returns-then-not-mark
returns-then-not-mark c =
    let more = cell_more c.args.cells.now c.loop-cell.cell-index (record { 0 = 0 }) c.loop-cell-test.true in
    let marks = replicate (length c.args.problem.now.cells) false in
    let none = cells_none marks c.args.cells.now (c.loop-cell.cell-index + 1)
    (stop_here marks c.loop-cell.seen.items c.mark.new.seen.items (map (λ (cell : CellId). cell.0) (take c.loop-cell.cell-index c.args.cells.now)) _ _ c.mark.result c.loop-cell.invariant more c.mark.ensures
    c.if-not-mark.true) in (
      λ no. absurd (false≢true no),
      λ distinct. absurd (not_apart (length c.args.problem.now.cells) (map (λ (cell : CellId). cell.0) c.args.cells.now) (numbers_within (length c.args.problem.now.cells) c.args.cells.now c.requires) none distinct),
    )

pub loop-cell-preserved : goal.loop-cell-preserved
loop-cell-preserved c =
    let more = cell_more c.args.cells.now c.loop-cell.cell-index (record { 0 = 0 }) c.loop-cell-test.true in
    go_on (replicate (length c.args.problem.now.cells) false) c.loop-cell.seen.items c.mark.new.seen.items (map (λ (cell : CellId). cell.0) (take c.loop-cell.cell-index c.args.cells.now)) _ _ c.mark.result
    c.loop-cell.invariant more c.mark.ensures c.if-not-mark.false

pub returns : goal.returns
returns c =
    let all = take_all c.loop-cell.cell-index c.args.cells.now c.loop-cell-test.false in
    let marks = ap (λ cells. marked (replicate (length c.args.problem.now.cells) false) (map (λ (cell : CellId). cell.0) cells)) (sym all) ∙ c.loop-cell.invariant in
    (λ _. shows_apart (length c.args.problem.now.cells) (map (λ (cell : CellId). cell.0) c.args.cells.now) c.loop-cell.seen.items marks, λ _. refl)
