use Rattle.std.proofs.Common.{◌≡◌, ◌+◌, ◌-◌, ◌∙◌, ◌<◌, length, drop, get_or, set, sym, ap, arith}
use Rattle.fp_check.specs.CutLines.{with_prices}
use Rattle.fp_check.proofs.Priced.{no_cut, no_line_yet, line_before}
use Rattle.fp_check.proofs.cuts.set_prices.Goals as goal

pub loop-line-init : goal.loop-line-init
loop-line-init c = sym (no_line_yet c.args.cuts.now c.args.prices.now.items)

pub loop-line-preserved : goal.loop-line-preserved
loop-line-preserved c =
    let line = c.loop-line.line - 1 in
    let cut = get_or c.args.cuts.now line no_cut in
    let next : c.loop-line.line ≡ line + 1 = omega (arith, c.loop-line-test.true) in
    let below : line < length c.args.cuts.now = omega (arith, c.loop-line-test.true, c.loop-line.auto.line) in
    (λ i. set (c.loop-line.invariant i) cut.slot.0 cut.price)
    ∙ ap (λ k. set (with_prices (drop k c.args.cuts.now) c.args.prices.now.items) cut.slot.0 cut.price) next
    ∙ line_before c.args.cuts.now line no_cut c.args.prices.now.items below
