use Rattle.std.proofs.Common.{◌≡◌, ◌∙◌, ap}
use Rattle.std.specs.Prelude.{slice_index}
use Rattle.fp_cert.specs.declared.shown.CutShown.{CutShown}
use Rattle.fp_cert.specs.Shown.{with_cut}
use Rattle.fp_flow.specs.Slotted.{slotted_line}
use Rattle.fp_flow.proofs.Slottings.{one_line_more}
use Rattle.fp_flow.proofs.terminals.list_cuts.Goals as goal

pub loop-row-preserved : goal.loop-row-preserved
loop-row-preserved c =
    let slot = c.column_of-slot.ensures in
    let price = c.price.ensures ∙ ap (slice_index c.args.matcher.now.prices) slot in
    let line : ◌≡◌ {A = CutShown} (record { net = c.net_of.result; slot = record { 0 = c.column_of-slot.result }; price = c.price.result }) (slotted_line c.args.costs.now c.args.matcher.now c.loop-row.row) =
    λ i. record { net = record { 0 = c.net_of.ensures i }; slot = record { 0 = slot i }; price = price i } in
    c.in_ok-push_cut.ensures ∙ (λ i. with_cut (c.loop-row.invariant i) (line i))
    ∙ ap (λ cuts. record c.args.trial.now { cuts = cuts }) (one_line_more c.args.costs.now c.args.matcher.now c.loop-row.row c.args.trial.now.cuts)
