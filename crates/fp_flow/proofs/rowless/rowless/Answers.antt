use Rattle.std.proofs.Common.{◌∙◌, length, ap}
use Rattle.fp_cert.specs.Shown.{ShownTrial}
use Rattle.fp_flow.specs.Tops.{tops_of}
use Rattle.fp_flow.proofs.Tops.{is_rowless}
use Rattle.fp_flow.proofs.rowless.rowless.Goals as goal

pub returns-in-Ok : goal.returns-in-Ok
returns-in-Ok c =
    let cells = tops_of c.args.dies.now (length c.args.problem.now.cells) in
    is_rowless c.args.problem.now c.args.dies.now c.args.cell c.push_tops.new.trial c.requires
    (c.in-Ok.ensures ∙ ap (λ (t : ShownTrial). record t { top_cells = cells }) c.new-trial.ensures)
