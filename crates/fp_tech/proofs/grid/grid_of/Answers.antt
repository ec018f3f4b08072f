use Rattle.fp_tech.specs.Slots.{grid_with}
use Rattle.fp_tech.specs.SlotsLaws.{counts_exact, slot_keeps_edges, slots_apart}
use Rattle.fp_tech.proofs.grid.grid_of.Goals as goal

pub returns-clause-counts : goal.returns-clause-counts
returns-clause-counts c = λ stride some. counts_exact (grid_with c.args.frame c.args.terminal stride) c.requires.terminal some

pub returns-clause-edges : goal.returns-clause-edges
returns-clause-edges c =
    slot_keeps_edges (grid_with c.args.frame c.args.terminal c.least_stride-stride.result) c.requires.terminal c.least_stride-stride.ensures.some

pub returns-clause-apart : goal.returns-clause-apart
returns-clause-apart c =
    λ s t less below. slots_apart (grid_with c.args.frame c.args.terminal c.least_stride-stride.result) c.least_stride-stride.ensures.some s t less
