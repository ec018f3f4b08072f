use Rattle.std.proofs.Common.{◌≡◌}
use Rattle.fp_flow.specs.Tops.{tops_of}
use Rattle.fp_flow.proofs.rowless.push_tops.Given as goal

abbrev pub invariant-loop-cell : goal.invariant-loop-cell
invariant-loop-cell l = l.trial ≡ record l.fn.trial { top_cells = tops_of l.dies l.cell }
