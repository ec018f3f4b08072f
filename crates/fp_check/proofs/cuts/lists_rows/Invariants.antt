use Rattle.std.proofs.Common.{◌≡◌, ℕ, ◌<◌, get_or}
use Rattle.fp_slots.specs.Table.{net_of}
use Rattle.fp_check.proofs.Priced.{no_cut}
use Rattle.fp_check.proofs.cuts.lists_rows.Given as goal

abbrev pub invariant-loop-row : goal.invariant-loop-row
invariant-loop-row l = (k : ℕ) → k < l.row → (get_or l.cuts k no_cut).net.0 ≡ net_of l.costs k
