use Rattle.std.proofs.Common.{◌≡◌, length}
use Rattle.fp_match.specs.Owners.{Agree}
use Rattle.fp_match.proofs.choice.owners.Given as goal

abbrev pub invariant-loop-row : goal.invariant-loop-row
invariant-loop-row l = (length l.owner.items ≡ l.columns) × Agree l.columns l.row l.chosen l.owner.items
