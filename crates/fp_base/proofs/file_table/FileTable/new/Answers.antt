use Rattle.std.proofs.Common.{arith}
use Rattle.fp_base.proofs.Kept.{kept_none}
use Rattle.fp_base.proofs.file_table.FileTable.new.Goals as goal

pub invariant_of-result : goal.invariant_of-result
invariant_of-result c =
    rw c.in_ok-used.ensures.items (kept_none c.in_ok-spare.spare.items _ _ _
    (omega (arith, c.in_ok-spare.spare.ok.0, c.in_ok-spare.ensures.count)) (omega (arith, c.in_ok-used.ensures.exact)) c.in_ok-spare.ensures.room)
