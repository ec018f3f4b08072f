use Rattle.std.proofs.Common.{◌≡◌, ℕ, ◌<◌, slice_get, Some}
use Rattle.fp_tech.specs.declared.dies.Segment.{Segment}
use Rattle.fp_tech.specs.Plan.{segments}
use Rattle.fp_cert.specs.Shown.{ShownRow, rows_of}
use Rattle.fp_check.specs.Rooms.{Meets}
use Rattle.fp_check.proofs.rows.rows_meet.Given as goal

abbrev pub invariant-loop-number : goal.invariant-loop-number
invariant-loop-number l = (k : ℕ) → k < l.number → (segment : Segment) (row : ShownRow)
    → slice_get (segments l.problem.plan l.die) k ≡ Some segment → slice_get (rows_of l.trial l.die) k ≡ Some row → Meets l.asked l.problem l.die segment row
