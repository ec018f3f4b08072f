use Rattle.std.proofs.Common.{◌≡◌, slice_get}
use Rattle.fp_flow.specs.Buffers.{HaveRoom}
use Rattle.fp_flow.specs.Chains.{IsGoing}
use Rattle.fp_flow.proofs.chain.go_on.Given as goal

abbrev pub invariant-loop-number : goal.invariant-loop-number
invariant-loop-number l = IsGoing l.problem l.grid l.dies l.limit l.run l.answer × (l.run.answer ≡ l.number) × (slice_get l.run.trials 0 ≡ slice_get l.fn.run.trials 0) × HaveRoom l.problem l.grid l.dies l.buffers
