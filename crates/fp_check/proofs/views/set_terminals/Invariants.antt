use Rattle.std.proofs.Common.{◌≡◌, ◌+◌, ℕ, length, drop}
use Rattle.fp_check.specs.Views.{with_terminals}
use Rattle.fp_check.proofs.views.set_terminals.Given as goal

abbrev pub invariant-loop-number : goal.invariant-loop-number
invariant-loop-number l = (k : ℕ) → k + l.number ≡ length l.cuts → l.placement ≡ record l.fn.placement { terminals = with_terminals l.grid (drop k l.cuts) l.fn.placement.terminals }
