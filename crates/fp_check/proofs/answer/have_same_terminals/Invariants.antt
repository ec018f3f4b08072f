use Rattle.std.proofs.Common.{◌≡◌, ℕ, ◌<◌}
use Rattle.fp_score.specs.Score.{terminal_at}
use Rattle.fp_check.proofs.answer.have_same_terminals.Given as goal

abbrev pub invariant-loop-number : goal.invariant-loop-number
invariant-loop-number l = (net : ℕ) → net < l.number → terminal_at l.first.terminals net ≡ terminal_at l.second.terminals net
