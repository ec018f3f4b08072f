use Rattle.std.proofs.Common.{◌≡◌, ◌++◌, take}
use Rattle.faceplace.specs.Trials.{trial_lines}
use Rattle.faceplace.proofs.trials.push_trials.Given as goal

abbrev pub invariant-loop-number : goal.invariant-loop-number
invariant-loop-number l = l.report.items ≡ l.fn.report.items ++ trial_lines l.problem 0 (take l.number l.fn.trials)
