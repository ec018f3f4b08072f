-- What `place` reports: the score of the seed, how each trial ended, and the score of the answer.
use Rattle.std.specs.Prelude.{ℕ, ◌+◌, List, [], ◌∷◌, ◌++◌, unwrap_or, slice_get, codes, decimal}
use Rattle.fp_netlist.specs.Netlist.{Netlist, cell_names}
use Rattle.fp_cert.specs.declared.shown.Ending.{Ending}
use Rattle.fp_cert.specs.declared.shown.Ending.TheVariants.{Start, Better, NotBetter, NoRow}
use Rattle.fp_cert.specs.Shown.{ShownTrial, ShownRun}
use Rattle.fp_cert.specs.Trials.{answer_of}
use Rattle.faceplace.specs.Report.{score_report}

-- a word and a score
abbrev pub scored_text : List ℕ → ℕ → List ℕ
scored_text word score = word ++ codes " " ++ decimal score

-- `start S`, `better S`, `kept S` where the trial is not better, or `norow CELL`
abbrev pub ending_text : Netlist → Ending → ℕ → List ℕ
ending_text p Start score = scored_text (codes "start") score
ending_text p Better score = scored_text (codes "better") score
ending_text p NotBetter score = scored_text (codes "kept") score
ending_text p (NoRow cell) score = codes "norow " ++ unwrap_or (slice_get (cell_names p) cell.0) []

-- `trial K ENDING`
abbrev pub trial_line : Netlist → ℕ → ShownTrial → List ℕ
trial_line p number trial = codes "trial " ++ decimal number ++ codes " " ++ ending_text p trial.ending trial.score ++ codes "\n"

-- trials, which are numbered from here on, a line each
unfoldable pub trial_lines : Netlist → ℕ → List ShownTrial → List ℕ
trial_lines p number [] = []
trial_lines p number (trial ∷ trials) = trial_line p number trial ++ trial_lines p (number + 1) trials

-- `seed S`, the trials, and `score S`
abbrev pub place_report : Netlist → ℕ → ShownRun → List ℕ
place_report p seed_score run = codes "seed " ++ decimal seed_score ++ codes "\n" ++ trial_lines p 0 run.trials ++ score_report (answer_of run).score
