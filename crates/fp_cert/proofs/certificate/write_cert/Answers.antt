use Rattle.std.proofs.Common.{◌∙◌, codes, ap, length}
use Rattle.fp_text.specs.WritingLaws.{in_turn, as_piece, written_on_ok}
use Rattle.fp_cert.specs.CertText.{number_line, version_lines, trials_text}
use Rattle.fp_cert.proofs.certificate.write_cert.Goals as goal

pub returns-clause-written : goal.returns-clause-written
returns-clause-written g c =
    let version = as_piece (ap version_lines c.cost.ensures.cost) c.write_version.ensures.adds in
    let limit = as_piece (ap (number_line (codes "Limit")) (c.from.ensures ∙ c.limit.ensures)) c.write_number_line.ensures.adds in
    let many = as_piece (ap (λ trials. number_line (codes "Trials") (length trials)) c.trials-trials.ensures) c.write_number_line-2.ensures.adds in
    let trials = as_piece (ap (trials_text 0) c.trials-trials.ensures) c.write_trials.ensures.adds in
    let answer = as_piece (ap (number_line (codes "Answer")) (c.from-2.ensures ∙ c.answer.ensures)) c.write_number_line-3.ensures.adds in
    written_on_ok c.finish.result c.new-writer.ensures.starts (in_turn (in_turn (in_turn (in_turn version limit) many) trials) answer) c.finish.ensures.finishes
