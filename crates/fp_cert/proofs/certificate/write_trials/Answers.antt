use Rattle.std.proofs.Common.{◌≡◌, ◌+◌, ◌∙◌, Some, slice_get, sym, ap, arith}
use Rattle.std.proofs.lemmas.Option.{slice_get-get_or}
use Rattle.fp_text.specs.Writing.{told}
use Rattle.fp_text.specs.WritingLaws.{adds_nothing, in_turn, as_piece}
use Rattle.fp_cert.specs.CertText.{trial_text}
use Rattle.fp_cert.proofs.Pieces.{trials_more, no_trials}
use Rattle.fp_cert.proofs.certificate.write_trials.Goals as goal

pub loop-number-init : goal.loop-number-init
loop-number-init g c = record {
  adds = as_piece (sym (no_trials 0)) (adds_nothing c.args.name.now (told g.F.Folder.held g.F.Folder.made g.F.Folder.faults c.args.folder.now) c.args.writer.now);
  goes_on = c.requires;
}

pub loop-number-preserved : goal.loop-number-preserved
loop-number-preserved g c =
    let number = c.loop-number.number in
    let trial = c.index-trials-number.result in
    let at : slice_get c.args.trials.now number ≡ Some trial = slice_get-get_or c.args.trials.now number trial c.loop-number-test.true ∙ ap Some (sym c.index-trials-number.is) in
    let from : number ≡ 0 + number = omega arith in
    record {
      adds = as_piece (trials_more 0 c.args.trials.now number trial at)
          (in_turn c.loop-number.invariant.adds (as_piece (ap (λ n. trial_text n trial) from) c.write_trial.ensures.adds));
      goes_on = c.write_trial.ensures.goes_on;
    }
