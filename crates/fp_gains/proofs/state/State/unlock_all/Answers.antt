use Rattle.std.proofs.Common.{◌∙◌, false, replicate, ap, sym}
use Rattle.fp_gains.proofs.NewLemmas.{all_same}
use Rattle.fp_gains.proofs.state.State.unlock_all.Goals as goal

pub returns-clause-locked : goal.returns-clause-locked
returns-clause-locked c =
    c.fill.ensures.items (λ _ same. same)
    ∙ ap (λ n. replicate n false) c.args.self.now.locked.ok.0
    ∙ sym (all_same c.args.self.now.locked.items false)
