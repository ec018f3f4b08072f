use Rattle.std.proofs.Common.{◌≡◌, ◌∙◌, Bool, true, false, length, map, replicate, ap, sym}
use Rattle.std.proofs.lemmas.List.{length-map}
use Rattle.fp_gains.proofs.NewLemmas.{laid_ranked, all_same}
use Rattle.fp_gains.proofs.state.State.restart.Goals as goal

pub lay-requires-clause-locked : goal.lay-requires-clause-locked
lay-requires-clause-locked c =
    c.lock_all.ensures.locked
    ∙ all_same c.args.self.now.locked.items true
    ∙ ap (λ n. replicate n true) (c.requires.ranked.shown.all_locks ∙ sym (ap (λ dies. length dies.items) c.lock_all.ensures.lies.dies))

pub begin-requires-clause-ranked : goal.begin-requires-clause-ranked
begin-requires-clause-ranked c =
    laid_ranked c.args.members.now c.args.dies.now (length c.lock_all.new.self.sides.items) c.lay.new.self c.lay.ensures.laid
    (ap (λ sides. length sides.items) c.lock_all.ensures.lies.sides ∙ c.requires.ranked.weighed.all_nets)

pub returns-clause-locked : goal.returns-clause-locked
returns-clause-locked c =
    let was = c.args.self.now.locked.items in
    let now : c.lay.new.self.locked.items ≡ map (λ (b : Bool). true) was = ap (λ locked. locked.items) c.lay.ensures.locked ∙ c.lock_all.ensures.locked in
    c.begin.ensures.locked
    ∙ ap (map (λ (b : Bool). false)) now
    ∙ all_same (map (λ (b : Bool). true) was) false
    ∙ ap (λ n. replicate n false) (length-map was (λ (b : Bool). true))
    ∙ sym (all_same was false)
