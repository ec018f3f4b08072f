use Rattle.std.proofs.Common.{◌≡◌, pos, ◌+ℤ◌, ◌≤ℤ◌, FitsSigned, w64, true, length, ap, sym, subst, ◌∙◌, arith, rules}
use Rattle.std.proofs.lemmas.Int.{to_z-of_z}
use Rattle.std.proofs.lemmas.List.{length-set}
use Rattle.fp_place.specs.Cut.{cut}
use Rattle.fp_place.specs.Places.{die_at, other_die}
use Rattle.fp_place.specs.Settled.{flipped, KeepRules}
use Rattle.fp_place.specs.MoveLaws.{move_keeps}
use Rattle.fp_part.specs.SettledLaws.{next_is}
use Rattle.fp_place.specs.Held.{held_by}
use Rattle.fp_part.proofs.AreaLemmas.{room_to_move, still_held, held_after}
use Rattle.fp_part.proofs.StepLemmas.{gain_high, cut_after}
use Rattle.fp_part.proofs.partition.Partition.move_cell.Goals as goal

pub add-requires-clause-room : goal.add-requires-clause-room
add-requires-clause-room c =
    let p = c.args.problem.now in let dies = c.args.self.now.gains.dies in let cell = c.args.cell.0 in
    room_to_move p dies c.args.self.now.caps cell c.other.result c.requires.ready.held_is (c.other.ensures ∙ ap (λ all. other_die (die_at all cell)) c.dies.ensures)
    (next_is p dies c.args.self.now.gains.locked cell c.requires.next).may

pub take-requires-clause-held : goal.take-requires-clause-held
take-requires-clause-held c =
    let p = c.args.problem.now in let dies = c.args.self.now.gains.dies in let cell = c.args.cell.0 in
    still_held p dies cell (die_at c.dies.result.now cell) c.other.result c.args.self.now.caps c.add.new.self
    (record {
      within = omega (arith, c.requires.cell, c.requires.ready.rules.cells);
      own_is = ap (λ all. die_at all cell) c.dies.ensures;
      far_is = c.other.ensures;
      held_is = c.requires.ready.held_is;
      added_is = c.add.ensures;
    })

pub less-self-requires-clause-high : goal.less-self-requires-clause-high
less-self-requires-clause-high c =
    let p = c.args.problem.now in let dies = c.args.self.now.gains.dies in let gain = c.gain-gain.result in
    let small : FitsSigned w64 gain = search rules in
    subst (λ g. pos c.args.self.now.cut ≤ℤ (g +ℤ pos 262144)) (sym (to_z-of_z w64 gain small))
    (gain_high p dies c.args.cell.0 c.args.self.now.cut gain (record {
      sound = c.requires.sound;
      now_is = c.requires.ready.cut_is;
      gain_is = c.gain-gain.ensures p c.requires.ready.gains_are;
    }))

pub returns-clause-moved : goal.returns-clause-moved
returns-clause-moved c =
    let p = c.args.problem.now in let dies = c.args.self.now.gains.dies in let cell = c.args.cell.0 in let gain = c.gain-gain.result in
    let small : FitsSigned w64 gain = search rules in
    let dies_are = c.flip.ensures.dies ∙ ap (λ dies. flipped dies cell) c.lock.ensures.dies in
    let locked_are = c.flip.ensures.locked ∙ c.lock.ensures.locked in
    record {
      ready = record {
        gains_are = c.flip.ensures.of_problem p (c.lock.ensures.of_problem p c.requires.ready.gains_are);
        locks = ap length locked_are ∙ length-set c.args.self.now.gains.locked cell true ∙ c.requires.ready.locks;
        rules = subst (KeepRules p) (sym dies_are) (move_keeps p dies cell c.requires.ready.rules c.requires.cell (next_is p dies c.args.self.now.gains.locked cell c.requires.next).may);
        held_is = held_after p dies cell (die_at c.dies.result.now cell) c.other.result c.args.self.now.caps c.add.new.self c.take.new.self
            (record {
              within = omega (arith, c.requires.cell, c.requires.ready.rules.cells);
              own_is = ap (λ all. die_at all cell) c.dies.ensures;
              far_is = c.other.ensures;
              held_is = c.requires.ready.held_is;
              added_is = c.add.ensures;
            }) c.take.ensures
            ∙ ap (held_by p) (sym dies_are);
        cut_is = cut_after p dies cell c.args.self.now.cut c.less-self.result gain
            (record {
              sound = c.requires.sound;
              now_is = c.requires.ready.cut_is;
              gain_is = c.gain-gain.ensures p c.requires.ready.gains_are;
            }) (subst (λ g. pos c.args.self.now.cut ≡ (pos c.less-self.result +ℤ g)) (to_z-of_z w64 gain small) c.less-self.ensures)
            ∙ ap (cut p) (sym dies_are);
      };
      dies_are = dies_are;
      locked_are = locked_are;
    }
