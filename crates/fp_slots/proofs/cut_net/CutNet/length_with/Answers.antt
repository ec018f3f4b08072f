use Rattle.std.proofs.Common.{◌∙◌, subst, sym, ◌+ℤ◌}
use Rattle.fp_score.specs.Reaches.{IsNearReach}
use Rattle.fp_score.specs.Score.{half_perimeter}
use Rattle.fp_score.specs.ScoreLaws.{stretched_near}
use Rattle.fp_slots.proofs.Lengths.{length_by_axes}
use Rattle.fp_slots.proofs.cut_net.CutNet.length_with.Goals as goal

pub half_perimeter-top-requires : goal.half_perimeter-top-requires
half_perimeter-top-requires c =
    subst IsNearReach (sym c.stretched.ensures) (stretched_near c.args.self.top c.args.centre c.requires.net.top c.requires.centre)

pub half_perimeter-bottom-requires : goal.half_perimeter-bottom-requires
half_perimeter-bottom-requires c =
    subst IsNearReach (sym c.stretched-2.ensures) (stretched_near c.args.self.bottom c.args.centre c.requires.net.bottom c.requires.centre)

pub returns-clause-length : goal.returns-clause-length
returns-clause-length c =
    (λ i. c.half_perimeter-top.ensures.length i +ℤ c.half_perimeter-bottom.ensures.length i)
    ∙ (λ i. half_perimeter (c.stretched.ensures i) +ℤ half_perimeter (c.stretched-2.ensures i))
    ∙ length_by_axes c.args.self c.args.centre
