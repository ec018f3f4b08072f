use Rattle.std.proofs.Common.{◌≤◌, ◌^◌, length, subst, sym}
use Rattle.fp_base.specs.declared.ids.Die.TheVariants.{Top, Bottom}
use Rattle.fp_tech.specs.PlanLaws.{few_segments}
use Rattle.fp_place.specs.Laying.{AreApart}
use Rattle.fp_place.proofs.LayingLemmas.{top_apart, bottom_apart, both_laid}
use Rattle.fp_place.proofs.placement.lay_both.Goals as goal

pub lay-requires-clause-few_lanes : goal.lay-requires-clause-few_lanes
lay-requires-clause-few_lanes c = subst (λ s. length s ≤ 2 ^ 16) (sym c.segments.ensures.segments) (few_segments c.args.dies.now c.segments.ensures.plan Top)

pub lay-requires-clause-apart : goal.lay-requires-clause-apart
lay-requires-clause-apart c = top_apart _ _ _ c.requires.once

pub lay-requires-2-clause-few_lanes : goal.lay-requires-2-clause-few_lanes
lay-requires-2-clause-few_lanes c = subst (λ s. length s ≤ 2 ^ 16) (sym c.segments-2.ensures.segments) (few_segments c.args.dies.now c.segments-2.ensures.plan Bottom)

pub lay-requires-2-clause-apart : goal.lay-requires-2-clause-apart
lay-requires-2-clause-apart c = subst (λ n. AreApart n c.args.bottom.now) (sym c.lay.ensures.many) (bottom_apart _ _ _ c.requires.once)

pub returns-clause-laid : goal.returns-clause-laid
returns-clause-laid c =
    both_laid c.args.dies.now c.args.top.now c.args.bottom.now c.args.xs.now _ c.args.spots.now c.lay.new.spots c.lay-2.new.spots
    c.requires.top_lanes c.requires.bottom_lanes c.requires.once
    (rw c.segments.ensures.segments at c.lay.ensures) (rw c.segments-2.ensures.segments at c.lay-2.ensures)
