use Rattle.std.proofs.Common.{◌≡◌, ◌∙◌, ℕ, ℤ, ap, subst, length, false, ◌<◌, ◌≤◌, ◌-ℤ◌}
use Rattle.fp_base.specs.declared.ids.Point.{Point}
use Rattle.fp_score.specs.Pick.{distance_to}
use Rattle.fp_coarse.specs.Rooms.{has_free}
use Rattle.fp_coarse.specs.Nearest.{IsLeast, IsFound, cost_at, cost_of}
use Rattle.fp_coarse.proofs.Hulls.{can_aim, width_same}
use Rattle.fp_coarse.proofs.nearest.nearest.Goals as goal

pub search-requires : goal.search-requires
search-requires c =
    let same = width_same c.args.width c.requires.some c.requires.small in
    can_aim c.args.segments.now c.args.rooms.now.free.items c.args.rooms.now.most.items c.args.hull c.args.width c.args.target c.aim_at-aim.result
    c.requires.segments c.requires.rooms c.requires.many c.requires.fewer c.requires.hull c.requires.some c.requires.small c.requires.target
    (c.aim_at-aim.ensures.width ∙ same) c.aim_at-aim.ensures.target
    (c.aim_at-aim.ensures.side ∙ ap (λ w. distance_to c.args.hull.low (c.args.hull.high -ℤ w) c.args.target.x) same) c.aim_at-aim.ensures.small

pub returns-in-Some : goal.returns-in-Some
returns-in-Some c =
    let segments = c.args.segments.now in
    let free = c.args.rooms.now.free.items in
    let aim = c.aim_at-aim.result in
    let width_is = c.aim_at-aim.ensures.width ∙ width_same c.args.width c.requires.some c.requires.small in
    let is : IsFound (has_free free aim.width) (cost_of segments aim) 0 (length segments) c.in-Some.found = c.in-Some.ensures in
    subst (λ (w : ℤ). IsLeast (has_free free w) (cost_at segments w c.args.target) 0 (length segments) c.in-Some.found.segment) width_is
    (subst (λ (t : Point). IsLeast (has_free free aim.width) (cost_at segments aim.width t) 0 (length segments) c.in-Some.found.segment) c.aim_at-aim.ensures.target is.is)

pub returns-in-None : goal.returns-in-None
returns-in-None c =
    let width_is = c.aim_at-aim.ensures.width ∙ width_same c.args.width c.requires.some c.requires.small in
    subst (λ (w : ℤ). (other : ℕ) → 0 ≤ other → other < length c.args.segments.now → has_free c.args.rooms.now.free.items w other ≡ false) width_is c.in-None.ensures
