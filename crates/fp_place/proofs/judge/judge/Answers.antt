use Rattle.std.proofs.Common.{◌∙◌, sym, ap, subst, length}
use Rattle.fp_place.specs.declared.fault.Fault.TheVariants.{Memory}
use Rattle.fp_place.specs.Joining.{AreInRange}
use Rattle.fp_place.specs.BlocksLaws.{legal_keeps_off}
use Rattle.fp_place.proofs.FaultLemmas.{handed}
use Rattle.fp_place.proofs.JudgeLemmas.{many_standing, numbers_standing, settled_broken, joined_broken, lined_up, is_legal}
use Rattle.fp_place.proofs.judge.judge.Goals as goal

pub settle-requires-clause-places : goal.settle-requires-clause-places
settle-requires-clause-places c =
    many_standing c.args.problem.now c.args.drawn.now c.in_ok-standing.standing.places.items c.deref.result.now c.in_ok-standing.standing.numbers.items c.deref.ensures.value c.in_ok-standing.ensures

pub settle-requires-clause-numbers : goal.settle-requires-clause-numbers
settle-requires-clause-numbers c = ap length c.deref-2.ensures.value ∙ c.in_ok-standing.ensures.numbers_many

pub settle-requires-clause-on_segments : goal.settle-requires-clause-on_segments
settle-requires-clause-on_segments c =
    numbers_standing c.args.problem.now c.args.drawn.now c.in_ok-standing.standing.places.items c.deref.result.now c.in_ok-standing.standing.numbers.items c.deref-2.result.now c.deref.ensures.value c.deref-2.ensures.value
    c.in_ok-standing.ensures

pub join-requires : goal.join-requires
join-requires c =
    many_standing c.args.problem.now c.args.drawn.now c.in_ok-standing.standing.places.items c.deref-3.result.now c.in_ok-standing.standing.numbers.items c.deref-3.ensures.value c.in_ok-standing.ensures

pub lay-requires-clause-places : goal.lay-requires-clause-places
lay-requires-clause-places c =
    many_standing c.args.problem.now c.args.drawn.now c.in_ok-standing.standing.places.items c.deref-4.result.now c.in_ok-standing.standing.numbers.items c.deref-4.ensures.value c.in_ok-standing.ensures

pub lay-requires-clause-lined : goal.lay-requires-clause-lined
lay-requires-clause-lined c =
    lined_up c.args.problem.now c.args.drawn.now c.in_ok-standing.standing.places.items c.deref.result.now c.deref-4.result.now c.in_ok-standing.standing.numbers.items c.deref-2.result.now
    c.in_ok-lined.lined.top c.in_ok-lined.lined.bottom c.deref.ensures.value c.deref-4.ensures.value c.deref-2.ensures.value c.in_ok-standing.ensures c.in_ok-lined.ensures

pub lay-requires-clause-centres : goal.lay-requires-clause-centres
lay-requires-clause-centres c = ap length c.deref-5.ensures.value ∙ c.in_ok-centres.ensures.are.many

pub lay-requires-clause-range : goal.lay-requires-clause-range
lay-requires-clause-range c = subst AreInRange (sym c.deref-5.ensures.value) c.in_ok-centres.ensures.in_range

pub returns-in_err-standing-clause-judges : goal.returns-in_err-standing-clause-judges
returns-in_err-standing-clause-judges c = handed c.from_residual.result _ _ c.in_err-standing.field-0.0 c.from_residual.ensures.1 c.in_err-standing.ensures

pub returns-in_err-lined-clause-judges : goal.returns-in_err-lined-clause-judges
returns-in_err-lined-clause-judges c =
    handed c.from_residual-in_err-lined.result _ _ c.in_err-lined.field-0.0 c.from_residual-in_err-lined.ensures.1
    (settled_broken c.args.problem.now c.args.drawn.now c.in_ok-standing.standing.places.items c.deref.result.now c.in_ok-standing.standing.numbers.items _ c.deref.ensures.value c.in_ok-standing.ensures
    c.in_err-lined.ensures)

pub returns-in_err-centres-clause-judges : goal.returns-in_err-centres-clause-judges
returns-in_err-centres-clause-judges c =
    handed c.from_residual-in_err-centres.result _ _ c.in_err-centres.field-0.0 c.from_residual-in_err-centres.ensures.1
    (joined_broken c.args.problem.now c.args.drawn.now c.in_ok-standing.standing.places.items c.deref.result.now c.deref-3.result.now c.in_ok-standing.standing.numbers.items c.deref-2.result.now
    c.in_ok-lined.lined.top c.in_ok-lined.lined.bottom _ c.deref.ensures.value c.deref-3.ensures.value c.in_ok-standing.ensures c.in_ok-lined.ensures c.in_err-centres.ensures)

pub returns-in_err-placement-clause-judges : goal.returns-in_err-placement-clause-judges
returns-in_err-placement-clause-judges c = handed c.from_residual-in_err-placement.result _ _ Memory c.from_residual-in_err-placement.ensures.1 tt

pub returns-clause-judges : goal.returns-clause-judges
returns-clause-judges c =
    is_legal c.args.problem.now c.args.drawn.now c.in_ok-standing.standing.places.items c.deref.result.now c.deref-3.result.now c.deref-4.result.now c.in_ok-standing.standing.numbers.items c.deref-2.result.now
    c.in_ok-lined.lined.top c.in_ok-lined.lined.bottom c.in_ok-centres.centres.items c.deref-5.result.now c.in_ok-placement.placement
    c.deref.ensures.value c.deref-3.ensures.value c.deref-4.ensures.value c.deref-5.ensures.value c.in_ok-standing.ensures c.in_ok-lined.ensures c.in_ok-centres.ensures c.in_ok-placement.ensures

pub returns-clause-blocks : goal.returns-clause-blocks
returns-clause-blocks c = legal_keeps_off c.args.problem.now c.args.drawn.now c.in_ok-standing.ensures.plan (returns-clause-judges c).0
