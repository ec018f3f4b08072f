use Rattle.std.proofs.Common.{◌≡◌, ℕ, ◌<◌, ◌≤◌, ◌&&◌, Bool, true, false, cond, refl, nat_lt, Some, None, length, get_or, set, ap, sym, subst, ◌∙◌, arith}
use Rattle.std.proofs.lemmas.List.{get_or_read}
use Rattle.std.specs.Bool.{then_some}
use Rattle.fp_tech.specs.Plan.{segments}
use Rattle.fp_netlist.specs.Netlist.{lib_of}
use Rattle.fp_place.specs.Areas.{fits}
use Rattle.fp_place.specs.Held.{has_room}
use Rattle.fp_seed.specs.FilledSegments.{holds, IsReady}
use Rattle.fp_seed.proofs.FilledSegmentLemmas.{room_is, not_taken, ready_found}
use Rattle.fp_seed.proofs.filled_segments.FilledSegments.find.Goals as goal
use Rattle.fp_seed.proofs.filled_segments.FilledSegments.find.Goals.{After-then_some}
use Rattle.fp_seed.proofs.filled_segments.FilledSegments.find.Given as given

pub returns-then-not-takes-clause-room : goal.returns-then-not-takes-clause-room
returns-then-not-takes-clause-room g c =
    not_taken c.args.problem.now c.args.caps.now g.S.Side.DIE c.args.self.now.used.items c.args.cell.0
    (ap (λ die. fits c.args.problem.now c.args.cell.0 die && has_room c.args.problem.now c.args.caps.now c.args.cell.0 die) (sym c.DIE.ensures) ∙ sym c.if-not-takes.ensures)

-- the search begins at the library cell's first segment that may have room
from_is : (g : given.Over) (c : After-then_some g) → c.index.result.now ≡ get_or c.args.self.now.first.items (lib_of c.args.problem.now c.args.cell.0) 0
from_is g c =
    get_or_read c.args.self.now.first.items c.lib_of-lib.result.0 c.index.result.now (omega (arith, c.lib_of-lib.ensures.small, c.requires.ready.libs)) c.index.ensures 0
    ∙ ap (λ lib. get_or c.args.self.now.first.items lib 0) c.lib_of-lib.ensures.lib

passed : (g : given.Over) (c : After-then_some g) (s : ℕ) → get_or c.args.self.now.first.items (lib_of c.args.problem.now c.args.cell.0) 0 ≤ s → s < c.next_holding-next.result
    → holds c.args.problem.now g.S.Side.DIE c.args.self.now.used.items c.args.cell.0 s ≡ false
passed g c s from before = c.next_holding-next.ensures.passed s (omega (arith, from, from_is g c)) before

then_some_is : (b : Bool) (n : ℕ) → then_some b n ≡ cond b (Some n) None
then_some_is true n = refl
then_some_is false n = refl

pub returns-clause-room : goal.returns-clause-room
returns-clause-room g c =
    let takes : (fits c.args.problem.now c.args.cell.0 g.S.Side.DIE && has_room c.args.problem.now c.args.caps.now c.args.cell.0 g.S.Side.DIE) ≡ true =
    ap (λ die. fits c.args.problem.now c.args.cell.0 die && has_room c.args.problem.now c.args.caps.now c.args.cell.0 die) (sym c.DIE.ensures) ∙ sym c.if-not-takes.ensures in
    let many : c.len.result ≡ length (segments c.args.problem.now.plan g.S.Side.DIE) = omega (arith, c.len.ensures, c.args.self.now.used.ok.0, c.requires.ready.many) in
    c.then_some.ensures ∙ then_some_is (nat_lt c.next_holding-next.result c.len.result) c.next_holding-next.result
    ∙ ap (λ n. cond (nat_lt c.next_holding-next.result n) (Some c.next_holding-next.result) None) many
    ∙ room_is c.args.problem.now c.args.caps.now g.S.Side.DIE c.args.self.now.used.items c.args.self.now.first.items c.args.self.now.lanes c.args.cell.0 c.next_holding-next.result
    c.requires.ready c.requires.cell takes c.next_holding-next.ensures.within (passed g c) c.next_holding-next.ensures.found

pub returns-clause-ready : goal.returns-clause-ready
returns-clause-ready g c =
    subst (λ lib. IsReady c.args.problem.now g.S.Side.DIE c.args.self.now.used.items (set c.args.self.now.first.items lib c.next_holding-next.result) c.args.self.now.lanes) (sym c.lib_of-lib.ensures.lib)
    (ready_found c.args.problem.now g.S.Side.DIE c.args.self.now.used.items c.args.self.now.first.items c.args.self.now.lanes c.args.cell.0 c.next_holding-next.result c.requires.ready
    (omega (arith, c.lib_of-lib.ensures.lib, c.lib_of-lib.ensures.small)) (passed g c) c.requires.cell)
