use Rattle.std.proofs.Common.{◌≡◌, ◌-◌, ◌+◌, suc, zero, Some, length, ap, sym, subst, ◌∙◌, arith}
use Rattle.std.specs.Option.{option_map}
use Rattle.fp_base.specs.declared.ids.CellId.{CellId}
use Rattle.fp_place.specs.Settled.{next_move}
use Rattle.fp_part.specs.Partitions.{IsOnWay}
use Rattle.fp_part.proofs.RunLemmas.{begin, move_on, stop, all_moved}
use Rattle.fp_part.proofs.partition.Partition.run.Goals as goal

pub loop-init : goal.loop-init
loop-init c =
    let p = c.args.problem.now in let start = c.args.self.now.gains.dies in
    let all : length p.cells ≡ length p.cells - 0 = omega arith in
    subst (λ left. IsOnWay p start left c.args.self.now) all (begin p c.args.self.now c.requires)

pub returns-in_default : goal.returns-in_default
returns-in_default c =
    let p = c.args.problem.now in
    stop p c.args.self.now.gains.dies (length p.cells - c.loop.counter) c.loop.self c.loop.invariant
    (sym c.next_cell.ensures ∙ ap (option_map (λ (cell : CellId). cell.0)) c.in_default.is)

pub advance-requires-clause-next : goal.advance-requires-clause-next
advance-requires-clause-next c = sym c.next_cell.ensures ∙ ap (option_map (λ (cell : CellId). cell.0)) c.in-Some.is

pub loop-preserved : goal.loop-preserved
loop-preserved c =
    let p = c.args.problem.now in let start = c.args.self.now.gains.dies in let left = length p.cells - (c.loop.counter + 1) in
    let next : next_move p c.loop.self.gains.dies c.loop.self.gains.locked ≡ Some c.in-Some.cell.0 =
    sym c.next_cell.ensures ∙ ap (option_map (λ (cell : CellId). cell.0)) c.in-Some.is in
    let more : length p.cells - c.loop.counter ≡ suc left = omega (arith, c.loop-test.true, c.cells-end.ensures.count) in
    move_on p start left c.in-Some.cell c.loop.self c.advance.new.self (subst (λ n. IsOnWay p start n c.loop.self) more c.loop.invariant) next c.in_ok-advance.ensures

pub returns : goal.returns
returns c =
    let p = c.args.problem.now in let start = c.args.self.now.gains.dies in
    let none : length p.cells - c.loop.counter ≡ zero = omega (arith, c.loop-test.false, c.cells-end.ensures.count) in
    all_moved p start c.loop.self (subst (λ n. IsOnWay p start n c.loop.self) none c.loop.invariant)
