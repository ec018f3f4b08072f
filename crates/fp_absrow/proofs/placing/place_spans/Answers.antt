use Rattle.std.proofs.Common.{◌≡◌, ◌+◌, ◌*◌, ◌<◌, pos, ◌+ℤ◌, ◌-ℤ◌, ◌≤ℤ◌, ◌<ℤ◌, FitsSigned, w64, to_z, length, drop, arith, ap, refl, rules}
use Rattle.std.proofs.lemmas.Int.{ints, to_z-of_z}
use Rattle.fp_rows.specs.Lists.{drop-at}
use Rattle.fp_rows.specs.Runs.{span}
use Rattle.fp_rows.specs.LeastDuals.{above}
use Rattle.fp_absrow.specs.ConvexCells.{width_of}
use Rattle.fp_absrow.specs.Spans.{some_cells, span_at, parts_of, IsCut}
use Rattle.fp_absrow.proofs.Cells.{are_sized}
use Rattle.fp_absrow.proofs.Cutting.{cut_in}
use Rattle.fp_absrow.proofs.Pending.{to_do, less_to_do}
use Rattle.fp_absrow.proofs.Positions.{IsPlacing, Head, head_of, placing_start, placed_more, parted_more, placing_end}
use Rattle.fp_absrow.proofs.placing.place_spans.Given as given
use Rattle.fp_absrow.proofs.placing.place_spans.Goals as goal
use Rattle.fp_absrow.proofs.placing.place_spans.Goals.{In-loop-first, After-part-first, After-pack}

pub loop-first-init : goal.loop-first-init
loop-first-init g c =
    let cells = g.C.RowCost.cells_of c.args.costs.now in
    let a : FitsSigned w64 c.args.lo = search rules in
    let b : FitsSigned w64 c.args.top = search rules in
    let r = c.requires.row in
    simp to_z-of_z (placing_start c.args.lo c.args.top cells c.args.work.now c.args.xs.now c.args.first (are_sized cells c.cells-convex.ensures.convex) (let room = r.room in omega (arith, ints)) c.requires.work c.requires.xs c.requires.first c.requires.laid)

inv : (g : given.Over) (c : In-loop-first g) → IsPlacing c.args.lo c.args.top (g.C.RowCost.cells_of c.args.costs.now) c.loop-first.work c.loop-first.xs c.loop-first.first c.loop-first.placed (to_z w64 c.loop-first.before-bits)
inv g c =
    let a : FitsSigned w64 c.args.lo = search rules in
    let b : FitsSigned w64 c.args.top = search rules in
    simp to_z-of_z at c.loop-first.invariant

head : (g : given.Over) (c : In-loop-first g) → c.loop-first.first < length c.loop-first.work → Head c.args.lo c.args.top (g.C.RowCost.cells_of c.args.costs.now) c.loop-first.first c.loop-first.placed (to_z w64 c.loop-first.before-bits) (span_at c.loop-first.work c.loop-first.first)
head g c lt = head_of c.args.lo c.args.top (g.C.RowCost.cells_of c.args.costs.now) c.loop-first.work c.loop-first.xs c.loop-first.first c.loop-first.placed (to_z w64 c.loop-first.before-bits) lt (inv g c)

pub overflow_add-level : goal.overflow_add-level
overflow_add-level g c =
    let d = (goal.at.overflow_add-level g c).In-loop-first in
    let h = (head g d c.loop-first-test.true).is in
    let i = inv g d in
    let r = c.requires.row in
    let m = c.middle-level.ensures in
    let a : FitsSigned w64 c.middle-level.result = search rules in
    simp to_z-of_z (omega (arith, ints, h.low, h.ordered, h.ends, h.within, h.wide, i.low, r.start, r.finish, m.at_least, m.below))

pub cut_at-cut-requires-clause-within : goal.cut_at-cut-requires-clause-within
cut_at-cut-requires-clause-within g c = (head g (goal.at.cut_at-cut-requires-clause-within g c).In-loop-first c.loop-first-test.true).is.room

pub cut_at-cut-requires-clause-from : goal.cut_at-cut-requires-clause-from
cut_at-cut-requires-clause-from g c =
    let d = (goal.at.cut_at-cut-requires-clause-from g c).In-loop-first in
    let h = (head g d c.loop-first-test.true).is in
    let i = inv g d in
    let r = c.requires.row in
    let m = c.middle-level.ensures in
    omega (arith, ints, h.low, h.ordered, h.ends, h.within, h.wide, i.low, r.start, r.finish, m.at_least, m.below)

pub cut_at-cut-requires-clause-to : goal.cut_at-cut-requires-clause-to
cut_at-cut-requires-clause-to g c =
    let d = (goal.at.cut_at-cut-requires-clause-to g c).In-loop-first in
    let h = (head g d c.loop-first-test.true).is in
    let i = inv g d in
    let r = c.requires.row in
    let m = c.middle-level.ensures in
    rw h.slice (omega (arith, ints, h.low, h.ordered, h.ends, h.within, h.wide, i.low, r.start, r.finish, m.at_least, m.below))

pub part-first-requires : goal.part-first-requires
part-first-requires g c =
    let h = (head g (goal.at.part-first-requires g c).In-loop-first c.loop-first-test.true).is in
    let m = c.middle-level.ensures in
    let a : FitsSigned w64 c.middle-level.result = search rules in
    let b : FitsSigned w64 (span_at c.loop-first.work c.loop-first.first).high = search rules in
    let cut = cut_in _ _ _ c.cut_at-cut.ensures in
    let slice = ap length h.slice in
    let count = h.count in
    simp to_z-of_z (record {
      within = c.loop-first-test.true;
      some = h.some;
      cells = omega arith;
      below = (let below = m.below in omega (arith, ints));
      room = λ some more. h.stack (omega arith);
    })

record IsParted (g : given.Over) (c : After-part-first g) : Type 0 where
  pub low : (span_at c.loop-first.work c.loop-first.first).low ≤ℤ c.middle-level.result
  pub high : c.middle-level.result <ℤ (span_at c.loop-first.work c.loop-first.first).high
  pub parts : drop c.part-first.result c.part-first.new.work ≡ parts_of (span_at c.loop-first.work c.loop-first.first) c.cut_at-cut.result c.middle-level.result (drop (c.loop-first.first + 1) c.loop-first.work)

parted : (g : given.Over) (c : After-part-first g) → IsParted g c
parted g c =
    let m = c.middle-level.ensures in
    let a : FitsSigned w64 c.middle-level.result = search rules in
    let b : FitsSigned w64 (span_at c.loop-first.work c.loop-first.first).low = search rules in
    let e : FitsSigned w64 (span_at c.loop-first.work c.loop-first.first).high = search rules in
    record {
      low = (let from = m.at_least in omega (arith, ints));
      high = (let below = m.below in omega (arith, ints));
      parts = simp to_z-of_z at c.part-first.ensures.parted;
    }

pub loop-first-smaller-then-span : goal.loop-first-smaller-then-span
loop-first-smaller-then-span g c =
    let p = parted g (goal.at.loop-first-smaller-then-span g c).After-part-first in
    let s = span_at c.loop-first.work c.loop-first.first in
    let cut = drop-at c.loop-first.work c.loop-first.first (record { cells = 0; low = pos 0; high = pos 0 }) c.loop-first-test.true in
    let less : to_do (drop c.part-first.result c.part-first.new.work) < to_do (drop c.loop-first.first c.loop-first.work) = rw (p.parts, cut) (less_to_do s c.cut_at-cut.result c.middle-level.result (drop (c.loop-first.first + 1) c.loop-first.work) p.low p.high) in
    less

pub loop-first-preserved-then-span : goal.loop-first-preserved-then-span
loop-first-preserved-then-span g c =
    let d = (goal.at.loop-first-preserved-then-span g c).In-loop-first in
    let p = parted g (goal.at.loop-first-preserved-then-span g c).After-part-first in
    let h = (head g d c.loop-first-test.true).is in
    let i = inv g d in
    let r = c.requires.row in
    let m = c.middle-level.ensures in
    let before = to_z w64 c.loop-first.before-bits in
    let lo : FitsSigned w64 c.args.lo = search rules in
    let top : FitsSigned w64 c.args.top = search rules in
    let a : FitsSigned w64 c.middle-level.result = search rules in
    let e : FitsSigned w64 (c.middle-level.result +ℤ before) = omega (arith, ints, h.low, h.ordered, h.ends, h.within, h.wide, i.low, r.start, r.finish, p.low, p.high) in
    let cutting : IsCut (some_cells c.loop-first.placed (span_at c.loop-first.work c.loop-first.first).cells (g.C.RowCost.cells_of c.args.costs.now)) (c.middle-level.result +ℤ before) c.cut_at-cut.result = simp to_z-of_z at c.cut_at-cut.ensures in
    simp to_z-of_z (parted_more c.args.lo c.args.top (g.C.RowCost.cells_of c.args.costs.now) c.loop-first.work c.loop-first.xs c.loop-first.first c.loop-first.placed before c.loop-first-test.true i c.middle-level.result c.cut_at-cut.result p.low p.high cutting c.part-first.new.work c.part-first.result (let same = c.part-first.auto.work in omega arith) c.part-first.ensures.within p.parts)

pub overflow_add-span : goal.overflow_add-span
overflow_add-span g c =
    let d = (goal.at.overflow_add-span g c).In-loop-first in
    let h = (head g d c.loop-first-test.true).is in
    let i = inv g d in
    let r = c.requires.row in
    let a : FitsSigned w64 (span_at c.loop-first.work c.loop-first.first).low = search rules in
    simp to_z-of_z (omega (arith, ints, h.low, h.ordered, h.ends, h.within, h.wide, i.low, r.start, r.finish))

pub pack-requires-clause-within : goal.pack-requires-clause-within
pack-requires-clause-within g c = (head g (goal.at.pack-requires-clause-within g c).In-loop-first c.loop-first-test.true).is.room

pub pack-requires-clause-from : goal.pack-requires-clause-from
pack-requires-clause-from g c =
    let d = (goal.at.pack-requires-clause-from g c).In-loop-first in
    let h = (head g d c.loop-first-test.true).is in
    let i = inv g d in
    let r = c.requires.row in
    omega (arith, ints, h.low, h.ordered, h.ends, h.within, h.wide, i.low, r.start, r.finish)

pub pack-requires-clause-to : goal.pack-requires-clause-to
pack-requires-clause-to g c =
    let d = (goal.at.pack-requires-clause-to g c).In-loop-first in
    let h = (head g d c.loop-first-test.true).is in
    let i = inv g d in
    let r = c.requires.row in
    rw h.slice (omega (arith, ints, h.low, h.ordered, h.ends, h.within, h.wide, i.low, r.start, r.finish))

-- where the packed cells end, behind the level
record IsPacked (g : given.Over) (c : After-pack g) : Type 0 where
  pub end : c.pack.result -ℤ (span_at c.loop-first.work c.loop-first.first).low ≡ to_z w64 c.loop-first.before-bits +ℤ span width_of (some_cells c.loop-first.placed (span_at c.loop-first.work c.loop-first.first).cells (g.C.RowCost.cells_of c.args.costs.now))
  pub fits : FitsSigned w64 (c.pack.result -ℤ (span_at c.loop-first.work c.loop-first.first).low)

packed : (g : given.Over) (c : After-pack g) → IsPlacing c.args.lo c.args.top (g.C.RowCost.cells_of c.args.costs.now) c.loop-first.work c.loop-first.xs c.loop-first.first c.loop-first.placed (to_z w64 c.loop-first.before-bits) → Head c.args.lo c.args.top (g.C.RowCost.cells_of c.args.costs.now) c.loop-first.first c.loop-first.placed (to_z w64 c.loop-first.before-bits) (span_at c.loop-first.work c.loop-first.first) → IsPacked g c
packed g c i here =
    let h = here.is in
    let r = c.requires.row in
    let s = span_at c.loop-first.work c.loop-first.first in
    let before = to_z w64 c.loop-first.before-bits in
    let cells = some_cells c.loop-first.placed s.cells (g.C.RowCost.cells_of c.args.costs.now) in
    let a : FitsSigned w64 s.low = search rules in
    let e : FitsSigned w64 (s.low +ℤ before) = omega (arith, ints, h.low, h.ordered, h.ends, h.within, h.wide, i.low, r.start, r.finish) in
    let told : c.pack.result ≡ (s.low +ℤ before) +ℤ span width_of cells = simp to_z-of_z at c.pack.ensures.end in
    let end : c.pack.result -ℤ s.low ≡ before +ℤ span width_of cells = omega (arith, ints) in
    let same = ap (span width_of) h.slice in
    record {
      end = end;
      fits = omega (arith, ints, h.low, h.ordered, h.ends, h.within, h.wide, i.low, r.start, r.finish);
    }

pub overflow_sub-before : goal.overflow_sub-before
overflow_sub-before g c =
    let a : FitsSigned w64 (span_at c.loop-first.work c.loop-first.first).low = search rules in
    let b : FitsSigned w64 c.pack.result = search rules in
    let d = (goal.at.overflow_sub-before g c).In-loop-first in
    simp to_z-of_z (packed g (goal.at.overflow_sub-before g c).After-pack (inv g d) (head g d c.loop-first-test.true)).fits

pub overflow_add-placed : goal.overflow_add-placed
overflow_add-placed g c =
    let h = (head g (goal.at.overflow_add-placed g c).In-loop-first c.loop-first-test.true).is in
    let count = c.cells-convex.ensures.count in
    let room = h.room in
    omega arith

pub loop-first-preserved : goal.loop-first-preserved
loop-first-preserved g c =
    let d = (goal.at.loop-first-preserved g c).In-loop-first in
    let k = (goal.at.loop-first-preserved g c).After-pack in
    let h = (head g d c.loop-first-test.true).is in
    let i = inv g d in
    let r = c.requires.row in
    let s = span_at c.loop-first.work c.loop-first.first in
    let before = to_z w64 c.loop-first.before-bits in
    let lo : FitsSigned w64 c.args.lo = search rules in
    let top : FitsSigned w64 c.args.top = search rules in
    let a : FitsSigned w64 s.low = search rules in
    let b : FitsSigned w64 s.high = search rules in
    let e : FitsSigned w64 c.pack.result = search rules in
    let p = packed g k i (head g d c.loop-first-test.true) in
    let f = p.fits in
    let q : FitsSigned w64 (s.low +ℤ before) = omega (arith, ints, h.low, h.ordered, h.ends, h.within, h.wide, i.low, r.start, r.finish) in
    let one : s.low ≡ s.high = (let test = c.if-span.false in let ordered = h.ordered in omega (arith, ints)) in
    let set = simp to_z-of_z at c.pack.ensures.placed in
    simp to_z-of_z (rw p.end (placed_more c.args.lo c.args.top (g.C.RowCost.cells_of c.args.costs.now) c.loop-first.work c.loop-first.xs c.loop-first.first c.loop-first.placed before c.loop-first-test.true i one c.pack.new.xs (let same = c.pack.auto.xs in omega arith) set))

pub loop-first-smaller : goal.loop-first-smaller
loop-first-smaller g c =
    let cut = drop-at c.loop-first.work c.loop-first.first (record { cells = 0; low = pos 0; high = pos 0 }) c.loop-first-test.true in
    let s = span_at c.loop-first.work c.loop-first.first in
    let rest = drop (c.loop-first.first + 1) c.loop-first.work in
    let less : to_do (drop (c.loop-first.first + 1) c.loop-first.work) < to_do (drop c.loop-first.first c.loop-first.work) = rw cut (let sum : (2 * above (s.high -ℤ s.low) + 1) + to_do rest ≡ (2 * above (s.high -ℤ s.low) + 1) + to_do rest = refl in omega arith) in
    less

pub returns : goal.returns
returns g c =
    let a : FitsSigned w64 c.args.lo = search rules in
    let b : FitsSigned w64 c.args.top = search rules in
    let i = simp to_z-of_z at c.loop-first.invariant in
    placing_end c.args.lo c.args.top (g.C.RowCost.cells_of c.args.costs.now) c.loop-first.work c.loop-first.xs c.loop-first.first c.loop-first.placed (to_z w64 c.loop-first.before-bits) (omega arith) i
