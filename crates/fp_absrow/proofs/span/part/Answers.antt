use Rattle.std.proofs.Common.{◌<◌, pos, ◌+ℤ◌, FitsSigned, w64, arith, rules}
use Rattle.std.proofs.lemmas.Int.{ints, to_z-of_z}
use Rattle.fp_absrow.specs.Spans.{span_at}
use Rattle.fp_absrow.proofs.Pending.{front_alone, back_alone, both_parts}
use Rattle.fp_absrow.proofs.span.part.Goals as goal

pub returns-then-cut-span-clause-parted : goal.returns-then-cut-span-clause-parted
returns-then-cut-span-clause-parted c =
    let s = span_at c.args.work.now c.args.first in
    let r = c.requires in
    let low : FitsSigned w64 s.low = search rules in
    let level : FitsSigned w64 c.args.level = search rules in
    simp to_z-of_z (front_alone c.args.work.now c.args.first c.args.cut c.args.level s r.within (omega arith) r.some)

pub returns-then-cut-eq0-clause-parted : goal.returns-then-cut-eq0-clause-parted
returns-then-cut-eq0-clause-parted c =
    let s = span_at c.args.work.now c.args.first in
    let r = c.requires in
    let high : FitsSigned w64 s.high = search rules in
    let level : FitsSigned w64 c.args.level = search rules in
    let next : FitsSigned w64 (c.args.level +ℤ pos 1) = (let below = r.below in omega (arith, ints)) in
    simp to_z-of_z (back_alone c.args.work.now c.args.first c.args.cut c.args.level s r.within (omega arith) r.some)

pub returns-clause-parted : goal.returns-clause-parted
returns-clause-parted c =
    let s = span_at c.args.work.now c.args.first in
    let r = c.requires in
    let low : FitsSigned w64 s.low = search rules in
    let high : FitsSigned w64 s.high = search rules in
    let level : FitsSigned w64 c.args.level = search rules in
    let next : FitsSigned w64 (c.args.level +ℤ pos 1) = (let below = r.below in omega (arith, ints)) in
    let cells = r.cells in
    let some : 0 < c.args.cut = omega arith in
    let more : c.args.cut < s.cells = omega arith in
    simp to_z-of_z (both_parts c.args.work.now c.args.first c.args.cut c.args.level s r.within (r.room some more) some more)
