use Rattle.std.proofs.Common.{◌≡◌, ◌+◌, List, subst, sym, All, refl, arith}
use Rattle.fp_tech.specs.declared.dies.Block.{Block}
use Rattle.fp_tech.specs.Plan.{IsBlock}
use Rattle.fp_tech.proofs.SweepLemmas.{own_are}
use Rattle.fp_tech.proofs.CutLemmas.{row_more, too_many, rows_cut}
use Rattle.fp_tech.proofs.cutting.cut_rows.Goals as goal

pub cut_row-requires-clause-own : goal.cut_row-requires-clause-own
cut_row-requires-clause-own c =
    subst (λ (list : List Block). All IsBlock list) (sym c.as_slice.ensures.value) (own_are c.args.die c.args.blocks.now c.in_ok-own.own.items c.requires.blocks c.in_ok-own.ensures)

pub returns-then-len-gt-SEGMENTS : goal.returns-then-len-gt-SEGMENTS
returns-then-len-gt-SEGMENTS c =
    let grown : c.cut_row.new.segments.items ≡ rows_cut c.args.spec c.args.die c.args.blocks.now (c.loop-row.row + 1) =
    row_more c.args.spec c.args.die c.args.blocks.now c.in_ok-own.own.items c.as_slice.result.now c.loop-row.row c.loop-row.segments.items c.cut_row.new.segments.items c.in_ok-own.ensures
    c.as_slice.ensures.value c.loop-row.invariant.cut c.in_ok-cut_row.ensures in
    (refl, too_many c.args.spec c.args.die c.args.blocks.now (c.loop-row.row + 1) c.cut_row.new.segments.items (omega arith) grown (omega (arith, c.cut_row.new.segments.ok.0)))

pub loop-row-preserved : goal.loop-row-preserved
loop-row-preserved c = record {
  cut = row_more c.args.spec c.args.die c.args.blocks.now c.in_ok-own.own.items c.as_slice.result.now c.loop-row.row c.loop-row.segments.items c.cut_row.new.segments.items c.in_ok-own.ensures
      c.as_slice.ensures.value c.loop-row.invariant.cut c.in_ok-cut_row.ensures;
  few = omega (arith, c.cut_row.new.segments.ok.0);
}
