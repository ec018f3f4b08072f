use Rattle.std.proofs.Common.{◌≡◌, ◌∙◌, sym, arith, rules, replicate, pos}
use Rattle.fp_place.specs.declared.seen.Seen.TheVariants.{Never}
use Rattle.fp_place.specs.Seen.{cell_number, corner_of}
use Rattle.fp_place.proofs.SeenLemmas.{noted_start, noted_more, noted_end}
use Rattle.fp_place.proofs.seen.seen_cells.Goals as goal

pub loop-line-init : goal.loop-line-init
loop-line-init c =
    let none : c.in_ok-seen.seen.items ≡ replicate c.args.cells Never = search rules in
    noted_start cell_number corner_of _ _ c.args.lines.now none

pub loop-line-preserved : goal.loop-line-preserved
loop-line-preserved c =
    noted_more cell_number corner_of _ _ c.args.lines.now c.loop-line.line-index (record { cell = record { 0 = 0 }; x = pos 0; y = pos 0 }) _ (omega arith) c.corner.ensures c.note.ensures
    ∙ c.loop-line.invariant

pub returns : goal.returns
returns c = sym (noted_end cell_number corner_of _ c.args.lines.now c.loop-line.line-index (omega arith)) ∙ c.loop-line.invariant
