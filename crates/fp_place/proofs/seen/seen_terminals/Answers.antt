use Rattle.std.proofs.Common.{◌≡◌, ◌∙◌, sym, arith, rules, replicate, pos}
use Rattle.fp_place.specs.declared.seen.Seen.TheVariants.{Never}
use Rattle.fp_place.specs.Seen.{net_number}
use Rattle.fp_place.specs.Drawing.{centre_of}
use Rattle.fp_place.proofs.SeenLemmas.{noted_start, noted_more, noted_end}
use Rattle.fp_place.proofs.seen.seen_terminals.Goals as goal

pub loop-line-init : goal.loop-line-init
loop-line-init c =
    let none : c.in_ok-seen.seen.items ≡ replicate c.args.nets Never = search rules in
    noted_start net_number centre_of _ _ c.args.lines.now none

pub loop-line-preserved : goal.loop-line-preserved
loop-line-preserved c =
    noted_more net_number centre_of _ _ c.args.lines.now c.loop-line.line-index (record { net = record { 0 = 0 }; x = pos 0; y = pos 0 }) _ (omega arith) c.centre.ensures c.note.ensures
    ∙ c.loop-line.invariant

pub returns : goal.returns
returns c = sym (noted_end net_number centre_of _ c.args.lines.now c.loop-line.line-index (omega arith)) ∙ c.loop-line.invariant
