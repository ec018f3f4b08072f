use Rattle.std.proofs.Common.{◌≡◌, ℕ, ◌<◌, ◌≤◌, List, get_or, length, refl, sym, ◌∙◌, arith}
use Rattle.std.proofs.lemmas.Grind.{get_or_default_zero}
use Rattle.std.proofs.Math.ListN.{length-set}
use Rattle.std.specs.Prelude.{slice_index}
use Rattle.fp_match.specs.Owners.{unused}
use Rattle.std.proofs.lemmas.List.Elements.{All-get_or}
use Rattle.fp_match.specs.OwnerLaws.{room_for_row, agree_step}
use Rattle.fp_match.proofs.choice.owners.Goals as goal

free : (owner : List ℕ) (place holder : ℕ) → place < length owner → holder ≡ get_or owner place holder → holder ≡ unused
    → slice_index owner place ≡ unused
free owner place holder lt read is_free = sym (get_or_default_zero owner place holder lt) ∙ sym read ∙ is_free

pub overflow_cast-result : goal.overflow_cast-result
overflow_cast-result c =
    let most : c.loop-row.row ≤ c.args.columns = room_for_row _ c.args.chosen.now _ _ c.loop-row.invariant.1 (omega arith) in
    omega arith

pub overflow_cast-row : goal.overflow_cast-row
overflow_cast-row c =
    let most : c.loop-row.row ≤ c.args.columns = room_for_row _ c.args.chosen.now _ _ c.loop-row.invariant.1 (omega arith) in
    omega arith

pub loop-row-preserved : goal.loop-row-preserved
loop-row-preserved c =
    let within : get_or c.args.chosen.now c.loop-row.row 0 < c.args.columns =
    All-get_or (λ (s : ℕ). s < c.args.columns) c.args.chosen.now c.loop-row.row 0 c.loop-row-test.true c.requires in (
      simp length-set c.loop-row.invariant.0,
      agree_step c.loop-row.row c.args.chosen.now c.loop-row.owner.items c.args.columns (get_or c.args.chosen.now c.loop-row.row 0)
          c.loop-row.invariant.1 (omega arith) c.loop-row-test.true (omega arith) refl
          within
          (free c.loop-row.owner.items _ _ (omega (arith, within)) c.index-holder.ensures c.if-holder.false),
    )
