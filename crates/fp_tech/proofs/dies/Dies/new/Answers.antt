use Rattle.std.proofs.Common.{◌≡◌, ◌∙◌, ap, subst, sym, List, Err}
use Rattle.std.proofs.lemmas.Result.{err_from_is_err_and}
use Rattle.fp_base.specs.declared.ids.Die.TheVariants.{Top, Bottom}
use Rattle.fp_tech.specs.declared.dies.Block.{Block}
use Rattle.fp_tech.specs.Plan.{Plan, IsPlan, RowsLie, Makes, segments}
use Rattle.fp_tech.proofs.MakingLemmas.{all_rows, top_refused, bottom_refused, both_few, passed_on}
use Rattle.fp_tech.proofs.dies.Dies.new.Goals as goal

pub returns-in_err-top_segments : goal.returns-in_err-top_segments
returns-in_err-top_segments c =
    let plan : Plan = record { book = c.args.book; frame = c.args.frame; top = c.args.top; bottom = c.args.bottom; terminal = c.args.terminal; blocks = c.args.blocks.now } in
    let exit = err_from_is_err_and c.from_residual.result c.from_residual.ensures.1 in
    let lie : RowsLie plan = record { top = sym c.rows_lie.ensures ∙ c.if-not-rows_lie.false; bottom = sym c.rows_lie-2.ensures ∙ c.if-not-rows_lie-2.false } in
    let refused : Makes plan (Err c.in_err-top_segments.field-0.0) = top_refused plan c.in_err-top_segments.field-0.0 lie c.in_err-top_segments.ensures in
    passed_on plan _ c.in_err-top_segments.field-0.0 exit refused

pub returns-in_err-bottom_segments : goal.returns-in_err-bottom_segments
returns-in_err-bottom_segments c =
    let plan : Plan = record { book = c.args.book; frame = c.args.frame; top = c.args.top; bottom = c.args.bottom; terminal = c.args.terminal; blocks = c.args.blocks.now } in
    let exit = err_from_is_err_and c.from_residual-in_err-bottom_segments.result c.from_residual-in_err-bottom_segments.ensures.1 in
    let lie : RowsLie plan = record { top = sym c.rows_lie.ensures ∙ c.if-not-rows_lie.false; bottom = sym c.rows_lie-2.ensures ∙ c.if-not-rows_lie-2.false } in
    let refused : Makes plan (Err c.in_err-bottom_segments.field-0.0) =
    bottom_refused plan c.in_err-bottom_segments.field-0.0 lie c.in_ok-top_segments.ensures.1 c.in_err-bottom_segments.ensures in
    passed_on plan _ c.in_err-bottom_segments.field-0.0 exit refused

pub invariant_of-result : goal.invariant_of-result
invariant_of-result c =
    let of_blocks = λ (blocks : List Block). let plan : Plan = record { book = c.args.book; frame = c.args.frame; top = c.args.top; bottom = c.args.bottom; terminal = c.args.terminal; blocks = blocks } in plan in
    let few = both_few (of_blocks c.args.blocks.now) c.in_ok-top_segments.ensures.1 c.in_ok-bottom_segments.ensures.1 in
    let copied : c.args.blocks.now ≡ c.in_ok-blocks.blocks.items = sym c.in_ok-blocks.ensures.items in
    record {
      is_plan = subst (λ (blocks : List Block). IsPlan (of_blocks blocks)) copied (record {
        setup = c.requires;
        lie = record { top = sym c.rows_lie.ensures ∙ c.if-not-rows_lie.false; bottom = sym c.rows_lie-2.ensures ∙ c.if-not-rows_lie-2.false };
        top_few = few.0;
        bottom_few = few.1;
      });
      top_rows = c.in_ok-top_segments.ensures.0 ∙ sym (all_rows (of_blocks c.args.blocks.now) Top) ∙ ap (λ blocks. segments (of_blocks blocks) Top) copied;
      bottom_rows = c.in_ok-bottom_segments.ensures.0 ∙ sym (all_rows (of_blocks c.args.blocks.now) Bottom) ∙ ap (λ blocks. segments (of_blocks blocks) Bottom) copied;
    }

pub returns : goal.returns
returns c =
    let of_blocks = λ (blocks : List Block). let plan : Plan = record { book = c.args.book; frame = c.args.frame; top = c.args.top; bottom = c.args.bottom; terminal = c.args.terminal; blocks = blocks } in plan in
    let few = both_few (of_blocks c.args.blocks.now) c.in_ok-top_segments.ensures.1 c.in_ok-bottom_segments.ensures.1 in
    (record { top = sym c.rows_lie.ensures ∙ c.if-not-rows_lie.false; bottom = sym c.rows_lie-2.ensures ∙ c.if-not-rows_lie-2.false }, few.0, few.1, ap of_blocks c.in_ok-blocks.ensures.items)
