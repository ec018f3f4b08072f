use Rattle.std.proofs.Common.{◌≡◌, ◌+◌, inl, inr, pos, unsigned_abs, FitsSigned, w64, rules, arith}
use Rattle.std.proofs.lemmas.Bool.{cases_lt}
use Rattle.std.specs.Int.{int_min, int_max}
use Rattle.std.proofs.lemmas.Int.{ints, to_z-of_z}
use Rattle.fp_slots.specs.CutNets.{fixed_length}
use Rattle.fp_slots.proofs.Windows.{no_window, is_window, left_found, right_found, ends_found}
use Rattle.fp_slots.proofs.cut_net.CutNet.window.Goals as goal

pub returns-then-slack-eq0 : goal.returns-then-slack-eq0
returns-then-slack-eq0 c =
    let y_fits : FitsSigned w64 c.args.y = c.ranges.y in
    let fixed : pos c.fixed_length.result ≡ fixed_length c.args.self c.args.y = simp to_z-of_z at c.fixed_length.ensures in
    no_window c.args.self c.args.y c.args.limit c.fixed_length.result fixed (omega (arith, c.saturating_sub-slack.ensures, c.if-slack-eq0.true))

pub returns : goal.returns
returns c =
    let y_fits : FitsSigned w64 c.args.y = c.ranges.y in
    let fixed : pos c.fixed_length.result ≡ fixed_length c.args.self c.args.y = simp to_z-of_z at c.fixed_length.ensures in
    let top_left : FitsSigned w64 c.args.self.top.left = search rules in
    let top_right : FitsSigned w64 c.args.self.top.right = search rules in
    let bottom_left : FitsSigned w64 c.args.self.bottom.left = search rules in
    let bottom_right : FitsSigned w64 c.args.self.bottom.right = search rules in
    let most : c.max.result ≡ int_max c.args.self.top.left c.args.self.bottom.left = simp to_z-of_z at c.max.ensures.value in
    let least : c.min.result ≡ int_min c.args.self.top.right c.args.self.bottom.right = simp to_z-of_z at c.min.ensures.value in
    let left_fits : FitsSigned w64 c.max.result = search rules in
    let right_fits : FitsSigned w64 c.min.result = search rules in
    let left : c.unsigned_abs-left.result ≡ unsigned_abs c.max.result = simp to_z-of_z at c.unsigned_abs-left.ensures.value in
    let right : c.unsigned_abs-right.result ≡ unsigned_abs c.min.result = simp to_z-of_z at c.unsigned_abs-right.ensures.value in
    let left_1 : c.unsigned_abs.result ≡ unsigned_abs c.args.self.top.left = simp to_z-of_z at c.unsigned_abs.ensures.value in
    let left_2 : c.unsigned_abs-2.result ≡ unsigned_abs c.args.self.bottom.left = simp to_z-of_z at c.unsigned_abs-2.ensures.value in
    let right_1 : c.unsigned_abs-3.result ≡ unsigned_abs c.args.self.top.right = simp to_z-of_z at c.unsigned_abs-3.ensures.value in
    let right_2 : c.unsigned_abs-4.result ≡ unsigned_abs c.args.self.bottom.right = simp to_z-of_z at c.unsigned_abs-4.ensures.value in
    is_window c.args.self c.args.y c.args.limit c.fixed_length.result c.saturating_sub-slack.result c.unsigned_abs-left.result c.unsigned_abs-right.result
    (c.unsigned_abs.result + c.unsigned_abs-2.result) (c.unsigned_abs-3.result + c.unsigned_abs-4.result) _ _
    c.requires.net fixed (omega (arith, c.saturating_sub-slack.ensures, c.if-slack-eq0.false)) (omega (arith, c.if-slack-eq0.false))
    (left_found c.args.self _ _ c.requires.net most left) (right_found c.args.self _ _ c.requires.net least right)
    (ends_found c.args.self.top.left c.args.self.bottom.left _ _ c.requires.net.top.left c.requires.net.bottom.left left_1 left_2)
    (ends_found c.args.self.top.right c.args.self.bottom.right _ _ (omega (arith, ints, c.requires.net.top.left, c.requires.net.top.wide)) (omega (arith, ints, c.requires.net.bottom.left, c.requires.net.bottom.wide))
    right_1 right_2)
    (record {
      before = λ x less. elim (cases_lt x c.saturating_sub-start.result) [
        | inl one ↦ inl (omega (arith, c.saturating_sub-start.ensures, one))
        | inr past ↦ inr (omega (arith, c.saturating_sub-start_of_both.ensures, c.max-2.ensures, less, past))
      ];
      past = λ x from. omega (arith, c.saturating_sub-start.ensures, c.max-2.ensures, from);
      after = λ x most from. elim (cases_lt x c.saturating_add-end.result) [
        | inl under ↦ inr (omega (arith, c.saturating_add.ensures, c.div_ceil-end_of_both.ensures, c.min-2.ensures, most, from, under))
        | inr one ↦ inl (omega (arith, c.saturating_add-end.ensures, most, one))
      ];
      within = λ x less. omega (arith, c.saturating_add-end.ensures, c.min-2.ensures, less);
    })
