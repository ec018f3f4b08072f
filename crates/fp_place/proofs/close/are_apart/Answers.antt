use Rattle.std.proofs.Common.{inl, inr, sym, ◌∙◌, rules, w64, FitsSigned}
use Rattle.std.proofs.lemmas.Bool.{false≢true}
use Rattle.std.proofs.lemmas.Int.{to_z-of_z}
use Rattle.fp_place.proofs.close.are_apart.Goals as goal

pub returns-then-are_far : goal.returns-then-are_far
returns-then-are_far c =
    let a : FitsSigned w64 c.args.a.x = search rules in
    let b : FitsSigned w64 c.args.b.x = search rules in
    let across = simp to_z-of_z at c.are_far.ensures in (λ yes. inl (across.0 yes), λ apart. c.if-are_far.true)

pub returns-else-are_far : goal.returns-else-are_far
returns-else-are_far c =
    let a_x : FitsSigned w64 c.args.a.x = search rules in
    let b_x : FitsSigned w64 c.args.b.x = search rules in
    let a_y : FitsSigned w64 c.args.a.y = search rules in
    let b_y : FitsSigned w64 c.args.b.y = search rules in
    let across = simp to_z-of_z at c.are_far.ensures in
    let up = simp to_z-of_z at c.are_far-else-are_far.ensures in (
      λ yes. inr (up.0 yes),
      λ apart. elim apart [
        | inl far ↦ absurd (false≢true (sym c.if-are_far.false ∙ across.1 far))
        | inr far ↦ up.1 far
      ],
    )
