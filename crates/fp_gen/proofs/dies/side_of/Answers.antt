use Rattle.std.proofs.Common.{rules, ◌≡◌, ℕ, ◌*◌, true, false, ap, ◌∙◌, arith}
use Rattle.std.proofs.lemmas.Iterator.{first_from_Range}
use Rattle.fp_gen.specs.MakeText.{is_wide}
use Rattle.fp_gen.specs.SidesLaws.{IsLeastWide, side_is, found_few}
use Rattle.fp_gen.proofs.dies.side_of.Goals as goal

pub overflow_mul-result : goal.overflow_mul-result
overflow_mul-result c =
    let cells = c.args.cells in
    let found : IsLeastWide cells c.find.result =
    first_from_Range _ _ _ c.find.result (λ (k : ℕ). is_wide cells k ≡ true) (λ (k : ℕ). is_wide cells k ≡ false) c.find.ensures.ran
    (λ k q called. search rules) (λ k q called. search rules) in
    omega (arith, found_few cells c.find.result found, c.unwrap_or.ensures, c.requires.few)

pub returns : goal.returns
returns c =
    let cells = c.args.cells in
    let found : IsLeastWide cells c.find.result =
    first_from_Range _ _ _ c.find.result (λ (k : ℕ). is_wide cells k ≡ true) (λ (k : ℕ). is_wide cells k ≡ false) c.find.ensures.ran
    (λ k q called. search rules) (λ k q called. search rules) in
    ap (λ (k : ℕ). 60 * k) c.unwrap_or.ensures ∙ side_is cells c.find.result c.requires.some found
