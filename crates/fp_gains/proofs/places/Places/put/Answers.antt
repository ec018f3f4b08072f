use Rattle.std.proofs.Common.{◌≡◌, ◌<◌, ◌==◌, ℕ, Bool, true, false, Some, None, if◌then◌else◌, map, set, refl, ap, ◌∙◌, arith}
use Rattle.std.proofs.lemmas.List.{map-set}
use Rattle.std.proofs.lemmas.Bool.Decides.{nat_tests}
use Rattle.fp_gains.specs.OrderParts.{place_of}
use Rattle.fp_gains.proofs.places.Places.put.Goals as goal

-- a small number is a place
small_place : (place : ℕ) → place < 262144 → place_of place ≡ Some place
small_place place small = by (place == 4294967295) refl
  where
    by : (b : Bool) → (place == 4294967295) ≡ b → (if b then None else Some place) ≡ Some place
    by true e = absurd (let same : place ≡ 4294967295 = grind (arith, nat_tests) in omega (arith, small, same))
    by false e = refl

pub returns : goal.returns
returns c =
    map-set place_of c.self.inside.numbers.items c.args.cell.0 c.args.place
    ∙ ap (set (map place_of c.self.inside.numbers.items) c.args.cell.0) (small_place c.args.place c.requires.small)
    ∙ ap (λ places. set places c.args.cell.0 (Some c.args.place)) c.self.view_is
