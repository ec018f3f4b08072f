use Rattle.std.proofs.Common.{◌≡◌, ◌∷◌, ℕ, zero, suc, map, replicate, None, rules, refl, ap, ◌∙◌}
use Rattle.fp_gains.specs.OrderParts.{place_of}
use Rattle.fp_gains.proofs.places.Places.new.Goals as goal

nowhere : (n : ℕ) → map place_of (replicate n 4294967295) ≡ replicate n None
nowhere zero = refl
nowhere (suc n) = ap (λ places. None ∷ places) (nowhere n)

pub returns : goal.returns
returns c =
    let items : c.in_ok-numbers.numbers.items ≡ replicate c.args.count 4294967295 = search rules in
    ap (map place_of) items ∙ nowhere c.args.count
