use Rattle.std.proofs.Common.{◌≡◌, ℕ, ◌<◌, ◌++◌, ◌∷◌, [], List, length, get_or, subst, sym, ap, arith}
use Rattle.std.proofs.lemmas.List.{length_push}
use Rattle.fp_place.specs.Placed.{places_of}
use Rattle.fp_coarse.specs.declared.ends.NetEnds.{NetEnds}
use Rattle.fp_coarse.specs.EndsOfNets.{no_ends, IsNetEnds, AreSmall}
use Rattle.fp_coarse.proofs.KeptEnds.{each_pushed}
use Rattle.fp_coarse.proofs.ends.ends_of_nets.Goals as goal

pub loop-net-preserved : goal.loop-net-preserved
loop-net-preserved c =
    let p = c.args.problem.now in
    let base = places_of c.args.base.now in
    let axis = c.args.axis in
    let nets = c.loop-net.nets.items in
    let ends = c.net_ends.result in
    let items : c.push.new.self.items ≡ nets ++ ends ∷ [] = c.in_ok-push.ensures.items in
    let many : length nets ≡ c.loop-net.net = c.loop-net.invariant.many in
    let here : IsNetEnds p base axis (length nets) ends = subst (λ (net : ℕ). IsNetEnds p base axis net ends) (sym many) c.net_ends.ensures.ends in
    record {
      many = omega (arith, many, ap length items, length_push nets ends);
      each = subst (λ (l : List NetEnds). (net : ℕ) → net < length l → IsNetEnds p base axis net (get_or l net no_ends)) (sym items)
          (each_pushed (IsNetEnds p base axis) nets ends no_ends c.loop-net.invariant.each here);
      small = subst (λ (l : List NetEnds). (net : ℕ) → net < length l → AreSmall (get_or l net no_ends)) (sym items)
          (each_pushed (λ net kept. AreSmall kept) nets ends no_ends c.loop-net.invariant.small c.net_ends.ensures.small);
    }
