use Rattle.std.proofs.Common.{◌≡◌, ℕ, ◌<◌, length, get_or}
use Rattle.fp_place.specs.Placed.{places_of}
use Rattle.fp_coarse.specs.EndsOfNets.{no_ends, IsNetEnds, AreSmall}
use Rattle.fp_coarse.proofs.ends.ends_of_nets.Given as goal

abbrev pub invariant-loop-net : goal.invariant-loop-net
invariant-loop-net l = record {
  many : length l.nets.items ≡ l.net;
  each : (net : ℕ) → net < length l.nets.items → IsNetEnds l.problem (places_of l.base) l.axis net (get_or l.nets.items net no_ends);
  small : (net : ℕ) → net < length l.nets.items → AreSmall (get_or l.nets.items net no_ends);
}
