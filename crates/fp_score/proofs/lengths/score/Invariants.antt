use Rattle.std.proofs.Common.{◌≡◌, ◌+◌, ◌*◌, ◌^◌, ◌≤◌, pos}
use Rattle.fp_place.specs.Placed.{places_of}
use Rattle.fp_score.specs.Score.{score_below}
use Rattle.fp_score.proofs.lengths.score.Given as goal

abbrev pub invariant-loop-net : goal.invariant-loop-net
invariant-loop-net l = record {
  so_far : pos l.total ≡ score_below l.problem (places_of l.placement) l.placement.terminals l.net;
  small : l.total + l.net ≤ l.net * 2 ^ 35;
}
