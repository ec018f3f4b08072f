use Rattle.fp_abacus.proofs.Packing.{IsPlacing}
use Rattle.fp_abacus.proofs.placing.place_clusters.Given as goal

abbrev pub invariant-loop-cluster : goal.invariant-loop-cluster
invariant-loop-cluster l = IsPlacing l.cells l.clusters l.lo l.top l.xs l.cluster-index l.placed l.before
