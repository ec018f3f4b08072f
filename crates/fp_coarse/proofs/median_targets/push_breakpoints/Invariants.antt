use Rattle.std.proofs.Common.{All, drop}
use Rattle.fp_netlist.specs.Netlist.{conns_of_cell}
use Rattle.fp_place.specs.Placed.{places_of}
use Rattle.fp_coarse.specs.Targets.{IsTargetPlace}
use Rattle.fp_coarse.proofs.KeptEnds.{ArePushed}
use Rattle.fp_coarse.proofs.median_targets.push_breakpoints.Given as goal

abbrev pub invariant-loop-conn : goal.invariant-loop-conn
invariant-loop-conn l = record {
  pushed : ArePushed l.problem (places_of l.base) l.cell.0 l.die l.axis (drop l.conn-index (conns_of_cell l.problem l.cell.0)) l.breakpoints.items;
  range : All IsTargetPlace l.breakpoints.items;
}
