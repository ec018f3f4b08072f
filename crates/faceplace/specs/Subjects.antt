-- What breaks a rule is one of the problem.
use Rattle.std.specs.Prelude.{◌<◌, length}
use Rattle.fp_netlist.specs.Netlist.{Netlist}
use Rattle.fp_place.specs.declared.judge.Subject.{Subject}
use Rattle.fp_place.specs.declared.judge.Subject.TheVariants.{Cell, Net, Side}

abbrev pub IsSubjectOf : Netlist → Subject → Type 0
IsSubjectOf p (Cell cell) = cell.0 < length p.cells
IsSubjectOf p (Net net) = net.0 < length p.nets
IsSubjectOf p (Side die) = Unit {0}
