use Rattle.std.proofs.Common.{◌≡◌, drop, replicate}
use Rattle.fp_place.specs.declared.seen.Seen.TheVariants.{Never}
use Rattle.fp_place.specs.Seen.{all_noted, cell_number, corner_of}
use Rattle.fp_place.proofs.seen.seen_cells.Given as goal

abbrev pub invariant-loop-line : goal.invariant-loop-line
invariant-loop-line l = all_noted cell_number corner_of l.seen.items (drop l.line-index l.lines) ≡ all_noted cell_number corner_of (replicate l.cells Never) l.lines
