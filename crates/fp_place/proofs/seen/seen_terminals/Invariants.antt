use Rattle.std.proofs.Common.{◌≡◌, drop, replicate}
use Rattle.fp_place.specs.declared.seen.Seen.TheVariants.{Never}
use Rattle.fp_place.specs.Seen.{all_noted, net_number}
use Rattle.fp_place.specs.Drawing.{centre_of}
use Rattle.fp_place.proofs.seen.seen_terminals.Given as goal

abbrev pub invariant-loop-line : goal.invariant-loop-line
invariant-loop-line l = all_noted net_number centre_of l.seen.items (drop l.line-index l.lines) ≡ all_noted net_number centre_of (replicate l.nets Never) l.lines
