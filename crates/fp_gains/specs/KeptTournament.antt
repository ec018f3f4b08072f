-- How a tournament is kept.
use Rattle.std.specs.Prelude.{List}
use Rattle.fp_gains.specs.declared.tournament.Leader.{Leader}
use Rattle.fp_gains.specs.declared.tournament.Tournament.TheInside.{Inside}
use Rattle.fp_gains.specs.Contests.{leaders_in, IsKept}

abbrev pub leaves_of : Inside → List Leader
leaves_of t = leaders_in t.inner t.slots t.nodes.items

abbrev pub HoldsTree : Inside → Type 0
HoldsTree t = IsKept t.inner t.slots t.nodes.items
