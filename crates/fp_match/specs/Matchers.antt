-- How a matcher is kept.
use Rattle.std.specs.Prelude.{◌≡◌, ◌≤◌, take, length}
use Rattle.fp_match.specs.declared.matcher.Matcher.TheInside.{Inside}
use Rattle.fp_match.specs.Prices.{Solution}
use Rattle.fp_match.specs.Search.{AreFar, HasMarks}

abbrev pub solution_of : Inside → Solution
solution_of m = record {
  row_room = length m.matching.column_of.items;
  column_room = length m.matching.owner.items;
  chosen = take m.rows m.matching.column_of.items;
  prices = take m.columns m.matching.prices.items;
}

-- the last solution is within the room, and no row has a label
pub record IsReady (m : Inside) : Type 0 where
  pub rows : m.rows ≤ length m.matching.column_of.items
  pub columns : m.columns ≤ length m.matching.owner.items
  pub prices : length m.matching.prices.items ≡ length m.matching.owner.items
  pub labels : length m.labels.label.items ≡ length m.matching.column_of.items
  pub parents : length m.labels.parent.items ≡ length m.matching.column_of.items
  pub places : length m.labels.reached.items ≡ length m.matching.column_of.items
  pub all_far : AreFar m.labels
  pub marks : HasMarks m.matching m.closed
