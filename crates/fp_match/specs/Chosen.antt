-- How a choice is kept.
use Rattle.std.specs.Prelude.{◌≤◌, length}
use Rattle.fp_match.specs.declared.choice.Choice.TheInside.{Inside}
use Rattle.fp_match.specs.Prices.{Chosen}
use Rattle.fp_match.specs.Owners.{Agree, unused}

abbrev pub chosen_of : Inside → Chosen
chosen_of c = record { columns = length c.owner.items; chosen = c.chosen.items }

-- the owners are those of the columns
pub record IsKept (c : Inside) : Type 0 where
  pub few : length c.chosen.items ≤ unused
  pub agree : Agree (length c.owner.items) (length c.chosen.items) c.chosen.items c.owner.items
