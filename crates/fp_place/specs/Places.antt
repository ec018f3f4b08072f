-- Where cells stand: a die and a lower left corner for each cell, in file order.
use Rattle.std.specs.Prelude.{ℕ, List, map, get_or, ℤ, pos}
use Rattle.fp_base.specs.declared.ids.Die.{Die}
use Rattle.fp_base.specs.declared.ids.Die.TheVariants.{Top, Bottom}
pub use Rattle.fp_tech.specs.Rows.{same_die}

pub record Place : Type 0 where
  pub die : Die
  pub x : ℤ
  pub y : ℤ

-- the place that stands for a cell that is not there
abbrev pub nowhere : Place
nowhere = record { die = Top; x = pos 0; y = pos 0 }

abbrev pub place_at : List Place → ℕ → Place
place_at places cell = get_or places cell nowhere

-- the dies alone
abbrev pub dies_of : List Place → List Die
dies_of places = map (λ place. place.die) places

abbrev pub die_at : List Die → ℕ → Die
die_at dies cell = get_or dies cell Top

abbrev pub other_die : Die → Die
other_die Top = Bottom
other_die Bottom = Top
