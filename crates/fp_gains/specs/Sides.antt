-- The distribution of a net, which is how many of its cells stand on each die, and what a net adds to the gain of a cell.
use Rattle.std.specs.Prelude.{ℕ, ◌+◌, ◌-◌, ◌&&◌, nat_lt, if◌then◌else◌, List}
use Rattle.std.specs.List.{count_by}
use Rattle.fp_base.specs.declared.ids.Die.{Die}
use Rattle.fp_base.specs.declared.ids.Die.TheVariants.{Top, Bottom}
use Rattle.fp_place.specs.Places.{die_at, same_die}
use Rattle.fp_gains.specs.declared.sides.Sides.{Sides}

abbrev pub count_on : Sides → Die → ℕ
count_on sides Top = sides.top
count_on sides Bottom = sides.bottom

abbrev pub no_sides : Sides
no_sides = record { top = 0; bottom = 0 }

-- of these cells, those on a die
abbrev pub on_die : List Die → Die → List ℕ → ℕ
on_die dies die cells = count_by (λ cell. same_die (die_at dies cell) die) cells

abbrev pub sides_of : List Die → List ℕ → Sides
sides_of dies cells = record { top = on_die dies Top cells; bottom = on_die dies Bottom cells }

-- after one of the cells left a die for the other
abbrev pub moved : Sides → Die → Sides
moved sides Top = record { top = sides.top - 1; bottom = sides.bottom + 1 }
moved sides Bottom = record { top = sides.top + 1; bottom = sides.bottom - 1 }

-- 1 where a net with so many cells on the two dies is cut
abbrev pub cut_now : ℕ → ℕ → ℕ
cut_now here there = if nat_lt 0 here && nat_lt 0 there then 1 else 0

-- One more than what a net loses in cuts when a cell goes from here to there: it is cut before where a cell stands there, and after where
-- another one stands here.
abbrev pub share_by : ℕ → ℕ → ℕ
share_by here there = (if nat_lt 0 there then 1 else 0) + (if nat_lt 1 here then 0 else 1)

abbrev pub share : Die → Sides → ℕ
share Top sides = share_by sides.top sides.bottom
share Bottom sides = share_by sides.bottom sides.top
