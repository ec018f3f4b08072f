-- How the areas are kept: within what a die's percent can allow.
use Rattle.std.specs.Prelude.{◌≤◌, ◌^◌}
use Rattle.fp_place.specs.declared.caps.Caps.TheInside.{Inside}
use Rattle.fp_place.specs.Held.{Held}

abbrev pub held_kept : Inside → Held
held_kept c = record { top = c.top; bottom = c.bottom }

abbrev pub fields_of : Held → Inside
fields_of held = record { top = held.top; bottom = held.bottom }

pub record AreSmall (c : Inside) : Type 0 where
  pub top_small : c.top ≤ 2 ^ 60
  pub bottom_small : c.bottom ≤ 2 ^ 60
