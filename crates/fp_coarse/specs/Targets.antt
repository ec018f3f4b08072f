-- The range of targets.
use Rattle.std.specs.Prelude.{◌^◌, ℤ, pos, ◌-ℤ◌, ◌≤ℤ◌}
use Rattle.fp_base.specs.declared.ids.Point.{Point}

-- a target lies from -2^30 to 2^31
abbrev pub IsTargetPlace : ℤ → Type 0
IsTargetPlace at = ((pos 0 -ℤ pos (2 ^ 30)) ≤ℤ at) × (at ≤ℤ pos (2 ^ 31))

pub record IsNearTarget (target : Point) : Type 0 where
  pub x : IsTargetPlace target.x
  pub y : IsTargetPlace target.y
