-- How dies are kept.
use Rattle.std.specs.Prelude.{◌≡◌}
use Rattle.fp_base.specs.declared.ids.Die.TheVariants.{Top, Bottom}
use Rattle.fp_tech.specs.declared.dies.Dies.TheInside.{Inside}
use Rattle.fp_tech.specs.Plan.{Plan, segments, IsPlan}

abbrev pub plan_of : Inside → Plan
plan_of d = record { book = d.book; frame = d.frame; top = d.top; bottom = d.bottom; terminal = d.terminal; blocks = d.blocks.items }

-- the kept segments are those of the value, which is within the input's ranges
pub record IsKeptPlan (d : Inside) : Type 0 where
  pub is_plan : IsPlan (plan_of d)
  pub top_rows : d.top_segments.items ≡ segments (plan_of d) Top
  pub bottom_rows : d.bottom_segments.items ≡ segments (plan_of d) Bottom
