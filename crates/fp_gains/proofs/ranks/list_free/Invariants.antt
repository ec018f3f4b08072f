use Rattle.std.proofs.Common.{◌≡◌, ℕ, ◌<◌, length, get_or}
use Rattle.fp_gains.specs.Kept.{free_key}
use Rattle.fp_gains.proofs.ranks.list_free.Given as goal

abbrev pub invariant-loop-cell : goal.invariant-loop-cell
invariant-loop-cell l = record {
  many : length l.listed.items ≡ length l.dies;
  each : (cell : ℕ) → cell < l.cell → get_or l.listed.items cell 0 ≡ free_key l.dies l.locked l.keys l.die cell;
}
