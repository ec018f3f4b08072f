use Rattle.std.proofs.Common.{◌≡◌, ◌≤◌, ◌^◌, length, flat_map}
use Rattle.std.specs.List.{range_with_len}
use Rattle.fp_tech.specs.Rows.{row_segments}
use Rattle.fp_tech.proofs.cutting.cut_rows.Given as goal

abbrev pub invariant-loop-row : goal.invariant-loop-row
invariant-loop-row l = record {
  cut : l.segments.items ≡ flat_map (row_segments l.spec l.die l.blocks) (range_with_len 0 l.row);
  few : length l.segments.items ≤ 2 ^ 16;
}
