-- A placement shown as it stands.
use Rattle.std.specs.Prelude.{List, ◌++◌, map}
use Rattle.fp_base.specs.declared.ids.CellId.{CellId}
use Rattle.fp_base.specs.declared.ids.Die.{Die}
use Rattle.fp_base.specs.declared.ids.Die.TheVariants.{Top, Bottom}
use Rattle.fp_place.specs.Placed.{Placed, spot_at, lanes_of}
use Rattle.fp_cert.specs.declared.shown.CellShown.{CellShown}
use Rattle.fp_cert.specs.Shown.{ShownRow, ShownTrial}

-- a cell at its spot's x, with its own place as target and the dual 0
abbrev pub still_cell : Placed → CellId → CellShown
still_cell placed cell = record {
  cell = cell;
  x = (spot_at placed.spots cell.0).x;
  target = record { x = (spot_at placed.spots cell.0).x; y = (spot_at placed.spots cell.0).y };
  dual = 0;
}

abbrev pub still_row : Placed → List CellId → ShownRow
still_row placed lane = record { first = 0; cells = map (still_cell placed) lane }

-- a trial with more rows of a die
abbrev pub with_rows : ShownTrial → Die → List ShownRow → ShownTrial
with_rows trial Top rows = record trial { top = trial.top ++ rows }
with_rows trial Bottom rows = record trial { bottom = trial.bottom ++ rows }

-- a trial with the rows of a placement as it stands
abbrev pub with_still : Placed → ShownTrial → ShownTrial
with_still placed trial =
    with_rows (with_rows trial Top (map (still_row placed) (lanes_of placed Top))) Bottom (map (still_row placed) (lanes_of placed Bottom))
