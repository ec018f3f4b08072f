use Rattle.std.proofs.Common.{◌-ℤ◌, FitsSigned, w64, arith, rules}
use Rattle.std.proofs.lemmas.Int.{ints, to_z-of_z}
use Rattle.fp_rows.specs.Squares.{width_of, squared_rise, ArePlaces}
use Rattle.fp_rows.specs.SquaresLaws.{shown_is_best}
use Rattle.fp_rows.specs.TightLaws.{Tight}
use Rattle.fp_abacus.proofs.Whole.{rest_of, has_room, tight_places, feasible_places, placed_is_feasible, placed_is_shown, duals_are_small}
use Rattle.fp_abacus.proofs.place_row.Goals as goal
use Rattle.fp_abacus.proofs.place_row.Goals.{After-place_clusters}

pub overflow_sub-hi : goal.overflow_sub-hi
overflow_sub-hi c =
    let room = has_room c.args.cells.now c.args.lo c.args.hi c.requires.row in
    let width = c.width_of_all-width.ensures in
    omega (arith, ints, room.low, room.ordered, c.requires.row.start, c.requires.row.finish)

pub place_clusters-requires-clause-ordered : goal.place_clusters-requires-clause-ordered
place_clusters-requires-clause-ordered c =
    let room = has_room c.args.cells.now c.args.lo c.args.hi c.requires.row in
    let width = c.width_of_all-width.ensures in
    omega (arith, ints, room.low, room.ordered, c.requires.row.start, c.requires.row.finish)

tight : (c : After-place_clusters) → Tight width_of squared_rise c.args.lo c.args.hi 0 c.args.cells.now c.place_clusters.new.xs
tight c =
    let room = has_room c.args.cells.now c.args.lo c.args.hi c.requires.row in
    let width = c.width_of_all-width.ensures in
    let a : FitsSigned w64 c.args.lo = search rules in
    let b : FitsSigned w64 c.args.hi = search rules in
    let d : FitsSigned w64 c.width_of_all-width.result = search rules in
    let e : FitsSigned w64 (c.args.hi -ℤ c.width_of_all-width.result) = omega (arith, ints, room.low, room.ordered, c.requires.row.start, c.requires.row.finish) in
    let placed = rw width at (simp to_z-of_z at c.place_clusters.ensures) in
    let rest = rest_of c.clusters_of-first.new.work c.clusters_of-first.result in
    rw (placed, rest) (tight_places c.args.cells.now c.args.lo c.args.hi _ c.requires.row c.clusters_of-first.ensures.clusters)

places : (c : After-place_clusters) → ArePlaces c.args.cells.now c.place_clusters.new.xs
places c = feasible_places c.args.cells.now c.args.lo c.args.hi c.place_clusters.new.xs c.requires.row (placed_is_feasible c.args.cells.now c.args.lo c.args.hi c.place_clusters.new.xs (tight c))

pub set_needs-requires-clause-places : goal.set_needs-requires-clause-places
set_needs-requires-clause-places c = places (goal.at.set_needs-requires-clause-places c).After-place_clusters

pub raise_to_least-requires-clause-places : goal.raise_to_least-requires-clause-places
raise_to_least-requires-clause-places c = places (goal.at.raise_to_least-requires-clause-places c).After-place_clusters

pub returns-clause-feasible : goal.returns-clause-feasible
returns-clause-feasible c = placed_is_feasible c.args.cells.now c.args.lo c.args.hi c.place_clusters.new.xs (tight (goal.at.returns-clause-feasible c).After-place_clusters)

pub returns-clause-best : goal.returns-clause-best
returns-clause-best c =
    let t = tight (goal.at.returns-clause-best c).After-place_clusters in
    let xs = c.place_clusters.new.xs in
    shown_is_best c.args.cells.now c.args.lo c.args.hi xs _ c.requires.row.each (placed_is_feasible c.args.cells.now c.args.lo c.args.hi xs t) (placed_is_shown c.args.cells.now c.args.lo c.args.hi xs c.requires.row.each (places (goal.at.returns-clause-best c).After-place_clusters) t)

pub returns-clause-duals : goal.returns-clause-duals
returns-clause-duals c =
    let d = (goal.at.returns-clause-duals c).After-place_clusters in
    rw c.raise_to_least.ensures (placed_is_shown c.args.cells.now c.args.lo c.args.hi c.place_clusters.new.xs c.requires.row.each (places d) (tight d))

pub returns-clause-small : goal.returns-clause-small
returns-clause-small c = rw c.raise_to_least.ensures (duals_are_small c.args.cells.now c.place_clusters.new.xs c.requires.row.each (places (goal.at.returns-clause-small c).After-place_clusters))
