use Rattle.std.proofs.Common.{◌≡◌, ◌<◌, ◌+◌, List, length, get_or, take, refl, sym, ap, subst, arith}
use Rattle.std.proofs.lemmas.List.{take_more}
use Rattle.std.proofs.lemmas.Option.{slice_get_within}
use Rattle.fp_base.specs.declared.ids.CellId.{CellId}
use Rattle.fp_tech.specs.Plan.{segments}
use Rattle.fp_place.specs.declared.lined.Lined.{Lined}
use Rattle.fp_place.specs.Places.{Place, place_at}
use Rattle.fp_place.specs.LaneOrder.{HoldInOrder, pushed}
use Rattle.fp_place.specs.LaneOverlaps.{cell_at, no_cell}
use Rattle.fp_place.proofs.LinFill.{hold_more, lanes_long, place_read}
use Rattle.fp_place.proofs.lined.fill.Goals as goal

pub push-requires : goal.push-requires
push-requires c =
    let p = c.args.problem.now in
    let cell = cell_at c.args.order.now c.loop-cell.cell-index in
    let below : cell.0 < length p.cells = c.requires.order c.loop-cell.cell-index no_cell c.loop-cell-test.true in
    let on = c.requires.on_segments cell.0 below in
    let die_is : (place_at c.args.places.now cell.0).die ≡ c.place.inside.die =
    ap (λ (q : Place). q.die) (place_read c.args.places.now cell.0 c.index-places-index.result _ (omega (arith, below)) c.index-places-index.is c.place.view_is) in
    let row = slice_get_within (segments p.plan (place_at c.args.places.now cell.0).die) (get_or c.args.numbers.now cell.0 0) on.segment on.there in
    omega (
      arith,
      row,
      ap (λ d. length (segments p.plan d)) die_is,
      lanes_long p c.args.places.now c.args.numbers.now (take c.loop-cell.cell-index c.args.order.now) c.loop-cell.lined.top c.loop-cell.lined.bottom c.loop-cell.invariant c.place.inside.die,
    )

pub loop-cell-preserved : goal.loop-cell-preserved
loop-cell-preserved c =
    let p = c.args.problem.now in
    let order = c.args.order.now in
    let index = c.loop-cell.cell-index in
    let cell = cell_at order index in
    let row = get_or c.args.numbers.now cell.0 0 in
    let below : cell.0 < length p.cells = c.requires.order index no_cell c.loop-cell-test.true in
    let on = c.requires.on_segments cell.0 below in
    let die_is : (place_at c.args.places.now cell.0).die ≡ c.place.inside.die =
    ap (λ (q : Place). q.die) (place_read c.args.places.now cell.0 c.index-places-index.result _ (omega (arith, below)) c.index-places-index.is c.place.view_is) in
    let within : row < length (segments p.plan c.place.inside.die) =
    subst (λ d. row < length (segments p.plan d)) die_is (slice_get_within (segments p.plan (place_at c.args.places.now cell.0).die) row on.segment on.there) in
    subst (λ (l : Lined). HoldInOrder p c.args.places.now c.args.numbers.now (take (index + 1) order) l.top l.bottom) (sym c.in_ok-push.ensures)
    (subst (λ (cells : List CellId). HoldInOrder p c.args.places.now c.args.numbers.now cells (pushed c.loop-cell.lined c.place.inside.die row cell).top (pushed c.loop-cell.lined c.place.inside.die row cell).bottom)
    (sym (take_more order index no_cell c.loop-cell-test.true))
    (hold_more p c.args.places.now c.args.numbers.now (take index order) c.loop-cell.lined c.place.inside.die row cell c.loop-cell.invariant die_is refl within))
