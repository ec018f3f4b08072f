use Rattle.std.proofs.Common.{◌<◌, arith}
use Rattle.fp_match.proofs.Steps.{room_less, offer_sunk, enter_row, enter_place, offer_entered, offer_lowered, offer_same}
use Rattle.fp_match.proofs.scan.offer.Goals as goal

pub returns-then-holder : goal.returns-then-holder
returns-then-holder g c =
    offer_sunk _ _ _ _ _ _ _ _ _ c.requires.tree c.requires.fits c.requires.offer c.index-holder.ensures c.if-holder.true c.sink_at.ensures

pub enter-requires-clause-room : goal.enter-requires-clause-room
enter-requires-clause-room g c =
    let lt : c.index-holder.result.now < c.args.row = enter_row _ _ _ _ _ _ _ _ c.requires.fits c.requires.offer c.index-holder.ensures c.if-holder.false in
    room_less c.args.row _ c.args.labels.now c.requires.tree.room (omega arith)

pub enter-requires-clause-place : goal.enter-requires-clause-place
enter-requires-clause-place g c =
    enter_place _ _ _ _ _ _ _ c.requires.tree (enter_row _ _ _ _ _ _ _ _ c.requires.fits c.requires.offer c.index-holder.ensures c.if-holder.false)
    c.index-known.ensures c.if-known-eq-FAR.true

pub returns-then-known-eq-FAR : goal.returns-then-known-eq-FAR
returns-then-known-eq-FAR g c =
    offer_entered _ _ _ _ _ _ _ _ _ _ c.requires.tree c.requires.fits c.requires.offer c.index-holder.ensures c.if-holder.false
    c.index-known.ensures c.if-known-eq-FAR.true c.enter.ensures

pub lower-requires : goal.lower-requires
lower-requires g c =
    let lt : c.index-holder.result.now < c.args.row = enter_row _ _ _ _ _ _ _ _ c.requires.fits c.requires.offer c.index-holder.ensures c.if-holder.false in
    room_less c.args.row _ c.args.labels.now c.requires.tree.room (omega arith)

pub returns-then-label-known : goal.returns-then-label-known
returns-then-label-known g c =
    offer_lowered _ _ _ _ _ _ _ _ _ _ c.requires.tree c.requires.fits c.requires.offer c.index-holder.ensures c.if-holder.false
    c.index-known.ensures c.if-known-eq-FAR.false c.if-label-known.true c.lower.ensures

pub returns : goal.returns
returns g c =
    offer_same _ _ _ _ _ _ _ _ _ c.requires.tree c.requires.fits c.requires.offer c.index-holder.ensures c.if-holder.false
    c.index-known.ensures c.if-label-known.false
