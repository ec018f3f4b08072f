use Rattle.std.proofs.Common.{ap, sym, subst, ◌∙◌}
use Rattle.fp_base.specs.declared.ids.Die.TheVariants.{Top, Bottom}
use Rattle.fp_place.specs.Areas.{area_on}
use Rattle.fp_score.specs.FirstFit.{seat_dies}
use Rattle.fp_seed.specs.FilledSegments.{HoldsSeats}
use Rattle.fp_seed.proofs.Seated.{no_area}
use Rattle.fp_seed.proofs.seating.Seating.new.Goals as goal

pub returns-clause-seating : goal.returns-clause-seating
returns-clause-seating c =
    let p = c.args.problem.now in
    record {
      top_area = ap (λ held. held.top) c.empty.ensures ∙ sym (no_area p Top) ∙ ap (λ seats. area_on p Top (seat_dies seats)) (sym c.new-3.ensures.items);
      bottom_area = ap (λ held. held.bottom) c.empty.ensures ∙ sym (no_area p Bottom) ∙ ap (λ seats. area_on p Bottom (seat_dies seats)) (sym c.new-3.ensures.items);
      top_ready = c.in_ok-top.ensures.ready;
      bottom_ready = c.in_ok-bottom.ensures.ready;
      top_holds = subst (λ seats. HoldsSeats p Top seats c.in_ok-top.top.used.items c.in_ok-top.top.lanes) (sym c.new-3.ensures.items) c.in_ok-top.ensures.empty;
      bottom_holds = subst (λ seats. HoldsSeats p Bottom seats c.in_ok-bottom.bottom.used.items c.in_ok-bottom.bottom.lanes) (sym c.new-3.ensures.items) c.in_ok-bottom.ensures.empty;
    }
