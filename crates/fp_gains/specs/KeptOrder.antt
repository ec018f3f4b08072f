-- How an order is kept.
use Rattle.std.specs.Prelude.{length, map}
use Rattle.fp_gains.specs.declared.order.Order.TheInside.{Inside}
use Rattle.fp_gains.specs.Ordered.{Ordered}
use Rattle.fp_gains.specs.OrderParts.{number_of, order_as, HoldPlaces}

abbrev pub ordered_kept : Inside → Ordered
ordered_kept o = order_as o.die o.slots o.tournament

abbrev pub HoldsSlots : Inside → Type 0
HoldsSlots o = HoldPlaces o.slots (map number_of o.tournament) (length o.tournament)
