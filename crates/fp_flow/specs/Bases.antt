-- A trial from which the next one can be made, with the placement that it shows.
use Rattle.std.specs.Prelude.{◌≡◌, true}
use Rattle.fp_tech.specs.Slots.{Slots}
use Rattle.fp_netlist.specs.Netlist.{Netlist}
use Rattle.fp_place.specs.Places.{dies_of}
use Rattle.fp_place.specs.Placed.{Placed, places_of, DoAgree, IsPlacementOf, IsInOrder}
use Rattle.fp_place.specs.Settled.{KeepRules}
use Rattle.fp_cert.specs.Certified.{IsCertified}
use Rattle.fp_cert.specs.Endings.{has_rows}
use Rattle.fp_cert.specs.Shown.{ShownTrial}
use Rattle.fp_cert.specs.Standing.{placed_shown}
use Rattle.fp_cert.specs.Trials.{IsScored}

pub record IsBase (p : Netlist) (grid : Slots) (trial : ShownTrial) (placed : Placed) : Type 0 where
  pub has : has_rows trial.ending ≡ true
  pub shown : placed_shown p grid trial ≡ placed
  pub of_problem : IsPlacementOf p placed
  pub agree : DoAgree placed
  pub in_order : IsInOrder p placed
  pub rules : KeepRules p (dies_of (places_of placed))
  pub scored : IsScored p grid trial
  pub certified : IsCertified p grid trial
