-- Terminals where they belong: exactly the cut nets have one.
pub use Rattle.fp_place.specs.OnSlots.{AreOnCuts}
