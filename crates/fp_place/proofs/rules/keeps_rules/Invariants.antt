use Rattle.std.proofs.Common.{ℕ, ◌<◌, IsTrue}
use Rattle.fp_base.specs.declared.ids.Die.{Die}
use Rattle.fp_place.specs.Areas.{fits, keeps}
use Rattle.fp_place.specs.Held.{held_on}
use Rattle.fp_place.specs.HeldLaws.{AreHeldBelow}
use Rattle.fp_place.specs.Places.{die_at}
use Rattle.fp_place.proofs.rules.keeps_rules.Given as goal

abbrev pub invariant-loop-number : goal.invariant-loop-number
invariant-loop-number l = record {
  held : AreHeldBelow l.problem l.dies l.caps l.number;
  fitting : (cell : ℕ) → cell < l.number → IsTrue (fits l.problem cell (die_at l.dies cell));
  percents : (die : Die) → IsTrue (keeps l.problem.plan die (held_on l.caps die));
}
