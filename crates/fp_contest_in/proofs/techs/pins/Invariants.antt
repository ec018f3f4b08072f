use Rattle.std.proofs.Common.{[]}
use Rattle.fp_text.specs.Reading.{many_next}
use Rattle.fp_contest_in.specs.Growing.{pin_item}
use Rattle.fp_contest_in.proofs.Loops.{PinsSoFar}
use Rattle.fp_contest_in.proofs.techs.pins.Given as goal

abbrev pub invariant-loop : goal.invariant-loop
invariant-loop l = PinsSoFar l.tech.0 l.lib.0 l.count l.counter l.initial.book l.book l.tokens (many_next pin_item l.count [] l.initial.tokens)
