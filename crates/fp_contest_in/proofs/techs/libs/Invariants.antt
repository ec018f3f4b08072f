use Rattle.std.proofs.Common.{[]}
use Rattle.fp_text.specs.Reading.{many_next}
use Rattle.fp_contest_in.specs.Growing.{lib_item}
use Rattle.fp_contest_in.proofs.Loops.{LibsSoFar}
use Rattle.fp_contest_in.proofs.techs.libs.Given as goal

abbrev pub invariant-loop : goal.invariant-loop
invariant-loop l = LibsSoFar l.tech.0 l.count l.counter l.initial.book l.book l.tokens (many_next lib_item l.count [] l.initial.tokens)
