use Rattle.std.proofs.Common.{[]}
use Rattle.fp_text.specs.Reading.{many_next}
use Rattle.fp_contest_in.specs.Growing.{tech_item}
use Rattle.fp_contest_in.proofs.Loops.{TechsSoFar}
use Rattle.fp_contest_in.proofs.techs.many_techs.Given as goal

abbrev pub invariant-loop : goal.invariant-loop
invariant-loop l = TechsSoFar l.count l.counter l.initial.book l.book l.tokens (many_next tech_item l.count [] l.initial.tokens)
