use Rattle.fp_contest_in.proofs.InRange.{tech_below}
use Rattle.fp_contest_in.proofs.sections.tech.Goals as goal
use Rattle.std.proofs.Common.{sym, ◌∙◌}

pub returns-in-Some-clause-there : goal.returns-in-Some-clause-there
returns-in-Some-clause-there c = tech_below c.args.book.now c.in_ok-name.name.text.now c.in-Some.tech (sym c.tech_named.ensures ∙ c.in-Some.is)
