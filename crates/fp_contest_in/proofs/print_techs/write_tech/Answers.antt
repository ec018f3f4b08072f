use Rattle.std.proofs.Common.{◌≤◌, length, arith}
use Rattle.fp_text.specs.WritingLaws.{in_turn, as_piece}
use Rattle.fp_contest_in.proofs.PrintedTechs.{few_libs, tech_written}
use Rattle.fp_contest_in.proofs.print_techs.write_tech.Goals as goal

pub overflow_cast-libs : goal.overflow_cast-libs
overflow_cast-libs g c =
    let few : length c.libs_of.result.now ≤ 4096 = (few_libs c.args.book.now c.args.tech.0 c.libs_of.result.now c.requires.book c.requires.tech c.libs_of.ensures).1 in
    omega arith

pub returns-clause-adds : goal.returns-clause-adds
returns-clause-adds g c = λ tech at.
    as_piece (tech_written c.args.book.now c.args.tech.0 tech c.tech_name.result.now (length c.libs_of.result.now) at c.tech_name.ensures
    (few_libs c.args.book.now c.args.tech.0 c.libs_of.result.now c.requires.book c.requires.tech c.libs_of.ensures).0) (in_turn c.write_named_line.ensures.adds c.write_libs.ensures.adds)
