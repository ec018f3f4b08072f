use Rattle.std.proofs.Common.{ap, is_some}
use Rattle.fp_base.specs.declared.ids.LibId.{LibId}
use Rattle.fp_tech.specs.Book.{libs_of}
use Rattle.fp_text.specs.WritingLaws.{in_turn, as_piece}
use Rattle.fp_contest_in.proofs.PrintedTechs.{lib_at_place, lib_more}
use Rattle.fp_contest_in.proofs.print_techs.write_libs.Goals as goal

abbrev none : LibId
none = record { 0 = 0 }

pub loop-lib-preserved : goal.loop-lib-preserved
loop-lib-preserved g c =
    let one = lib_at_place c.args.book.now c.args.tech.0 c.loop-lib.lib-index c.libs_of-lib-items.result.now none c.requires.book c.requires.tech c.libs_of-lib-items.ensures c.loop-lib-test.true in
    record {
      adds = as_piece (lib_more c.args.book.now.names (libs_of c.args.book.now c.args.tech.0) c.loop-lib.lib-index one.lib one.at)
          (in_turn c.loop-lib.invariant.adds (c.write_lib.ensures.adds one.lib one.found one.numbered));
      goes_on = c.write_lib.ensures.goes_on;
    }

pub write_lib-requires-clause-named : goal.write_lib-requires-clause-named
write_lib-requires-clause-named g c =
    (lib_at_place c.args.book.now c.args.tech.0 c.loop-lib.lib-index c.libs_of-lib-items.result.now none c.requires.book c.requires.tech c.libs_of-lib-items.ensures c.loop-lib-test.true).named

pub write_lib-requires-clause-there : goal.write_lib-requires-clause-there
write_lib-requires-clause-there g c =
    ap is_some (lib_at_place c.args.book.now c.args.tech.0 c.loop-lib.lib-index c.libs_of-lib-items.result.now none c.requires.book c.requires.tech c.libs_of-lib-items.ensures c.loop-lib-test.true).found
