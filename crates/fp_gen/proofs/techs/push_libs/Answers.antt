use Rattle.fp_contest_in.specs.PrintedText.{lib_lines}
use Rattle.fp_gen.specs.MakeText.{made_lib}
use Rattle.fp_gen.proofs.Growing.{more_mapped}
use Rattle.fp_gen.proofs.techs.push_libs.Goals as goal

pub loop-lib-preserved : goal.loop-lib-preserved
loop-lib-preserved c =
    let shape = c.args.shape in
    more_mapped lib_lines (made_lib shape.narrowest shape.height shape.lift) c.loop-lib.lib c.args.text.now.items c.loop-lib.text.items _ c.loop-lib.invariant c.in_ok-push_lib.ensures
