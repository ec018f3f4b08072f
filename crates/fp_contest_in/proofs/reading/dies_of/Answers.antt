use Rattle.fp_contest_in.proofs.InRange.{setup_in_range}
use Rattle.fp_contest_in.proofs.reading.dies_of.Goals as goal

pub new-requires : goal.new-requires
new-requires c =
    setup_in_range c.args.book c.args.found c.setup-setup.result c.deref.result.now c.args.listed.now.blocks.items c.requires.complete c.requires.range c.requires.few c.requires.in_range
    c.setup-setup.ensures c.deref.ensures.value
