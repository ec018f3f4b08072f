use Rattle.fp_gen.specs.MadeLaws.{reads_as_made}
use Rattle.fp_gen.proofs.generator.make.Goals as goal

pub returns-in-Ok-clause-reads : goal.returns-in-Ok-clause-reads
returns-in-Ok-clause-reads c = reads_as_made c.args.number c.args.cells c.args.percent c.requires.some c.requires.few c.requires.share
