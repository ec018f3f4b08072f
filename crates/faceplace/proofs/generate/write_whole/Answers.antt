use Rattle.fp_text.specs.WritingLaws.{written_on_ok}
use Rattle.faceplace.proofs.generate.write_whole.Goals as goal

pub returns-clause-written : goal.returns-clause-written
returns-clause-written g c = written_on_ok c.finish.result c.new-writer.ensures.starts c.put.ensures.adds c.finish.ensures.finishes
