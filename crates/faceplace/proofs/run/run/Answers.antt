use Rattle.std.specs.Prelude.{map, string_bytes}
use Rattle.faceplace.specs.Request.{asks}
use Rattle.fp_contest_in.specs.ReadsLaws.{reads_agree, reads_once}
use Rattle.fp_out.specs.OutReadingLaws.{reads_exactly, one_drawing}
use Rattle.fp_cert.specs.CertReadingLaws.{reads_exactly as certs_exactly, one_run}
use Rattle.fp_gen.specs.MadeLaws.{reads_as_made}
use Rattle.faceplace.specs.Status.{code_of}
use Rattle.faceplace.specs.Run.{Outside, outside}
use Rattle.faceplace.proofs.Endings.{owed_or_wanting}
use Rattle.faceplace.proofs.Headlines.{headline_is}
use Rattle.faceplace.proofs.Words.{asks_apart}
use Rattle.faceplace.proofs.run.run.Goals as goal

pub returns-clause-complete : goal.returns-clause-complete
returns-clause-complete g c = λ files status held owed steady quiet.
    let before : Outside = outside (g.F.Folder.held c.args.folder.now) (g.S.Sink.written c.args.out.now) (g.F.Folder.faults c.args.folder.now) (g.S.Sink.faults c.args.out.now) in
    let after : Outside = outside (g.F.Folder.held c.serve.new.folder) (g.S.Sink.written c.serve.new.out) (g.F.Folder.faults c.serve.new.folder) (g.S.Sink.faults c.serve.new.out) in
    rw c.code.ensures (owed_or_wanting _ files status (code_of c.serve.result) before after held owed steady quiet c.serve.ensures)

pub returns-clause-readings : goal.returns-clause-readings
returns-clause-readings g c = record {
  problems = reads_agree;
  one_problem = reads_once;
  drawings = reads_exactly;
  one_drawing = one_drawing;
  certs = λ p is slots. certs_exactly p slots is;
  one_run = λ p is slots. one_run p slots is;
}

pub returns-clause-headline : goal.returns-clause-headline
returns-clause-headline g c =
    let before : Outside = outside (g.F.Folder.held c.args.folder.now) (g.S.Sink.written c.args.out.now) (g.F.Folder.faults c.args.folder.now) (g.S.Sink.faults c.args.out.now) in
    let after : Outside = outside (g.F.Folder.held c.serve.new.folder) (g.S.Sink.written c.serve.new.out) (g.F.Folder.faults c.serve.new.folder) (g.S.Sink.faults c.serve.new.out) in
    rw c.code.ensures (headline_is (asks (map string_bytes c.args.words.now)) (code_of c.serve.result) before after (asks_apart (map string_bytes c.args.words.now)) c.serve.ensures)

pub returns-clause-generated : goal.returns-clause-generated
returns-clause-generated g c = λ making is. reads_as_made making.number making.cells making.percent is.some is.few is.share
