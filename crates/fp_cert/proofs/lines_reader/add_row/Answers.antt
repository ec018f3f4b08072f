use Rattle.std.proofs.Common.{length, ap, arith}
use Rattle.fp_cert.specs.CertReadingLaws.{row_few}
use Rattle.fp_cert.proofs.lines_reader.add_row.Goals as goal

pub returns-in-Ok-clause-few : goal.returns-in-Ok-clause-few
returns-in-Ok-clause-few c =
    omega (arith, ap length c.cells.ensures, row_few c.args.problem.now c.args.taken c.args.tokens.now c.in_ok-row.row c.next_row.new.tokens c.requires c.in_ok-row.ensures)
