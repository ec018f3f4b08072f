use Rattle.std.proofs.Common.{◌≡◌, ◌∙◌, slice_get, sym, ap}
use Rattle.std.proofs.lemmas.Option.{same_Some}
use Rattle.fp_tech.specs.Book.{names_of, pins_in}
use Rattle.fp_netlist.specs.declared.problem.Conn.{Conn}
use Rattle.fp_netlist.specs.Netlist.{cell_names}
use Rattle.fp_contest_in.specs.PrintedText.{conn_line, conn_said}
use Rattle.fp_text.specs.WritingLaws.{as_piece}
use Rattle.fp_contest_in.proofs.PrintedNets.{conn_written}
use Rattle.fp_contest_in.proofs.print_nets.write_conn.Goals as goal

pub returns-clause-adds : goal.returns-clause-adds
returns-clause-adds g c = λ conn at.
    let p = c.args.problem.now in
    let book = c.book.ensures.book ∙ ap (λ plan. plan.book) c.dies-dies.ensures in
    let tech = ap (λ spec. spec.tech.0) c.spec.ensures.spec ∙ ap (λ plan. plan.top.tech.0) c.dies-dies.ensures in
    let pin = (λ i. slice_get (names_of (pins_in (sym book i) (sym tech i) (sym c.lib_of-lib.ensures.lib i))) c.conn-conn.result.top_pin) ∙ c.pin_name-pin.ensures in
    let same : c.conn-conn.result ≡ conn = same_Some c.conn-conn.result conn (sym c.conn-conn.ensures.conn ∙ at) in
    as_piece (conn_written p c.conn-conn.result c.cell_name.result.now c.pin_name-pin.result.now c.cell_name.ensures pin ∙ ap (λ (x : Conn). conn_line (cell_names p) (conn_said p x)) same) c.write_path_line.ensures.adds
