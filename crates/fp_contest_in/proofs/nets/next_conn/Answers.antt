use Rattle.std.proofs.Common.{sym, ◌∙◌}
use Rattle.fp_tech.specs.Book.{place_of}
use Rattle.fp_netlist.specs.Netlist.{cell_names}
use Rattle.fp_contest_in.proofs.Additions.{cell_place, cell_below, conn_added}
use Rattle.fp_contest_in.proofs.nets.next_conn.Goals as goal

pub connect-requires-clause-cell : goal.connect-requires-clause-cell
connect-requires-clause-cell c = cell_below c.args.builder.now c.in_ok-inst.inst.now c.in_ok-cell.cell (sym c.cell_named.ensures ∙ c.in_ok-cell.ensures.ok_part)

pub returns-in-Ok : goal.returns-in-Ok
returns-in-Ok c =
    let path = rw c.in_ok-inst.ensures.ok_part at c.path.ensures in
    conn_added c.args.builder.now c.connect.new.self c.args.tokens.now c.keyword.new.self c.word.new.self c.in_ok-keyword.field-0 c.args.net.0 c.in_ok-cell.cell.0
    (record { at = c.in_ok-word.word.at; text = c.in_ok-word.word.text.now }) c.in_ok-inst.inst.now c.in_ok-inst.pin.now c.in_ok-keyword.ensures.gives c.in_ok-word.ensures.gives (sym path)
    (cell_place (place_of c.in_ok-inst.inst.now (cell_names c.args.builder.now)) c.in_ok-cell.cell (sym c.cell_named.ensures ∙ c.in_ok-cell.ensures.ok_part)) c.in-Ok.ensures.0 c.in-Ok.ensures.2
