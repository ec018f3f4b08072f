use Rattle.std.proofs.Common.{map, length, arith, ◌≡◌}
use Rattle.std.proofs.lemmas.Option.{slice_get_within}
use Rattle.fp_base.specs.declared.ids.ConnId.{ConnId}
use Rattle.fp_netlist.specs.Netlist.{cell_names}
use Rattle.fp_contest_in.specs.PrintedText.{conn_line, conn_said, net_conns}
use Rattle.fp_text.specs.WritingLaws.{in_turn, as_piece}
use Rattle.fp_contest_in.proofs.Pieces.{piece_more, piece_all, mapped_at}
use Rattle.fp_contest_in.proofs.PrintedNets.{conn_at_place, net_count}
use Rattle.fp_contest_in.proofs.print_nets.write_conns.Goals as goal

abbrev none : ConnId
none = record { 0 = 0 }

pub write_conn-requires-clause-conn : goal.write_conn-requires-clause-conn
write_conn-requires-clause-conn g c =
    let one = conn_at_place c.args.problem.now c.args.net.0 c.loop-conn.conn-index c.conns_of_net-conn-items.result.now none c.conns_of_net-conn-items.ensures c.loop-conn-test.true in
    slice_get_within c.args.problem.now.conns _ one.conn one.at

pub loop-conn-preserved : goal.loop-conn-preserved
loop-conn-preserved g c =
    let p = c.args.problem.now in
    let one = conn_at_place p c.args.net.0 c.loop-conn.conn-index c.conns_of_net-conn-items.result.now none c.conns_of_net-conn-items.ensures c.loop-conn-test.true in
    record {
      adds = as_piece (piece_more (conn_line (cell_names p)) (map (conn_said p) (net_conns p c.args.net.0)) c.loop-conn.conn-index (conn_said p one.conn)
          (mapped_at (conn_said p) (net_conns p c.args.net.0) c.loop-conn.conn-index one.conn one.among))
          (in_turn c.loop-conn.invariant.adds (c.write_conn.ensures.adds one.conn one.at));
      goes_on = c.write_conn.ensures.goes_on;
    }

pub returns-clause-adds : goal.returns-clause-adds
returns-clause-adds g c =
    let p = c.args.problem.now in
    let many : length c.conns_of_net-conn-items.result.now ≡ length (map (conn_said p) (net_conns p c.args.net.0)) = net_count p c.args.net.0 c.conns_of_net-conn-items.result.now c.conns_of_net-conn-items.ensures in
    as_piece (piece_all (conn_line (cell_names p)) (map (conn_said p) (net_conns p c.args.net.0)) c.loop-conn.conn-index (omega (arith, c.loop-conn-test.false))) c.loop-conn.invariant.adds
