use Rattle.std.proofs.Common.{◌≤◌, ◌^◌, length, arith}
use Rattle.fp_text.specs.WritingLaws.{in_turn, as_piece}
use Rattle.fp_contest_in.proofs.PrintedNets.{few_pins, net_count, net_written}
use Rattle.fp_contest_in.proofs.print_nets.write_net.Goals as goal

pub overflow_cast-pins : goal.overflow_cast-pins
overflow_cast-pins g c =
    let few : length c.conns_of_net.result.now ≤ 2 ^ 21 = few_pins c.args.problem.now c.args.net.0 c.conns_of_net.result.now c.requires.sound c.conns_of_net.ensures in
    omega arith

pub returns-clause-adds : goal.returns-clause-adds
returns-clause-adds g c = λ name at.
    as_piece (net_written c.args.problem.now c.args.net.0 c.net_name.result.now name (length c.conns_of_net.result.now) c.net_name.ensures at
    (net_count c.args.problem.now c.args.net.0 c.conns_of_net.result.now c.conns_of_net.ensures)) (in_turn c.write_named_line.ensures.adds c.write_conns.ensures.adds)
