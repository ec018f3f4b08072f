use Rattle.std.proofs.Common.{◌≡◌, ap, refl, length, arith}
use Rattle.fp_text.specs.Cursor.{word_of}
use Rattle.fp_netlist.specs.Netlist.{Netlist}
use Rattle.fp_contest_in.proofs.Additions.{net_added, new_name}
use Rattle.fp_contest_in.proofs.nets.next_net.Goals as goal

pub conns-requires-clause-room : goal.conns-requires-clause-room
conns-requires-clause-room c =
    let grown : length c.add_net.new.builder.conns ≡ length c.args.builder.now.conns = ap (λ (p : Netlist). length p.conns) c.in_ok-net.ensures.new.1 in
    omega (arith, grown, c.in_ok-count.ensures.1)

pub returns : goal.returns
returns c =
    net_added c.conns.result c.args.builder.now c.add_net.new.builder c.conns.new.builder c.args.tokens.now c.keyword.new.self c.name.new.self c.count_of.new.tokens c.conns.new.tokens
    c.in_ok-keyword.field-0 (length c.args.builder.now.conns) c.in_ok-count.count c.in_ok-net.net.0 c.in_ok-name.name.text.now c.in_ok-keyword.ensures.gives
    (new_name c.args.builder.now.nets c.keyword.new.self c.name.new.self (word_of c.in_ok-name.name) c.in_ok-name.ensures.gives c.in_ok-net.ensures.new.0) refl c.in_ok-count.ensures.0
    c.in_ok-net.ensures.new.1 c.in_ok-net.ensures.number c.conns.ensures
