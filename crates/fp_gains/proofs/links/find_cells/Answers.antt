use Rattle.std.proofs.Common.{refl}
use Rattle.fp_netlist.specs.Netlist.{conns_of_net}
use Rattle.fp_netlist.specs.NetlistLaws.{net_conns_within}
use Rattle.fp_gains.specs.Links.{cells_of_net}
use Rattle.fp_gains.proofs.LinkLemmas.{ids_within, finding_first, finding_more, finding_all}
use Rattle.fp_gains.proofs.links.find_cells.Goals as goal

pub loop-conn-init : goal.loop-conn-init
unfolding cells_of_net
loop-conn-init c =
    finding_first (λ conn. conn.cell.0) c.args.problem.now c.args.found.now c.begin.new.self (conns_of_net c.args.problem.now c.args.net.0) c.conns_of_net-conn-items.result.now (cells_of_net c.args.problem.now c.args.net.0) c.conns_of_net-conn-items.ensures c.begin.ensures refl

pub conn-requires : goal.conn-requires
conn-requires c =
    ids_within c.args.problem.now (conns_of_net c.args.problem.now c.args.net.0) c.conns_of_net-conn-items.result.now (net_conns_within c.args.problem.now c.args.net.0) c.conns_of_net-conn-items.ensures c.loop-conn.conn-index _ c.loop-conn-test.true

pub loop-conn-preserved : goal.loop-conn-preserved
loop-conn-preserved c =
    finding_more (λ conn. conn.cell.0) c.args.problem.now c.args.found.now c.loop-conn.found c.add.new.self c.conns_of_net-conn-items.result.now c.loop-conn.conn-index c.conn.result (cells_of_net c.args.problem.now c.args.net.0)
    c.loop-conn.invariant c.loop-conn-test.true c.conn.ensures.conn c.in_ok-add.ensures

pub returns : goal.returns
returns c = finding_all (λ conn. conn.cell.0) c.args.problem.now c.args.found.now c.loop-conn.found c.conns_of_net-conn-items.result.now c.loop-conn.conn-index (cells_of_net c.args.problem.now c.args.net.0) c.loop-conn.invariant c.loop-conn-test.false
