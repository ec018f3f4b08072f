use Rattle.std.proofs.Common.{arith, length}
use Rattle.fp_place.specs.Seen.{net_number}
use Rattle.fp_place.specs.Drawing.{centre_of}
use Rattle.fp_place.specs.FirstFaults.{net_subject}
use Rattle.fp_place.specs.Joining.{IsJoined}
use Rattle.fp_place.proofs.SeenLemmas.{seen_many, tells_read}
use Rattle.fp_place.proofs.FaultLemmas.{told}
use Rattle.fp_place.proofs.JoiningLemmas.{joined_more, joined_all, not_joined_net}
use Rattle.fp_place.proofs.joining.find_centres.Goals as goal

pub index-of_net-requires : goal.index-of_net-requires
index-of_net-requires c = omega (arith, seen_many net_number centre_of c.args.lines.now c.in_ok-seen.seen.items c.nets.result c.in_ok-seen.ensures, c.in_ok-seen.seen.ok.0)

pub returns-then-not-is_joined : goal.returns-then-not-is_joined
returns-then-not-is_joined c =
    let seen = tells_read net_number centre_of c.args.lines.now c.in_ok-seen.seen.items c.nets.result c.loop-net.net c.index-of_net.result.now c.in_ok-seen.ensures (omega arith) c.index-of_net.ensures in
    told (length c.args.problem.now.nets) (IsJoined c.args.problem.now c.args.dies.now c.args.lines.now) 7 net_subject c.loop-net.net c.broken_by.result c.broken_by.ensures (omega arith)
    (not_joined_net c.args.problem.now c.args.dies.now c.args.lines.now c.loop-net.net c.index-of_net.result.now c.is_cut.result c.is_joined.result c.is_cut.ensures c.is_joined.ensures c.if-not-is_joined.true seen)
    c.loop-net.invariant.joined

pub loop-net-preserved : goal.loop-net-preserved
loop-net-preserved c =
    let seen = tells_read net_number centre_of c.args.lines.now c.in_ok-seen.seen.items c.nets.result c.loop-net.net c.index-of_net.result.now c.in_ok-seen.ensures (omega arith) c.index-of_net.ensures in
    joined_more c.args.problem.now c.args.dies.now c.args.lines.now c.loop-net.centres.items c.push.new.self.items c.loop-net.net c.index-of_net.result.now c.place.result c.is_cut.result c.is_joined.result
    c.loop-net.invariant c.in_ok-push.ensures.items c.place.ensures c.is_cut.ensures c.is_joined.ensures c.if-not-is_joined.false seen

pub returns : goal.returns
returns c = joined_all c.args.problem.now c.args.dies.now c.args.lines.now c.loop-net.centres.items c.loop-net.net (omega arith) c.loop-net.invariant
