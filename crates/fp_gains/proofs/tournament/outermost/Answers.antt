use Rattle.std.proofs.Common.{◌≡◌, ◌-◌, max, arith}
use Rattle.fp_gains.proofs.TournamentLemmas.{more_of, outer_of}
use Rattle.fp_gains.proofs.tournament.outermost.Goals as goal

pub returns : goal.returns
returns c =
    let start_is : c.max-start.result ≡ max (c.args.high - 4) c.args.low = omega (arith, c.max-start.ensures, c.saturating_sub.ensures) in
    outer_of c.args.nodes.now c.args.low c.args.high c.max-start.result c.most.result c.most-2.result c.max.result c.requires.less start_is c.most.ensures c.most-2.ensures
    (more_of _ _ _ c.max.ensures)
