use Rattle.std.proofs.Common.{refl}
use Rattle.fp_gains.proofs.TournamentLemmas.{more_of, greatest_of}
use Rattle.fp_gains.proofs.tournament.greatest.Goals as goal

pub returns : goal.returns
returns c =
    greatest_of c.args.nodes.now c.args.node _ c.max-early.result c.max-late.result c.max.result refl (more_of _ _ _ c.max-early.ensures) (more_of _ _ _ c.max-late.ensures)
    (more_of _ _ _ c.max.ensures)
