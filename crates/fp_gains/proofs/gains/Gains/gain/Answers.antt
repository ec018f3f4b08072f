use Rattle.std.proofs.Common.{rules, FitsSigned, w64}
use Rattle.std.proofs.lemmas.Int.{to_z-of_z}
use Rattle.fp_gains.proofs.CutLemmas.{kept_gain}
use Rattle.fp_gains.proofs.gains.Gains.gain.Goals as goal

pub returns : goal.returns
returns c p is =
    let fits : FitsSigned w64 c.gain_of.result = search rules in
    simp to_z-of_z
    (kept_gain p c.self.inside.members c.self.inside.nets c.self.inside.state c.args.self.now c.args.cell.0 c.index.result.now c.gain_of.result c.self.invariant c.self.view_is is c.requires c.index.ensures c.gain_of.ensures)
