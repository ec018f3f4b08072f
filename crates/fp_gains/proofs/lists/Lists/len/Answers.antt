use Rattle.std.proofs.Common.{ap, length, arith}
use Rattle.fp_gains.proofs.ListLemmas.{parts_many}
use Rattle.fp_gains.proofs.lists.Lists.len.Goals as goal

pub returns : goal.returns
returns c =
    omega (arith, parts_many c.self.inside.starts.items c.self.inside.items.items _ c.self.invariant, ap length c.self.view_is, c.len.ensures, c.self.inside.starts.ok.0)
