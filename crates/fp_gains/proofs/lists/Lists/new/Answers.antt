use Rattle.std.proofs.Common.{arith}
use Rattle.fp_gains.proofs.ListLemmas.{no_lists}
use Rattle.fp_gains.proofs.lists.Lists.new.Goals as goal

pub returns : goal.returns
returns c = no_lists c.in_ok-starts.starts.items c.new-items.result.items (omega (arith, c.in_ok-starts.ensures.len, c.in_ok-starts.starts.ok.0))
