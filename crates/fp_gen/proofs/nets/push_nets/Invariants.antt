use Rattle.std.proofs.Common.{◌≡◌, ◌++◌, flat_map}
use Rattle.fp_gen.specs.MakeText.{made_net, made_first}
use Rattle.fp_gen.specs.Written.{net_text}
use Rattle.fp_gen.proofs.nets.push_nets.Given as goal

abbrev pub invariant-loop-net : goal.invariant-loop-net
invariant-loop-net l =
    (l.text.items ≡ l.fn.text.items ++ flat_map net_text (made_first (made_net l.cells) l.net l.fn.words).0) × (l.words ≡ (made_first (made_net l.cells) l.net l.fn.words).1)
