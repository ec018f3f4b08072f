use Rattle.std.proofs.Common.{◌≡◌, ◌++◌, flat_map}
use Rattle.fp_gen.specs.MakeText.{made_conn, made_first}
use Rattle.fp_gen.specs.Written.{conn_text}
use Rattle.fp_gen.proofs.nets.push_conns.Given as goal

abbrev pub invariant-loop : goal.invariant-loop
invariant-loop l =
    (l.text.items ≡ l.fn.text.items ++ flat_map conn_text (made_first (made_conn l.cells l.net) l.counter l.fn.words).0)
    × (l.words ≡ (made_first (made_conn l.cells l.net) l.counter l.fn.words).1)
