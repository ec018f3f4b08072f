use Rattle.std.proofs.Common.{◌≡◌, ◌<◌, ◌∙◌, refl, ap, sym, subst, length, arith}
use Rattle.std.specs.Prelude.{All}
use Rattle.fp_netlist.specs.declared.kept.KeptConn.{KeptConn}
use Rattle.fp_netlist.specs.Netlist.{IsConn}
use Rattle.fp_netlist.proofs.NetlistLemmas.{seen, keys_in_range}
use Rattle.fp_netlist.proofs.builder.ProblemBuilder.finish.Goals as goal

pub groups_by_cell-requires-clause-few_cells : goal.groups_by_cell-requires-clause-few_cells
groups_by_cell-requires-clause-few_cells c =
    let s = seen _ _ _ _ _ _ c.self.invariant c.self.view_is in
    omega (arith, c.len.ensures, s.few, c.self.inside.cells.ok.0)

pub groups_by_cell-requires-clause-within : goal.groups_by_cell-requires-clause-within
groups_by_cell-requires-clause-within c =
    let s = seen _ _ _ _ _ _ c.self.invariant c.self.view_is in
    let many : c.len.result ≡ length c.args.self.cells = omega (arith, c.len.ensures, s.many, c.self.inside.cells.ok.0) in
    subst (All (λ (kept : KeptConn). kept.conn.cell.0 < c.len.result)) (sym c.deref.ensures.value)
    (keys_in_range c.args.self c.self.inside.conns.items c.len.result (length c.args.self.nets) (subst (All (IsConn c.args.self)) (sym s.conns_are) s.sound.conns) many refl).0

pub groups_by_net-requires-clause-within : goal.groups_by_net-requires-clause-within
groups_by_net-requires-clause-within c =
    let s = seen _ _ _ _ _ _ c.self.invariant c.self.view_is in
    let many : c.len-2.result ≡ length c.args.self.nets = c.len-2.ensures ∙ ap length s.nets_are in
    subst (All (λ (kept : KeptConn). kept.conn.net.0 < c.len-2.result)) (sym c.deref-2.ensures.value)
    (keys_in_range c.args.self c.self.inside.conns.items (length c.args.self.cells) c.len-2.result (subst (All (IsConn c.args.self)) (sym s.conns_are) s.sound.conns) refl many).1
