use Rattle.std.proofs.Common.{◌≡◌, ◌<◌, ◌^◌, ◌||◌, false, refl, ap, sym, subst, IsTrue, is_none, length, arith}
use Rattle.std.proofs.lemmas.Grind.{common_steps}
use Rattle.fp_base.specs.declared.ids.Die.TheVariants.{Top, Bottom}
use Rattle.fp_netlist.specs.Netlist.{lib_of, pin_for, with_conn}
use Rattle.fp_netlist.specs.KeptNetlist.{IsKeptCell, IsConnOf}
use Rattle.fp_netlist.proofs.NetlistLemmas.{seen, IsKeptAs, conn_added, nothing_refused, refused_unknown, lib_read, lib_there, pin_known}
use Rattle.fp_netlist.proofs.builder.ProblemBuilder.connect.Goals as goal

pub index-requires : goal.index-requires
index-requires c =
    let s = seen _ _ _ _ _ _ c.self.invariant c.self.view_is in omega (arith, c.requires.cell, s.many, c.self.inside.cells.ok.0)

-- the library cell that is read is the cell's
there : (c : goal.After-of-arg-1) → IsKeptCell c.self.inside.dies c.index.result.now
there c =
    let s = seen _ _ _ _ _ _ c.self.invariant c.self.view_is in
    let within : c.args.cell.0 < length c.self.inside.cells.items = omega (arith, c.requires.cell, s.many) in
    subst (IsKeptCell c.self.inside.dies) (sym c.index.ensures) (c.self.invariant.sizes c.args.cell.0 c.index.result.now within)

pub of-requires-clause-top : goal.of-requires-clause-top
of-requires-clause-top c = lib_there c.self.inside.dies c.index.result.now Top (there c)

pub of-requires-clause-bottom : goal.of-requires-clause-bottom
of-requires-clause-bottom c = lib_there c.self.inside.dies c.index.result.now Bottom (there c)

pub returns-in_default : goal.returns-in_default
returns-in_default c =
    let s = seen _ _ _ _ _ _ c.self.invariant c.self.view_is in (
      refused_unknown (length c.args.self.now.conns) (2 ^ 21) false _ (omega (arith, c.len-count.ensures, c.if-count-ge-CONNS.false, s.many_conns, c.self.inside.conns.ok.0)) refl
          (subst (λ plan. IsTrue (is_none (pin_for plan (lib_of c.args.self.now c.args.cell.0) c.args.pin.now Top) || is_none (pin_for plan (lib_of c.args.self.now c.args.cell.0) c.args.pin.now Bottom))) s.plan_is
          (subst (λ l. IsTrue (is_none (pin_for c.self.inside.dies l c.args.pin.now Top) || is_none (pin_for c.self.inside.dies l c.args.pin.now Bottom))) (lib_read c.self.inside.cells.items c.args.self.now c.args.cell.0 c.index.result.now s.lib s.many c.requires.cell c.index.ensures) c.in_default.ensures)),
      refl,
    )

of : (c : goal.In_ok-push) → IsConnOf c.self.inside.dies (lib_of c.args.self.now c.args.cell.0) c.args.net c.args.cell c.args.pin.now c.in-Some.conn
of c =
    let s = seen _ _ _ _ _ _ c.self.invariant c.self.view_is in
    subst (λ l. IsConnOf c.self.inside.dies l c.args.net c.args.cell c.args.pin.now c.in-Some.conn) (lib_read c.self.inside.cells.items c.args.self.now c.args.cell.0 c.index.result.now s.lib s.many c.requires.cell c.index.ensures) c.in-Some.ensures

added : (c : goal.In_ok-push) → IsKeptAs c.self.inside.dies c.self.inside.cell_names c.self.inside.cells.items c.self.inside.net_names c.push.new.self.items (with_conn c.args.self.now c.args.net.0 c.args.cell.0 c.args.pin.now)
added c =
    let s = seen _ _ _ _ _ _ c.self.invariant c.self.view_is in
    conn_added c.self.inside.dies c.self.inside.cell_names c.self.inside.cells.items c.self.inside.net_names c.self.inside.conns.items c.push.new.self.items c.args.self.now c.args.net c.args.cell c.args.pin.now c.in-Some.conn
    c.self.invariant c.self.view_is (omega (arith, c.len-count.ensures, c.if-count-ge-CONNS.false, s.many_conns, c.self.inside.conns.ok.0)) c.requires.net c.requires.cell (of c) (grind (arith, common_steps))

pub invariant_of-self-2 : goal.invariant_of-self-2
invariant_of-self-2 c = (added c).kept

pub returns : goal.returns
returns c =
    let s = seen _ _ _ _ _ _ c.self.invariant c.self.view_is in
    let many : c.len-count.result ≡ length c.args.self.now.conns = omega (arith, c.len-count.ensures, s.many_conns, c.self.inside.conns.ok.0) in (
      nothing_refused (length c.args.self.now.conns) (2 ^ 21) false _ (omega (arith, c.len-count.ensures, c.if-count-ge-CONNS.false, s.many_conns, c.self.inside.conns.ok.0)) refl
          (subst (λ plan. (is_none (pin_for plan (lib_of c.args.self.now c.args.cell.0) c.args.pin.now Top) || is_none (pin_for plan (lib_of c.args.self.now c.args.cell.0) c.args.pin.now Bottom)) ≡ false) s.plan_is
          (pin_known c.self.inside.dies (lib_of c.args.self.now c.args.cell.0) c.args.net c.args.cell c.args.pin.now c.in-Some.conn (of c))),
      ap (λ n. record { 0 = n }) many,
      (added c).view,
    )
