use Rattle.std.proofs.Common.{◌≡◌, ◌∙◌, true, refl, ap, sym, is_some}
use Rattle.fp_tech.specs.Book.{place_of}
use Rattle.fp_netlist.specs.Netlist.{cell_names}
use Rattle.fp_netlist.proofs.NetlistLemmas.{seen, name_free}
use Rattle.fp_netlist.proofs.builder.ProblemBuilder.twice_or_unknown.Goals as goal

pub returns-then-is_some : goal.returns-then-is_some
returns-then-is_some c =
    let s = seen _ _ _ _ _ _ c.self.invariant c.self.view_is in
    let there : is_some (place_of c.args.name.now (cell_names c.args.self.now)) ≡ true =
    ap (λ names. is_some (place_of c.args.name.now names)) (sym s.names_are) ∙ ap is_some (sym c.place.ensures.place) ∙ sym c.is_some.ensures ∙ c.if-is_some.true in
    rw there refl

pub returns-else-is_some : goal.returns-else-is_some
returns-else-is_some c =
    let s = seen _ _ _ _ _ _ c.self.invariant c.self.view_is in
    rw (name_free c.self.inside.cell_names (cell_names c.args.self.now) c.args.name.now c.place.result c.is_some.result s.names_are c.place.ensures.place c.is_some.ensures c.if-is_some.false) refl
