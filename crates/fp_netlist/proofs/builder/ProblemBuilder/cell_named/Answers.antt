use Rattle.std.proofs.Common.{rules, ◌∙◌, ap, arith}
use Rattle.std.specs.Option.{option_map}
use Rattle.fp_tech.specs.Book.{place_of}
use Rattle.fp_netlist.proofs.NetlistLemmas.{seen}
use Rattle.fp_netlist.proofs.builder.ProblemBuilder.cell_named.Goals as goal

pub returns-in_err-place : goal.returns-in_err-place
returns-in_err-place c =
    let s = seen _ _ _ _ _ _ c.self.invariant c.self.view_is in
    rw (← s.names_are) (search rules)

pub overflow_cast-result : goal.overflow_cast-result
overflow_cast-result c =
    let s = seen _ _ _ _ _ _ c.self.invariant c.self.view_is in
    omega (arith, s.as_many, s.few, c.in_ok-place.ensures.within)

pub returns : goal.returns
returns c =
    let s = seen _ _ _ _ _ _ c.self.invariant c.self.view_is in
    ap (option_map (λ cell. record { 0 = cell })) (c.in_ok-place.ensures.place ∙ ap (place_of c.args.name.now) s.names_are)
