use Rattle.std.proofs.Common.{◌≡◌, ◌^◌, ◌∙◌, ◌++◌, ◌∷◌, ◌||◌, [], None, false, refl, ap, subst, IsTrue, is_none, is_some, length, take, arith}
use Rattle.std.proofs.lemmas.Grind.{common_steps}
use Rattle.std.proofs.lemmas.List.{take-append-le, take_all}
use Rattle.fp_base.specs.declared.ids.CellId.{CellId}
use Rattle.fp_base.specs.declared.ids.LibId.{LibId}
use Rattle.fp_base.specs.declared.ids.Die.TheVariants.{Top, Bottom}
use Rattle.fp_tech.specs.Book.{place_of}
use Rattle.fp_netlist.specs.KeptNetlist.{netlist_of}
use Rattle.fp_netlist.specs.Netlist.{cell_names, lib_for, lib_at, with_inst}
use Rattle.fp_netlist.proofs.NetlistLemmas.{seen, IsKeptAs, inst_added, nothing_refused, refused_full, refused_twice, refused_lacking, name_old, name_new, lib_known}
use Rattle.fp_netlist.proofs.builder.ProblemBuilder.add_inst.Goals as goal

pub returns-then-count-ge-CELLS : goal.returns-then-count-ge-CELLS
returns-then-count-ge-CELLS c =
    let s = seen _ _ _ _ _ _ c.self.invariant c.self.view_is in
    (refused_full (length c.args.self.now.cells) (2 ^ 18) _ _ (omega (arith, c.len-count.ensures, c.if-count-ge-CELLS.true, s.many, c.self.inside.cells.ok.0)), refl)

pub returns-in_default : goal.returns-in_default
returns-in_default c =
    let s = seen _ _ _ _ _ _ c.self.invariant c.self.view_is in
    refused_lacking {A = CellId} (length c.args.self.now.cells) (2 ^ 18) _ _ (record { 0 = length c.args.self.now.cells }) c.args.self.now (with_inst c.args.self.now c.args.name.now c.args.lib.0) c.twice_or_unknown.result
    (omega (arith, c.len-count.ensures, c.if-count-ge-CELLS.false, s.many, c.self.inside.cells.ok.0))
    (subst (λ plan. IsTrue (is_none (lib_for plan c.args.lib.0 Top) || is_none (lib_for plan c.args.lib.0 Bottom))) s.plan_is c.in_default.ensures)
    c.twice_or_unknown.ensures

pub returns-then-not-branch : goal.returns-then-not-branch
returns-then-not-branch c =
    let s = seen _ _ _ _ _ _ c.self.invariant c.self.view_is in
    let old = name_old c.self.inside.cell_names c.add.new.self (cell_names c.args.self.now) c.args.name.now c.in_ok-add.field-0 s.names_are c.in_ok-add.ensures.new c.in_ok-add.ensures.ok c.if-not-branch.true in (
      refused_twice (length c.args.self.now.cells) (2 ^ 18) _ _ (omega (arith, c.len-count.ensures, c.if-count-ge-CELLS.false, s.many, c.self.inside.cells.ok.0)) old.0,
      ap (λ names. netlist_of c.self.inside.dies names c.self.inside.cells.items c.self.inside.net_names c.self.inside.conns.items) old.1 ∙ c.self.view_is,
    )

pub invariant_of-self-then-is_err : goal.invariant_of-self-then-is_err
invariant_of-self-then-is_err c =
    let s = seen _ _ _ _ _ _ c.self.invariant c.self.view_is in
    let new = name_new c.self.inside.cell_names c.add.new.self (cell_names c.args.self.now) c.args.name.now c.in_ok-add.field-0 s.names_are c.in_ok-add.ensures.new c.in_ok-add.ensures.ok c.if-not-branch.false in
    let many : length c.self.inside.cell_names ≡ c.len-count.result = omega (arith, s.as_many, c.len-count.ensures, c.self.inside.cells.ok.0) in
    let names : c.truncate.new.self ≡ c.self.inside.cell_names =
    c.truncate.ensures ∙ ap (take c.len-count.result) new.1
    ∙ take-append-le c.len-count.result c.self.inside.cell_names (c.args.name.now ∷ []) (omega (arith, many)) ∙ take_all c.len-count.result c.self.inside.cell_names (omega (arith, many)) in
    let cells : c.push.new.self.items ≡ c.self.inside.cells.items = grind (arith, common_steps) in
    rw (names, cells) c.self.invariant

-- the name is new, so it stands behind the others
new_name : (c : goal.Else-is_err) → (place_of c.args.name.now (cell_names c.args.self.now) ≡ None) × (c.add.new.self ≡ c.self.inside.cell_names ++ c.args.name.now ∷ [])
new_name c =
    let s = seen _ _ _ _ _ _ c.self.invariant c.self.view_is in
    name_new c.self.inside.cell_names c.add.new.self (cell_names c.args.self.now) c.args.name.now c.in_ok-add.field-0 s.names_are c.in_ok-add.ensures.new c.in_ok-add.ensures.ok c.if-not-branch.false

added : (c : goal.Else-is_err) → IsKeptAs c.self.inside.dies c.add.new.self c.push.new.self.items c.self.inside.net_names c.self.inside.conns.items (with_inst c.args.self.now c.args.name.now c.args.lib.0)
added c =
    let s = seen _ _ _ _ _ _ c.self.invariant c.self.view_is in
    let grown : c.push.new.self.items ≡ c.self.inside.cells.items ++ c.in-Some.cell ∷ [] = grind (arith, common_steps) in
    subst (λ (lib : LibId). IsKeptAs c.self.inside.dies c.add.new.self c.push.new.self.items c.self.inside.net_names c.self.inside.conns.items (with_inst c.args.self.now c.args.name.now lib.0)) c.in-Some.ensures.0
    (inst_added c.self.inside.dies c.self.inside.cell_names c.add.new.self c.self.inside.cells.items c.push.new.self.items c.self.inside.net_names c.self.inside.conns.items c.args.self.now c.args.name.now c.in-Some.cell
    c.self.invariant c.self.view_is (omega (arith, c.len-count.ensures, c.if-count-ge-CELLS.false, s.many, c.self.inside.cells.ok.0)) (new_name c).0 c.in-Some.ensures.1 (new_name c).1 grown)

pub invariant_of-self-else-is_err : goal.invariant_of-self-else-is_err
invariant_of-self-else-is_err c = (added c).kept

known : (c : goal.Else-is_err) → (is_none (lib_at c.args.self.now c.args.lib.0 Top) || is_none (lib_at c.args.self.now c.args.lib.0 Bottom)) ≡ false
known c =
    let s = seen _ _ _ _ _ _ c.self.invariant c.self.view_is in
    subst (λ plan. (is_none (lib_for plan c.args.lib.0 Top) || is_none (lib_for plan c.args.lib.0 Bottom)) ≡ false) s.plan_is
    (subst (λ (lib : LibId). (is_none (lib_for c.self.inside.dies lib.0 Top) || is_none (lib_for c.self.inside.dies lib.0 Bottom)) ≡ false) c.in-Some.ensures.0
    (lib_known c.self.inside.dies c.in-Some.cell c.in-Some.ensures.1))

pub returns : goal.returns
returns c =
    let s = seen _ _ _ _ _ _ c.self.invariant c.self.view_is in
    let many : c.len-count.result ≡ length c.args.self.now.cells = omega (arith, c.len-count.ensures, s.many, c.self.inside.cells.ok.0) in
    (nothing_refused (length c.args.self.now.cells) (2 ^ 18) _ _ (omega (arith, c.len-count.ensures, c.if-count-ge-CELLS.false, s.many, c.self.inside.cells.ok.0)) (ap is_some (new_name c).0) (known c), ap (λ n. record { 0 = n }) many, (added c).view)
