use Rattle.std.proofs.Common.{◌≡◌, ◌<◌, ◌∙◌, ◌++◌, ◌∷◌, [], refl, ap, sym, None, is_some, length, arith}
use Rattle.std.proofs.lemmas.Grind.{common_steps}
use Rattle.fp_tech.specs.Book.{tech_names, place_of, with_tech}
use Rattle.fp_tech.proofs.BookLemmas.{seen}
use Rattle.fp_tech.proofs.AddingLemmas.{IsKeptAs, tech_added, taken_back, none_from, nothing_refused, same_kept}
use Rattle.fp_tech.proofs.book.TechBook.add_tech.Goals as goal

pub push-requires : goal.push-requires
push-requires c =
    let s = seen _ _ _ _ c.self.invariant c.self.view_is in
    ap (place_of c.args.name.now) s.techs_are
    ∙ none_from (λ tech. record { 0 = tech }) (place_of c.args.name.now (tech_names c.args.self.now)) (sym (ap is_some c.tech_named.ensures) ∙ sym c.is_some.ensures ∙ c.if-is_some.false)

back : (c : goal.After-truncate) → IsKeptAs c.self.inside.lib_names c.truncate.new.self c.push-2.new.self.items c.args.self.now
back c =
    let s = seen _ _ _ _ c.self.invariant c.self.view_is in
    same_kept _ _ _ _ _ _ _ c.self.invariant c.self.view_is refl
    (taken_back c.self.inside.tech_names c.push.new.self c.truncate.new.self c.args.name.now c.techs-count.result c.in_ok-push.ensures.ok (omega (arith, c.techs-count.ensures.count, s.many, s.as_many)) c.truncate.ensures)
    (grind (arith, common_steps))

pub invariant_of-self-then-is_err : goal.invariant_of-self-then-is_err
invariant_of-self-then-is_err c = (back c).kept

pub returns-then-is_err : goal.returns-then-is_err
returns-then-is_err c = (back c).view

room : (c : goal.Else-is_err) → length c.args.self.now.techs < 16
room c = omega (arith, c.techs-count.ensures.count, c.if-count-ge-TECHS.false)

new : (c : goal.Else-is_err) → place_of c.args.name.now (tech_names c.args.self.now) ≡ None
new c = none_from (λ tech. record { 0 = tech }) (place_of c.args.name.now (tech_names c.args.self.now)) (sym (ap is_some c.tech_named.ensures) ∙ sym c.is_some.ensures ∙ c.if-is_some.false)

added : (c : goal.Else-is_err) → IsKeptAs c.self.inside.lib_names c.push.new.self c.push-2.new.self.items (with_tech c.args.self.now c.args.name.now)
added c =
    let grown : c.push-2.new.self.items ≡ c.self.inside.techs.items ++ [] ∷ [] = grind (arith, common_steps) in
    tech_added c.self.inside.lib_names c.self.inside.tech_names c.self.inside.techs.items c.args.self.now c.args.name.now c.push.new.self c.push-2.new.self.items
    c.self.invariant c.self.view_is (room c) (new c) c.in_ok-push.ensures.ok grown

pub invariant_of-self-else-is_err : goal.invariant_of-self-else-is_err
invariant_of-self-else-is_err c = (added c).kept

pub returns : goal.returns
returns c =
    (nothing_refused (length c.args.self.now.techs) 16 _ (room c) (ap is_some (new c)), ap (λ n. record { 0 = n }) c.techs-count.ensures.count, (added c).view)
