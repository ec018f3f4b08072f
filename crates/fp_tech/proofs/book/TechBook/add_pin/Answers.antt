use Rattle.std.proofs.Common.{◌≡◌, ◌==◌, ◌∙◌, sym, subst, IsSome, find, map, arith}
use Rattle.std.specs.Prelude.{nat_eq}
use Rattle.std.specs.List.{IsDistinct}
use Rattle.fp_tech.specs.Book.{Lib, libs_of, lib_in}
use Rattle.fp_tech.specs.BookLaws.{libs_within, libs_at}
use Rattle.fp_tech.proofs.BookLemmas.{seen, has_in_range}
use Rattle.fp_tech.proofs.AddingLemmas.{pin_added_at}
use Rattle.fp_tech.proofs.book.TechBook.add_pin.Goals as goal

pub index_mut-library-requires : goal.index_mut-library-requires
index_mut-library-requires c =
    let s = seen _ _ _ _ c.self.invariant c.self.view_is in
    omega (arith, s.many, has_in_range c.args.self.now c.args.tech.0 c.args.lib.0 c.requires.there, c.self.inside.techs.ok.0)

-- the library that is written is the technology's
library : (c : goal.After-add_pin-arg-1) → c.index_mut-library.result.now ≡ libs_of c.args.self.now c.args.tech.0
library c =
    let s = seen _ _ _ _ c.self.invariant c.self.view_is in
    c.index_mut-library.ensures.value
    ∙ s.at c.args.tech.0 c.index_mut-library.result.now (omega (arith, s.many, has_in_range c.args.self.now c.args.tech.0 c.args.lib.0 c.requires.there))

pub add_pin-requires-clause-there : goal.add_pin-requires-clause-there
unfolding lib_in
add_pin-requires-clause-there c =
    subst (λ libs. IsSome (find (λ (lib : Lib). lib.id == c.args.lib.0) libs)) (sym (library c)) c.requires.there

pub add_pin-requires-clause-apart : goal.add_pin-requires-clause-apart
add_pin-requires-clause-apart c =
    let s = seen _ _ _ _ c.self.invariant c.self.view_is in
    let tech = libs_within c.args.self.now c.args.tech.0 s.is_book (has_in_range c.args.self.now c.args.tech.0 c.args.lib.0 c.requires.there) in
    subst (λ libs. IsDistinct nat_eq (map (λ (lib : Lib). lib.id) libs)) (sym (library c ∙ libs_at c.args.self.now c.args.tech.0 tech.0 tech.1)) tech.2.libs_apart

pub invariant_of-self : goal.invariant_of-self
invariant_of-self c =
    (pin_added_at c.self.inside.lib_names c.self.inside.tech_names c.self.inside.techs.items c.args.self.now c.args.tech.0 c.args.lib.0
    (record { name = c.args.name.now; x = c.args.x; y = c.args.y }) c.index_mut-library.result.now c.add_pin.new.self c.add_pin.result
    c.self.invariant c.self.view_is c.requires.there c.requires.x c.requires.y c.index_mut-library.ensures.value c.add_pin.ensures).0

pub returns : goal.returns
returns c =
    (pin_added_at c.self.inside.lib_names c.self.inside.tech_names c.self.inside.techs.items c.args.self.now c.args.tech.0 c.args.lib.0
    (record { name = c.args.name.now; x = c.args.x; y = c.args.y }) c.index_mut-library.result.now c.add_pin.new.self c.add_pin.result
    c.self.invariant c.self.view_is c.requires.there c.requires.x c.requires.y c.index_mut-library.ensures.value c.add_pin.ensures).1
