use Rattle.std.proofs.Common.{◌≡◌, ◌==◌, ◌<◌, ◌≤◌, ◌^◌, ◌∙◌, ◌++◌, ◌∷◌, [], false, refl, ap, sym, subst, length, find, map, unwrap_or, arith}
use Rattle.std.specs.Prelude.{slice_set}
use Rattle.std.proofs.lemmas.Grind.{common_steps}
use Rattle.std.proofs.lemmas.List.{length-map, set-get_or}
use Rattle.fp_base.specs.declared.ids.LibId.{LibId}
use Rattle.fp_tech.specs.Book.{Lib, libs_of, place_of, has_name, id_for, with_lib}
use Rattle.fp_tech.specs.BookLaws.{number_free}
use Rattle.fp_tech.proofs.BookLemmas.{seen}
use Rattle.fp_tech.proofs.AddingLemmas.{IsKeptAs, lib_added, name_taken_back, nothing_refused, same_kept, number_small}
use Rattle.fp_tech.proofs.book.TechBook.add_lib.Goals as goal

pub overflow_cast-id : goal.overflow_cast-id
overflow_cast-id c =
    let s = seen _ _ _ _ c.self.invariant c.self.view_is in
    let place : c.in_ok-place.place ≤ 2 ^ 16 = subst (λ n. n ≤ 2 ^ 16) (sym c.in_ok-place.ensures.place) (number_small c.self.inside.lib_names c.args.name.now s.few_names) in
    omega arith

pub index_mut-library-requires : goal.index_mut-library-requires
index_mut-library-requires c =
    let s = seen _ _ _ _ c.self.invariant c.self.view_is in omega (arith, s.many, c.requires.tech, c.self.inside.techs.ok.0)

-- the library that is written is the technology's
library : (c : goal.After-new) → c.index_mut-library.result.now ≡ libs_of c.args.self.now c.args.tech.0
library c =
    let s = seen _ _ _ _ c.self.invariant c.self.view_is in
    c.index_mut-library.ensures.value ∙ s.at c.args.tech.0 c.index_mut-library.result.now (omega (arith, s.many, c.requires.tech))

free : (c : goal.After-new) → has_name c.args.self.now c.args.tech.0 c.args.name.now ≡ false
free c = sym c.has_name.ensures ∙ c.if-has_name.false

-- its number is that of its name
number : (c : goal.After-new) → c.in_ok-place.place ≡ id_for c.args.self.now c.args.name.now
number c =
    let s = seen _ _ _ _ c.self.invariant c.self.view_is in
    c.in_ok-place.ensures.place ∙ ap (λ ns. unwrap_or (place_of c.args.name.now ns) (length ns)) s.names_are

pub push-requires : goal.push-requires
push-requires c =
    let s = seen _ _ _ _ c.self.invariant c.self.view_is in
    ap (λ (l : Lib). find (λ (lib : Lib). lib.id == l.id) c.index_mut-library.result.now) c.new.ensures
    ∙ ap (λ n. find (λ (lib : Lib). lib.id == n) c.index_mut-library.result.now) (number c)
    ∙ ap (find (λ (lib : Lib). lib.id == id_for c.args.self.now c.args.name.now)) (library c)
    ∙ number_free c.args.self.now c.args.tech.0 c.args.name.now s.is_book c.requires.tech (free c)

back : (c : goal.After-truncate) → IsKeptAs c.truncate.new.self c.self.inside.tech_names (slice_set c.self.inside.techs.items c.args.tech.0 c.push.new.self) c.args.self.now
back c =
    let stays : c.push.new.self ≡ c.index_mut-library.result.now = grind (arith, common_steps) in
    same_kept _ _ _ _ _ _ _ c.self.invariant c.self.view_is
    (name_taken_back c.self.inside.lib_names c.place_or_push.new.self c.truncate.new.self c.args.name.now c.len-count.result c.in_ok-place.ensures.ok c.len-count.ensures c.truncate.ensures)
    refl
    (ap (slice_set c.self.inside.techs.items c.args.tech.0) (stays ∙ c.index_mut-library.ensures.value) ∙ set-get_or c.self.inside.techs.items c.args.tech.0 c.index_mut-library.result.now)

pub invariant_of-self-then-is_err : goal.invariant_of-self-then-is_err
invariant_of-self-then-is_err c = (back c).kept

room : (c : goal.Else-is_err) → length (libs_of c.args.self.now c.args.tech.0) < 4096
room c =
    omega (
      arith,
      ap length c.libs_of.ensures,
      c.if-libs_of-ge-LIBS.false,
      length-map {B = LibId} (map (λ (lib : Lib). lib.id) (libs_of c.args.self.now c.args.tech.0)) (λ id. record { 0 = id }),
      length-map (libs_of c.args.self.now c.args.tech.0) (λ (lib : Lib). lib.id),
    )

added : (c : goal.Else-is_err) → IsKeptAs c.place_or_push.new.self c.self.inside.tech_names (slice_set c.self.inside.techs.items c.args.tech.0 c.push.new.self)
    (with_lib c.args.self.now c.args.tech.0 c.args.name.now c.args.width c.args.height)
added c =
    let s = seen _ _ _ _ c.self.invariant c.self.view_is in
    let grown : c.push.new.self ≡ c.index_mut-library.result.now ++ c.new.result ∷ [] = grind (arith, common_steps) in
    let number_is : c.in_ok-place.place ≡ id_for c.args.self.now c.args.name.now = c.in_ok-place.ensures.place ∙ ap (λ ns. unwrap_or (place_of c.args.name.now ns) (length ns)) s.names_are in
    lib_added c.self.inside.lib_names c.self.inside.tech_names c.self.inside.techs.items c.args.self.now c.args.tech.0 c.args.name.now c.args.width c.args.height
    c.index_mut-library.result.now c.place_or_push.new.self c.new.result c.push.new.self
    c.self.invariant c.self.view_is c.requires.tech c.requires.some_width c.requires.width c.requires.some_height c.requires.height
    (room c) (sym c.has_name.ensures ∙ c.if-has_name.false) c.in_ok-place.ensures.ok
    (c.new.ensures ∙ ap (λ n. record { id = n; width = c.args.width; height = c.args.height; pins = [] }) number_is)
    (grown ∙ ap (λ l. l ++ c.new.result ∷ []) c.index_mut-library.ensures.value)

pub invariant_of-self-else-is_err : goal.invariant_of-self-else-is_err
invariant_of-self-else-is_err c = (added c).kept

pub returns : goal.returns
returns c =
    let s = seen _ _ _ _ c.self.invariant c.self.view_is in (
      nothing_refused (length (libs_of c.args.self.now c.args.tech.0)) 4096 _ (room c) (sym c.has_name.ensures ∙ c.if-has_name.false),
      ap (λ n. record { 0 = n }) (c.in_ok-place.ensures.place ∙ ap (λ ns. unwrap_or (place_of c.args.name.now ns) (length ns)) s.names_are),
      (added c).view,
    )
