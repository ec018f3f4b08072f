-- Look-ups by hash are those of the list of names.
use Rattle.std.proofs.Common.{◌≡◌, ℕ, ◌+◌, Bool, true, false, cond, ◌||◌, List, [], ◌∷◌, ◌++◌, map, Option, Some, None, is_some, if◌then◌else◌, position, refl, sym, ap, subst, ◌∙◌, arith}
use Rattle.std.specs.List.{list_any}
use Rattle.std.specs.Option.{option_map}
use Rattle.std.specs.Str.{bytes_eq}
use Rattle.std.proofs.lemmas.Cmp.{nat_list_eq_equiv}
use Rattle.std.proofs.lemmas.List.{map-append}
use Rattle.std.proofs.lemmas.Grind.{common_steps}
use Rattle.std.proofs.lemmas.Bool.Decides.{nat_tests}
use Rattle.indexmap.specs.IndexSet.{insert_key}
use Rattle.std.specs.Global.{Vec}
use Rattle.std.specs.Map.{keys_of}
use Rattle.indexmap.specs.IndexMap.{insert_entry}
use Rattle.fp_tech.specs.Book.{Lib, place_of, is_among, with_name, pin_names}
use Rattle.fp_tech.specs.KeptBook.{pin_of}

pub position-cons : {X : Type 0} (p : X → Bool) (x : X) (xs : List X) → position p (x ∷ xs) ≡ cond (p x) (Some 0) (option_map (λ k. k + 1) (position p xs))
position-cons p x xs = grind (arith, nat_tests, common_steps)

module _ {X : Type 0} (f : X → List ℕ) (name : List ℕ) where
  pub place_found : (xs : List X) → position (λ x. bytes_eq name (f x)) xs ≡ place_of name (map f xs)
  unfolding place_of
  place_found [] = refl
  place_found (x ∷ xs) =
      position-cons (λ y. bytes_eq name (f y)) x xs
      ∙ ap (λ rest. cond (bytes_eq name (f x)) (Some 0) (option_map (λ k. k + 1) rest)) (place_found xs)
      ∙ ap (λ b. cond b (Some 0) (option_map (λ k. k + 1) (place_of name (map f xs)))) (nat_list_eq_equiv.symm name (f x))

  pub is_some-place : (xs : List X) → list_any (λ x. bytes_eq name (f x)) xs ≡ is_some (place_of name (map f xs))
  unfolding place_of
  is_some-place [] = refl
  is_some-place (x ∷ xs) =
      ap (λ b. b || list_any (λ y. bytes_eq name (f y)) xs) (nat_list_eq_equiv.symm name (f x))
      ∙ ap (λ b. bytes_eq (f x) name || b) (is_some-place xs)
      ∙ by (bytes_eq (f x) name) (place_of name (map f xs))
    where
      by : (b : Bool) (rest : Option ℕ) → (b || is_some rest) ≡ is_some (cond b (Some 0) (option_map (λ k. k + 1) rest))
      by true rest = refl
      by false None = refl
      by false (Some k) = refl

  -- a key of that name goes last where no key has the name
  pub added : (xs : List X) (x : X) (names : List (List ℕ)) → f x ≡ name → map f xs ≡ names
      → map f (insert_key (λ a b. bytes_eq (f a) (f b)) xs x) ≡ with_name names name
  added xs x names named seen =
      ap (λ b. map f (if b then xs else xs ++ x ∷ [])) there ∙ by (is_among name names)
    where
      there : list_any (λ y. bytes_eq (f x) (f y)) xs ≡ is_among name names
      there = ap (λ n. list_any (λ y. bytes_eq n (f y)) xs) named ∙ is_some-place xs ∙ ap (λ ns. is_among name ns) seen

      by : (b : Bool) → map f (if b then xs else xs ++ x ∷ []) ≡ (if b then names else names ++ name ∷ [])
      by true = seen
      by false = map-append f xs (x ∷ []) ∙ ap (λ front. front ++ f x ∷ []) seen ∙ ap (λ n. names ++ n ∷ []) named

  -- a name that was not there goes last
  pub pushed : (xs : List X) (x : X) (names : List (List ℕ)) → f x ≡ name → map f xs ≡ names → place_of name names ≡ None
      → map f (insert_key (λ a b. bytes_eq (f a) (f b)) xs x) ≡ names ++ name ∷ []
  pushed xs x names named seen new =
      added xs x names named seen ∙ ap (λ b. if b then names else names ++ name ∷ []) (ap is_some new)

-- the kept names of pins are those of the list of pins
pub pin_names_kept : (entries : List (Vec ℕ × (ℕ × ℕ))) → map (λ v. v.items) (keys_of entries) ≡ map (λ pin. pin.name) (map pin_of entries)
pin_names_kept [] = refl
pin_names_kept (e ∷ es) = ap (λ rest. e.0.items ∷ rest) (pin_names_kept es)

pub pin_found : (entries : List (Vec ℕ × (ℕ × ℕ))) (name : List ℕ)
    → position (λ v. bytes_eq name v.items) (keys_of entries) ≡ place_of name (map (λ pin. pin.name) (map pin_of entries))
pin_found entries name = place_found (λ v. v.items) name (keys_of entries) ∙ ap (place_of name) (pin_names_kept entries)

-- a pin of a new name goes last
pub pin_pushed : (entries : List (Vec ℕ × (ℕ × ℕ))) (key : Vec ℕ) (name : List ℕ) (x y : ℕ) → key.items ≡ name
    → place_of name (map (λ pin. pin.name) (map pin_of entries)) ≡ None
    → map pin_of (insert_entry (λ a b. bytes_eq a.items b.items) entries key (x, y))
    ≡ map pin_of entries ++ record { name = name; x = x; y = y } ∷ []
unfolding place_of
pin_pushed [] key name x y named new = ap (λ n. record { name = n; x = x; y = y } ∷ []) named
pin_pushed (e ∷ es) key name x y named new = by (bytes_eq e.0.items name) refl (pin_pushed es key name x y named)
  where
    same : bytes_eq key.items e.0.items ≡ bytes_eq e.0.items name
    same = ap (λ n. bytes_eq n e.0.items) named ∙ nat_list_eq_equiv.symm name e.0.items

    none_behind : (o : Option ℕ) → option_map (λ k. k + 1) o ≡ None → o ≡ None
    none_behind None e = refl
    none_behind (Some k) e = cc

    at : (b : Bool) → bytes_eq e.0.items name ≡ b → if b then Some 0 else option_map (λ k. k + 1) (place_of name (map (λ pin. pin.name) (map pin_of es))) ≡ None
    at b found = sym (ap (λ b. if b then Some 0 else option_map (λ k. k + 1) (place_of name (map (λ pin. pin.name) (map pin_of es)))) found) ∙ new

    by : (b : Bool) → bytes_eq e.0.items name ≡ b
        → (place_of name (map (λ pin. pin.name) (map pin_of es)) ≡ None
        → map pin_of (insert_entry (λ a b. bytes_eq a.items b.items) es key (x, y)) ≡ map pin_of es ++ record { name = name; x = x; y = y } ∷ [])
        → map pin_of (insert_entry (λ a b. bytes_eq a.items b.items) (e ∷ es) key (x, y)) ≡ map pin_of (e ∷ es) ++ record { name = name; x = x; y = y } ∷ []
    by true found behind = absurd (let some : Some 0 ≡ None = at true found in cc)
    by false other behind =
        ap (λ b. map pin_of (if b then (e.0, (x, y)) ∷ es else e ∷ insert_entry (λ a b. bytes_eq a.items b.items) es key (x, y))) (same ∙ other)
        ∙ ap (λ rest. pin_of e ∷ rest) (behind (none_behind (place_of name (map (λ pin. pin.name) (map pin_of es))) (at false other)))

-- so the cell's value grows by that pin
pub cell_grown : (id width height : ℕ) (entries after : List (Vec ℕ × (ℕ × ℕ))) (key : Vec ℕ) (name : List ℕ) (x y : ℕ) (old : Lib)
    → record { id = id; width = width; height = height; pins = map pin_of entries } ≡ old
    → after ≡ insert_entry (λ a b. bytes_eq a.items b.items) entries key (x, y)
    → key.items ≡ name → place_of name (pin_names old) ≡ None
    → ◌≡◌ {A = Lib} (record { id = id; width = width; height = height; pins = map pin_of after })
    (record old { pins = old.pins ++ record { name = name; x = x; y = y } ∷ [] })
cell_grown id width height entries after key name x y old view inserted named new =
    subst (λ l. place_of name (pin_names l) ≡ None → ◌≡◌ {A = Lib} (record { id = id; width = width; height = height; pins = map pin_of after }) (record l { pins = l.pins ++ record { name = name; x = x; y = y } ∷ [] }))
    view (λ absent. ap (λ pins. record { id = id; width = width; height = height; pins = pins }) (ap (map pin_of) inserted ∙ pin_pushed entries key name x y named absent)) new
