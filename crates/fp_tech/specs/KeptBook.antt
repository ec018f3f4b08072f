-- How a book is kept.
use Rattle.std.specs.Prelude.{◌≡◌, ◌==◌, ℕ, List, [], ◌∷◌, length, map, find, unwrap_or}
use Rattle.std.specs.Option.{option_map}
use Rattle.std.specs.Global.{Vec}
use Rattle.fp_base.specs.declared.ids.LibId.{LibId}
use Rattle.fp_tech.specs.Book.{Pin, Lib, Tech, Book, IsBook}

-- a pin as its name with its offset
abbrev pub pin_of : Vec ℕ × (ℕ × ℕ) → Pin
pin_of entry = record { name = entry.0.items; x = entry.1.0; y = entry.1.1 }

-- a library cell's number
abbrev pub id_of : Lib → LibId
id_of lib = record { 0 = lib.id }

-- the numbers kept beside a list of library cells
abbrev pub AreIds : List LibId → List Lib → Type 0
AreIds ids libs = ids ≡ map id_of libs

-- the pins of the library cell of that number in a list
abbrev pub pins_at : List Lib → ℕ → List Pin
pins_at libs id = unwrap_or (option_map (λ lib. lib.pins) (find (λ lib. lib.id == id) libs)) []

-- the technologies of these names with these libraries
abbrev pub techs_of : List (List ℕ) → List (List Lib) → List Tech
techs_of [] libraries = []
techs_of (name ∷ names) [] = []
techs_of (name ∷ names) (libs ∷ libraries) = record { name = name; libs = libs } ∷ techs_of names libraries

abbrev pub book_of : List (List ℕ) → List (List ℕ) → List (List Lib) → Book
book_of lib_names tech_names libraries = record { names = lib_names; techs = techs_of tech_names libraries }

-- a kept book has a library for each technology's name, and is within the limits
pub record IsKeptBook (lib_names tech_names : List (List ℕ)) (libraries : List (List Lib)) : Type 0 where
  pub as_many : length tech_names ≡ length libraries
  pub is_book : IsBook (book_of lib_names tech_names libraries)
