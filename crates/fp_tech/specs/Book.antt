-- The book of technologies as plain lists, and what each adding call makes of it.
use Rattle.std.specs.Prelude.{◌≡◌, ℕ, zero, suc, ◌+◌, ◌<◌, ◌≤◌, ◌^◌, Bool, false, ◌==◌, nat_le, if◌then◌else◌, List, [], ◌∷◌, ◌++◌, length, map, find, Option, Some, None, is_some, option_map, option_and_then, unwrap_or, slice_get, nat_eq, pos, ◌≤ℤ◌, All, sum_by, Result, Ok, Err}
use Rattle.std.specs.List.{IsDistinct}
use Rattle.std.specs.Str.{bytes_eq}
use Rattle.fp_base.specs.declared.ids.Point.{Point}
use Rattle.fp_tech.specs.declared.fault.BuildFault.{BuildFault}
use Rattle.fp_tech.specs.declared.fault.BuildFault.TheVariants.{Twice, Unknown, Limit, Memory}

-- a pin of a library cell, by its offset from the cell's lower left corner
pub record Pin : Type 0 where
  pub name : List ℕ
  pub x : ℕ
  pub y : ℕ

-- a library cell in one technology; the number is that of its name over all technologies
pub record Lib : Type 0 where
  pub id : ℕ
  pub width : ℕ
  pub height : ℕ
  pub pins : List Pin

pub record Tech : Type 0 where
  pub name : List ℕ
  pub libs : List Lib

-- the names of library cells by first appearance, and the technologies
pub record Book : Type 0 where
  pub names : List (List ℕ)
  pub techs : List Tech

abbrev pub no_techs : Book
no_techs = record { names = []; techs = [] }

-- the place of a name in a list of names, where it is there
unfoldable pub place_of : List ℕ → List (List ℕ) → Option ℕ
place_of name [] = None
place_of name (first ∷ others) = if bytes_eq first name then Some 0 else option_map (λ k. k + 1) (place_of name others)

abbrev pub is_among : List ℕ → List (List ℕ) → Bool
is_among name names = is_some (place_of name names)

abbrev pub tech_names : Book → List (List ℕ)
tech_names book = map (λ tech. tech.name) book.techs

abbrev pub names_of : List Pin → List (List ℕ)
names_of pins = map (λ pin. pin.name) pins

abbrev pub pin_names : Lib → List (List ℕ)
pin_names lib = names_of lib.pins

-- width and height
abbrev pub size_of : Lib → ℕ × ℕ
size_of lib = (lib.width, lib.height)

-- a pin's offset as a point
abbrev pub offset_of : Pin → Point
offset_of pin = record { x = pos pin.x; y = pos pin.y }

-- the library cells of a technology; none where it is out of range
unfoldable pub libs_of : Book → ℕ → List Lib
libs_of book tech = unwrap_or (option_map (λ t. t.libs) (slice_get book.techs tech)) []

-- a library cell in a technology, where it is there
unfoldable pub lib_in : Book → ℕ → ℕ → Option Lib
lib_in book tech id = find (λ lib. lib.id == id) (libs_of book tech)

-- the technology has that library cell
abbrev pub has : Book → ℕ → ℕ → Bool
has book tech id = is_some (lib_in book tech id)

-- the numbers of a technology's library cells, in the order of adding
abbrev pub lib_ids : Book → ℕ → List ℕ
lib_ids book tech = map (λ lib. lib.id) (libs_of book tech)

-- the number that a library cell's name has or would get
abbrev pub id_for : Book → List ℕ → ℕ
id_for book name = unwrap_or (place_of name book.names) (length book.names)

-- the names of a technology's library cells, in the order of adding
abbrev pub name_at : List (List ℕ) → ℕ → List ℕ
name_at names id = unwrap_or (slice_get names id) []

abbrev pub lib_names : Book → ℕ → List (List ℕ)
lib_names book tech = map (λ lib. name_at book.names lib.id) (libs_of book tech)

-- the technology has a library cell of that name
abbrev pub has_name : Book → ℕ → List ℕ → Bool
has_name book tech name = is_some (option_and_then (λ id. lib_in book tech id) (place_of name book.names))

-- a list with one element changed
unfoldable pub changed_at : {A : Type 0} → ℕ → (A → A) → List A → List A
changed_at k change [] = []
changed_at zero change (x ∷ xs) = change x ∷ xs
changed_at (suc k) change (x ∷ xs) = x ∷ changed_at k change xs

abbrev pub with_tech : Book → List ℕ → Book
with_tech book name = record book { techs = book.techs ++ record { name = name; libs = [] } ∷ [] }

-- a technology with one more library cell, and a library cell with one more pin
abbrev pub more_libs : Lib → Tech → Tech
more_libs lib tech = record tech { libs = tech.libs ++ lib ∷ [] }

abbrev pub more_pins : ℕ → Pin → Lib → Lib
more_pins id pin lib = if lib.id == id then record lib { pins = lib.pins ++ pin ∷ [] } else lib

abbrev pub pins_added : ℕ → Pin → Tech → Tech
pins_added id pin tech = record tech { libs = map (more_pins id pin) tech.libs }

-- a list of names with one that is added where it is not there
abbrev pub with_name : List (List ℕ) → List ℕ → List (List ℕ)
with_name names name = if is_among name names then names else names ++ name ∷ []

abbrev pub with_lib : Book → ℕ → List ℕ → ℕ → ℕ → Book
with_lib book tech name width height = record {
  names = with_name book.names name;
  techs = changed_at tech (more_libs (record { id = id_for book name; width = width; height = height; pins = [] })) book.techs;
}

abbrev pub with_pin : Book → ℕ → ℕ → Pin → Book
with_pin book tech id pin = record book { techs = changed_at tech (pins_added id pin) book.techs }

-- why an adding call refuses, in the order in which the causes are tried
abbrev pub refusal : Bool → Bool → Bool → Option BuildFault
refusal full twice unknown = if full then Some Limit else (if twice then Some Twice else (if unknown then Some Unknown else None))

abbrev pub tech_refusal : Book → List ℕ → Option BuildFault
tech_refusal book name = refusal (nat_le 16 (length book.techs)) (is_among name (tech_names book)) false

abbrev pub lib_refusal : Book → ℕ → List ℕ → Option BuildFault
lib_refusal book tech name = refusal (nat_le 4096 (length (libs_of book tech))) (has_name book tech name) false

-- the pins of a library cell in a technology
abbrev pub pins_in : Book → ℕ → ℕ → List Pin
pins_in book tech id = unwrap_or (option_map (λ lib. lib.pins) (lib_in book tech id)) []

abbrev pub pins_refusal : List Pin → List ℕ → Option BuildFault
pins_refusal pins name = refusal (nat_le 1024 (length pins)) (is_among name (names_of pins)) false

abbrev pub pin_refusal : Book → ℕ → ℕ → List ℕ → Option BuildFault
pin_refusal book tech id name = pins_refusal (pins_in book tech id) name

-- What an adding call answers and leaves: Ok exactly where nothing refuses, with its answer and the grown value;
-- a refusal leaves the value as it was, and so does want of memory.
abbrev pub Adds : {V A : Type 0} → Option BuildFault → A → V → V → Result A BuildFault → V → Type 0
Adds refused answer old grown (Ok x) new = (refused ≡ None) × (x ≡ answer) × (new ≡ grown)
Adds refused answer old grown (Err Memory) new = new ≡ old
Adds refused answer old grown (Err Twice) new = (refused ≡ Some Twice) × (new ≡ old)
Adds refused answer old grown (Err Unknown) new = (refused ≡ Some Unknown) × (new ≡ old)
Adds refused answer old grown (Err Limit) new = (refused ≡ Some Limit) × (new ≡ old)

-- a pin that was looked for by its name: its place among the pins, and its offset
pub record IsPinFound (pins : List Pin) (name : List ℕ) (found : ℕ × Point) : Type 0 where
  pub place : place_of name (names_of pins) ≡ Some found.0
  pub offset : option_map offset_of (slice_get pins found.0) ≡ Some found.1
  pub x : (pos 0 ≤ℤ found.1.x) × (found.1.x ≤ℤ pos (2 ^ 30))
  pub y : (pos 0 ≤ℤ found.1.y) × (found.1.y ≤ℤ pos (2 ^ 30))

-- The limits of a book: at most 16 technologies of 4,096 library cells of 1,024 pins; names that are distinct, sizes from 1 to 2^30,
-- offsets up to 2^30; and each library cell's name is in the list, which has no other.
pub record IsLib (names : ℕ) (lib : Lib) : Type 0 where
  pub named : lib.id < names
  pub some_width : 1 ≤ lib.width
  pub width : lib.width ≤ 2 ^ 30
  pub some_height : 1 ≤ lib.height
  pub height : lib.height ≤ 2 ^ 30
  pub few_pins : length lib.pins ≤ 1024
  pub pins_apart : IsDistinct bytes_eq (pin_names lib)
  pub offsets : All (λ pin. (pin.x ≤ 2 ^ 30) × (pin.y ≤ 2 ^ 30)) lib.pins

pub record IsTech (names : ℕ) (tech : Tech) : Type 0 where
  pub few_libs : length tech.libs ≤ 4096
  pub libs_apart : IsDistinct nat_eq (map (λ lib. lib.id) tech.libs)
  pub libs : All (IsLib names) tech.libs

pub record IsBook (book : Book) : Type 0 where
  pub few_techs : length book.techs ≤ 16
  pub techs_apart : IsDistinct bytes_eq (tech_names book)
  pub names_apart : IsDistinct bytes_eq book.names
  pub names_used : length book.names ≤ sum_by (λ tech. length tech.libs) book.techs
  pub techs : All (IsTech (length book.names)) book.techs
