-- Laws of a problem's lists and of its library cells.
use Rattle.std.specs.Prelude.{◌≡◌, ◌==◌, ℕ, ◌+◌, ◌*◌, ◌<◌, ◌≤◌, ◌^◌, Bool, true, false, List, [], ◌∷◌, length, All, Contains, Option, Some, None, is_some, option_map, unwrap_or, slice_get, slice_index, if◌then◌else◌, find, cond, sum_by}
use Rattle.std.proofs.Common.{zero, suc, get_or, refl, sym, ap, subst, ◌∙◌, arith}
use Rattle.std.proofs.lemmas.List.Elements.{All-nil, All-cons, All-weaker}
use Rattle.std.proofs.lemmas.Option.{same_Some, slice_get_within, slice_get-get_or, get_or_from_slice_get}
use Rattle.std.proofs.lemmas.List.Sums.{sum_by-le}
use Rattle.std.proofs.lemmas.Bool.{eq-eqb}
use Rattle.std.proofs.lemmas.Bool.Decides.{nat_tests}
use Rattle.fp_base.specs.declared.ids.Die.{Die}
use Rattle.fp_base.specs.declared.ids.Die.TheVariants.{Top, Bottom}
use Rattle.fp_tech.specs.Book.{Pin, Lib, Tech, Book, lib_in, libs_of, IsLib, IsTech, IsBook}
use Rattle.fp_tech.specs.BookLaws.{cell_within}
use Rattle.fp_tech.specs.Plan.{spec_of}
use Rattle.fp_netlist.specs.declared.problem.Conn.{Conn}
use Rattle.fp_netlist.specs.Netlist.{Cell, Netlist, ids_where, conns_of_cell, conns_of_net, lib_at, lib_of, pin_count, IsConn, IsSound}
use Rattle.fp_netlist.specs.Points.{no_lib, no_pin, lib_on, pin_of, pin_on}

-- a number that is counted from i is that of an element which passes
pub record IsPlace {A : Type 0} (test : A → Bool) (i : ℕ) (xs : List A) (k : ℕ) : Type 0 where
  pub place : ℕ
  pub counted : k ≡ i + place
  pub element : A
  pub at : slice_get xs place ≡ Some element
  pub passes : test element ≡ true

pub places : {A : Type 0} (test : A → Bool) (i : ℕ) (xs : List A) → All (IsPlace test i xs) (ids_where test i xs)
unfolding ids_where
places test i [] = All-nil (IsPlace test i [])
places {A} test i (x ∷ xs) = by (test x) refl (places test (i + 1) xs)
  where
    later : All (IsPlace test (i + 1) xs) (ids_where test (i + 1) xs) → All (IsPlace test i (x ∷ xs)) (ids_where test (i + 1) xs)
    later rest = All-weaker (IsPlace test (i + 1) xs) (IsPlace test i (x ∷ xs))
        (λ k is. record { place = suc is.place; counted = omega (arith, is.counted); element = is.element; at = is.at; passes = is.passes })
        (ids_where test (i + 1) xs) rest

    by : (b : Bool) → test x ≡ b → All (IsPlace test (i + 1) xs) (ids_where test (i + 1) xs) → All (IsPlace test i (x ∷ xs)) (if b then i ∷ ids_where test (i + 1) xs else ids_where test (i + 1) xs)
    by true e rest = All-cons (IsPlace test i (x ∷ xs)) i (ids_where test (i + 1) xs)
        (record { place = zero; counted = omega arith; element = x; at = refl; passes = e }) (later rest)
    by false e rest = later rest

contains_behind : (x : ℕ) (xs : List ℕ) (k : ℕ) → Contains xs k → Contains (x ∷ xs) k
contains_behind x xs k (at, within, is) = (suc at, omega arith, is)

-- and each of those is counted
pub place_counted : {A : Type 0} (test : A → Bool) (i : ℕ) (xs : List A) (place : ℕ) (element : A) → slice_get xs place ≡ Some element → test element ≡ true
    → Contains (ids_where test i xs) (i + place)
unfolding ids_where
place_counted test i [] place element at passes = absurd (let nothing : None ≡ Some element = at in cc)
place_counted test i (x ∷ xs) zero element at passes =
    let same : x ≡ element = same_Some x element at in
    let here : test x ≡ true = ap test same ∙ passes in
    let same_number : i ≡ i + 0 = omega arith in
    subst (λ b. Contains (if b then i ∷ ids_where test (i + 1) xs else ids_where test (i + 1) xs) (i + 0)) (sym here) (0, omega arith, same_number)
place_counted test i (x ∷ xs) (suc place) element at passes =
    let same_number : i + 1 + place ≡ i + suc place = omega arith in
    subst (Contains (if test x then i ∷ ids_where test (i + 1) xs else ids_where test (i + 1) xs)) same_number
    (by (test x) (place_counted test (i + 1) xs place element at passes))
  where
    by : (b : Bool) → Contains (ids_where test (i + 1) xs) (i + 1 + place) → Contains (if b then i ∷ ids_where test (i + 1) xs else ids_where test (i + 1) xs) (i + 1 + place)
    by true behind = contains_behind i (ids_where test (i + 1) xs) (i + 1 + place) behind
    by false behind = behind

-- in rising order
pub places_rise : {A : Type 0} (test : A → Bool) (i : ℕ) (xs : List A) (j k : ℕ) → j < k → k < length (ids_where test i xs)
    → slice_index (ids_where test i xs) j < slice_index (ids_where test i xs) k
unfolding ids_where
places_rise test i [] j k less within = absurd (omega arith)
places_rise {A} test i (x ∷ xs) j k less within = by (test x) j k less within (places_rise test (i + 1) xs)
  where
    by : (b : Bool) (j k : ℕ) → j < k → k < length (if b then i ∷ ids_where test (i + 1) xs else ids_where test (i + 1) xs)
        → ((j k : ℕ) → j < k → k < length (ids_where test (i + 1) xs) → get_or (ids_where test (i + 1) xs) j 0 < get_or (ids_where test (i + 1) xs) k 0)
        → get_or (if b then i ∷ ids_where test (i + 1) xs else ids_where test (i + 1) xs) j 0 < get_or (if b then i ∷ ids_where test (i + 1) xs else ids_where test (i + 1) xs) k 0
    by true j zero less within rest = absurd (omega arith)
    by true zero (suc k) less within rest =
        let is = places test (i + 1) xs k 0 (omega arith) in omega (arith, is.counted)
    by true (suc j) (suc k) less within rest = rest j k (omega arith) (omega arith)
    by false j k less within rest = rest j k less within

same_number : (a b : ℕ) → (a == b) ≡ true → a ≡ b
same_number a b e = grind (arith, nat_tests)

-- the connections of a net: each is there and is of that net; each that is of it is among them; and they rise
pub net_conns : (p : Netlist) (net : ℕ) → All (λ k. (conn : Conn) × (slice_get p.conns k ≡ Some conn) × (conn.net.0 ≡ net)) (conns_of_net p net)
unfolding conns_of_net
net_conns p net = All-weaker (IsPlace (λ (conn : Conn). conn.net.0 == net) 0 p.conns) (λ k. (conn : Conn) × (slice_get p.conns k ≡ Some conn) × (conn.net.0 ≡ net))
    (λ k is. (is.element, (ap (slice_get p.conns) (let same : k ≡ is.place = omega (arith, is.counted) in same) ∙ is.at), same_number is.element.net.0 net is.passes))
    (ids_where (λ conn. conn.net.0 == net) 0 p.conns) (places (λ (conn : Conn). conn.net.0 == net) 0 p.conns)

pub net_conn_there : (p : Netlist) (net k : ℕ) (conn : Conn) → slice_get p.conns k ≡ Some conn → conn.net.0 ≡ net → Contains (conns_of_net p net) k
unfolding conns_of_net
net_conn_there p net k conn at is =
    subst (Contains (ids_where (λ (conn : Conn). conn.net.0 == net) 0 p.conns)) (let same : 0 + k ≡ k = omega arith in same)
    (place_counted (λ (conn : Conn). conn.net.0 == net) 0 p.conns k conn at (eq-eqb conn.net.0 net is))

pub net_conns_rise : (p : Netlist) (net j k : ℕ) → j < k → k < length (conns_of_net p net) → slice_index (conns_of_net p net) j < slice_index (conns_of_net p net) k
unfolding conns_of_net
net_conns_rise p net j k less within = places_rise (λ (conn : Conn). conn.net.0 == net) 0 p.conns j k less within

pub net_conns_within : (p : Netlist) (net : ℕ) → All (λ k. k < length p.conns) (conns_of_net p net)
net_conns_within p net = All-weaker (λ k. (conn : Conn) × (slice_get p.conns k ≡ Some conn) × (conn.net.0 ≡ net)) (λ k. k < length p.conns)
    (λ k is. slice_get_within p.conns k is.0 is.1) (conns_of_net p net) (net_conns p net)

-- the connections of a cell, alike
pub cell_conns : (p : Netlist) (cell : ℕ) → All (λ k. (conn : Conn) × (slice_get p.conns k ≡ Some conn) × (conn.cell.0 ≡ cell)) (conns_of_cell p cell)
unfolding conns_of_cell
cell_conns p cell = All-weaker (IsPlace (λ (conn : Conn). conn.cell.0 == cell) 0 p.conns) (λ k. (conn : Conn) × (slice_get p.conns k ≡ Some conn) × (conn.cell.0 ≡ cell))
    (λ k is. (is.element, (ap (slice_get p.conns) (let same : k ≡ is.place = omega (arith, is.counted) in same) ∙ is.at), same_number is.element.cell.0 cell is.passes))
    (ids_where (λ conn. conn.cell.0 == cell) 0 p.conns) (places (λ (conn : Conn). conn.cell.0 == cell) 0 p.conns)

pub cell_conn_there : (p : Netlist) (cell k : ℕ) (conn : Conn) → slice_get p.conns k ≡ Some conn → conn.cell.0 ≡ cell → Contains (conns_of_cell p cell) k
unfolding conns_of_cell
cell_conn_there p cell k conn at is =
    subst (Contains (ids_where (λ (conn : Conn). conn.cell.0 == cell) 0 p.conns)) (let same : 0 + k ≡ k = omega arith in same)
    (place_counted (λ (conn : Conn). conn.cell.0 == cell) 0 p.conns k conn at (eq-eqb conn.cell.0 cell is))

pub cell_conns_rise : (p : Netlist) (cell j k : ℕ) → j < k → k < length (conns_of_cell p cell) → slice_index (conns_of_cell p cell) j < slice_index (conns_of_cell p cell) k
unfolding conns_of_cell
cell_conns_rise p cell j k less within = places_rise (λ (conn : Conn). conn.cell.0 == cell) 0 p.conns j k less within

pub cell_conns_within : (p : Netlist) (cell : ℕ) → All (λ k. k < length p.conns) (conns_of_cell p cell)
cell_conns_within p cell = All-weaker (λ k. (conn : Conn) × (slice_get p.conns k ≡ Some conn) × (conn.cell.0 ≡ cell)) (λ k. k < length p.conns)
    (λ k is. slice_get_within p.conns k is.0 is.1) (conns_of_cell p cell) (cell_conns p cell)

-- a cell's library cell is in the book, within its limits
pub lib_there : (p : Netlist) (cell : ℕ) (die : Die) → IsSound p → cell < length p.cells → lib_at p (lib_of p cell) die ≡ Some (lib_on p cell die)
unfolding lib_on
lib_there p cell die is below = by (lib_at p (lib_of p cell) die) (some die)
  where
    d : Cell
    d = record { name = []; lib = 0 }

    lib_is : lib_of p cell ≡ (get_or p.cells cell d).lib
    lib_is = ap (λ o. unwrap_or (option_map (λ (c : Cell). c.lib) o) 0) (slice_get-get_or p.cells cell d below)

    some : (die : Die) → is_some (lib_at p (lib_of p cell) die) ≡ true
    some Top = subst (λ l. is_some (lib_at p l Top) ≡ true) (sym lib_is) (is.cells cell d below).top
    some Bottom = subst (λ l. is_some (lib_at p l Bottom) ≡ true) (sym lib_is) (is.cells cell d below).bottom

    by : (o : Option Lib) → is_some o ≡ true → o ≡ Some (unwrap_or o no_lib)
    by None e = absurd (let nothing : false ≡ true = e in cc)
    by (Some l) e = refl

pub lib_within : (p : Netlist) (cell : ℕ) (die : Die) → IsSound p → cell < length p.cells → IsLib (length p.plan.book.names) (lib_on p cell die)
lib_within p cell die is below = cell_within p.plan.book (spec_of p.plan die).tech.0 (lib_of p cell) (lib_on p cell die) is.book (lib_there p cell die is below)

-- the number of a cell's library cell: there are at most 16 technologies of 4,096
found_passes : (test : Lib → Bool) (libs : List Lib) (l : Lib) → find test libs ≡ Some l → test l ≡ true
found_passes test [] l e = absurd (let nothing : None ≡ Some l = e in cc)
found_passes test (x ∷ xs) l e = by (test x) refl (λ at. found_passes test xs l at) e
  where
    by : (b : Bool) → test x ≡ b → (find test xs ≡ Some l → test l ≡ true) → cond b (Some x) (find test xs) ≡ Some l → test l ≡ true
    by true passes rest at = ap test (sym (same_Some x l at)) ∙ passes
    by false passes rest at = rest at

few_names : (book : Book) → IsBook book → length book.names ≤ 2 ^ 16
few_names book is =
    let few : sum_by (λ (tech : Tech). length tech.libs) book.techs ≤ length book.techs * 4096 = sum_by-le (λ (tech : Tech). length tech.libs) 4096 book.techs
    (All-weaker (IsTech (length book.names)) (λ (tech : Tech). length tech.libs ≤ 4096) (λ tech is_tech. is_tech.few_libs) book.techs is.techs) in
    omega (arith, is.few_techs, is.names_used)

pub lib_of_small : (p : Netlist) (cell : ℕ) → IsSound p → cell < length p.cells → lib_of p cell < 2 ^ 16
unfolding lib_in
lib_of_small p cell is below =
    let there : find (λ (lib : Lib). lib.id == lib_of p cell) (libs_of p.plan.book (spec_of p.plan Top).tech.0) ≡ Some (lib_on p cell Top) = lib_there p cell Top is below in
    let same : (lib_on p cell Top).id ≡ lib_of p cell = same_number (lib_on p cell Top).id (lib_of p cell) (found_passes (λ (lib : Lib). lib.id == lib_of p cell) (libs_of p.plan.book (spec_of p.plan Top).tech.0) (lib_on p cell Top) there) in
    omega (arith, (lib_within p cell Top is below).named, few_names p.plan.book is.book)

-- a connection's pin is one of its cell's library cell, at an offset up to 2^30
pub pin_there : (p : Netlist) (conn : Conn) (die : Die) → IsSound p → IsConn p conn → slice_get (lib_on p conn.cell.0 die).pins (pin_of conn die) ≡ Some (pin_on p conn die)
unfolding pin_on
pin_there p conn die is conn_is = by (slice_get (lib_on p conn.cell.0 die).pins (pin_of conn die)) (slice_get-get_or (lib_on p conn.cell.0 die).pins (pin_of conn die) no_pin (within die))
  where
    many : (die : Die) → pin_count p conn.cell.0 die ≡ length (lib_on p conn.cell.0 die).pins
    many die = ap (λ o. unwrap_or (option_map (λ (l : Lib). length l.pins) o) 0) (lib_there p conn.cell.0 die is conn_is.cell)

    within : (die : Die) → pin_of conn die < length (lib_on p conn.cell.0 die).pins
    within Top = omega (arith, conn_is.top_pin, many Top)
    within Bottom = omega (arith, conn_is.bottom_pin, many Bottom)

    by : (o : Option Pin) → o ≡ Some (get_or (lib_on p conn.cell.0 die).pins (pin_of conn die) no_pin) → o ≡ Some (unwrap_or o no_pin)
    by None e = absurd (let nothing : None ≡ Some (get_or (lib_on p conn.cell.0 die).pins (pin_of conn die) no_pin) = e in cc)
    by (Some pin) e = refl

pub pin_small : (p : Netlist) (conn : Conn) (die : Die) → IsSound p → IsConn p conn → ((pin_on p conn die).x ≤ 2 ^ 30) × ((pin_on p conn die).y ≤ 2 ^ 30)
pin_small p conn die is conn_is =
    let at = pin_there p conn die is conn_is in
    subst (λ (pin : Pin). (pin.x ≤ 2 ^ 30) × (pin.y ≤ 2 ^ 30)) (get_or_from_slice_get (lib_on p conn.cell.0 die).pins (pin_of conn die) (pin_on p conn die) no_pin at)
    ((lib_within p conn.cell.0 die is conn_is.cell).offsets (pin_of conn die) no_pin (slice_get_within (lib_on p conn.cell.0 die).pins (pin_of conn die) (pin_on p conn die) at))
