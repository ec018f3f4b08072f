-- A kept problem and its value, and what adding makes of both.
use Rattle.std.proofs.Common.{◌≡◌, ◌==◌, ℕ, zero, suc, ◌+◌, ◌<◌, ◌≤◌, ◌^◌, Bool, true, false, ◌||◌, List, [], ◌∷◌, ◌++◌, length, map, Option, Some, None, is_some, is_none, not, Err, if◌then◌else◌, get_or, refl, sym, ap, subst, ◌∙◌, arith}
use Rattle.std.specs.Prelude.{nat_le, slice_get, unwrap_or, All}
use Rattle.std.specs.List.{IsDistinct}
use Rattle.std.specs.Option.{option_map, option_and_then}
use Rattle.std.specs.Str.{bytes_eq}
use Rattle.std.proofs.lemmas.List.{map-append, get_or-map, length-append, length-map}
use Rattle.std.proofs.lemmas.List.Elements.{All-nil, All-push, All-weaker}
use Rattle.std.proofs.lemmas.Option.{same_Some, slice_get_within, slice_get-get_or, get_or_from_slice_get}
use Rattle.std.proofs.lemmas.Bool.Decides.{nat_tests}
use Rattle.fp_base.specs.declared.ids.Die.{Die}
use Rattle.fp_base.specs.declared.ids.Die.TheVariants.{Top, Bottom}
use Rattle.fp_base.specs.declared.ids.CellId.{CellId}
use Rattle.fp_base.specs.declared.ids.NetId.{NetId}
use Rattle.fp_base.specs.declared.ids.Point.{Point}
use Rattle.fp_tech.specs.declared.fault.BuildFault.{BuildFault}
use Rattle.fp_tech.specs.declared.fault.BuildFault.TheVariants.{Twice, Unknown, Limit}
use Rattle.fp_tech.specs.Book.{Lib, Pin, place_of, is_among, with_name, size_of, offset_of, refusal, Adds, IsBook}
use Rattle.fp_tech.specs.BookLaws.{distinct_names, slice_get-front}
use Rattle.fp_tech.specs.Plan.{Plan, IsPlan}
use Rattle.fp_netlist.specs.declared.problem.Conn.{Conn}
use Rattle.fp_netlist.specs.declared.kept.KeptCell.{KeptCell}
use Rattle.fp_netlist.specs.declared.kept.KeptConn.{KeptConn}
use Rattle.fp_netlist.specs.Netlist.{Cell, Netlist, no_cells, cell_names, lib_for, lib_at, lib_of, pin_for, ids_where, conns_of_cell, conns_of_net, with_inst, with_net, with_conn, conn_for, IsCell, IsConn, IsSound}
use Rattle.fp_netlist.specs.Points.{no_lib, no_pin, lib_on, width, height, pin_of, pin_on}
use Rattle.fp_netlist.specs.KeptGroups.{conn_id, members_of}
use Rattle.fp_netlist.specs.KeptProblem.{cell_keys, net_keys}
use Rattle.fp_netlist.specs.KeptNetlist.{point_of, cells_of, netlist_of, size_kept, offset_kept, IsSizeOf, IsKeptCell, IsPinOf, IsConnOf, IsOffsetOf, IsKeptConn, IsKept}

-- the kept cells
length-cells_of : (names : List (List ℕ)) (cells : List KeptCell) → length names ≡ length cells → length (cells_of names cells) ≡ length cells
length-cells_of [] [] h = refl
length-cells_of [] (c ∷ cs) h = cc
length-cells_of (n ∷ ns) [] h = refl
length-cells_of (n ∷ ns) (c ∷ cs) h = ap suc (length-cells_of ns cs (omega arith))

names-cells_of : (names : List (List ℕ)) (cells : List KeptCell) → length names ≡ length cells → map (λ cell. cell.name) (cells_of names cells) ≡ names
names-cells_of [] cs h = refl
names-cells_of (n ∷ ns) [] h = absurd (omega (arith, h))
names-cells_of (n ∷ ns) (c ∷ cs) h = ap (λ rest. n ∷ rest) (names-cells_of ns cs (omega arith))

cells_of-push : (names : List (List ℕ)) (cells : List KeptCell) (name : List ℕ) (kept : KeptCell) → length names ≡ length cells
    → cells_of (names ++ name ∷ []) (cells ++ kept ∷ []) ≡ cells_of names cells ++ record { name = name; lib = kept.lib.0 } ∷ []
cells_of-push [] [] name kept h = refl
cells_of-push [] (c ∷ cs) name kept h = absurd (omega (arith, h))
cells_of-push (n ∷ ns) [] name kept h = absurd (omega (arith, h))
cells_of-push (n ∷ ns) (c ∷ cs) name kept h = ap (λ rest. record { name = n; lib = c.lib.0 } ∷ rest) (cells_of-push ns cs name kept (omega arith))

lib-cells_of : (names : List (List ℕ)) (cells : List KeptCell) (k : ℕ) (d : KeptCell) → length names ≡ length cells → k < length cells
    → (get_or cells k d).lib.0 ≡ unwrap_or (option_map (λ cell. cell.lib) (slice_get (cells_of names cells) k)) 0
lib-cells_of [] [] k d h below = absurd (omega arith)
lib-cells_of [] (c ∷ cs) k d h below = absurd (omega (arith, h))
lib-cells_of (n ∷ ns) [] k d h below = absurd (omega arith)
lib-cells_of (n ∷ ns) (c ∷ cs) zero d h below = refl
lib-cells_of (n ∷ ns) (c ∷ cs) (suc k) d h below = lib-cells_of ns cs k d (omega arith) (omega arith)

-- what the kept lists are of their value
pub record IsSeen (plan : Plan) (names : List (List ℕ)) (cells : List KeptCell) (nets : List (List ℕ)) (conns : List KeptConn) (p : Netlist) : Type 0 where
  pub plan_is : plan ≡ p.plan
  pub names_are : names ≡ cell_names p
  pub nets_are : nets ≡ p.nets
  pub conns_are : map (λ kept. kept.conn) conns ≡ p.conns
  pub as_many : length names ≡ length cells
  pub many : length cells ≡ length p.cells
  pub many_conns : length conns ≡ length p.conns
  pub few : length cells ≤ 2 ^ 18
  pub few_nets : length nets ≤ 2 ^ 18
  pub few_conns : length conns ≤ 2 ^ 21
  pub lib : (k : ℕ) (d : KeptCell) → k < length cells → (get_or cells k d).lib.0 ≡ lib_of p k
  pub cell : (k : ℕ) (d : KeptCell) → k < length cells → IsKeptCell p.plan (get_or cells k d)
  pub conn : (k : ℕ) (d : KeptConn) → k < length conns → IsKeptConn p (get_or conns k d)
  pub sound : IsSound p

pub seen : (plan : Plan) (names : List (List ℕ)) (cells : List KeptCell) (nets : List (List ℕ)) (conns : List KeptConn) (p : Netlist)
    → IsKept plan names cells nets conns → netlist_of plan names cells nets conns ≡ p → IsSeen plan names cells nets conns p
seen plan names cells nets conns p kept view = subst (IsSeen plan names cells nets conns) view (record {
  plan_is = refl;
  names_are = sym (names-cells_of names cells kept.as_many);
  nets_are = refl;
  conns_are = refl;
  as_many = kept.as_many;
  many = sym (length-cells_of names cells kept.as_many);
  many_conns = sym (length-map conns (λ (k : KeptConn). k.conn));
  few = omega (arith, kept.sound.few_cells, length-cells_of names cells kept.as_many);
  few_nets = kept.sound.few_nets;
  few_conns = omega (arith, kept.sound.few_conns, length-map conns (λ (k : KeptConn). k.conn));
  lib = λ k d below. lib-cells_of names cells k d kept.as_many below;
  cell = kept.sizes;
  conn = kept.offsets;
  sound = kept.sound;
})

-- kept lists are those of a value
pub record IsKeptAs (plan : Plan) (names : List (List ℕ)) (cells : List KeptCell) (nets : List (List ℕ)) (conns : List KeptConn) (p : Netlist) : Type 0 where
  pub kept : IsKept plan names cells nets conns
  pub view : netlist_of plan names cells nets conns ≡ p

-- nothing is kept at first
pub nothing_kept : (plan : Plan) (names nets : List (List ℕ)) (cells : List KeptCell) (conns : List KeptConn) → IsPlan plan → IsBook plan.book
    → names ≡ [] → cells ≡ [] → nets ≡ [] → conns ≡ [] → IsKeptAs plan names cells nets conns (no_cells plan)
unfolding IsDistinct
nothing_kept plan names nets cells conns is_plan is_book no_names no_kept no_nets no_conns =
    subst (λ ns. IsKeptAs plan ns cells nets conns (no_cells plan)) (sym no_names)
    (subst (λ cs. IsKeptAs plan [] cs nets conns (no_cells plan)) (sym no_kept)
    (subst (λ ns. IsKeptAs plan [] [] ns conns (no_cells plan)) (sym no_nets)
    (subst (λ cs. IsKeptAs plan [] [] [] cs (no_cells plan)) (sym no_conns) (record { kept = nothing; view = refl }))))
  where
    nothing : IsKept plan [] [] [] []
    nothing = record {
      as_many = refl;
      sound = record {
        plan = is_plan;
        book = is_book;
        few_cells = omega arith;
        few_nets = omega arith;
        few_conns = omega arith;
        cells_apart = tt;
        nets_apart = tt;
        cells = All-nil (IsCell (no_cells plan));
        conns = All-nil (IsConn (no_cells plan));
      };
      sizes = All-nil (IsKeptCell plan);
      offsets = All-nil (IsKeptConn (no_cells plan));
    }

-- a cell that was there keeps its library cell
lib_of-with_inst : (p : Netlist) (name : List ℕ) (lib k : ℕ) → k < length p.cells → lib_of (with_inst p name lib) k ≡ lib_of p k
lib_of-with_inst p name lib k below = ap (λ o. unwrap_or (option_map (λ (c : Cell). c.lib) o) 0) (slice_get-front p.cells (record { name = name; lib = lib }) k below)

conn_stays : (p : Netlist) (name : List ℕ) (lib : ℕ) (conn : Conn) → IsConn p conn → IsConn (with_inst p name lib) conn
conn_stays p name lib conn is = record {
  cell = omega (arith, is.cell, length-append p.cells (record { name = name; lib = lib } ∷ []));
  net = is.net;
  top_pin = subst (λ l. conn.top_pin < unwrap_or (option_map (λ (x : Lib). length x.pins) (lib_for p.plan l Top)) 0) (sym (lib_of-with_inst p name lib conn.cell.0 is.cell)) is.top_pin;
  bottom_pin = subst (λ l. conn.bottom_pin < unwrap_or (option_map (λ (x : Lib). length x.pins) (lib_for p.plan l Bottom)) 0) (sym (lib_of-with_inst p name lib conn.cell.0 is.cell)) is.bottom_pin;
}

offset_stays : (p : Netlist) (name : List ℕ) (lib : ℕ) (conn : Conn) (die : Die) (at : ℕ × ℕ) → conn.cell.0 < length p.cells → IsOffsetOf p conn die at → IsOffsetOf (with_inst p name lib) conn die at
unfolding lib_on pin_on
offset_stays p name lib conn die at there is = record {
  is = ap (λ l. offset_of (unwrap_or (slice_get (unwrap_or (lib_for p.plan l die) no_lib).pins (pin_of conn die)) no_pin)) (lib_of-with_inst p name lib conn.cell.0 there) ∙ is.is;
  x = is.x;
  y = is.y;
}

-- adding a cell
inst_sound : (p : Netlist) (name : List ℕ) (lib : ℕ) → IsSound p → length p.cells < 2 ^ 18 → place_of name (cell_names p) ≡ None
    → is_some (lib_at p lib Top) ≡ true → is_some (lib_at p lib Bottom) ≡ true → IsSound (with_inst p name lib)
inst_sound p name lib is room new top bottom = record {
  plan = is.plan;
  book = is.book;
  few_cells = omega (arith, length-append p.cells (record { name = name; lib = lib } ∷ []));
  few_nets = is.few_nets;
  few_conns = is.few_conns;
  cells_apart = subst (IsDistinct bytes_eq) (sym (map-append (λ (c : Cell). c.name) p.cells (record { name = name; lib = lib } ∷ []))) (distinct_names (cell_names p) name is.cells_apart new);
  nets_apart = is.nets_apart;
  cells = All-push (IsCell (with_inst p name lib)) p.cells (record { name = name; lib = lib })
      (All-weaker (IsCell p) (IsCell (with_inst p name lib)) (λ c c_is. record { top = c_is.top; bottom = c_is.bottom }) p.cells is.cells)
      (record { top = top; bottom = bottom });
  conns = All-weaker (IsConn p) (IsConn (with_inst p name lib)) (λ c c_is. conn_stays p name lib c c_is) p.conns is.conns;
}

size_there : (o : Option Lib) (size : ℕ × ℕ) → option_map size_of o ≡ Some size → is_some o ≡ true
size_there None size e = absurd (let no : None ≡ Some size = e in cc)
size_there (Some l) size e = refl

pub inst_added : (plan : Plan) (names new_names : List (List ℕ)) (cells new_cells : List KeptCell) (nets : List (List ℕ)) (conns : List KeptConn) (p : Netlist) (name : List ℕ) (kept : KeptCell)
    → IsKept plan names cells nets conns → netlist_of plan names cells nets conns ≡ p → length p.cells < 2 ^ 18 → place_of name (cell_names p) ≡ None
    → IsKeptCell plan kept → new_names ≡ names ++ name ∷ [] → new_cells ≡ cells ++ kept ∷ []
    → IsKeptAs plan new_names new_cells nets conns (with_inst p name kept.lib.0)
inst_added plan names new_names cells new_cells nets conns p name kept is view room new cell more_names more_cells =
    subst (λ ns. IsKeptAs plan ns new_cells nets conns (with_inst p name kept.lib.0)) (sym more_names)
    (subst (λ cs. IsKeptAs plan (names ++ name ∷ []) cs nets conns (with_inst p name kept.lib.0)) (sym more_cells)
    (record { kept = all_kept; view = as_added ∙ ap (λ q. with_inst q name kept.lib.0) view }))
  where
    q : Netlist
    q = netlist_of plan names cells nets conns

    as_added : netlist_of plan (names ++ name ∷ []) (cells ++ kept ∷ []) nets conns ≡ with_inst (netlist_of plan names cells nets conns) name kept.lib.0
    as_added = ap (λ cs. record { plan = plan; cells = cs; nets = nets; conns = map (λ (k : KeptConn). k.conn) conns }) (cells_of-push names cells name kept is.as_many)

    sound : IsSound (with_inst (netlist_of plan names cells nets conns) name kept.lib.0)
    sound = inst_sound (netlist_of plan names cells nets conns) name kept.lib.0 is.sound
        (subst (λ r. length r.cells < 2 ^ 18) (sym view) room) (subst (λ r. place_of name (cell_names r) ≡ None) (sym view) new)
        (size_there (lib_for plan kept.lib.0 Top) kept.top cell.top.is) (size_there (lib_for plan kept.lib.0 Bottom) kept.bottom cell.bottom.is)

    there : (k : ℕ) (d : KeptConn) → k < length conns → (get_or conns k d).conn.cell.0 < length (cells_of names cells)
    there k d below = (conn_within conns k d below (netlist_of plan names cells nets conns) is.sound.conns).cell
      where
        conn_within : (conns : List KeptConn) (k : ℕ) (d : KeptConn) → k < length conns → (r : Netlist) → All (IsConn r) (map (λ kept. kept.conn) conns) → IsConn r (get_or conns k d).conn
        conn_within conns k d below r all =
            subst (IsConn r) (get_or-map (λ (kept : KeptConn). kept.conn) conns k d d.conn below) (all k d.conn (omega (arith, length-map conns (λ (kept : KeptConn). kept.conn))))

    all_kept : IsKept plan (names ++ name ∷ []) (cells ++ kept ∷ []) nets conns
    all_kept = record {
      as_many = omega (arith, is.as_many, length-append names (name ∷ []), length-append cells (kept ∷ []));
      sound = subst IsSound (sym as_added) sound;
      sizes = All-push (IsKeptCell plan) cells kept is.sizes cell;
      offsets = subst (λ r. All (IsKeptConn r) conns) (sym as_added)
          (λ k d below. record {
            top = offset_stays (netlist_of plan names cells nets conns) name kept.lib.0 (get_or conns k d).conn Top (get_or conns k d).top (there k d below) (is.offsets k d below).top;
            bottom = offset_stays (netlist_of plan names cells nets conns) name kept.lib.0 (get_or conns k d).conn Bottom (get_or conns k d).bottom (there k d below) (is.offsets k d below).bottom;
          });
    }

-- adding a net
net_sound : (p : Netlist) (name : List ℕ) → IsSound p → length p.nets < 2 ^ 18 → place_of name p.nets ≡ None → IsSound (with_net p name)
net_sound p name is room new = record {
  plan = is.plan;
  book = is.book;
  few_cells = is.few_cells;
  few_nets = omega (arith, length-append p.nets (name ∷ []));
  few_conns = is.few_conns;
  cells_apart = is.cells_apart;
  nets_apart = distinct_names p.nets name is.nets_apart new;
  cells = All-weaker (IsCell p) (IsCell (with_net p name)) (λ c c_is. record { top = c_is.top; bottom = c_is.bottom }) p.cells is.cells;
  conns = All-weaker (IsConn p) (IsConn (with_net p name))
      (λ c c_is. record { cell = c_is.cell; net = omega (arith, c_is.net, length-append p.nets (name ∷ [])); top_pin = c_is.top_pin; bottom_pin = c_is.bottom_pin }) p.conns is.conns;
}

same_offset : (p q : Netlist) (conn : Conn) (die : Die) (at : ℕ × ℕ) → p.plan ≡ q.plan → p.cells ≡ q.cells → IsOffsetOf p conn die at → IsOffsetOf q conn die at
unfolding lib_on pin_on
same_offset p q conn die at same_plan same_cells is = record {
  is = ap (λ plan. offset_of (unwrap_or (slice_get (unwrap_or (lib_for plan (unwrap_or (option_map (λ (c : Cell). c.lib) (slice_get q.cells conn.cell.0)) 0) die) no_lib).pins (pin_of conn die)) no_pin)) (sym same_plan)
      ∙ ap (λ cells. offset_of (unwrap_or (slice_get (unwrap_or (lib_for p.plan (unwrap_or (option_map (λ (c : Cell). c.lib) (slice_get cells conn.cell.0)) 0) die) no_lib).pins (pin_of conn die)) no_pin)) (sym same_cells)
      ∙ is.is;
  x = is.x;
  y = is.y;
}

same_kept_conn : (p q : Netlist) → p.plan ≡ q.plan → p.cells ≡ q.cells → (kept : KeptConn) → IsKeptConn p kept → IsKeptConn q kept
same_kept_conn p q same_plan same_cells kept is = record {
  top = same_offset p q kept.conn Top kept.top same_plan same_cells is.top;
  bottom = same_offset p q kept.conn Bottom kept.bottom same_plan same_cells is.bottom;
}

pub net_added : (plan : Plan) (names : List (List ℕ)) (cells : List KeptCell) (nets new_nets : List (List ℕ)) (conns : List KeptConn) (p : Netlist) (name : List ℕ)
    → IsKept plan names cells nets conns → netlist_of plan names cells nets conns ≡ p → length p.nets < 2 ^ 18 → place_of name p.nets ≡ None
    → new_nets ≡ nets ++ name ∷ [] → IsKeptAs plan names cells new_nets conns (with_net p name)
net_added plan names cells nets new_nets conns p name is view room new more =
    subst (λ ns. IsKeptAs plan names cells ns conns (with_net p name)) (sym more)
    (record { kept = all_kept; view = ap (λ q. with_net q name) view })
  where
    all_kept : IsKept plan names cells (nets ++ name ∷ []) conns
    all_kept = record {
      as_many = is.as_many;
      sound = net_sound (netlist_of plan names cells nets conns) name is.sound
          (subst (λ r. length r.nets < 2 ^ 18) (sym view) room) (subst (λ r. place_of name r.nets ≡ None) (sym view) new);
      sizes = is.sizes;
      offsets = All-weaker (IsKeptConn (netlist_of plan names cells nets conns)) (IsKeptConn (netlist_of plan names cells (nets ++ name ∷ []) conns))
          (same_kept_conn (netlist_of plan names cells nets conns) (netlist_of plan names cells (nets ++ name ∷ []) conns) refl refl) conns is.offsets;
    }

-- a pin that is found
pin_within : (o : Option Lib) (place : ℕ) (at : Point) → option_map offset_of (option_and_then (λ l. slice_get l.pins place) o) ≡ Some at
    → place < unwrap_or (option_map (λ (l : Lib). length l.pins) o) 0
pin_within None place at e = absurd (let no : None ≡ Some at = e in cc)
pin_within (Some l) place at e = by (slice_get l.pins place) refl
  where
    by : (o : Option Pin) → slice_get l.pins place ≡ o → place < length l.pins
    by None here = absurd (let no : None ≡ Some at = ap (option_map offset_of) (sym here) ∙ e in cc)
    by (Some pin) here = slice_get_within l.pins place pin here

pin_read : (o : Option Lib) (place : ℕ) (at : Point) → option_map offset_of (option_and_then (λ l. slice_get l.pins place) o) ≡ Some at
    → offset_of (unwrap_or (slice_get (unwrap_or o no_lib).pins place) no_pin) ≡ at
pin_read None place at e = absurd (let no : None ≡ Some at = e in cc)
pin_read (Some l) place at e = by (slice_get l.pins place) e
  where
    by : (o : Option Pin) → option_map offset_of o ≡ Some at → offset_of (unwrap_or o no_pin) ≡ at
    by None f = absurd (let no : None ≡ Some at = f in cc)
    by (Some pin) f = same_Some (offset_of pin) at f

pin_is_offset : (p : Netlist) (conn : Conn) (name : List ℕ) (die : Die) (at : ℕ × ℕ) → IsPinOf p.plan (lib_of p conn.cell.0) name die (pin_of conn die) at → IsOffsetOf p conn die at
unfolding lib_on pin_on
pin_is_offset p conn name die at is = record {
  is = pin_read (lib_for p.plan (lib_of p conn.cell.0) die) (pin_of conn die) (point_of at) is.point;
  x = is.x;
  y = is.y;
}

conn_is : (a : Conn) (cell : CellId) (net : NetId) (top bottom : ℕ) → a.cell ≡ cell → a.net ≡ net → a.top_pin ≡ top → a.bottom_pin ≡ bottom
    → a ≡ record { cell = cell; net = net; top_pin = top; bottom_pin = bottom }
conn_is a cell net top bottom cell_is net_is top_is bottom_is =
    ap (λ c. record { cell = c; net = a.net; top_pin = a.top_pin; bottom_pin = a.bottom_pin }) cell_is
    ∙ ap (λ n. record { cell = cell; net = n; top_pin = a.top_pin; bottom_pin = a.bottom_pin }) net_is
    ∙ ap (λ t. record { cell = cell; net = net; top_pin = t; bottom_pin = a.bottom_pin }) top_is
    ∙ ap (λ b. record { cell = cell; net = net; top_pin = top; bottom_pin = b }) bottom_is

-- adding a connection
conn_sound : (p : Netlist) (conn : Conn) → IsSound p → length p.conns < 2 ^ 21 → IsConn p conn → IsSound (record p { conns = p.conns ++ conn ∷ [] })
conn_sound p conn is room conn_ok = record {
  plan = is.plan;
  book = is.book;
  few_cells = is.few_cells;
  few_nets = is.few_nets;
  few_conns = omega (arith, length-append p.conns (conn ∷ []));
  cells_apart = is.cells_apart;
  nets_apart = is.nets_apart;
  cells = All-weaker (IsCell p) (IsCell (record p { conns = p.conns ++ conn ∷ [] })) (λ c c_is. record { top = c_is.top; bottom = c_is.bottom }) p.cells is.cells;
  conns = All-push (IsConn (record p { conns = p.conns ++ conn ∷ [] })) p.conns conn
      (All-weaker (IsConn p) (IsConn (record p { conns = p.conns ++ conn ∷ [] }))
      (λ c c_is. record { cell = c_is.cell; net = c_is.net; top_pin = c_is.top_pin; bottom_pin = c_is.bottom_pin }) p.conns is.conns)
      (record { cell = conn_ok.cell; net = conn_ok.net; top_pin = conn_ok.top_pin; bottom_pin = conn_ok.bottom_pin });
}

pub conn_added : (plan : Plan) (names : List (List ℕ)) (cells : List KeptCell) (nets : List (List ℕ)) (conns new_conns : List KeptConn) (p : Netlist) (net : NetId) (cell : CellId) (name : List ℕ) (kept : KeptConn)
    → IsKept plan names cells nets conns → netlist_of plan names cells nets conns ≡ p → length p.conns < 2 ^ 21 → net.0 < length p.nets → cell.0 < length p.cells
    → IsConnOf plan (lib_of p cell.0) net cell name kept → new_conns ≡ conns ++ kept ∷ []
    → IsKeptAs plan names cells nets new_conns (with_conn p net.0 cell.0 name)
conn_added plan names cells nets conns new_conns p net cell name kept is view room net_there cell_there of more =
    subst (λ cs. IsKeptAs plan names cells nets cs (with_conn p net.0 cell.0 name)) (sym more)
    (subst (λ r. length r.conns < 2 ^ 21 → net.0 < length r.nets → cell.0 < length r.cells → IsConnOf plan (lib_of r cell.0) net cell name kept → IsKeptAs plan names cells nets (conns ++ kept ∷ []) (with_conn r net.0 cell.0 name))
    view added room net_there cell_there of)
  where
    added : length (map (λ (k : KeptConn). k.conn) conns) < 2 ^ 21 → net.0 < length nets → cell.0 < length (cells_of names cells)
        → IsConnOf plan (lib_of (netlist_of plan names cells nets conns) cell.0) net cell name kept
        → IsKeptAs plan names cells nets (conns ++ kept ∷ []) (with_conn (netlist_of plan names cells nets conns) net.0 cell.0 name)
    added room net_there cell_there of = record { kept = all_kept; view = as_added ∙ ap (λ c. record q { conns = q.conns ++ c ∷ [] }) is_conn }
      where
        q : Netlist
        q = netlist_of plan names cells nets conns

        there : kept.conn.cell.0 < length (cells_of names cells)
        there = subst (λ (c : CellId). c.0 < length (cells_of names cells)) (sym of.cell_is) cell_there

        libs : lib_of (netlist_of plan names cells nets conns) kept.conn.cell.0 ≡ lib_of (netlist_of plan names cells nets conns) cell.0
        libs = ap (λ (c : CellId). lib_of (netlist_of plan names cells nets conns) c.0) of.cell_is

        top : IsPinOf plan (lib_of (netlist_of plan names cells nets conns) kept.conn.cell.0) name Top kept.conn.top_pin kept.top
        top = subst (λ l. IsPinOf plan l name Top kept.conn.top_pin kept.top) (sym libs) of.top

        bottom : IsPinOf plan (lib_of (netlist_of plan names cells nets conns) kept.conn.cell.0) name Bottom kept.conn.bottom_pin kept.bottom
        bottom = subst (λ l. IsPinOf plan l name Bottom kept.conn.bottom_pin kept.bottom) (sym libs) of.bottom

        conn_ok : IsConn (netlist_of plan names cells nets conns) kept.conn
        conn_ok = record {
          cell = there;
          net = subst (λ (n : NetId). n.0 < length nets) (sym of.net_is) net_there;
          top_pin = pin_within (lib_for plan (lib_of (netlist_of plan names cells nets conns) kept.conn.cell.0) Top) kept.conn.top_pin (point_of kept.top) top.point;
          bottom_pin = pin_within (lib_for plan (lib_of (netlist_of plan names cells nets conns) kept.conn.cell.0) Bottom) kept.conn.bottom_pin (point_of kept.bottom) bottom.point;
        }

        as_added : netlist_of plan names cells nets (conns ++ kept ∷ []) ≡ record (netlist_of plan names cells nets conns) { conns = map (λ (k : KeptConn). k.conn) conns ++ kept.conn ∷ [] }
        as_added = ap (λ cs. record { plan = plan; cells = cells_of names cells; nets = nets; conns = cs }) (map-append (λ (k : KeptConn). k.conn) conns (kept ∷ []))

        is_conn : kept.conn ≡ conn_for (netlist_of plan names cells nets conns) net.0 cell.0 name
        is_conn = conn_is kept.conn cell net (unwrap_or (pin_for plan (lib_of (netlist_of plan names cells nets conns) cell.0) name Top) 0) (unwrap_or (pin_for plan (lib_of (netlist_of plan names cells nets conns) cell.0) name Bottom) 0)
            of.cell_is of.net_is (sym (ap (λ o. unwrap_or o 0) of.top.is)) (sym (ap (λ o. unwrap_or o 0) of.bottom.is))

        all_kept : IsKept plan names cells nets (conns ++ kept ∷ [])
        all_kept = record {
          as_many = is.as_many;
          sound = subst IsSound (sym as_added) (conn_sound (netlist_of plan names cells nets conns) kept.conn is.sound room conn_ok);
          sizes = is.sizes;
          offsets = subst (λ r. All (IsKeptConn r) (conns ++ kept ∷ [])) (sym as_added)
              (All-weaker (IsKeptConn (netlist_of plan names cells nets conns)) (IsKeptConn (record (netlist_of plan names cells nets conns) { conns = map (λ (k : KeptConn). k.conn) conns ++ kept.conn ∷ [] }))
              (same_kept_conn (netlist_of plan names cells nets conns) (record (netlist_of plan names cells nets conns) { conns = map (λ (k : KeptConn). k.conn) conns ++ kept.conn ∷ [] }) refl refl)
              (conns ++ kept ∷ [])
              (All-push (IsKeptConn (netlist_of plan names cells nets conns)) conns kept is.offsets (record {
                top = pin_is_offset (netlist_of plan names cells nets conns) kept.conn name Top kept.top top;
                bottom = pin_is_offset (netlist_of plan names cells nets conns) kept.conn name Bottom kept.bottom bottom;
              })));
        }

-- where nothing refuses
pub nothing_refused : (n most : ℕ) (twice unknown : Bool) → n < most → twice ≡ false → unknown ≡ false → refusal (nat_le most n) twice unknown ≡ None
nothing_refused n most twice unknown room once known = grind (arith, nat_tests)

-- where something refuses
pub refused_full : (n most : ℕ) (twice unknown : Bool) → most ≤ n → refusal (nat_le most n) twice unknown ≡ Some Limit
refused_full n most twice unknown full = grind (arith, nat_tests)

pub refused_twice : (n most : ℕ) (twice unknown : Bool) → n < most → twice ≡ true → refusal (nat_le most n) twice unknown ≡ Some Twice
refused_twice n most twice unknown room there = grind (arith, nat_tests)

pub refused_unknown : (n most : ℕ) (twice unknown : Bool) → n < most → twice ≡ false → unknown ≡ true → refusal (nat_le most n) twice unknown ≡ Some Unknown
refused_unknown n most twice unknown room once lacks = grind (arith, nat_tests)

-- a library cell that a die lacks is refused, after a name that is there
pub refused_lacking : {A : Type 0} (n most : ℕ) (twice unknown : Bool) (answer : A) (old grown : Netlist) (fault : BuildFault) → n < most → unknown ≡ true
    → fault ≡ (if twice then Twice else Unknown) → Adds (refusal (nat_le most n) twice unknown) answer old grown (Err fault) old
refused_lacking n most true unknown answer old grown fault room lacks is =
    subst (λ f. Adds (refusal (nat_le most n) true unknown) answer old grown (Err f) old) (sym is) (refused_twice n most true unknown room refl, refl)
refused_lacking n most false unknown answer old grown fault room lacks is =
    subst (λ f. Adds (refusal (nat_le most n) false unknown) answer old grown (Err f) old) (sym is) (refused_unknown n most false unknown room refl lacks, refl)

pub none_if : {A : Type 0} (o : Option A) → is_some o ≡ false → o ≡ None
none_if None e = refl
none_if (Some x) e = cc

-- what adding a name made of the names, by its answer
pub name_old : (kept new names : List (List ℕ)) (name : List ℕ) (is_new : Bool) → kept ≡ names → is_new ≡ not (is_among name kept) → new ≡ with_name kept name → is_new ≡ false
    → (is_among name names ≡ true) × (new ≡ kept)
name_old kept new names name is_new same told grown old =
    let found = there (is_among name kept) is_new told old in
    (ap (is_among name) (sym same) ∙ found, grown ∙ ap (λ b. if b then kept else kept ++ name ∷ []) found)
  where
    there : (b n : Bool) → n ≡ not b → n ≡ false → b ≡ true
    there true n e o = refl
    there false true e o = cc
    there false false e o = cc

pub name_new : (kept new names : List (List ℕ)) (name : List ℕ) (is_new : Bool) → kept ≡ names → is_new ≡ not (is_among name kept) → new ≡ with_name kept name → is_new ≡ true
    → (place_of name names ≡ None) × (new ≡ kept ++ name ∷ [])
name_new kept new names name is_new same told grown added =
    let free = absent (is_among name kept) is_new told added in
    (ap (place_of name) (sym same) ∙ none_if (place_of name kept) free, grown ∙ ap (λ b. if b then kept else kept ++ name ∷ []) free)
  where
    absent : (b n : Bool) → n ≡ not b → n ≡ true → b ≡ false
    absent false n e o = refl
    absent true true e o = cc
    absent true false e o = cc

both_there : {A B : Type 0} (a : Option A) (b : Option B) → is_some a ≡ true → is_some b ≡ true → (is_none a || is_none b) ≡ false
both_there None b some other = absurd (let no : false ≡ true = some in cc)
both_there (Some x) None some other = absurd (let no : false ≡ true = other in cc)
both_there (Some x) (Some y) some other = refl

pub lib_there : (plan : Plan) (kept : KeptCell) (die : Die) → IsKeptCell plan kept → is_some (lib_for plan kept.lib.0 die) ≡ true
lib_there plan kept Top is = size_there (lib_for plan kept.lib.0 Top) kept.top is.top.is
lib_there plan kept Bottom is = size_there (lib_for plan kept.lib.0 Bottom) kept.bottom is.bottom.is

pub lib_known : (plan : Plan) (kept : KeptCell) → IsKeptCell plan kept → (is_none (lib_for plan kept.lib.0 Top) || is_none (lib_for plan kept.lib.0 Bottom)) ≡ false
lib_known plan kept is = both_there (lib_for plan kept.lib.0 Top) (lib_for plan kept.lib.0 Bottom) (lib_there plan kept Top is) (lib_there plan kept Bottom is)

pub pin_known : (plan : Plan) (lib : ℕ) (net : NetId) (cell : CellId) (name : List ℕ) (kept : KeptConn) → IsConnOf plan lib net cell name kept
    → (is_none (pin_for plan lib name Top) || is_none (pin_for plan lib name Bottom)) ≡ false
pin_known plan lib net cell name kept is =
    both_there (pin_for plan lib name Top) (pin_for plan lib name Bottom) (ap is_some is.top.is) (ap is_some is.bottom.is)

-- what a test and a read of the kept lists say of the value
pub name_free : (kept names : List (List ℕ)) (name : List ℕ) (place : Option ℕ) (found : Bool) → kept ≡ names → place ≡ place_of name kept → found ≡ is_some place → found ≡ false
    → place_of name names ≡ None
name_free kept names name place found same looked tested absent = ap (place_of name) (sym same) ∙ sym looked ∙ none_if place (sym tested ∙ absent)

pub lib_read : (cells : List KeptCell) (p : Netlist) (k : ℕ) (kept : KeptCell) → ((k : ℕ) (d : KeptCell) → k < length cells → (get_or cells k d).lib.0 ≡ lib_of p k)
    → length cells ≡ length p.cells → k < length p.cells → kept ≡ get_or cells k kept → kept.lib.0 ≡ lib_of p k
lib_read cells p k kept lib many within read = ap (λ (c : KeptCell). c.lib.0) read ∙ lib k kept (omega arith)

-- what is kept with a cell is what is asked of it
size_read : (o : Option Lib) (size : ℕ × ℕ) → option_map size_of o ≡ Some size → size_of (unwrap_or o no_lib) ≡ size
size_read None size e = absurd (let nothing : None ≡ Some size = e in cc)
size_read (Some l) size e = same_Some (size_of l) size e

size_of_kept : (plan : Plan) (kept : KeptCell) (lib : ℕ) (die : Die) → kept.lib.0 ≡ lib → IsKeptCell plan kept → IsSizeOf (lib_for plan lib die) (size_kept kept die)
size_of_kept plan kept lib Top same is = subst (λ l. IsSizeOf (lib_for plan l Top) kept.top) same is.top
size_of_kept plan kept lib Bottom same is = subst (λ l. IsSizeOf (lib_for plan l Bottom) kept.bottom) same is.bottom

pub record IsSeenSize (p : Netlist) (cell : ℕ) (die : Die) (size : ℕ × ℕ) : Type 0 where
  pub width_is : size.0 ≡ width p cell die
  pub height_is : size.1 ≡ height p cell die
  pub widths : (1 ≤ size.0) × (size.0 ≤ 2 ^ 30)
  pub heights : (1 ≤ size.1) × (size.1 ≤ 2 ^ 30)

size_shown : (p : Netlist) (cell : ℕ) (die : Die) (size : ℕ × ℕ) → IsSizeOf (lib_at p (lib_of p cell) die) size → IsSeenSize p cell die size
unfolding lib_on
size_shown p cell die size is =
    let same = size_read (lib_at p (lib_of p cell) die) size is.is in
    record { width_is = sym (ap (λ s. s.0) same); height_is = sym (ap (λ s. s.1) same); widths = (is.some_width, is.width); heights = (is.some_height, is.height) }

pub size_seen : (plan : Plan) (names : List (List ℕ)) (cells : List KeptCell) (nets : List (List ℕ)) (conns : List KeptConn) (p : Netlist) → IsSeen plan names cells nets conns p
    → (cell : ℕ) (die : Die) (kept : KeptCell) (size : ℕ × ℕ) → cell < length p.cells → kept ≡ get_or cells cell kept → size ≡ size_kept kept die → IsSeenSize p cell die size
size_seen plan names cells nets conns p s cell die kept size within read is =
    subst (IsSeenSize p cell die) (sym is)
    (size_shown p cell die (size_kept kept die)
    (size_of_kept p.plan kept (lib_of p cell) die (lib_read cells p cell kept s.lib s.many within read)
    (subst (IsKeptCell p.plan) (sym read) (s.cell cell kept (omega (arith, s.many))))))

-- and what is kept with a connection
offset_of_kept : (p : Netlist) (kept : KeptConn) (die : Die) → IsKeptConn p kept → IsOffsetOf p kept.conn die (offset_kept kept die)
offset_of_kept p kept Top is = is.top
offset_of_kept p kept Bottom is = is.bottom

pub conn_at : (conns : List KeptConn) (all : List Conn) (k : ℕ) (kept : KeptConn) → map (λ (x : KeptConn). x.conn) conns ≡ all → k < length all → kept ≡ get_or conns k kept
    → slice_get all k ≡ Some kept.conn
conn_at conns all k kept same within read =
    let inside : k < length conns = omega (arith, ap length same, length-map conns (λ (x : KeptConn). x.conn)) in
    slice_get-get_or all k kept.conn within
    ∙ ap Some (ap (λ xs. get_or xs k kept.conn) (sym same) ∙ get_or-map (λ (x : KeptConn). x.conn) conns k kept kept.conn inside ∙ ap (λ (x : KeptConn). x.conn) (sym read))

pub offset_seen : (plan : Plan) (names : List (List ℕ)) (cells : List KeptCell) (nets : List (List ℕ)) (conns : List KeptConn) (p : Netlist) → IsSeen plan names cells nets conns p
    → (k : ℕ) (die : Die) (kept : KeptConn) (at : ℕ × ℕ) → k < length p.conns → kept ≡ get_or conns k kept → at ≡ offset_kept kept die → IsOffsetOf p kept.conn die at
offset_seen plan names cells nets conns p s k die kept at within read is =
    subst (IsOffsetOf p kept.conn die) (sym is)
    (offset_of_kept p kept die (subst (IsKeptConn p) (sym read) (s.conn k kept (omega (arith, s.many_conns)))))

pub conn_in_range : (p : Netlist) (k : ℕ) (conn : Conn) → IsSound p → slice_get p.conns k ≡ Some conn → IsConn p conn
conn_in_range p k conn is at = subst (IsConn p) (get_or_from_slice_get p.conns k conn conn at) (is.conns k conn (slice_get_within p.conns k conn at))

pub keys_in_range : (p : Netlist) (conns : List KeptConn) (cells nets : ℕ) → All (IsConn p) (map (λ kept. kept.conn) conns) → cells ≡ length p.cells → nets ≡ length p.nets
    → All (λ kept. kept.conn.cell.0 < cells) conns × All (λ kept. kept.conn.net.0 < nets) conns
keys_in_range p conns cells nets all many many_nets =
    ((λ k d below. let at = of k d below in omega (arith, at.cell)), (λ k d below. let at = of k d below in omega (arith, at.net)))
  where
    of : (k : ℕ) (d : KeptConn) → k < length conns → IsConn p (get_or conns k d).conn
    of k d below =
        subst (IsConn p) (get_or-map (λ (kept : KeptConn). kept.conn) conns k d d.conn below) (all k d.conn (omega (arith, length-map conns (λ (kept : KeptConn). kept.conn))))

-- the groups are the lists of cells and of nets
ids_where-map : {A B : Type 0} (f : A → B) (test : B → Bool) (i : ℕ) (xs : List A) → ids_where (λ x. test (f x)) i xs ≡ ids_where test i (map f xs)
unfolding ids_where
ids_where-map f test i [] = refl
ids_where-map f test i (x ∷ xs) = ap (λ rest. if test (f x) then i ∷ rest else rest) (ids_where-map f test (i + 1) xs)

pub cell_members : (conns : List KeptConn) (p : Netlist) (k : ℕ) → map (λ kept. kept.conn) conns ≡ p.conns → members_of k (cell_keys conns) ≡ map conn_id (conns_of_cell p k)
unfolding conns_of_cell
cell_members conns p k same =
    ap (map conn_id) (sym (ids_where-map (λ (kept : KeptConn). kept.conn.cell.0) (λ key. key == k) 0 conns) ∙ ids_where-map (λ (kept : KeptConn). kept.conn) (λ (conn : Conn). conn.cell.0 == k) 0 conns
    ∙ ap (ids_where (λ (conn : Conn). conn.cell.0 == k) 0) same)

pub net_members : (conns : List KeptConn) (p : Netlist) (k : ℕ) → map (λ kept. kept.conn) conns ≡ p.conns → members_of k (net_keys conns) ≡ map conn_id (conns_of_net p k)
unfolding conns_of_net
net_members conns p k same =
    ap (map conn_id) (sym (ids_where-map (λ (kept : KeptConn). kept.conn.net.0) (λ key. key == k) 0 conns) ∙ ids_where-map (λ (kept : KeptConn). kept.conn) (λ (conn : Conn). conn.net.0 == k) 0 conns
    ∙ ap (ids_where (λ (conn : Conn). conn.net.0 == k) 0) same)
