-- Cells that take segments one after the other, and the free lengths that are left.
use Rattle.std.specs.Prelude.{◌≡◌, ℕ, ◌+◌, ◌<◌, ◌≤◌, Bool, false, nat_eq, if◌then◌else◌, int_le, List, [], ◌∷◌, ◌++◌, length, get_or, Option, Some, None, Ok, Err, IsTrue, ◌⊎◌, ℤ, pos, ◌-ℤ◌, ◌≤ℤ◌}
use Rattle.std.proofs.Common.{refl, sym, ap, subst, ◌∙◌, arith, inl, inr, drop}
use Rattle.std.proofs.lemmas.Bool.{cases_eq, cases_lt, eq-eqb}
use Rattle.std.proofs.lemmas.Bool.Decides.{nat_tests}
use Rattle.std.proofs.lemmas.Int.{ints}
use Rattle.std.proofs.lemmas.List.{length-set, length-map, get_or-set_same, get_or-set_other, get_or-map, map-append, drop_more, drop_all}
use Rattle.std.proofs.lemmas.List.Sums.{sum_by_push}
use Rattle.std.proofs.Math.ListN.{get_or-eq_default}
use Rattle.fp_base.specs.declared.ids.CellId.{CellId}
use Rattle.fp_base.specs.declared.ids.Die.{Die}
use Rattle.fp_base.specs.declared.ids.Point.{Point}
use Rattle.fp_tech.specs.declared.dies.Segment.{Segment}
use Rattle.fp_tech.specs.Plan.{segments}
use Rattle.fp_netlist.specs.Netlist.{Netlist}
use Rattle.fp_netlist.specs.Points.{width}
use Rattle.fp_score.specs.FirstFit.{segment_at, no_segment}
use Rattle.fp_score.specs.Pick.{Taken, taken_width, is_open, reach_cost, point_at, nearest_open, or_no_row, taken_by}
use Rattle.fp_coarse.specs.declared.order.Choice.{Choice}
use Rattle.fp_coarse.specs.Rooms.{lengths, has_free}
use Rattle.fp_coarse.specs.Nearest.{cost_at, AreSegments, AreFree}
use Rattle.fp_coarse.specs.Orders.{numbers_of, taken_as, taken_of}
use Rattle.fp_coarse.specs.Picking.{AreLeft, IsNearest, lowered}
use Rattle.fp_coarse.specs.FirstsLaws.{least_is, least_once, least_alike}

-- a segment is open where its free length holds the cell
same_test : (used width : ℕ) (free long : ℤ) → free ≡ long -ℤ pos used → int_le (pos (used + width)) long ≡ int_le (pos width) free
same_test used width free long is = grind (arith, ints)

pub nearest_is : (p : Netlist) (targets : List Point) (die : Die) (taken : List Taken) (free : List ℤ) (cell : ℕ) (o : Option ℕ) → AreLeft p die taken free
    → IsNearest p targets die free cell o → nearest_open p die targets taken cell ≡ o
unfolding nearest_open cost_at reach_cost
nearest_is p targets die taken free cell o left is =
    least_once (is_open p die taken cell) (λ segment. reach_cost (segment_at p.plan die segment) (width p cell die) (point_at targets cell)) 0 (length (segments p.plan die))
    (nearest_open p die targets taken cell) o
    (least_is (is_open p die taken cell) (λ segment. reach_cost (segment_at p.plan die segment) (width p cell die) (point_at targets cell)) (length (segments p.plan die)))
    (least_alike (has_free free (pos (width p cell die))) (is_open p die taken cell) (cost_at (segments p.plan die) (pos (width p cell die)) (point_at targets cell))
    (length (segments p.plan die)) o
    (λ n below. same_test (taken_width p die n taken) (width p cell die) (get_or free n (pos 0)) (segment_at p.plan die n).length (left.left n below)) is)

-- one step
pub take_step : (p : Netlist) (targets : List Point) (die : Die) (taken : List Taken) (cell segment : ℕ) (cells : List ℕ) → nearest_open p die targets taken cell ≡ Some segment
    → taken_by p die targets taken (cell ∷ cells) ≡ taken_by p die targets (taken ++ record { cell = cell; segment = segment } ∷ []) cells
unfolding taken_by
take_step p targets die taken cell segment cells e =
    ap (λ (o : Option ℕ). or_no_row cell o (λ segment. taken_by p die targets (taken ++ record { cell = cell; segment = segment } ∷ []) cells)) e

pub take_none : (p : Netlist) (targets : List Point) (die : Die) (taken : List Taken) (cell : ℕ) (cells : List ℕ) → nearest_open p die targets taken cell ≡ None
    → taken_by p die targets taken (cell ∷ cells) ≡ Err cell
unfolding taken_by
take_none p targets die taken cell cells e =
    ap (λ (o : Option ℕ). or_no_row cell o (λ segment. taken_by p die targets (taken ++ record { cell = cell; segment = segment } ∷ []) cells)) e

pub take_end : (p : Netlist) (targets : List Point) (die : Die) (taken : List Taken) → taken_by p die targets taken [] ≡ Ok taken
unfolding taken_by
take_end p targets die taken = refl

-- the free lengths at first
pub left_first : (p : Netlist) (die : Die) (free : List ℤ) → AreSegments (segments p.plan die) → free ≡ lengths (segments p.plan die) → AreLeft p die [] free
unfolding taken_width
left_first p die free are is = record {
  many = ap length is ∙ length-map (segments p.plan die) (λ segment. segment.length);
  low = λ number. by number (cases_lt number (length (segments p.plan die)));
  left = λ number below. let here = free_at number below in omega (arith, ints, here);
}
  where
    free_at : (number : ℕ) → number < length (segments p.plan die) → get_or free number (pos 0) ≡ (segment_at p.plan die number).length
    free_at number below =
        ap (λ (l : List ℤ). get_or l number (pos 0)) is ∙ get_or-map (λ (segment : Segment). segment.length) (segments p.plan die) number no_segment (pos 0) below

    by : (number : ℕ) → (number < length (segments p.plan die)) ⊎ (length (segments p.plan die) ≤ number) → pos 0 ≤ℤ get_or free number (pos 0)
    by number (inl below) = omega (arith, ints, free_at number below, (are.each number below).some)
    by number (inr past) =
        let none : get_or free number (pos 0) ≡ pos 0 =
        get_or-eq_default free (pos 0) (omega (arith, past, ap length is ∙ length-map (segments p.plan die) (λ segment. segment.length))) in
        omega (arith, ints, none)

-- and after a cell took a segment
pub left_more : (p : Netlist) (die : Die) (taken : List Taken) (free new : List ℤ) (cell segment : ℕ) → AreLeft p die taken free → segment < length (segments p.plan die)
    → IsTrue (has_free free (pos (width p cell die)) segment) → new ≡ lowered free segment (width p cell die)
    → AreLeft p die (taken ++ record { cell = cell; segment = segment } ∷ []) new
unfolding taken_width
left_more p die taken free new cell segment is below room new_is = record {
  many = ap length new_is ∙ length-set free segment (get_or free segment (pos 0) -ℤ pos (width p cell die)) ∙ is.many;
  low = λ number. low number (cases_eq segment number);
  left = λ number inside. left number inside (cases_eq segment number);
}
  where
    holds : pos (width p cell die) ≤ℤ get_or free segment (pos 0)
    holds = grind (arith, ints)

    here : get_or new segment (pos 0) ≡ get_or free segment (pos 0) -ℤ pos (width p cell die)
    here = ap (λ (l : List ℤ). get_or l segment (pos 0)) new_is ∙ get_or-set_same free segment (get_or free segment (pos 0) -ℤ pos (width p cell die)) (pos 0) (omega (arith, below, is.many))

    there : (number : ℕ) → (segment ≡ number → ⊥) → get_or new number (pos 0) ≡ get_or free number (pos 0)
    there number apart = ap (λ (l : List ℤ). get_or l number (pos 0)) new_is
        ∙ get_or-set_other free segment number (get_or free segment (pos 0) -ℤ pos (width p cell die)) (pos 0) (λ e. apart (sym e))

    low : (number : ℕ) → ((segment ≡ number) ⊎ (segment ≡ number → ⊥)) → pos 0 ≤ℤ get_or new number (pos 0)
    low number (inl same) = subst (λ n. pos 0 ≤ℤ get_or new n (pos 0)) same (omega (arith, ints, here, holds))
    low number (inr apart) = omega (arith, ints, there number apart, is.low number)

    more : (number : ℕ) → taken_width p die number (taken ++ record { cell = cell; segment = segment } ∷ []) ≡ taken_width p die number taken + (if nat_eq segment number then width p cell die else 0)
    more number = sum_by_push (λ (t : Taken). if nat_eq t.segment number then width p t.cell die else 0) taken (record { cell = cell; segment = segment })

    left : (number : ℕ) → number < length (segments p.plan die) → ((segment ≡ number) ⊎ (segment ≡ number → ⊥))
        → get_or new number (pos 0) ≡ (segment_at p.plan die number).length -ℤ pos (taken_width p die number (taken ++ record { cell = cell; segment = segment } ∷ []))
    left number inside (inl same) =
        let added : (if nat_eq segment number then width p cell die else 0) ≡ width p cell die = ap (λ (b : Bool). if b then width p cell die else 0) (eq-eqb segment number same) in
        let new_here : get_or new number (pos 0) ≡ get_or free number (pos 0) -ℤ pos (width p cell die) =
        subst (λ n. get_or new n (pos 0) ≡ get_or free n (pos 0) -ℤ pos (width p cell die)) same here in
        omega (arith, ints, new_here, is.left number inside, more number, added)
    left number inside (inr apart) =
        let test : nat_eq segment number ≡ false = grind (arith, nat_tests) in
        let added : (if nat_eq segment number then width p cell die else 0) ≡ 0 = ap (λ (b : Bool). if b then width p cell die else 0) test in
        omega (arith, ints, there number apart, is.left number inside, more number, added)

-- free lengths are at most the segments'
pub left_free : (p : Netlist) (die : Die) (taken : List Taken) (free : List ℤ) → AreLeft p die taken free → AreFree (segments p.plan die) free
left_free p die taken free is = record { low = is.low; high = λ number below. omega (arith, ints, is.left number below) }

-- a turn of the loop
pub first_of : (order : List CellId) (i : ℕ) (d : CellId) → i < length order → numbers_of (drop i order) ≡ (get_or order i d).0 ∷ numbers_of (drop (i + 1) order)
first_of order i d below = ap numbers_of (drop_more order i d below)

pub none_left : (order : List CellId) (i : ℕ) → length order ≤ i → numbers_of (drop i order) ≡ []
none_left order i past = ap numbers_of (drop_all i order past)

pub taken_push : (choices : List Choice) (choice : Choice) → taken_of (choices ++ choice ∷ []) ≡ taken_of choices ++ taken_as choice ∷ []
taken_push choices choice = map-append taken_as choices (choice ∷ [])
