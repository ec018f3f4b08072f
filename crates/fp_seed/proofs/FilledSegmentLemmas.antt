-- Lemmas of a die's segments as cells are put on them.
use Rattle.std.specs.Prelude.{◌≡◌, ℕ, zero, suc, ◌+◌, ◌<◌, ◌≤◌, ◌^◌, Bool, true, false, ◌&&◌, nat_lt, int_le, if◌then◌else◌, cond, List, [], ◌∷◌, ◌++◌, length, get_or, set, replicate, Some, None, ℤ, pos, ◌+ℤ◌, ◌≤ℤ◌, ◌⊎◌, unwrap_or}
use Rattle.std.proofs.Common.{refl, sym, ap, subst, ◌∙◌, arith, inl, inr}
use Rattle.std.proofs.lemmas.List.{get_or-replicate, length-replicate, length-set, get_or-set_same, get_or-set_other, get_or_past}
use Rattle.std.proofs.lemmas.Bool.{cases_lt, cases_eq, false_from_ne_true}
use Rattle.std.proofs.lemmas.Bool.Decides.{nat_tests}
use Rattle.std.proofs.lemmas.Option.{slice_get-get_or}
use Rattle.std.proofs.lemmas.Int.{ints}
use Rattle.fp_base.specs.declared.ids.Die.{Die}
use Rattle.fp_base.specs.declared.ids.CellId.{CellId}
use Rattle.fp_tech.specs.Plan.{Plan, IsPlan, segments}
use Rattle.fp_netlist.specs.Netlist.{Netlist, lib_of, lib_at, ids_where}
use Rattle.fp_netlist.specs.Points.{no_lib, width, lib_on}
use Rattle.fp_place.specs.Areas.{fits}
use Rattle.fp_place.specs.Held.{Held, has_room}
use Rattle.fp_place.specs.Placed.{LaneList}
use Rattle.fp_place.specs.PlacedLaws.{LiesInRange, segment_in_range}
use Rattle.fp_score.specs.FirstFit.{no_segment, segment_at, sitters, used_from, first_from}
use Rattle.fp_seed.specs.FilledSegments.{holds, room_in, IsReady, HoldsSeats}
use Rattle.fp_seed.specs.FeasibleLaws.{at_most}

-- a segment by its number lies in range
pub segment_lies : (plan : Plan) (die : Die) (number : ℕ) → IsPlan plan → number < length (segments plan die) → LiesInRange (segment_at plan die number)
segment_lies plan die number is below =
    segment_in_range plan is die number (segment_at plan die number) (slice_get-get_or (segments plan die) number no_segment below)

-- each element of a list of one value is that value
pub get_or-alike : {A : Type 0} (n i : ℕ) (a : A) → get_or (replicate n a) i a ≡ a
get_or-alike n i a = by (cases_lt i n)
  where
    by : (i < n) ⊎ (n ≤ i) → get_or (replicate n a) i a ≡ a
    by (inl below) = get_or-replicate n i a a below
    by (inr past) = get_or_past (replicate n a) i a (omega (arith, length-replicate n a))

-- before any cell is put on a segment all lengths are 0, and no segment was passed
pub ready_none : (p : Netlist) (die : Die) (n : ℕ) (first : List ℕ) → n ≡ length (segments p.plan die) → length first ≡ 2 ^ 16 → ((k : ℕ) → get_or first k 0 ≡ 0)
    → IsReady p die (replicate n (pos 0)) first (replicate n [])
ready_none p die n first many libs zeros = record {
  many = length-replicate n (pos 0) ∙ many;
  as_many = length-replicate n [] ∙ many;
  libs = libs;
  low = λ s. subst (λ u. pos 0 ≤ℤ u) (sym (get_or-alike n s (pos 0))) (omega (arith, ints));
  high = λ s. subst (λ u. u ≤ℤ pos (2 ^ 30)) (sym (get_or-alike n s (pos 0))) (omega (arith, ints));
  passed = λ cell cell_in s before. absurd (omega (arith, before, zeros (lib_of p cell)));
}

pub holds_none : (p : Netlist) (die : Die) (n : ℕ) → HoldsSeats p die [] (replicate n (pos 0)) (replicate n [])
unfolding used_from sitters ids_where
holds_none p die n = record {
  used_at = λ s below. get_or-alike n s (pos 0);
  lane_at = λ s below. get_or-alike n s [];
}

-- cells of one library cell are held alike
held_alike : (p : Netlist) (die : Die) (used : List ℤ) (a b s : ℕ) → lib_of p a ≡ lib_of p b → holds p die used a s ≡ holds p die used b s
unfolding holds lib_on
held_alike p die used a b s same =
    ap (λ lib. int_le (get_or used s (pos 0) +ℤ pos (unwrap_or (lib_at p lib die) no_lib).width) (segment_at p.plan die s).length) same

-- a search that found a segment passes those before it for each cell of the library cell
pub ready_found : (p : Netlist) (die : Die) (used : List ℤ) (first : List ℕ) (lanes : LaneList) (cell next : ℕ) → IsReady p die used first lanes
    → lib_of p cell < 2 ^ 16 → ((s : ℕ) → get_or first (lib_of p cell) 0 ≤ s → s < next → holds p die used cell s ≡ false) → cell < length p.cells
    → IsReady p die used (set first (lib_of p cell) next) lanes
ready_found p die used first lanes cell next is small too_full cell_in = record {
  many = is.many;
  as_many = is.as_many;
  libs = length-set first (lib_of p cell) next ∙ is.libs;
  low = is.low;
  high = is.high;
  passed = λ other other_in s before. by other other_in s before (cases_eq (lib_of p other) (lib_of p cell));
}
  where
    here : (s : ℕ) → s < next → (s < get_or first (lib_of p cell) 0) ⊎ (get_or first (lib_of p cell) 0 ≤ s) → holds p die used cell s ≡ false
    here s before (inl earlier) = is.passed cell cell_in s earlier
    here s before (inr now) = too_full s now before

    by : (other : ℕ) → other < length p.cells → (s : ℕ) → s < get_or (set first (lib_of p cell) next) (lib_of p other) 0
        → (lib_of p other ≡ lib_of p cell) ⊎ (lib_of p other ≡ lib_of p cell → ⊥) → holds p die used other s ≡ false
    by other other_in s before (inl same) =
        let at : get_or (set first (lib_of p cell) next) (lib_of p cell) 0 ≡ next = get_or-set_same first (lib_of p cell) next 0 (omega (arith, is.libs)) in
        let below : s < next = omega (arith, before, at, ap (λ lib. get_or (set first (lib_of p cell) next) lib 0) same) in
        held_alike p die used other cell s same ∙ here s below (cases_lt s (get_or first (lib_of p cell) 0))
    by other other_in s before (inr differs) =
        is.passed other other_in s (omega (arith, before, get_or-set_other first (lib_of p cell) (lib_of p other) next 0 differs))

-- where a search stops is the first number that passes
first_is : (test : ℕ → Bool) (n i result : ℕ) → i ≤ result → ((s : ℕ) → i ≤ s → s < result → test s ≡ false) → (result < i + n → test result ≡ true)
    → result ≤ i + n → first_from test i n ≡ cond (nat_lt result (i + n)) (Some result) None
unfolding first_from
first_is test zero i result least passed found most = grind (arith, nat_tests)
first_is test (suc n) i result least passed found most =
    let same : i + 1 + n ≡ i + suc n = omega arith in
    by (λ later. subst (λ m. first_from test (i + 1) n ≡ cond (nat_lt result m) (Some result) None) same
    (first_is test n (i + 1) result (omega arith) (λ s from before. passed s (omega arith) before) (λ below. found (omega arith)) (omega arith)))
    (test i) refl (cases_lt i result)
  where
    by : (i < result → first_from test (i + 1) n ≡ cond (nat_lt result (i + suc n)) (Some result) None) → (b : Bool) → test i ≡ b → (i < result) ⊎ (result ≤ i)
        → (if b then Some i else first_from test (i + 1) n) ≡ cond (nat_lt result (i + suc n)) (Some result) None
    by rest true e (inl later) = absurd (let nothing : false ≡ true = sym (passed i (omega arith) later) ∙ e in cc)
    by rest true e (inr now) = let same : i ≡ result = omega arith in grind (arith, nat_tests)
    by rest false e (inl later) = rest later
    by rest false e (inr now) =
        let same : result ≡ i = omega arith in
        absurd (let nothing : false ≡ true = sym e ∙ ap test (sym same) ∙ found (omega arith) in cc)

-- what is found is the first segment that has room
pub room_is : (p : Netlist) (held : Held) (die : Die) (used : List ℤ) (first : List ℕ) (lanes : LaneList) (cell next : ℕ) → IsReady p die used first lanes
    → cell < length p.cells → (fits p cell die && has_room p held cell die) ≡ true → next ≤ length (segments p.plan die)
    → ((s : ℕ) → get_or first (lib_of p cell) 0 ≤ s → s < next → holds p die used cell s ≡ false)
    → (next < length (segments p.plan die) → holds p die used cell next ≡ true)
    → cond (nat_lt next (length (segments p.plan die))) (Some next) None ≡ room_in p held used cell die
unfolding room_in
room_is p held die used first lanes cell next is cell_in takes most too_full found =
    sym (ap (λ b. if b then first_from (holds p die used cell) 0 (length (segments p.plan die)) else None) takes
    ∙ (let same : 0 + length (segments p.plan die) ≡ length (segments p.plan die) = omega arith in
    subst (λ m. first_from (holds p die used cell) 0 (length (segments p.plan die)) ≡ cond (nat_lt next m) (Some next) None) same
    (first_is (holds p die used cell) (length (segments p.plan die)) 0 next (omega arith) (λ s from before. all s before (cases_lt s (get_or first (lib_of p cell) 0)))
    (λ below. found (omega arith)) (omega arith))))
  where
    all : (s : ℕ) → s < next → (s < get_or first (lib_of p cell) 0) ⊎ (get_or first (lib_of p cell) 0 ≤ s) → holds p die used cell s ≡ false
    all s before (inl earlier) = is.passed cell cell_in s earlier
    all s before (inr now) = too_full s now before

pub not_taken : (p : Netlist) (held : Held) (die : Die) (used : List ℤ) (cell : ℕ) → (fits p cell die && has_room p held cell die) ≡ false → None ≡ room_in p held used cell die
unfolding room_in
not_taken p held die used cell takes = sym (ap (λ b. if b then first_from (holds p die used cell) 0 (length (segments p.plan die)) else None) takes)

-- a cell is put on a segment that holds it
abbrev pub longer : Netlist → Die → List ℤ → ℕ → ℕ → List ℤ
longer p die used cell segment = set used segment (get_or used segment (pos 0) +ℤ pos (width p cell die))

-- what is held behind more is held behind less
held_before : (width : ℕ) (long u v : ℤ) → int_le (v +ℤ pos width) long ≡ true → u ≤ℤ v → int_le (u +ℤ pos width) long ≡ true
held_before width long u v h le = grind (arith, ints)

rises : (p : Netlist) (die : Die) (used : List ℤ) (cell segment s : ℕ) → segment < length used → get_or used s (pos 0) ≤ℤ get_or (longer p die used cell segment) s (pos 0)
rises p die used cell segment s within = by (cases_eq s segment)
  where
    by : (s ≡ segment) ⊎ (s ≡ segment → ⊥) → get_or used s (pos 0) ≤ℤ get_or (longer p die used cell segment) s (pos 0)
    by (inl same) =
        subst (λ j. get_or used j (pos 0) ≤ℤ get_or (longer p die used cell segment) j (pos 0)) (sym same)
        (subst (λ u. get_or used segment (pos 0) ≤ℤ u)
        (sym (get_or-set_same used segment (get_or used segment (pos 0) +ℤ pos (width p cell die)) (pos 0) within)) (omega (arith, ints)))
    by (inr other) =
        subst (λ u. get_or used s (pos 0) ≤ℤ u)
        (sym (get_or-set_other used segment s (get_or used segment (pos 0) +ℤ pos (width p cell die)) (pos 0) other)) (omega (arith, ints))

ready_longer : (p : Netlist) (die : Die) (used : List ℤ) (first : List ℕ) (lanes : LaneList) (segment : ℕ) (cell : CellId) → IsPlan p.plan
    → IsReady p die used first lanes → segment < length (segments p.plan die) → holds p die used cell.0 segment ≡ true
    → IsReady p die (longer p die used cell.0 segment) first (set lanes segment (get_or lanes segment [] ++ cell ∷ []))
unfolding holds
ready_longer p die used first lanes segment cell plan is within room = record {
  many = length-set used segment (get_or used segment (pos 0) +ℤ pos (width p cell.0 die)) ∙ is.many;
  as_many = length-set lanes segment (get_or lanes segment [] ++ cell ∷ []) ∙ is.as_many;
  libs = is.libs;
  low = λ s. omega (arith, ints, is.low s, rises p die used cell.0 segment s (omega (arith, is.many)));
  high = λ s. top s (cases_eq s segment);
  passed = λ other other_in s before. false_from_ne_true (int_le (get_or (longer p die used cell.0 segment) s (pos 0) +ℤ pos (width p other die)) (segment_at p.plan die s).length)
      (λ held. let h = held_before (width p other die) (segment_at p.plan die s).length (get_or used s (pos 0)) (get_or (longer p die used cell.0 segment) s (pos 0)) held
      (rises p die used cell.0 segment s (omega (arith, is.many))) in
      let nothing : false ≡ true = sym (is.passed other other_in s before) ∙ h in cc);
}
  where
    top : (s : ℕ) → (s ≡ segment) ⊎ (s ≡ segment → ⊥) → get_or (longer p die used cell.0 segment) s (pos 0) ≤ℤ pos (2 ^ 30)
    top s (inl same) =
        let lies = segment_lies p.plan die segment plan within in
        let ends : (get_or used segment (pos 0) +ℤ pos (width p cell.0 die)) ≤ℤ (segment_at p.plan die segment).length = at_most (get_or used segment (pos 0) +ℤ pos (width p cell.0 die)) (segment_at p.plan die segment).length room in
        subst (λ j. get_or (longer p die used cell.0 segment) j (pos 0) ≤ℤ pos (2 ^ 30)) (sym same)
        (subst (λ u. u ≤ℤ pos (2 ^ 30)) (sym (get_or-set_same used segment (get_or used segment (pos 0) +ℤ pos (width p cell.0 die)) (pos 0) (omega (arith, is.many))))
        (omega (arith, ints, ends, lies.length.most)))
    top s (inr other) =
        subst (λ u. u ≤ℤ pos (2 ^ 30)) (sym (get_or-set_other used segment s (get_or used segment (pos 0) +ℤ pos (width p cell.0 die)) (pos 0) other)) (is.high s)

pub ready_taken : (p : Netlist) (die : Die) (used : List ℤ) (first : List ℕ) (lanes more : LaneList) (segment : ℕ) (cell : CellId) (sum : ℤ) → IsPlan p.plan
    → IsReady p die used first lanes → segment < length (segments p.plan die) → holds p die used cell.0 segment ≡ true
    → sum ≡ get_or used segment (pos 0) +ℤ pos (width p cell.0 die) → more ≡ set lanes segment (get_or lanes segment [] ++ cell ∷ [])
    → IsReady p die (set used segment sum) first more
ready_taken p die used first lanes more segment cell sum plan is within room is_sum is_more =
    subst (λ u. IsReady p die (set used segment u) first more) (sym is_sum)
    (subst (IsReady p die (longer p die used cell.0 segment) first) (sym is_more) (ready_longer p die used first lanes segment cell plan is within room))

-- the sum that the code compares with a segment's length says whether the segment holds a cell
pub holds_is : (p : Netlist) (die : Die) (used : List ℤ) (cell segment : ℕ) (sum long : ℤ) → sum ≡ get_or used segment (pos 0) +ℤ pos (width p cell die)
    → long ≡ (segment_at p.plan die segment).length → int_le sum long ≡ holds p die used cell segment
unfolding holds
holds_is p die used cell segment sum long is_sum is_long =
    ap (λ s. int_le s long) is_sum ∙ ap (λ l. int_le (get_or used segment (pos 0) +ℤ pos (width p cell die)) l) is_long

-- a cell that is put on a segment ends within it, and the segment lies in range
pub record IsRoom (p : Netlist) (die : Die) (used : List ℤ) (cell segment : ℕ) : Type 0 where
  pub low : pos 0 ≤ℤ get_or used segment (pos 0)
  pub lies : LiesInRange (segment_at p.plan die segment)
  pub ends : (get_or used segment (pos 0) +ℤ pos (width p cell die)) ≤ℤ (segment_at p.plan die segment).length

pub room_at : (p : Netlist) (die : Die) (used : List ℤ) (first : List ℕ) (lanes : LaneList) (cell segment : ℕ) → IsPlan p.plan
    → IsReady p die used first lanes → segment < length (segments p.plan die) → holds p die used cell segment ≡ true → IsRoom p die used cell segment
unfolding holds
room_at p die used first lanes cell segment plan is within room = record {
  low = is.low segment;
  lies = segment_lies p.plan die segment plan within;
  ends = at_most (get_or used segment (pos 0) +ℤ pos (width p cell die)) (segment_at p.plan die segment).length room;
}

-- the used length of a segment is from 0 to 2^30, and the segment lies in range
pub record IsSmall (p : Netlist) (die : Die) (used : List ℤ) (segment : ℕ) : Type 0 where
  pub low : pos 0 ≤ℤ get_or used segment (pos 0)
  pub high : get_or used segment (pos 0) ≤ℤ pos (2 ^ 30)
  pub lies : LiesInRange (segment_at p.plan die segment)

pub small_at : (p : Netlist) (die : Die) (used : List ℤ) (first : List ℕ) (lanes : LaneList) (segment : ℕ) → IsPlan p.plan
    → IsReady p die used first lanes → segment < length (segments p.plan die) → IsSmall p die used segment
small_at p die used first lanes segment plan is within = record { low = is.low segment; high = is.high segment; lies = segment_lies p.plan die segment plan within }
