-- A tournament of ranks in one list: writing a node, playing matches again, and the best of a front of the slots.
use Rattle.std.proofs.Common.{◌≡◌, ◌≢◌, ℕ, zero, suc, ◌+◌, ◌-◌, ◌*◌, ◌/◌, ◌%◌, ◌^◌, ◌<◌, ◌≤◌, min, max, ◌⊎◌, inl, inr, List, [], ◌∷◌, ◌++◌, length, get_or, map, set, take, drop, replicate, length-set, length-append, length-drop, refl, sym, ap, subst, ◌∙◌, arith}
use Rattle.std.proofs.lemmas.Bool.{cases_lt, cases_eq}
use Rattle.std.proofs.lemmas.List.{ext_get_or, get_or-set_same, get_or-set_other, set-set, set-get_or, get_or-drop, get_or-take, get_or_append_left, get_or-map, append_assoc, length-map, length-take, length-replicate, drop-set-add, map-set}
use Rattle.std.proofs.lemmas.List.Elements.{All-get_or}
use Rattle.std.proofs.Math.Seq.{get_or-append_right, drop-append_seam, take-append_seam, take-set-lt}
use Rattle.std.specs.List.{All}
use Rattle.fp_base.specs.declared.ids.CellId.{CellId}
use Rattle.fp_gains.specs.declared.tournament.Leader.{Leader}
use Rattle.fp_gains.specs.Contests.{nobody, leader_at, unkeyed, keyed, rekeyed, dealt, leader_of, unkeyed_rank, keyed_rank, rank_at, leaders_in, IsBehind, IsMost, IsGreatest, IsWon, IsLaidOut, IsTree, IsPadded, IsKept, IsElsewhere, IsWaiting, IsTop, IsOuter, IsBest}

-- ranks and leaders
behind_with : (low high : ℕ) → low ≤ high → IsBehind (leader_of low) (leader_of high)
behind_with low high less = record { key = omega (arith, less); cell = λ same. omega (arith, less, same) }

abbrev parts : ℕ → ℕ → Leader
parts rest key = record { cell = record { 0 = 262143 - rest }; key = key }

keyed_leader : (key held : ℕ) → leader_of (keyed_rank held key) ≡ keyed (leader_of held) key
keyed_leader key held =
    let rest : (key * 262144 + held % 262144) % 262144 ≡ held % 262144 = omega arith in
    let whole : (key * 262144 + held % 262144) / 262144 ≡ key = omega arith in
    ap (λ (r : ℕ). parts r ((key * 262144 + held % 262144) / 262144)) rest ∙ ap (λ (k : ℕ). parts (held % 262144) k) whole

unkeyed_leader : (cell : CellId) → cell.0 < 262144 → leader_of (unkeyed_rank cell) ≡ unkeyed cell
unkeyed_leader cell small =
    let place : 262143 - (262143 - cell.0) % 262144 ≡ cell.0 = omega (arith, small) in
    let none : (262143 - cell.0) / 262144 ≡ 0 = omega (arith, small) in
    let pair : ℕ → ℕ → Leader = λ c k. record { cell = record { 0 = c }; key = k } in
    ap (λ (c : ℕ). pair c ((262143 - cell.0) / 262144)) place ∙ ap (λ (k : ℕ). pair cell.0 k) none

unkeyed_leaders : (cells : List CellId) → All (λ (cell : CellId). cell.0 < 262144) cells → map leader_of (map unkeyed_rank cells) ≡ map unkeyed cells
unkeyed_leaders [] small = refl
unkeyed_leaders (cell ∷ cells) small =
    let rest = unkeyed_leaders cells (λ k d below. small (suc k) d (omega (arith, below))) in
    ap (λ (leader : Leader). leader ∷ map leader_of (map unkeyed_rank cells)) (unkeyed_leader cell (small 0 cell (omega arith))) ∙ ap (λ (leaders : List Leader). unkeyed cell ∷ leaders) rest

leader_there : (inner slots : ℕ) (nodes : List ℕ) (slot : ℕ) → slot < slots → inner + slots ≤ length nodes → leader_at (leaders_in inner slots nodes) slot ≡ leader_of (rank_at nodes (inner + slot))
leader_there inner slots nodes slot below inside =
    get_or-map leader_of (take slots (drop inner nodes)) slot 0 nobody (omega (arith, below, inside, length-take slots (drop inner nodes), length-drop inner nodes))
    ∙ ap leader_of (get_or-take slots (drop inner nodes) slot 0 below ∙ get_or-drop inner nodes slot 0)

pub leaders_length : (inner slots : ℕ) (nodes : List ℕ) → IsKept inner slots nodes → length (leaders_in inner slots nodes) ≡ slots
leaders_length inner slots nodes kept =
    omega (arith, length-map (take slots (drop inner nodes)) leader_of, length-take slots (drop inner nodes), length-drop inner nodes, kept.tree.laid.full, kept.padded.few)

kept_inside : (inner slots : ℕ) (nodes : List ℕ) → IsKept inner slots nodes → inner + slots ≤ length nodes
kept_inside inner slots nodes kept = omega (arith, kept.tree.laid.full, kept.padded.few)

-- a slot with another key
pub slot_keyed : (inner slots : ℕ) (nodes : List ℕ) (slot key : ℕ) → IsKept inner slots nodes → slot < slots
    → leaders_in inner slots (set nodes (inner + slot) (keyed_rank (rank_at nodes (inner + slot)) key)) ≡ rekeyed (leaders_in inner slots nodes) slot key
slot_keyed inner slots nodes slot key kept below =
    let leaves = leaders_in inner slots nodes in
    let rank = keyed_rank (rank_at nodes (inner + slot)) key in
    let leader = keyed_leader key (rank_at nodes (inner + slot)) ∙ ap (λ (l : Leader). keyed l key) (sym (leader_there inner slots nodes slot below (kept_inside inner slots nodes kept))) in
    ap (λ (ranks : List ℕ). map leader_of (take slots ranks)) (drop-set-add inner nodes slot rank) ∙ ap (map leader_of) (take-set-lt slots (drop inner nodes) slot rank below)
    ∙ map-set leader_of (take slots (drop inner nodes)) slot rank ∙ ap (λ (l : Leader). set leaves slot l) leader

-- what stands behind the inner nodes tells the leaders, and whether the list is padded
pub leaders_as : (inner slots : ℕ) (nodes others : List ℕ) → drop inner nodes ≡ drop inner others → leaders_in inner slots nodes ≡ leaders_in inner slots others
leaders_as inner slots nodes others same = ap (λ (ranks : List ℕ). map leader_of (take slots ranks)) same

pub padded_as : (inner slots : ℕ) (nodes others : List ℕ) → drop inner nodes ≡ drop inner others → IsPadded inner slots others → IsPadded inner slots nodes
padded_as inner slots nodes others same padded = record {
  many = padded.many;
  few = padded.few;
  behind = λ place past.
      let seat : inner + (place - inner) ≡ place = omega (arith, past) in
      ap (rank_at nodes) (sym seat) ∙ sym (get_or-drop inner nodes (place - inner) 0) ∙ ap (λ (ranks : List ℕ). rank_at ranks (place - inner)) same
      ∙ get_or-drop inner others (place - inner) 0 ∙ ap (rank_at others) seat ∙ padded.behind place past;
}

pub padded_set : (inner slots : ℕ) (nodes : List ℕ) (slot rank : ℕ) → slot < slots → IsPadded inner slots nodes → IsPadded inner slots (set nodes (inner + slot) rank)
padded_set inner slots nodes slot rank below padded = record {
  many = padded.many;
  few = padded.few;
  behind = λ place past. get_or-set_other nodes (inner + slot) place rank 0 (λ same. omega (arith, same, below, past)) ∙ padded.behind place past;
}

-- writing a node
apart : (place node other : ℕ) → IsElsewhere place node → 4 * node + 1 ≤ other → other ≤ 4 * node + 4 → other ≢ place
apart place node other (inl less) from upto = λ same. omega (arith, less, from, same)
apart place node other (inr more) from upto = λ same. omega (arith, more, upto, same)

place_cases : (place node : ℕ) → IsElsewhere place node ⊎ ((4 * node + 1 ≤ place) × (place ≤ 4 * node + 4))
place_cases place node = by (cases_lt place (4 * node + 1)) (cases_lt (4 * node + 4) place)
  where
    by : (place < 4 * node + 1) ⊎ (4 * node + 1 ≤ place) → (4 * node + 4 < place) ⊎ (place ≤ 4 * node + 4) → IsElsewhere place node ⊎ ((4 * node + 1 ≤ place) × (place ≤ 4 * node + 4))
    by (inl less) other = inl (inl less)
    by (inr from) (inl more) = inl (inr more)
    by (inr from) (inr upto) = inr (from, upto)

greatest_elsewhere : (nodes : List ℕ) (place rank node best : ℕ) → IsElsewhere place node → IsGreatest nodes node best → IsGreatest (set nodes place rank) node best
greatest_elsewhere nodes place rank node best elsewhere greatest = record {
  child = greatest.child;
  from = greatest.from;
  upto = greatest.upto;
  there = get_or-set_other nodes place greatest.child rank 0 (apart place node greatest.child elsewhere greatest.from greatest.upto) ∙ greatest.there;
  ahead = λ other from upto.
      omega (arith, get_or-set_other nodes place other rank 0 (apart place node other elsewhere from upto), greatest.ahead other from upto);
}

won_elsewhere : (nodes : List ℕ) (place rank node : ℕ) → node ≢ place → IsElsewhere place node → IsWon nodes node → IsWon (set nodes place rank) node
won_elsewhere nodes place rank node other elsewhere won =
    subst (λ (best : ℕ). IsGreatest (set nodes place rank) node best) (sym (get_or-set_other nodes place node rank 0 other)) (greatest_elsewhere nodes place rank node _ elsewhere won)

won_here : (nodes : List ℕ) (place best : ℕ) → place < length nodes → IsGreatest nodes place best → IsWon (set nodes place best) place
won_here nodes place best inside greatest =
    subst (λ (rank : ℕ). IsGreatest (set nodes place best) place rank) (sym (get_or-set_same nodes place best 0 inside)) (greatest_elsewhere nodes place best place best (inl (omega arith)) greatest)

laid_set : (inner : ℕ) (nodes : List ℕ) (place rank : ℕ) → place < length nodes → rank < 2 ^ 50 → IsLaidOut inner nodes → IsLaidOut inner (set nodes place rank)
laid_set inner nodes place rank inside small laid = record {
  full = omega (arith, laid.full, length-set nodes place rank);
  small = λ other. by other (cases_eq other place);
}
  where
    by : (other : ℕ) → (other ≡ place) ⊎ (other ≢ place) → rank_at (set nodes place rank) other < 2 ^ 50
    by other (inl same) = subst (λ (k : ℕ). rank_at (set nodes place rank) k < 2 ^ 50) (sym same) (subst (λ (r : ℕ). r < 2 ^ 50) (sym (get_or-set_same nodes place rank 0 inside)) small)
    by other (inr apart) = subst (λ (r : ℕ). r < 2 ^ 50) (sym (get_or-set_other nodes place other rank 0 apart)) (laid.small other)

greatest_small : (inner : ℕ) (nodes : List ℕ) (node best : ℕ) → IsLaidOut inner nodes → IsGreatest nodes node best → best < 2 ^ 50
greatest_small inner nodes node best laid greatest = subst (λ (r : ℕ). r < 2 ^ 50) greatest.there (laid.small greatest.child)

restored : (nodes : List ℕ) (place rank : ℕ) → set (set nodes place rank) place (rank_at nodes place) ≡ nodes
restored nodes place rank = set-set nodes place rank (rank_at nodes place) ∙ set-get_or nodes place 0

-- the greatest of some ranks
pub record IsMore (one other better : ℕ) : Type 0 where
  pub among : (better ≡ one) ⊎ (better ≡ other)
  pub one_behind : one ≤ better
  pub other_behind : other ≤ better

pub more_of : (one other better : ℕ) → better ≡ max one other → IsMore one other better
more_of one other better is = record { among = by (cases_lt one other); one_behind = omega (arith, is); other_behind = omega (arith, is) }
  where
    by : (one < other) ⊎ (other ≤ one) → (better ≡ one) ⊎ (better ≡ other)
    by (inl less) = inr (omega (arith, is, less))
    by (inr not) = inl (omega (arith, is, not))

-- four nodes at most
pub four_most : (nodes : List ℕ) (start last second third fourth early late best : ℕ) → start ≤ last → second ≡ min (start + 1) last → third ≡ min (start + 2) last → fourth ≡ min (start + 3) last
    → IsMore (rank_at nodes start) (rank_at nodes second) early → IsMore (rank_at nodes third) (rank_at nodes fourth) late → IsMore early late best → IsMost nodes start last best
four_most nodes start last second third fourth early late best order second_is third_is fourth_is early_more late_more more = by more.among early_more.among late_more.among
  where
    fourth_behind : (other : ℕ) → start + 3 ≡ other → other ≤ last → rank_at nodes other ≤ best
    fourth_behind other is inside =
        let same : fourth ≡ other = omega (arith, fourth_is, is, inside) in
        omega (arith, ap (rank_at nodes) same, late_more.other_behind, more.other_behind)

    third_behind : (other : ℕ) → start + 2 ≡ other → other ≤ last → rank_at nodes other ≤ best
    third_behind other is inside =
        let same : third ≡ other = omega (arith, third_is, is, inside) in
        omega (arith, ap (rank_at nodes) same, late_more.one_behind, more.other_behind)

    second_behind : (other : ℕ) → start + 1 ≡ other → other ≤ last → rank_at nodes other ≤ best
    second_behind other is inside =
        let same : second ≡ other = omega (arith, second_is, is, inside) in
        omega (arith, ap (rank_at nodes) same, early_more.other_behind, more.one_behind)

    behind : (other : ℕ) → start ≤ other → other ≤ last → other ≤ start + 3 → (other ≡ start) ⊎ (other ≢ start) → (start + 1 ≡ other) ⊎ (start + 1 ≢ other) → (start + 2 ≡ other) ⊎ (start + 2 ≢ other)
        → rank_at nodes other ≤ best
    behind other from inside few (inl first) _ _ = omega (arith, ap (rank_at nodes) first, early_more.one_behind, more.one_behind)
    behind other from inside few (inr not_first) (inl is) _ = second_behind other is inside
    behind other from inside few (inr not_first) (inr not_second) (inl is) = third_behind other is inside
    behind other from inside few (inr not_first) (inr not_second) (inr not_third) =
        fourth_behind other (omega (arith, from, few, not_first, not_second, not_third)) inside

    one_of : (node : ℕ) → start ≤ node → node ≤ last → node ≤ start + 3 → rank_at nodes node ≡ best → IsMost nodes start last best
    one_of node from inside near there = record {
      node = node;
      from = from;
      upto = inside;
      near = near;
      there = there;
      ahead = λ other from upto few. behind other from upto few (cases_eq other start) (cases_eq (start + 1) other) (cases_eq (start + 2) other);
    }

    by : (best ≡ early) ⊎ (best ≡ late) → (early ≡ rank_at nodes start) ⊎ (early ≡ rank_at nodes second) → (late ≡ rank_at nodes third) ⊎ (late ≡ rank_at nodes fourth) → IsMost nodes start last best
    by (inl one) (inl first) _ = one_of start (omega arith) order (omega arith) (sym (one ∙ first))
    by (inl one) (inr other) _ = one_of second (omega (arith, second_is, order)) (omega (arith, second_is)) (omega (arith, second_is)) (sym (one ∙ other))
    by (inr two) _ (inl first) = one_of third (omega (arith, third_is, order)) (omega (arith, third_is)) (omega (arith, third_is)) (sym (two ∙ first))
    by (inr two) _ (inr other) = one_of fourth (omega (arith, fourth_is, order)) (omega (arith, fourth_is)) (omega (arith, fourth_is)) (sym (two ∙ other))

-- the four below a node
pub greatest_of : (nodes : List ℕ) (node first early late best : ℕ) → first ≡ 4 * node + 1 → IsMore (rank_at nodes first) (rank_at nodes (first + 1)) early
    → IsMore (rank_at nodes (first + 2)) (rank_at nodes (first + 3)) late → IsMore early late best → IsGreatest nodes node best
greatest_of nodes node first early late best is early_more late_more more = by more.among early_more.among late_more.among
  where
    behind : (other : ℕ) → first ≤ other → other ≤ first + 3 → (other ≡ first) ⊎ (other ≢ first) → (other ≡ first + 1) ⊎ (other ≢ first + 1) → (other ≡ first + 2) ⊎ (other ≢ first + 2)
        → rank_at nodes other ≤ best
    behind other from upto (inl one) _ _ = omega (arith, ap (rank_at nodes) one, early_more.one_behind, more.one_behind)
    behind other from upto (inr not_one) (inl two) _ = omega (arith, ap (rank_at nodes) two, early_more.other_behind, more.one_behind)
    behind other from upto (inr not_one) (inr not_two) (inl three) = omega (arith, ap (rank_at nodes) three, late_more.one_behind, more.other_behind)
    behind other from upto (inr not_one) (inr not_two) (inr not_three) =
        let four : other ≡ first + 3 = omega (arith, from, upto, not_one, not_two, not_three) in
        omega (arith, ap (rank_at nodes) four, late_more.other_behind, more.other_behind)

    one_of : (child : ℕ) → first ≤ child → child ≤ first + 3 → rank_at nodes child ≡ best → IsGreatest nodes node best
    one_of child from upto there = record {
      child = child;
      from = omega (arith, is, from);
      upto = omega (arith, is, upto);
      there = there;
      ahead = λ other from upto.
          behind other (omega (arith, is, from)) (omega (arith, is, upto)) (cases_eq other first) (cases_eq other (first + 1)) (cases_eq other (first + 2));
    }

    by : (best ≡ early) ⊎ (best ≡ late) → (early ≡ rank_at nodes first) ⊎ (early ≡ rank_at nodes (first + 1)) → (late ≡ rank_at nodes (first + 2)) ⊎ (late ≡ rank_at nodes (first + 3))
        → IsGreatest nodes node best
    by (inl one) (inl this) _ = one_of first (omega arith) (omega arith) (sym (one ∙ this))
    by (inl one) (inr that) _ = one_of (first + 1) (omega arith) (omega arith) (sym (one ∙ that))
    by (inr two) _ (inl this) = one_of (first + 2) (omega arith) (omega arith) (sym (two ∙ this))
    by (inr two) _ (inr that) = one_of (first + 3) (omega arith) (omega arith) (sym (two ∙ that))

-- the first four and the last four of some nodes
pub outer_of : (nodes : List ℕ) (low high start left right best : ℕ) → low < high → start ≡ max (high - 4) low → IsMost nodes low (high - 1) left → IsMost nodes start (high - 1) right
    → IsMore left right best → IsOuter nodes low high best
outer_of nodes low high start left right best less start_is first last more = by more.among
  where
    outer : (node : ℕ) → low ≤ node → node < high → rank_at nodes node ≡ best → IsOuter nodes low high best
    outer node from below there = record {
      node = node;
      from = from;
      below = below;
      there = there;
      first = λ other from below near. omega (arith, first.ahead other from (omega (arith, below)) near, more.one_behind);
      last = λ other from below near.
          omega (arith, last.ahead other (omega (arith, near, from, start_is)) (omega (arith, below)) (omega (arith, below, start_is)), more.other_behind);
    }

    by : (best ≡ left) ⊎ (best ≡ right) → IsOuter nodes low high best
    by (inl one) = outer first.node first.from (omega (arith, first.upto, less)) (first.there ∙ sym one)
    by (inr other) = outer last.node (omega (arith, last.from, start_is)) (omega (arith, last.upto, less)) (last.there ∙ sym other)

-- the slots behind nodes that are not played yet
unkeyed_small : (cells : List CellId) (place : ℕ) → rank_at (map unkeyed_rank cells) place < 2 ^ 50
unkeyed_small [] place = omega arith
unkeyed_small (cell ∷ cells) zero = omega arith
unkeyed_small (cell ∷ cells) (suc place) = unkeyed_small cells place

small_append : (before after : List ℕ) → ((place : ℕ) → rank_at before place < 2 ^ 50) → ((place : ℕ) → rank_at after place < 2 ^ 50) → (place : ℕ) → rank_at (before ++ after) place < 2 ^ 50
small_append before after one other place = by (cases_lt place (length before))
  where
    by : (place < length before) ⊎ (length before ≤ place) → rank_at (before ++ after) place < 2 ^ 50
    by (inl inside) = subst (λ (r : ℕ). r < 2 ^ 50) (sym (get_or_append_left before after 0 place inside)) (one place)
    by (inr past) = subst (λ (r : ℕ). r < 2 ^ 50) (sym (get_or-append_right before after place 0 past)) (other (place - length before))

none_there : (count place : ℕ) → rank_at (replicate count 0) place ≡ 0
none_there zero place = refl
none_there (suc count) zero = refl
none_there (suc count) (suc place) = none_there count place

none_small : (count place : ℕ) → rank_at (replicate count 0) place < 2 ^ 50
none_small count place = omega (arith, none_there count place)

-- the ranks of slots without a key, behind the inner nodes and before the padding
abbrev pub seats_for : ℕ → List CellId → List ℕ
seats_for inner cells = replicate inner 0 ++ map unkeyed_rank cells ++ replicate (3 * inner + 1 - length cells) 0

front_length : (inner : ℕ) (cells : List CellId) → length (replicate inner 0 ++ map unkeyed_rank cells) ≡ inner + length cells
front_length inner cells =
    omega (arith, length-append (replicate inner 0) (map unkeyed_rank cells), length-replicate {A = ℕ} inner 0, length-map cells unkeyed_rank)

pub seats_laid : (inner : ℕ) (nodes : List ℕ) (cells : List CellId) → length cells ≤ 3 * inner + 1 → nodes ≡ seats_for inner cells → IsLaidOut inner nodes
seats_laid inner nodes cells fits is = record {
  full = omega (arith, ap length is, long, fits);
  small = λ place. subst (λ (ranks : List ℕ). rank_at ranks place < 2 ^ 50) (sym is)
      (small_append (replicate inner 0 ++ map unkeyed_rank cells) (replicate padding 0) (small_append (replicate inner 0) (map unkeyed_rank cells) (none_small inner) (unkeyed_small cells)) (none_small padding) place);
}
  where
    padding : ℕ
    padding = 3 * inner + 1 - length cells

    long : length (seats_for inner cells) ≡ inner + length cells + padding
    long = omega (arith, length-append (replicate inner 0 ++ map unkeyed_rank cells) (replicate padding 0), length-replicate {A = ℕ} padding 0, front_length inner cells)

pub seats_padded : (inner : ℕ) (nodes : List ℕ) (cells : List CellId) → inner ≡ (length cells + 1) / 3 → nodes ≡ seats_for inner cells → IsPadded inner (length cells) nodes
seats_padded inner nodes cells third is = record {
  many = omega (arith, third);
  few = omega (arith, third);
  behind = λ place past.
      ap (λ (ranks : List ℕ). rank_at ranks place) is
      ∙ get_or-append_right (replicate inner 0 ++ map unkeyed_rank cells) (replicate (3 * inner + 1 - length cells) 0) place 0 (omega (arith, front_length inner cells, past))
      ∙ none_there (3 * inner + 1 - length cells) (place - length (replicate inner 0 ++ map unkeyed_rank cells));
}

pub seats_leaves : (inner : ℕ) (nodes : List ℕ) (cells : List CellId) → All (λ (cell : CellId). cell.0 < 262144) cells → nodes ≡ seats_for inner cells
    → leaders_in inner (length cells) nodes ≡ map unkeyed cells
seats_leaves inner nodes cells small is =
    ap (λ (ranks : List ℕ). map leader_of (take (length cells) (drop inner ranks))) is ∙ ap (λ (ranks : List ℕ). map leader_of (take (length cells) ranks)) behind
    ∙ ap (map leader_of) front ∙ unkeyed_leaders cells small
  where
    padding : List ℕ
    padding = replicate (3 * inner + 1 - length cells) 0

    behind : drop inner (seats_for inner cells) ≡ map unkeyed_rank cells ++ padding
    behind = ap (drop inner) (append_assoc (replicate inner 0) (map unkeyed_rank cells) padding)
        ∙ subst (λ (k : ℕ). drop k (replicate inner 0 ++ (map unkeyed_rank cells ++ padding)) ≡ map unkeyed_rank cells ++ padding) (length-replicate {A = ℕ} inner 0)
        (drop-append_seam (replicate inner 0) (map unkeyed_rank cells ++ padding))

    front : take (length cells) (map unkeyed_rank cells ++ padding) ≡ map unkeyed_rank cells
    front = subst (λ (k : ℕ). take k (map unkeyed_rank cells ++ padding) ≡ map unkeyed_rank cells) (length-map cells unkeyed_rank) (take-append_seam (map unkeyed_rank cells) padding)

-- the nodes from one on hold the greatest of those below them
pub record ArePlayed (inner : ℕ) (nodes : List ℕ) (start : ℕ) : Type 0 where
  pub laid : IsLaidOut inner nodes
  pub won : (node : ℕ) → start ≤ node → node < inner → IsWon nodes node

pub played_more : (inner : ℕ) (nodes : List ℕ) (place start best : ℕ) → ArePlayed inner nodes start → place + 1 ≡ start → place < inner → IsGreatest nodes place best
    → ArePlayed inner (set nodes place best) place
played_more inner nodes place start best played next below greatest = record {
  laid = laid_set inner nodes place best (omega (arith, played.laid.full, below)) (greatest_small inner nodes place best played.laid greatest) played.laid;
  won = λ node from less. by node from less (cases_eq node place);
}
  where
    by : (node : ℕ) → place ≤ node → node < inner → (node ≡ place) ⊎ (node ≢ place) → IsWon (set nodes place best) node
    by node from less (inl same) = subst (IsWon (set nodes place best)) (sym same) (won_here nodes place best (omega (arith, played.laid.full, below)) greatest)
    by node from less (inr other) =
        won_elsewhere nodes place best node other (inl (omega (arith, from))) (played.won node (omega (arith, other, next, from)) less)

-- the first so many slots have the keys of their cells, and the other nodes are as they were
abbrev pub dealt_rank : List ℕ → ℕ → ℕ
dealt_rank keys rank = keyed_rank rank (get_or keys (leader_of rank).cell.0 0)

pub record IsDealt (inner slots : ℕ) (keys nodes before : List ℕ) : Type 0 where
  pub laid : IsLaidOut inner nodes
  pub changed : (slot : ℕ) → slot < slots → rank_at nodes (inner + slot) ≡ dealt_rank keys (rank_at before (inner + slot))
  pub others : (place : ℕ) → (place < inner) ⊎ (inner + slots ≤ place) → rank_at nodes place ≡ rank_at before place

-- the cell of a slot that still has its old key is one of those that have a key in the list
pub key_there : (inner slots slot : ℕ) (keys nodes before : List ℕ) → IsKept inner slots before → All (λ (leaf : Leader). leaf.cell.0 < length keys) (leaders_in inner slots before)
    → IsDealt inner slot keys nodes before → slot < slots → (leader_of (rank_at nodes (inner + slot))).cell.0 < length keys
key_there inner slots slot keys nodes before kept cells dealt below =
    let there = leader_there inner slots before slot below (kept_inside inner slots before kept) in
    let same = there ∙ ap leader_of (sym (dealt.others (inner + slot) (inr (omega arith)))) in
    let long = leaders_length inner slots before kept in
    subst (λ (leaf : Leader). leaf.cell.0 < length keys) same
    (All-get_or (λ (leaf : Leader). leaf.cell.0 < length keys) (leaders_in inner slots before) slot nobody (omega (arith, long, below)) cells)

pub dealt_padded : (inner slots : ℕ) (keys nodes before : List ℕ) → IsDealt inner slots keys nodes before → IsPadded inner slots before → IsPadded inner slots nodes
dealt_padded inner slots keys nodes before dealt padded =
    record { many = padded.many; few = padded.few; behind = λ place past. dealt.others place (inr past) ∙ padded.behind place past }

pub dealt_leaders : (inner slots : ℕ) (keys nodes before : List ℕ) → IsDealt inner slots keys nodes before → IsKept inner slots before → leaders_in inner slots nodes ≡ map (dealt keys) (leaders_in inner slots before)
dealt_leaders inner slots keys nodes before all kept =
    ext_get_or nobody (leaders_in inner slots nodes) (map (dealt keys) (leaders_in inner slots before)) (omega (arith, long, long_before, length-map (leaders_in inner slots before) (dealt keys)))
    (λ slot below. there slot (omega (arith, below, long)))
  where
    inside : inner + slots ≤ length nodes
    inside = omega (arith, all.laid.full, kept.padded.few)

    long_before : length (leaders_in inner slots before) ≡ slots
    long_before = leaders_length inner slots before kept

    long : length (leaders_in inner slots nodes) ≡ slots
    long = omega (arith, length-map (take slots (drop inner nodes)) leader_of, length-take slots (drop inner nodes), length-drop inner nodes, inside)

    there : (slot : ℕ) → slot < slots → leader_at (leaders_in inner slots nodes) slot ≡ leader_at (map (dealt keys) (leaders_in inner slots before)) slot
    there slot below =
        leader_there inner slots nodes slot below inside ∙ ap leader_of (all.changed slot below) ∙ keyed_leader _ (rank_at before (inner + slot))
        ∙ ap (dealt keys) (sym (leader_there inner slots before slot below (kept_inside inner slots before kept)))
        ∙ sym (get_or-map (dealt keys) (leaders_in inner slots before) slot nobody nobody (omega (arith, below, long_before)))

-- the node above a changed node
abbrev above_of : ℕ → ℕ
above_of changed = (changed - 1) / 4

pub above_inner : (inner : ℕ) (nodes : List ℕ) (changed held : ℕ) → IsWaiting inner nodes changed held → 0 < changed → above_of changed < inner
above_inner inner nodes changed held waiting below = omega (arith, waiting.laid.full, waiting.inside)

-- the match of a changed node is played, and it is the node above that has changed
pub replayed : (inner : ℕ) (nodes : List ℕ) (changed held best : ℕ) → IsWaiting inner nodes changed held → 0 < changed → IsGreatest nodes (above_of changed) best
    → IsWaiting inner (set nodes (above_of changed) best) (above_of changed) (rank_at nodes (above_of changed))
replayed inner nodes changed held best waiting below greatest = record {
  laid = laid_set inner nodes above best inside (greatest_small inner nodes above best waiting.laid greatest) waiting.laid;
  inside = omega (arith, inside, length-set nodes above best);
  won = λ node less elsewhere. by node less elsewhere (cases_eq node above);
  before = λ node less from upto.
      subst (λ (ranks : List ℕ). IsWon ranks node) (sym (restored nodes above best)) (waiting.won node less (inr (omega (arith, from, upto, below))));
}
  where
    above : ℕ
    above = above_of changed

    inside : above < length nodes
    inside = omega (arith, waiting.inside, below)

    by : (node : ℕ) → node < inner → IsElsewhere above node → (node ≡ above) ⊎ (node ≢ above) → IsWon (set nodes above best) node
    by node less elsewhere (inl same) = subst (IsWon (set nodes above best)) (sym same) (won_here nodes above best inside greatest)
    by node less elsewhere (inr other) = won_elsewhere nodes above best node other elsewhere (rest node less other (place_cases changed node))
      where
        rest : (node : ℕ) → node < inner → node ≢ above → IsElsewhere changed node ⊎ ((4 * node + 1 ≤ changed) × (changed ≤ 4 * node + 4)) → IsWon nodes node
        rest node less other (inl apart) = waiting.won node less apart
        rest node less other (inr (from, upto)) = absurd (other (omega (arith, from, upto)))

-- every node holds a slot's rank, and no rank is greater than that of the first node
pub record IsSlot (inner count : ℕ) (nodes : List ℕ) (rank : ℕ) : Type 0 where
  pub slot : ℕ
  pub within : slot < count
  pub there : rank_at nodes (inner + slot) ≡ rank

slot_as : (inner count : ℕ) (nodes : List ℕ) (one other : ℕ) → IsSlot inner count nodes one → other ≡ one → IsSlot inner count nodes other
slot_as inner count nodes one other slot same = record { slot = slot.slot; within = slot.within; there = slot.there ∙ sym same }

slot_itself : (inner count : ℕ) (nodes : List ℕ) (node : ℕ) → inner ≤ node → node < inner + count → IsSlot inner count nodes (rank_at nodes node)
slot_itself inner count nodes node outside below =
    let same : inner + (node - inner) ≡ node = omega (arith, outside) in
    record { slot = node - inner; within = omega (arith, outside, below); there = ap (rank_at nodes) same }

won_slot : (inner count : ℕ) (nodes : List ℕ) (node : ℕ) → IsPadded inner count nodes → node < inner → IsWon nodes node → ((other : ℕ) → other < inner + count → node < other → IsSlot inner count nodes (rank_at nodes other))
    → IsSlot inner count nodes (rank_at nodes node)
won_slot inner count nodes node padded less won rest = by (cases_lt won.child (inner + count))
  where
    by : (won.child < inner + count) ⊎ (inner + count ≤ won.child) → IsSlot inner count nodes (rank_at nodes node)
    by (inl inside) = slot_as inner count nodes _ _ (rest won.child inside (omega (arith, won.from))) (sym won.there)
    by (inr past) =
        let none = padded.behind won.child past in
        let first = won.ahead (4 * node + 1) (omega arith) (omega arith) in
        slot_as inner count nodes _ _ (rest (4 * node + 1) (omega (arith, padded.many, less)) (omega arith)) (omega (arith, none, first, won.there))

node_slot : (inner count : ℕ) (nodes : List ℕ) → IsKept inner count nodes → (fuel node : ℕ) → node < inner + count → inner + count ≤ node + fuel → IsSlot inner count nodes (rank_at nodes node)
node_slot inner count nodes kept zero node inside enough = absurd (omega (arith, inside, enough))
node_slot inner count nodes kept (suc fuel) node inside enough =
    by (cases_lt node inner) (λ other below more. node_slot inner count nodes kept fuel other below (omega (arith, enough, more)))
  where
    by : (node < inner) ⊎ (inner ≤ node) → ((other : ℕ) → other < inner + count → node < other → IsSlot inner count nodes (rank_at nodes other)) → IsSlot inner count nodes (rank_at nodes node)
    by (inl less) rest = won_slot inner count nodes node kept.padded less (kept.tree.won node less) rest
    by (inr outside) rest = slot_itself inner count nodes node outside inside

up_one : (inner : ℕ) (nodes : List ℕ) (node : ℕ) → IsTree inner nodes → 0 < node → node < length nodes → rank_at nodes node ≤ rank_at nodes ((node - 1) / 4)
up_one inner nodes node tree below inside =
    (tree.won ((node - 1) / 4) (omega (arith, inside, below, tree.laid.full))).ahead node (omega (arith, below)) (omega (arith, below))

up_to_root : (inner : ℕ) (nodes : List ℕ) → IsTree inner nodes → (fuel node : ℕ) → node ≤ fuel → node < length nodes → rank_at nodes node ≤ rank_at nodes 0
up_to_root inner nodes tree zero node few inside =
    let root : node ≡ 0 = omega (arith, few) in
    omega (arith, ap (rank_at nodes) root)
up_to_root inner nodes tree (suc fuel) node few inside = by (cases_eq node 0) (λ other less within. up_to_root inner nodes tree fuel other less within)
  where
    by : (node ≡ 0) ⊎ (node ≢ 0) → ((other : ℕ) → other ≤ fuel → other < length nodes → rank_at nodes other ≤ rank_at nodes 0) → rank_at nodes node ≤ rank_at nodes 0
    by (inl root) rest = omega (arith, ap (rank_at nodes) root)
    by (inr below) rest =
        omega (arith, up_one inner nodes node tree (omega (arith, below)) inside, rest ((node - 1) / 4) (omega (arith, below, few)) (omega (arith, below, inside)))

-- the greatest rank of some slots is that of the best leader
pub top_best : (inner slots : ℕ) (nodes : List ℕ) (count best : ℕ) → IsKept inner slots nodes → count ≤ slots → IsTop inner nodes count best → IsBest (leaders_in inner slots nodes) count (leader_of best)
top_best inner slots nodes count best kept few top = record {
  slot = top.slot;
  within = top.within;
  there = leader_there inner slots nodes top.slot (omega (arith, top.within, few)) inside ∙ ap leader_of top.there;
  ahead = λ other below.
      subst (λ (l : Leader). IsBehind l (leader_of best)) (sym (leader_there inner slots nodes other (omega (arith, below, few)) inside)) (behind_with _ _ (top.ahead other below));
}
  where
    inside : inner + slots ≤ length nodes
    inside = kept_inside inner slots nodes kept

pub root_best : (inner slots : ℕ) (nodes : List ℕ) → IsKept inner slots nodes → 0 < slots → IsBest (leaders_in inner slots nodes) slots (leader_of (rank_at nodes 0))
root_best inner slots nodes kept some = top_best inner slots nodes slots (rank_at nodes 0) kept (omega arith) (record {
  slot = slot.slot;
  within = slot.within;
  there = slot.there;
  ahead = λ other below.
      up_to_root inner nodes kept.tree (inner + other) (inner + other) (omega arith) (omega (arith, below, kept_inside inner slots nodes kept));
})
  where
    slot : IsSlot inner slots nodes (rank_at nodes 0)
    slot = node_slot inner slots nodes kept (inner + slots) 0 (omega (arith, some)) (omega arith)

-- asking the nodes that stand for a front of the slots
pub record IsLeft (nodes : List ℕ) (low high rank : ℕ) : Type 0 where
  pub node : ℕ
  pub from : low ≤ node
  pub below : node < high
  pub behind : rank ≤ rank_at nodes node

pub record IsAsked (inner count : ℕ) (nodes : List ℕ) (best low high : ℕ) : Type 0 where
  pub some : 1 ≤ low
  pub within : high ≤ length nodes
  pub held : IsSlot inner count nodes best
  pub covered : (slot : ℕ) → slot < count → (rank_at nodes (inner + slot) ≤ best) ⊎ IsLeft nodes low high (rank_at nodes (inner + slot))
  pub inside : (node : ℕ) → low ≤ node → node < high → IsSlot inner count nodes (rank_at nodes node)

pub asked_none : (inner count : ℕ) (nodes : List ℕ) → IsTree inner nodes → 0 < count → inner + count < length nodes → IsAsked inner count nodes (rank_at nodes inner) inner (inner + count)
asked_none inner count nodes tree some few = record {
  some = omega (arith, tree.laid.full, some, few);
  within = omega (arith, few);
  held = slot_itself inner count nodes inner (omega arith) (omega (arith, some));
  covered = λ slot below. inr (record { node = inner + slot; from = omega arith; below = omega (arith, below); behind = omega arith });
  inside = λ node from below. slot_itself inner count nodes node from below;
}

pub asked_more : (inner count : ℕ) (nodes : List ℕ) (best low high outer better : ℕ) → IsTree inner nodes → IsAsked inner count nodes best low high → low < high
    → IsOuter nodes low high outer → IsMore best outer better → IsAsked inner count nodes better ((low - 1) / 4 + 1) ((high - 2) / 4)
asked_more inner count nodes best low high outer better tree asked less outermost more = record {
  some = omega arith;
  within = omega (arith, asked.within);
  held = held_by more.among;
  covered = λ slot below. covered_by slot (asked.covered slot below);
  inside = λ node from below.
      let won = tree.won node (omega (arith, below, asked.within, tree.laid.full)) in
      slot_as inner count nodes _ _ (asked.inside won.child (omega (arith, from, won.from, asked.some)) (omega (arith, below, won.upto, asked.some, less))) (sym won.there);
}
  where
    held_by : (better ≡ best) ⊎ (better ≡ outer) → IsSlot inner count nodes better
    held_by (inl kept) = slot_as inner count nodes _ _ asked.held kept
    held_by (inr new) = slot_as inner count nodes _ _ (asked.inside outermost.node outermost.from outermost.below) (new ∙ sym outermost.there)

    left_by : (rank node : ℕ) → rank ≤ rank_at nodes node → low ≤ node → node < high → (low + 3 < node) ⊎ (node ≤ low + 3) → (node + 4 < high) ⊎ (high ≤ node + 4) → (rank ≤ better) ⊎ IsLeft nodes ((low - 1) / 4 + 1) ((high - 2) / 4) rank
    left_by rank node behind from below (inr early) last = inl (omega (arith, behind, outermost.first node from below early, more.other_behind))
    left_by rank node behind from below (inl later) (inr late) = inl (omega (arith, behind, outermost.last node from below late, more.other_behind))
    left_by rank node behind from below (inl later) (inl earlier) = inr (record {
      node = (node - 1) / 4;
      from = omega (arith, later, asked.some);
      below = omega (arith, earlier, later);
      behind = omega (arith, behind, up_one inner nodes node tree (omega (arith, later)) (omega (arith, below, asked.within)));
    })

    covered_by : (slot : ℕ) → (rank_at nodes (inner + slot) ≤ best) ⊎ IsLeft nodes low high (rank_at nodes (inner + slot))
        → (rank_at nodes (inner + slot) ≤ better) ⊎ IsLeft nodes ((low - 1) / 4 + 1) ((high - 2) / 4) (rank_at nodes (inner + slot))
    covered_by slot (inl behind) = inl (omega (arith, behind, more.one_behind))
    covered_by slot (inr left) =
        left_by (rank_at nodes (inner + slot)) left.node left.behind left.from left.below (cases_lt (low + 3) left.node) (cases_lt (left.node + 4) high)
