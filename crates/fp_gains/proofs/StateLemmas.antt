-- Steps of what changes in gains.
use Rattle.std.proofs.Common.{◌≡◌, ◌≢◌, ◌==◌, ℕ, zero, suc, ◌+◌, ◌-◌, ◌*◌, ◌^◌, ◌<◌, ◌≤◌, ◌||◌, Bool, true, false, List, [], ◌∷◌, ◌++◌, length, take, drop, map, get_or, set, if◌then◌else◌, refl, sym, ap, subst, ◌∙◌, arith}
use Rattle.std.specs.List.{IsDistinct}
use Rattle.std.proofs.lemmas.List.{length-set, get_or-set_same, get_or-set_other, get_or_default}
use Rattle.std.proofs.lemmas.List.Sums.{count_by-le-length}
use Rattle.std.proofs.lemmas.List.Folds.{list_any_at}
use Rattle.std.proofs.lemmas.Bool.Decides.{nat_tests}
use Rattle.fp_base.specs.declared.ids.Die.{Die}
use Rattle.fp_base.specs.declared.ids.Die.TheVariants.{Top, Bottom}
use Rattle.fp_place.specs.Places.{die_at, same_die}
use Rattle.fp_place.specs.Settled.{far_die, flipped}
use Rattle.fp_gains.specs.declared.sides.Sides.{Sides}
use Rattle.fp_gains.specs.declared.state.State.{State}
use Rattle.fp_gains.specs.Lists.{list_at}
use Rattle.fp_gains.specs.Links.{holds, AreMembers, AreLinks}
use Rattle.fp_gains.specs.Sides.{no_sides, count_on, on_die, sides_of, moved, share}
use Rattle.fp_gains.specs.Kept.{even, shares, degree, AreWeighed, AreShown, IsRanked, IsKept}
use Rattle.fp_gains.specs.Changes.{AreInRange, part, AreReweighed, CanTurn, AreTurned, Stands, Lies}
use Rattle.fp_gains.proofs.HoldLemmas.{holds_more, not_before, same_true, held_is}
use Rattle.fp_gains.proofs.WeightLemmas.{shares_set, degree_le, shares_le, share_turned, shares_turned}
use Rattle.fp_gains.proofs.CutLemmas.{flipped_here, flipped_there, sides_move, sides_stay}
use Rattle.fp_gains.proofs.RankLemmas.{follow_more}

-- keys are in range
pub key_small : (members : List (List ℕ)) (dies : List Die) (sides : List Sides) (keys : List ℕ) → AreWeighed members dies sides keys → length members ≤ 2 ^ 18
    → (cell : ℕ) → cell < length dies → (2 ≤ get_or keys cell 0) × (get_or keys cell 0 ≤ 2 * even)
key_small members dies sides keys are few cell less =
    let few_nets = degree_le cell members in
    let few_shares = shares_le (die_at dies cell) cell members sides in
    (omega (arith, are.each cell less), omega (arith, are.each cell less))

pub keys_in_range : (members : List (List ℕ)) (dies : List Die) (sides : List Sides) (keys : List ℕ) → AreWeighed members dies sides keys → length members ≤ 2 ^ 18 → AreInRange keys
keys_in_range members dies sides keys are few cell less =
    let small = key_small members dies sides keys are few cell (omega (arith, are.all_cells)) in
    (small.0, omega (arith, small.1))

-- one net's numbers of cells changed, with the keys of its cells
pub weighed_set : (members : List (List ℕ)) (dies : List Die) (sides : List Sides) (old new cells : List ℕ) (net : ℕ) (before after : Sides) → AreWeighed members dies sides old → net < length members
    → cells ≡ list_at members net → before ≡ get_or sides net before → AreReweighed dies cells before after old new → AreWeighed members dies (set sides net after) new
weighed_set members dies sides old new cells net before after are within cells_are before_is reweighed = record {
  all_cells = reweighed.many ∙ are.all_cells;
  all_nets = length-set sides net after ∙ are.all_nets;
  each = λ cell less.
      let there : net < length sides = omega (arith, are.all_nets) in
      let is : before ≡ get_or sides net no_sides = before_is ∙ get_or_default sides net before no_sides there in
      let part_before : part dies cells before cell ≡ part dies (list_at members net) (get_or sides net no_sides) cell = ap (λ cs. part dies cs before cell) cells_are ∙ ap (λ s. part dies (list_at members net) s cell) is in
      let part_after : part dies cells after cell ≡ part dies (list_at members net) after cell = ap (λ cs. part dies cs after cell) cells_are in
      omega (arith, are.each cell less, reweighed.each cell less, part_before, part_after, shares_set (die_at dies cell) cell net members sides after are.all_nets within);
}

-- where both numbers weigh as much, the keys stay
pub weighs_alike : (dies : List Die) (cells : List ℕ) (before after : Sides) (keys : List ℕ) → share Top before ≡ share Top after → share Bottom before ≡ share Bottom after → AreReweighed dies cells before after keys keys
weighs_alike dies cells before after keys top bottom = record {
  many = refl;
  each = λ cell less. ap (λ s. get_or keys cell 0 + (if holds cells cell then s else 0)) (by (die_at dies cell));
}
  where
    by : (die : Die) → share die before ≡ share die after
    by Top = top
    by Bottom = bottom

pub stands_more : (a b c : State) → Stands a b → Stands b c → Stands a c
stands_more a b c first next = record {
  dies = next.dies ∙ first.dies;
  locked = next.locked ∙ first.locked;
  follow = follow_more a.ranks b.ranks c.ranks first.follow next.follow;
}

-- the next net's numbers of cells are still those before
pub record IsNext (nets : List ℕ) (die : Die) (old now : List Sides) (net : ℕ) (read : Sides) : Type 0 where
  pub is : read ≡ get_or old net no_sides
  pub some : 0 < count_on read die
  pub few : read.top + read.bottom ≤ 2 ^ 22

pub turn_read : (nets : List ℕ) (die : Die) (old now : List Sides) (i : ℕ) (read : Sides) → AreTurned (take i nets) die old now → IsDistinct (λ a b. a == b) nets → CanTurn nets die old
    → i < length nets → get_or nets i 0 < length old → read ≡ get_or now (get_or nets i 0) read → IsNext nets die old now (get_or nets i 0) read
turn_read nets die old now i read are once can less within read_is = record { is = is; some = can_here.0; few = can_here.1 }
  where
    is : read ≡ get_or old (get_or nets i 0) no_sides
    is =
        read_is
        ∙ get_or_default now (get_or nets i 0) read no_sides (omega (arith, are.many))
        ∙ are.each (get_or nets i 0) within
        ∙ ap (λ b. if b then moved (get_or old (get_or nets i 0) no_sides) die else get_or old (get_or nets i 0) no_sides) (not_before nets i once less)

    can_here : (0 < count_on read die) × (read.top + read.bottom ≤ 2 ^ 22)
    can_here = subst (λ s. (0 < count_on s die) × (s.top + s.bottom ≤ 2 ^ 22)) (sym is) (can (get_or nets i 0) (list_any_at (λ other. get_or nets i 0 == other) nets i 0 less (same_true (get_or nets i 0))))

abbrev pub IsTurnedAt : List ℕ → Die → List Sides → List Sides → ℕ → Type 0
IsTurnedAt nets die old new net = get_or new net no_sides ≡ (if holds nets net then moved (get_or old net no_sides) die else get_or old net no_sides)

-- one net more
pub turned_more : (nets : List ℕ) (die : Die) (old now new : List Sides) (i : ℕ) (read after : Sides) → AreTurned (take i nets) die old now → i < length nets → get_or nets i 0 < length old
    → read ≡ get_or old (get_or nets i 0) no_sides → after ≡ moved read die → new ≡ set now (get_or nets i 0) after → AreTurned (take (i + 1) nets) die old new
turned_more nets die old now new i read after are less within read_is after_is new_is = record {
  many = ap length new_is ∙ length-set now (get_or nets i 0) after ∙ are.many;
  each = λ net there. by net there (net == get_or nets i 0) refl;
}
  where
    or_false : (b : Bool) → (b || false) ≡ b
    or_false true = refl
    or_false false = refl

    or_true : (b : Bool) → (b || true) ≡ true
    or_true true = refl
    or_true false = refl

    here : IsTurnedAt (take (i + 1) nets) die old new (get_or nets i 0)
    here =
        ap (λ ss. get_or ss (get_or nets i 0) no_sides) new_is
        ∙ get_or-set_same now (get_or nets i 0) after no_sides (omega (arith, are.many))
        ∙ after_is
        ∙ ap (λ s. moved s die) read_is
        ∙ sym (ap (λ b. if b then moved (get_or old (get_or nets i 0) no_sides) die else get_or old (get_or nets i 0) no_sides)
        (holds_more nets i (get_or nets i 0) less ∙ ap (λ b. holds (take i nets) (get_or nets i 0) || b) (same_true (get_or nets i 0)) ∙ or_true (holds (take i nets) (get_or nets i 0))))

    by : (net : ℕ) → net < length old → (b : Bool) → (net == get_or nets i 0) ≡ b → IsTurnedAt (take (i + 1) nets) die old new net
    by net there true e =
        let same : get_or nets i 0 ≡ net = grind (arith, nat_tests) in
        subst (IsTurnedAt (take (i + 1) nets) die old new) same here
    by net there false e =
        let other : net ≢ get_or nets i 0 = grind (arith, nat_tests) in
        ap (λ ss. get_or ss net no_sides) new_is
        ∙ get_or-set_other now (get_or nets i 0) net after no_sides other
        ∙ are.each net there
        ∙ sym (ap (λ b. if b then moved (get_or old net no_sides) die else get_or old net no_sides)
        (holds_more nets i net less ∙ ap (λ b. holds (take i nets) net || b) e ∙ or_false (holds (take i nets) net)))

-- a cell can turn in each of its nets
pub can_turn : (members nets : List (List ℕ)) (s : State) (x : ℕ) → IsKept members nets s → x < length s.dies.items → CanTurn (list_at nets x) (die_at s.dies.items x) s.sides.items
can_turn members nets s x kept within net held =
    let there : net < length members = held_is (λ n. n < length members) (list_at nets x) net (kept.links.within x) held in
    let in_it : holds (list_at members net) x ≡ true = sym (kept.links.agree x net within there) ∙ held in
    let moves = sides_move s.dies.items x (list_at members net) within (kept.members_are.once net) in_it in
    let top : on_die s.dies.items Top (list_at members net) ≤ length (list_at members net) = count_by-le-length (λ cell. same_die (die_at s.dies.items cell) Top) (list_at members net) in
    let bottom : on_die s.dies.items Bottom (list_at members net) ≤ length (list_at members net) = count_by-le-length (λ cell. same_die (die_at s.dies.items cell) Bottom) (list_at members net) in
    let few : (sides_of s.dies.items (list_at members net)).top + (sides_of s.dies.items (list_at members net)).bottom ≤ 2 ^ 22 = omega (arith, kept.members_are.few net) in
    subst (λ sides. (0 < count_on sides (die_at s.dies.items x)) × (sides.top + sides.bottom ≤ 2 ^ 22)) (sym (kept.counted net there)) (moves.0, few)

-- what is kept is kept by a move
pub record IsMoved (members nets : List (List ℕ)) (s t n : State) (x : ℕ) : Type 0 where
  pub turned : AreTurned (list_at nets x) (die_at s.dies.items x) s.sides.items t.sides.items
  pub ranked : IsRanked members t
  pub stands : Stands s t
  pub dies : n.dies.items ≡ flipped s.dies.items x
  pub sides : n.sides ≡ t.sides
  pub keys : n.ranks.keys.items ≡ set t.ranks.keys.items x (2 * even - get_or s.ranks.keys.items x 0)
  pub shown : AreShown n.dies.items n.locked.items n.ranks

moved_counted : (members nets : List (List ℕ)) (s t n : State) (x : ℕ) → IsKept members nets s → x < length s.dies.items → IsMoved members nets s t n x
    → (net : ℕ) → net < length members → get_or t.sides.items net no_sides ≡ sides_of (flipped s.dies.items x) (list_at members net)
moved_counted members nets s t n x kept within is net less =
    is.turned.each net (omega (arith, kept.ranked.weighed.all_nets))
    ∙ by (holds (list_at members net) x) refl
  where
    by : (b : Bool) → holds (list_at members net) x ≡ b
        → (if holds (list_at nets x) net then moved (get_or s.sides.items net no_sides) (die_at s.dies.items x) else get_or s.sides.items net no_sides) ≡ sides_of (flipped s.dies.items x) (list_at members net)
    by true in_it =
        ap (λ b. if b then moved (get_or s.sides.items net no_sides) (die_at s.dies.items x) else get_or s.sides.items net no_sides) (kept.links.agree x net within less ∙ in_it)
        ∙ ap (λ sides. moved sides (die_at s.dies.items x)) (kept.counted net less)
        ∙ sym (sides_move s.dies.items x (list_at members net) within (kept.members_are.once net) in_it).1
    by false out =
        ap (λ b. if b then moved (get_or s.sides.items net no_sides) (die_at s.dies.items x) else get_or s.sides.items net no_sides) (kept.links.agree x net within less ∙ out)
        ∙ kept.counted net less
        ∙ sym (sides_stay s.dies.items x (list_at members net) out)

moved_shares : (members nets : List (List ℕ)) (s t n : State) (x : ℕ) → IsKept members nets s → x < length s.dies.items → IsMoved members nets s t n x
    → shares (die_at s.dies.items x) x members s.sides.items + shares (far_die s.dies.items x) x members t.sides.items ≡ 2 * degree x members
moved_shares members nets s t n x kept within is =
    shares_turned (die_at s.dies.items x) x members s.sides.items t.sides.items kept.ranked.weighed.all_nets is.ranked.weighed.all_nets (λ net less in_it.
    let moves = sides_move s.dies.items x (list_at members net) within (kept.members_are.once net) in_it in
    let after : get_or t.sides.items net no_sides ≡ moved (sides_of s.dies.items (list_at members net)) (die_at s.dies.items x) = moved_counted members nets s t n x kept within is net less ∙ moves.1 in
    ap (λ sides. share (die_at s.dies.items x) sides + share (far_die s.dies.items x) (get_or t.sides.items net no_sides)) (kept.counted net less)
    ∙ ap (λ sides. share (die_at s.dies.items x) (sides_of s.dies.items (list_at members net)) + share (far_die s.dies.items x) sides) after
    ∙ share_turned (die_at s.dies.items x) (sides_of s.dies.items (list_at members net)) moves.0)

moved_weighed : (members nets : List (List ℕ)) (s t n : State) (x : ℕ) → IsKept members nets s → x < length s.dies.items → IsMoved members nets s t n x
    → AreWeighed members (flipped s.dies.items x) t.sides.items (set t.ranks.keys.items x (2 * even - get_or s.ranks.keys.items x 0))
moved_weighed members nets s t n x kept within is = record {
  all_cells = length-set t.ranks.keys.items x key ∙ all ∙ sym (length-set s.dies.items x (far_die s.dies.items x));
  all_nets = is.ranked.weighed.all_nets;
  each = λ cell less. by cell (omega (arith, length-set s.dies.items x (far_die s.dies.items x))) (cell == x) refl;
}
  where
    key : ℕ
    key = 2 * even - get_or s.ranks.keys.items x 0

    same_dies : t.dies.items ≡ s.dies.items
    same_dies = ap (λ d. d.items) is.stands.dies

    all : length t.ranks.keys.items ≡ length s.dies.items
    all = is.ranked.weighed.all_cells ∙ ap length same_dies

    here : 2 * even - get_or s.ranks.keys.items x 0 + degree x members ≡ even + shares (far_die s.dies.items x) x members t.sides.items
    here =
        let small = key_small members s.dies.items s.sides.items s.ranks.keys.items kept.ranked.weighed kept.members_are.few_nets x within in
        omega (arith, small.1, kept.ranked.weighed.each x within, moved_shares members nets s t n x kept within is)

    by : (cell : ℕ) → cell < length s.dies.items → (b : Bool) → (cell == x) ≡ b
        → get_or (set t.ranks.keys.items x (2 * even - get_or s.ranks.keys.items x 0)) cell 0 + degree cell members ≡ even + shares (die_at (flipped s.dies.items x) cell) cell members t.sides.items
    by cell less true e =
        let same : x ≡ cell = grind (arith, nat_tests) in
        let new_key : get_or (set t.ranks.keys.items x (2 * even - get_or s.ranks.keys.items x 0)) x 0 ≡ 2 * even - get_or s.ranks.keys.items x 0 = get_or-set_same t.ranks.keys.items x (2 * even - get_or s.ranks.keys.items x 0) 0 (omega (arith, all)) in
        subst (λ c. get_or (set t.ranks.keys.items x (2 * even - get_or s.ranks.keys.items x 0)) c 0 + degree c members ≡ even + shares (die_at (flipped s.dies.items x) c) c members t.sides.items) same
        (ap (λ k. k + degree x members) new_key ∙ here ∙ ap (λ d. even + shares d x members t.sides.items) (sym (flipped_here s.dies.items x within)))
    by cell less false e =
        let other : cell ≢ x = grind (arith, nat_tests) in
        let old_key : get_or (set t.ranks.keys.items x (2 * even - get_or s.ranks.keys.items x 0)) cell 0 ≡ get_or t.ranks.keys.items cell 0 = get_or-set_other t.ranks.keys.items x cell (2 * even - get_or s.ranks.keys.items x 0) 0 other in
        ap (λ k. k + degree cell members) old_key
        ∙ is.ranked.weighed.each cell (omega (arith, ap length same_dies))
        ∙ ap (λ d. even + shares d cell members t.sides.items) (ap (λ ds. die_at ds cell) same_dies ∙ sym (flipped_there s.dies.items x cell other))

pub moved_kept : (members nets : List (List ℕ)) (s t n : State) (x : ℕ) → IsKept members nets s → x < length s.dies.items → IsMoved members nets s t n x → IsKept members nets n
moved_kept members nets s t n x kept within is = record {
  members_are = subst (AreMembers members) (sym many) kept.members_are;
  links = subst (AreLinks members nets) (sym many) kept.links;
  ranked = record {
    weighed = subst (λ ds. AreWeighed members ds n.sides.items n.ranks.keys.items) (sym is.dies)
        (subst (λ ss. AreWeighed members (flipped s.dies.items x) ss n.ranks.keys.items) (sym same_sides)
        (subst (AreWeighed members (flipped s.dies.items x) t.sides.items) (sym is.keys) (moved_weighed members nets s t n x kept within is)));
    shown = is.shown;
  };
  counted = λ net less.
      ap (λ ss. get_or ss net no_sides) same_sides
      ∙ moved_counted members nets s t n x kept within is net less
      ∙ ap (λ ds. sides_of ds (list_at members net)) (sym is.dies);
}
  where
    many : length n.dies.items ≡ length s.dies.items
    many = ap length is.dies ∙ length-set s.dies.items x (far_die s.dies.items x)

    same_sides : n.sides.items ≡ t.sides.items
    same_sides = ap (λ ss. ss.items) is.sides

pub locks_more : (lock : Bool) (old : List Bool) (i : ℕ) → i < length old
    → set (map (λ (b : Bool). lock) (take i old) ++ drop i old) i lock ≡ map (λ (b : Bool). lock) (take (i + 1) old) ++ drop (i + 1) old
locks_more lock [] i within = absurd (omega arith)
locks_more lock (b ∷ old) zero within = refl
locks_more lock (b ∷ old) (suc i) within =
    let up : suc i + 1 ≡ suc (i + 1) = omega arith in
    ap (λ bs. lock ∷ bs) (locks_more lock old i (omega arith)) ∙ sym (ap (λ j. map (λ (b : Bool). lock) (take j (b ∷ old)) ++ drop j (b ∷ old)) up)

pub lies_more : (a b c : State) → Lies a b → Lies b c → Lies a c
lies_more a b c first next = record {
  dies = next.dies ∙ first.dies;
  sides = next.sides ∙ first.sides;
  keys = next.keys ∙ first.keys;
  follow = follow_more a.ranks b.ranks c.ranks first.follow next.follow;
}
