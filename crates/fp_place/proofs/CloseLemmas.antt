-- Buckets of terminals: what is too close stands in a bucket nearby, and a run of the list holds all of its buckets.
use Rattle.std.proofs.Common.{◌≡◌, ◌⊎◌, inl, inr, ℕ, ◌+◌, ◌-◌, ◌/◌, ◌<◌, ◌≤◌, true, false, leb, ltb, leb-false, leb-true, ltb-true, le-leb, IsTrue, ◌↔◌, Any, List, [], ◌∷◌, ◌++◌, length, take, drop, get_or, All, Option, Some, None, refl, sym, ap, ◌∙◌, subst, arith, ℤ, pos, ◌+ℤ◌, ◌-ℤ◌, ◌≤ℤ◌}
use Rattle.std.specs.Int.RustNames.{unsigned_abs}
use Rattle.std.specs.List.{Contains, AllWithin}
use Rattle.std.specs.List.Sorted.{IsPermutation}
use Rattle.std.proofs.lemmas.List.{get_or-drop, get_or-take, length-drop, length-take}
use Rattle.std.proofs.lemmas.List.Elements.{All-take, All-drop, All-contains_itself, All-contains, All-nil, All-push, Contains-append_left, Contains-push, Contains-get_or}
use Rattle.std.proofs.lemmas.List.Sorted.{All-permutation, Contains-permutation}
use Rattle.std.proofs.lemmas.Option.{none-some, same_Some}
use Rattle.std.proofs.Math.ListN.{get_or-eq_default}
use Rattle.std.proofs.lemmas.Nat.{mul-le}
use Rattle.std.proofs.lemmas.Bool.{cases_lt}
use Rattle.std.proofs.lemmas.Int.{ints}
use Rattle.std.proofs.Math.Nat.{div-mul-le_self, lt-div-mul-add}
use Rattle.fp_base.specs.declared.ids.Point.{Point}
use Rattle.fp_tech.specs.declared.dies.TermSpec.{TermSpec}
use Rattle.fp_tech.specs.Plan.{IsTermSpec}
use Rattle.fp_tech.specs.Slots.{AreApart, pitch_x, pitch_y}
use Rattle.fp_place.specs.declared.close.Entry.{Entry}
use Rattle.fp_place.specs.Buckets.{AreFar, column, row, entry_of, IsPlaced, IsEntry, AreEntries, StandsNear, IsTooClose}
use Rattle.fp_place.specs.Closeness.{IsApart}
use Rattle.fp_place.specs.Drawing.{IsCoordinate}
use Rattle.fp_place.specs.Placed.{IsCentre}

-- quotients of numbers that are less than a divisor apart
pub near_quotients : (u v p : ℕ) → 0 < p → u < v + p → u / p ≤ v / p + 1
near_quotients u v p some near =
    elim (cases_lt (v / p + 1) (u / p)) [
      | inl more ↦ absurd (omega (arith, mul-le (v / p + 2) p (u / p) p (omega arith) (omega arith), div-mul-le_self u p, lt-div-mul-add {a = v} {b = p} some))
      | inr less ↦ less
    ]

pub is_far : (a b : ℤ) (pitch : ℕ) → pitch ≤ unsigned_abs (a -ℤ b) → ((a +ℤ pos pitch) ≤ℤ b) ⊎ ((b +ℤ pos pitch) ≤ℤ a)
is_far a b pitch far = grind (arith, ints)

pub not_far : (a b : ℤ) (pitch : ℕ) → unsigned_abs (a -ℤ b) < pitch → ((a +ℤ pos pitch) ≤ℤ b) ⊎ ((b +ℤ pos pitch) ≤ℤ a) → ⊥
not_far a b pitch near far = grind (arith, ints)

pub far_decided : (a b : ℤ) (pitch between far : ℕ) → between ≡ unsigned_abs (a -ℤ b) → far ≡ pitch → IsTrue (leb far between) ↔ AreFar pitch a b
far_decided a b pitch between far is_between is_far_pitch = (
  λ yes. is_far a b pitch (omega (arith, leb-true far between yes)),
  λ h. elim (cases_lt between far) [
    | inl near ↦ absurd (not_far a b pitch (omega arith) h)
    | inr enough ↦ le-leb far between enough
  ],
)

-- of a list in order, what comes after the lesser buckets, and what comes before the greater ones
pub after_lesser : (entries : List Entry) (first place : ℕ) (entry : Entry) → AllWithin (λ y. ltb y.bucket first ≡ true) entries 0 place
    → Contains entries entry → first ≤ entry.bucket → Contains (drop place entries) entry
after_lesser entries first place entry lesser (k, there, is) enough =
    elim (cases_lt k place) [
      | inl before ↦ absurd (let less : entry.bucket < first = ltb-true _ _ (subst (λ (e : Entry). ltb e.bucket first ≡ true) is (lesser k entry (omega arith) before)) in omega arith)
      | inr behind ↦ (k - place, simp length-drop (omega arith), get_or-drop place entries (k - place) entry ∙ ap (λ n. get_or entries n entry) (omega arith) ∙ is)
    ]

pub before_greater : (entries : List Entry) (last place : ℕ) (entry : Entry) → place ≤ length entries → AllWithin (λ y. leb y.bucket last ≡ false) entries place (length entries)
    → Contains entries entry → entry.bucket ≤ last → Contains (take place entries) entry
before_greater entries last place entry within greater (k, there, is) few =
    elim (cases_lt k place) [
      | inl before ↦ (k, simp length-take (omega arith), get_or-take place entries k entry before ∙ is)
      | inr behind ↦ absurd (let more : last < entry.bucket = leb-false _ _ (subst (λ (e : Entry). leb e.bucket last ≡ false) is (greater k entry behind there)) in omega arith)
    ]

-- the two together
pub run_has : (entries : List Entry) (first last start end : ℕ) (entry : Entry)
    → AllWithin (λ y. ltb y.bucket first ≡ true) entries 0 start
    → AllWithin (λ y. leb y.bucket last ≡ false) (drop start entries) end (length (drop start entries)) → end ≤ length (drop start entries)
    → Contains entries entry → first ≤ entry.bucket → entry.bucket ≤ last → Contains (take end (drop start entries)) entry
run_has entries first last start end entry lesser greater within there enough few =
    before_greater (drop start entries) last end entry within greater (after_lesser entries first start entry lesser there enough) few

pub run_within : (entries : List Entry) (start end : ℕ) → All (Contains entries) (take end (drop start entries))
run_within entries start end =
    All-take (Contains entries) end (drop start entries) (All-drop (Contains entries) start entries (All-contains_itself entries))

-- whether centres are apart is decided
apart_cases : (terminal : TermSpec) (a b : Point) → AreApart terminal a b ⊎ (AreApart terminal a b → ⊥)
apart_cases terminal a b =
    elim (cases_lt (unsigned_abs (a.x -ℤ b.x)) (pitch_x terminal)) [
      | inr far ↦ inl (inl (is_far a.x b.x (pitch_x terminal) far))
      | inl near_x ↦ elim (cases_lt (unsigned_abs (a.y -ℤ b.y)) (pitch_y terminal)) [
        | inr far ↦ inl (inr (is_far a.y b.y (pitch_y terminal) far))
        | inl near_y ↦ inr (λ apart. elim apart [
          | inl far ↦ not_far a.x b.x (pitch_x terminal) near_x far
          | inr far ↦ not_far a.y b.y (pitch_y terminal) near_y far
        ])
      ]
    ]

-- coordinates that are less than a pitch apart stand in the same bucket of an axis or in neighbours
near_axis : (a b : ℤ) (pitch : ℕ) → 0 < pitch → IsCoordinate a → IsCoordinate b → (AreFar pitch a b → ⊥) → unsigned_abs b / pitch ≤ unsigned_abs a / pitch + 1
near_axis a b pitch some is_a is_b near = near_quotients (unsigned_abs b) (unsigned_abs a) pitch some (less a b pitch is_a is_b (λ h. near (inl h)))
  where
    less : (a b : ℤ) (pitch : ℕ) → IsCoordinate a → IsCoordinate b → ((a +ℤ pos pitch) ≤ℤ b → ⊥) → unsigned_abs b < unsigned_abs a + pitch
    less a b pitch is_a is_b near = grind (arith, ints)

-- what is too close stands in one of three rows, in one of three columns
pub record IsNear (terminal : TermSpec) (centre : Point) (entry : Entry) : Type 0 where
  pub low : row terminal centre - 1 ≤ row terminal entry.centre
  pub high : row terminal entry.centre < row terminal centre + 2
  pub stands : StandsNear terminal centre (row terminal entry.centre) entry

pub close_is_near : (terminal : TermSpec) (net : ℕ) (centre : Point) (entry : Entry) → IsTermSpec terminal → IsCentre centre → IsPlaced terminal entry
    → IsTooClose terminal net centre entry → IsNear terminal centre entry
unfolding column row
close_is_near terminal net centre entry is_terminal is_centre placed too_close =
    let right = near_axis centre.x entry.centre.x (pitch_x terminal) (omega (arith, is_terminal.some_x)) is_centre.x placed.centre.x (λ far. too_close.close (inl far)) in
    let left = near_axis entry.centre.x centre.x (pitch_x terminal) (omega (arith, is_terminal.some_x)) placed.centre.x is_centre.x (λ far. too_close.close (inl (turned far))) in
    let up = near_axis centre.y entry.centre.y (pitch_y terminal) (omega (arith, is_terminal.some_y)) is_centre.y placed.centre.y (λ far. too_close.close (inr far)) in
    let down = near_axis entry.centre.y centre.y (pitch_y terminal) (omega (arith, is_terminal.some_y)) placed.centre.y is_centre.y (λ far. too_close.close (inr (turned far))) in
    record {
      low = omega (arith, down);
      high = omega (arith, up);
      stands = record { low = omega (arith, placed.bucket_is, left); high = omega (arith, placed.bucket_is, right) };
    }
  where
    turned : {A B : Type 0} → A ⊎ B → B ⊎ A
    turned (inl a) = inr a
    turned (inr b) = inl b

-- an element that has a property, as an element
contained : {X : Type 0} (P : X → Type 0) (xs : List X) → (any : Any P xs) → Contains xs any.1
contained P xs any = (any.0, any.2, any.3)

-- no entry of a row is too close
abbrev pub IsMissed : TermSpec → ℕ → Point → List Entry → ℕ → Type 0
IsMissed terminal net centre entries number = All (λ entry. StandsNear terminal centre number entry → IsTooClose terminal net centre entry → ⊥) entries

-- one of a part of the entries is one of them all
pub met_in_part : (P : Entry → Type 0) (entries part : List Entry) → All (Contains entries) part → Any P part → Any P entries
met_in_part P entries part within any =
    let there : Contains entries any.1 = All-contains (Contains entries) part any.1 within (contained P part any) in
    (there.0, any.1, there.1, there.2, any.4)

-- where a part has what stands near, and nothing of it is too close, the row is missed
pub missed_in_part : (terminal : TermSpec) (net : ℕ) (centre : Point) (entries part : List Entry) (number : ℕ)
    → ((entry : Entry) → Contains entries entry → StandsNear terminal centre number entry → Contains part entry)
    → (Any (IsTooClose terminal net centre) part → ⊥) → IsMissed terminal net centre entries number
missed_in_part terminal net centre entries part number has none k d there near too_close =
    let (at, within, is) = has (get_or entries k d) (Contains-get_or entries k d there) near in
    none (at, get_or entries k d, within, is, too_close)

pub missed_more : (terminal : TermSpec) (net : ℕ) (centre : Point) (entries : List Entry) (first next : ℕ)
    → ((number : ℕ) → first ≤ number → number < next → IsMissed terminal net centre entries number) → IsMissed terminal net centre entries next
    → (number : ℕ) → first ≤ number → number < next + 1 → IsMissed terminal net centre entries number
missed_more terminal net centre entries first next before here number from below =
    elim (cases_lt number next) [
      | inl less ↦ before number from less
      | inr not_less ↦ subst (IsMissed terminal net centre entries) (omega arith) here
    ]

-- where the three rows are missed, none is too close
pub missed_all : (terminal : TermSpec) (net : ℕ) (centre : Point) (entries : List Entry) → IsTermSpec terminal → IsCentre centre → All (IsPlaced terminal) entries
    → ((number : ℕ) → row terminal centre - 1 ≤ number → number < row terminal centre + 2 → IsMissed terminal net centre entries number)
    → Any (IsTooClose terminal net centre) entries → ⊥
missed_all terminal net centre entries is_terminal is_centre placed missed any =
    let there : Contains entries any.1 = contained (IsTooClose terminal net centre) entries any in
    let near : IsNear terminal centre any.1 =
    close_is_near terminal net centre any.1 is_terminal is_centre (All-contains (IsPlaced terminal) entries any.1 placed there) any.4 in
    All-contains (λ entry. StandsNear terminal centre (row terminal any.1.centre) entry → IsTooClose terminal net centre entry → ⊥) entries any.1
    (missed (row terminal any.1.centre) near.low near.high) there near.stands any.4

-- entries tell whether a net's terminal is apart from all others
pub met_not_apart : (terminal : TermSpec) (centres : List (Option Point)) (entries : List Entry) (net : ℕ) (centre : Point) → AreEntries terminal centres entries
    → get_or centres net None ≡ Some centre → Any (IsTooClose terminal net centre) entries → IsApart terminal centres net → ⊥
met_not_apart terminal centres entries net centre are is any apart =
    let entry : IsEntry terminal centres any.1 = All-contains (IsEntry terminal centres) entries any.1 are.each (contained (IsTooClose terminal net centre) entries any) in
    any.4.close (apart centre is any.1.net any.4.other any.1.centre entry.there)

pub not_met_apart : (terminal : TermSpec) (centres : List (Option Point)) (entries : List Entry) (net : ℕ) (centre : Point) → AreEntries terminal centres entries
    → get_or centres net None ≡ Some centre → (Any (IsTooClose terminal net centre) entries → ⊥) → IsApart terminal centres net
not_met_apart terminal centres entries net centre are is none its its_is other differs point there =
    elim (apart_cases terminal its point) [
      | inl apart ↦ apart
      | inr close ↦ absurd (
          let same : its ≡ centre = same_Some its centre (sym its_is ∙ is) in
          let listed : Contains entries (entry_of terminal other point) = are.all other point there in
          none (
            listed.0,
            entry_of terminal other point,
            listed.1,
            listed.2,
            record { other = differs; close = λ apart. close (subst (λ c. AreApart terminal c point) (sym same) apart) },
          ))
    ]

-- entries in another order
pub entries_moved : (terminal : TermSpec) (centres : List (Option Point)) (before after : List Entry) → IsPermutation before after
    → AreEntries terminal centres before → AreEntries terminal centres after
entries_moved terminal centres before after moved are = record {
  each = All-permutation (IsEntry terminal centres) before after moved are.each;
  all = λ net centre is. Contains-permutation before after (entry_of terminal net centre) moved (are.all net centre is);
}

-- entries of the nets below a number
pub record AreEntriesBelow (terminal : TermSpec) (centres : List (Option Point)) (entries : List Entry) (next : ℕ) : Type 0 where
  pub each : All (IsEntry terminal centres) entries
  pub all : (net : ℕ) (centre : Point) → net < next → get_or centres net None ≡ Some centre → Contains entries (entry_of terminal net centre)

pub entries_none : (terminal : TermSpec) (centres : List (Option Point)) → AreEntriesBelow terminal centres [] 0
entries_none terminal centres = record { each = All-nil (IsEntry terminal centres); all = λ net centre below is. absurd (omega arith) }

pub entries_pushed : (terminal : TermSpec) (centres : List (Option Point)) (entries : List Entry) (next : ℕ) (centre : Point)
    → AreEntriesBelow terminal centres entries next → get_or centres next None ≡ Some centre → IsCentre centre
    → AreEntriesBelow terminal centres (entries ++ entry_of terminal next centre ∷ []) (next + 1)
entries_pushed terminal centres entries next centre are is is_centre =
    let entry : Entry = entry_of terminal next centre in
    record {
      each = All-push (IsEntry terminal centres) entries entry are.each (record { there = is; placed = record { centre = is_centre; bucket_is = refl } });
      all = λ net its below its_is. elim (cases_lt net next) [
        | inl less ↦ Contains-append_left entries (entry ∷ []) (entry_of terminal net its) (are.all net its less its_is)
        | inr not_less ↦
            let same : net ≡ next = omega arith in
            let same_centre : its ≡ centre = same_Some its centre (sym its_is ∙ ap (λ n. get_or centres n None) same ∙ is) in
            let same_entry : entry ≡ entry_of terminal net its = ap (λ n. entry_of terminal n centre) (sym same) ∙ ap (entry_of terminal net) (sym same_centre) in
            subst (Contains (entries ++ entry ∷ [])) same_entry (Contains-push entries entry)
      ];
    }

pub entries_passed : (terminal : TermSpec) (centres : List (Option Point)) (entries : List Entry) (next : ℕ)
    → AreEntriesBelow terminal centres entries next → get_or centres next None ≡ None → AreEntriesBelow terminal centres entries (next + 1)
entries_passed terminal centres entries next are is = record {
  each = are.each;
  all = λ net its below its_is. elim (cases_lt net next) [
    | inl less ↦ are.all net its less its_is
    | inr not_less ↦
        let same : net ≡ next = omega arith in
        absurd (none-some its (sym is ∙ ap (λ n. get_or centres n None) (sym same) ∙ its_is))
  ];
}

pub entries_all : (terminal : TermSpec) (centres : List (Option Point)) (entries : List Entry) (next : ℕ) → length centres ≤ next
    → AreEntriesBelow terminal centres entries next → AreEntries terminal centres entries
entries_all terminal centres entries next all_nets are = record {
  each = are.each;
  all = λ net its its_is. elim (cases_lt net next) [
    | inl less ↦ are.all net its less its_is
    | inr not_less ↦ absurd (none-some its (sym (get_or-eq_default centres None {n = net} (omega arith)) ∙ its_is))
  ];
}
