-- How a matching is augmented along a path: the sink and the columns on the way to it are handed back, row by row.
use Rattle.std.proofs.Common.{◌≡◌, ◌≢◌, ℕ, ◌+◌, ◌-◌, ◌<◌, ◌≤◌, inl, inr, List, length, get_or, set, refl, sym, ap, ◌∙◌, arith}
use Rattle.std.specs.Prelude.{slice_index, slice_set}
use Rattle.std.proofs.lemmas.Bool.{cases_eq, cases_lt}
use Rattle.std.proofs.lemmas.List.{get_or-set_same, get_or-set_other}
use Rattle.std.proofs.Math.ListN.{length-set}
use Rattle.fp_match.specs.declared.labels.Labels.{Labels}
use Rattle.fp_match.specs.declared.matching.Matching.{Matching}
use Rattle.fp_match.specs.Prices.{IsBest}
use Rattle.fp_match.specs.Owners.{unused}
use Rattle.fp_match.proofs.Steps.{read_is}
use Rattle.fp_match.specs.Search.{CanRaise, AreRaised, label_of, row_at, parent_of, owner_of, column_of, price_of, IsHole, IsPath, IsAugmented}

-- Rows behind the place have their new columns, and the row at the place is to have the hole.
pub record IsAugmenting (cost : ℕ → ℕ → ℕ) (columns row : ℕ) (old m : Matching) (l : Labels) (hole place : ℕ) : Type 0 where
  pub is_hole : IsHole cost columns row m hole
  pub within : place ≤ l.last
  pub best : IsBest cost columns m.prices.items (row_at l place) hole
  pub same : (k : ℕ) → 0 < k → k ≤ place → column_of m (row_at l k) ≡ column_of old (row_at l k)
  pub prices : m.prices.items ≡ old.prices.items
  pub sizes : (length m.column_of.items ≡ length old.column_of.items) × (length m.owner.items ≡ length old.owner.items)

pub handing_start : (cost : ℕ → ℕ → ℕ) (columns row : ℕ) (m : Matching) (l : Labels) → IsPath cost columns row m l
    → IsAugmenting cost columns row m m l l.sink l.last
handing_start cost columns row m l path = record {
  is_hole = path.matched;
  within = omega arith;
  best = path.last;
  same = λ k pos le. refl;
  prices = refl;
  sizes = (refl, refl);
}

-- a row gives up its column for the hole
hole_moved : (cost : ℕ → ℕ → ℕ) (columns row : ℕ) (m m' : Matching) (hole n : ℕ) → IsHole cost columns row m hole → n < row
    → IsBest cost columns m.prices.items n hole
    → m'.column_of.items ≡ slice_set m.column_of.items n hole → m'.owner.items ≡ slice_set m.owner.items hole n
    → m'.prices.items ≡ m.prices.items → IsHole cost columns row m' (column_of m n)
hole_moved cost columns row m m' hole n old n_in better chosen_is owner_is prices_is =
    let here : column_of m' n ≡ hole = rw chosen_is (get_or-set_same m.column_of.items n hole 0 (omega (arith, old.space.chosen))) in
    let other : (k : ℕ) → k ≢ n → column_of m' k ≡ column_of m k = λ k ne. rw chosen_is (get_or-set_other m.column_of.items n k hole 0 ne) in
    let owner_here : owner_of m' hole ≡ n = rw owner_is (get_or-set_same m.owner.items hole n 0 (omega (arith, old.within, old.space.owners))) in
    let owner_other : (s : ℕ) → s ≢ hole → owner_of m' s ≡ owner_of m s = λ s ne. rw owner_is (get_or-set_other m.owner.items hole s n 0 ne) in
    let left_owner : owner_of m (column_of m n) ≡ n = old.owned n n_in in
    record {
      space = record {
        chosen = rw chosen_is (omega (arith, length-set m.column_of.items n hole, old.space.chosen));
        owners = rw owner_is (omega (arith, length-set m.owner.items hole n, old.space.owners));
        prices = rw prices_is old.space.prices;
      };
      few = old.few;
      within = old.in_range n n_in;
      in_range = λ k lt. elim (cases_eq k n) [
        | inl e ↦ rw (e, here) old.within
        | inr ne ↦ rw (other k ne) (old.in_range k lt)
      ];
      owned = λ k lt. elim (cases_eq k n) [
        | inl e ↦ rw (e, here) owner_here
        | inr ne ↦ rw (other k ne) (owner_other (column_of m k) (old.vacant k lt) ∙ old.owned k lt)
      ];
      vacant = λ k lt same. elim (cases_eq k n) [
        | inl e ↦ old.vacant n n_in (sym same ∙ ap (column_of m') e ∙ here)
        | inr ne ↦ ne (sym (old.owned k lt) ∙ ap (owner_of m) (sym (other k ne) ∙ same) ∙ left_owner)
      ];
      holds = λ s s_in ne has. elim (cases_eq s hole) [
        | inl e ↦ rw (e, owner_here) here
        | inr apart ↦
            let owner_same : owner_of m' s ≡ owner_of m s = owner_other s apart in
            let old_holds : column_of m (owner_of m s) ≡ s = old.holds s s_in apart (omega arith) in
            let not_n : owner_of m s ≢ n = λ e. ne (sym old_holds ∙ ap (column_of m) e) in
            rw owner_same (other (owner_of m s) not_n ∙ old_holds)
      ];
      free = λ s s_in ne out. elim (cases_eq s hole) [
        | inl e ↦ absurd (omega (arith, ap (owner_of m') e))
        | inr apart ↦
            let owner_same : owner_of m' s ≡ owner_of m s = owner_other s apart in
            let was : (owner_of m s ≡ unused) × (price_of m s ≡ 0) = old.free s s_in apart (omega arith) in
            (owner_same ∙ was.0, ap (λ xs. slice_index xs s) prices_is ∙ was.1)
      ];
      best = λ k lt. rw prices_is (elim (cases_eq k n) [
        | inl e ↦ rw (e, here) better
        | inr ne ↦ rw (other k ne) (old.best k lt)
      ]);
    }

pub handing_step : (cost : ℕ → ℕ → ℕ) (columns row : ℕ) (old m m' : Matching) (l : Labels) (hole place : ℕ) → IsPath cost columns row old l
    → IsAugmenting cost columns row old m l hole place → 0 < place
    → m'.column_of.items ≡ slice_set m.column_of.items (row_at l place) hole → m'.owner.items ≡ slice_set m.owner.items hole (row_at l place)
    → m'.prices.items ≡ m.prices.items
    → IsAugmenting cost columns row old m' l (column_of m (row_at l place)) (parent_of l (row_at l place))
handing_step cost columns row old m m' l hole place path back pos chosen_is owner_is prices_is =
    let n_in : row_at l place < row = path.rows place pos back.within in
    let before : parent_of l (row_at l place) < place = path.parents place pos back.within in
    let left : column_of m (row_at l place) ≡ column_of old (row_at l place) = back.same place pos (omega arith) in
    let link : IsBest cost columns old.prices.items (row_at l (parent_of l (row_at l place))) (column_of old (row_at l place)) =
    path.best place pos back.within in
    record {
      is_hole = hole_moved cost columns row m m' hole (row_at l place) back.is_hole n_in back.best chosen_is owner_is prices_is;
      within = omega (arith, back.within);
      best = rw (prices_is, back.prices, left) link;
      same = λ k k_pos le.
          let apart : row_at l k ≢ row_at l place = path.distinct k place (omega arith) back.within in
          rw chosen_is (get_or-set_other m.column_of.items (row_at l place) (row_at l k) hole 0 apart) ∙ back.same k k_pos (omega arith);
      prices = prices_is ∙ back.prices;
      sizes = (
        rw chosen_is (length-set m.column_of.items (row_at l place) hole) ∙ back.sizes.0,
        rw owner_is (length-set m.owner.items hole (row_at l place)) ∙ back.sizes.1,
      );
    }

-- the row that had no column gets the hole
pub handing_end : (cost : ℕ → ℕ → ℕ) (columns row : ℕ) (old m m' : Matching) (l : Labels) (hole place : ℕ) → IsPath cost columns row old l
    → IsAugmenting cost columns row old m l hole place → place ≡ 0
    → m'.column_of.items ≡ slice_set m.column_of.items row hole → m'.owner.items ≡ slice_set m.owner.items hole row
    → m'.prices.items ≡ m.prices.items → IsAugmented cost columns row old m'
handing_end cost columns row old m m' l hole place path back start chosen_is owner_is prices_is =
    let was : IsHole cost columns row m hole = back.is_hole in
    let here : column_of m' row ≡ hole = rw chosen_is (get_or-set_same m.column_of.items row hole 0 was.space.chosen) in
    let other : (k : ℕ) → k ≢ row → column_of m' k ≡ column_of m k = λ k ne. rw chosen_is (get_or-set_other m.column_of.items row k hole 0 ne) in
    let owner_here : owner_of m' hole ≡ row = rw owner_is (get_or-set_same m.owner.items hole row 0 (omega (arith, was.within, was.space.owners))) in
    let owner_other : (s : ℕ) → s ≢ hole → owner_of m' s ≡ owner_of m s = λ s ne. rw owner_is (get_or-set_other m.owner.items hole s row 0 ne) in
    let first : row_at l place ≡ row = ap (row_at l) start ∙ path.start in
    let better : IsBest cost columns m.prices.items row hole = rw (← first) back.best in
    record {
      agree = record {
        in_range = λ k lt. elim (cases_eq k row) [
          | inl e ↦ rw (e, here) was.within
          | inr ne ↦ rw (other k ne) (was.in_range k (omega arith))
        ];
        owned = λ k lt. elim (cases_eq k row) [
          | inl e ↦ rw (e, here) owner_here
          | inr ne ↦ rw (other k ne) (owner_other (column_of m k) (was.vacant k (omega arith)) ∙ was.owned k (omega arith))
        ];
        holds = λ s s_in has. elim (cases_eq s hole) [
          | inl e ↦ rw (e, owner_here) here
          | inr apart ↦
              let owner_same : owner_of m' s ≡ owner_of m s = owner_other s apart in
              elim (cases_lt (owner_of m s) row) [
                | inl earlier ↦ rw owner_same (other (owner_of m s) (omega arith) ∙ was.holds s s_in apart earlier)
                | inr later ↦ absurd (omega (arith, (was.free s s_in apart later).0, was.few))
              ]
        ];
        free = λ s s_in out. elim (cases_eq s hole) [
          | inl e ↦ absurd (omega (arith, ap (owner_of m') e))
          | inr apart ↦
              let owner_same : owner_of m' s ≡ owner_of m s = owner_other s apart in
              owner_same ∙ (was.free s s_in apart (omega arith)).0
        ];
      };
      free = λ s s_in out. elim (cases_eq s hole) [
        | inl e ↦ absurd (omega (arith, ap (owner_of m') e))
        | inr apart ↦
            let owner_same : owner_of m' s ≡ owner_of m s = owner_other s apart in
            ap (λ xs. slice_index xs s) prices_is ∙ (was.free s s_in apart (omega arith)).1
      ];
      best = λ k lt. rw prices_is (elim (cases_eq k row) [
        | inl e ↦ rw (e, here) better
        | inr ne ↦ rw (other k ne) (was.best k (omega arith))
      ]);
      prices = prices_is ∙ back.prices;
      sizes = (
        rw chosen_is (length-set m.column_of.items row hole) ∙ back.sizes.0,
        rw owner_is (length-set m.owner.items hole row) ∙ back.sizes.1,
      );
    }

pub back_row : (cost : ℕ → ℕ → ℕ) (columns row : ℕ) (m : Matching) (l : Labels) (place current : ℕ) → IsPath cost columns row m l
    → place ≤ l.last → 0 < place → current ≡ get_or l.reached.items place current → (row_at l place ≡ current) × (current < row)
back_row cost columns row m l place current path within pos read =
    let is : row_at l place ≡ current = read_is l.reached.items place current (omega (arith, path.places)) read in
    (is, omega (arith, path.rows place pos within))

pub back_less : (cost : ℕ → ℕ → ℕ) (columns row : ℕ) (m : Matching) (l : Labels) (place current next : ℕ) → IsPath cost columns row m l
    → place ≤ l.last → 0 < place → current ≡ get_or l.reached.items place current → next ≡ get_or l.parent.items current next
    → (parent_of l (row_at l place) ≡ next) × (next < place)
back_less cost columns row m l place current next path within pos read read_next =
    let at : (row_at l place ≡ current) × (current < row) = back_row cost columns row m l place current path within pos read in
    let parent : parent_of l current ≡ next = read_is l.parent.items current next (omega (arith, at.1, path.room)) read_next in
    let is : parent_of l (row_at l place) ≡ next = ap (parent_of l) at.0 ∙ parent in
    (is, omega (arith, path.parents place pos within))

pub back_step : (cost : ℕ → ℕ → ℕ) (columns row : ℕ) (old m m' : Matching) (l : Labels) (hole place current left next : ℕ) → IsPath cost columns row old l
    → IsAugmenting cost columns row old m l hole place → 0 < place
    → current ≡ get_or l.reached.items place current → left ≡ get_or m.column_of.items current left → next ≡ get_or l.parent.items current next
    → m'.column_of.items ≡ slice_set m.column_of.items current hole → m'.owner.items ≡ slice_set m.owner.items hole current
    → m'.prices.items ≡ m.prices.items
    → IsAugmenting cost columns row old m' l left next
back_step cost columns row old m m' l hole place current left next path back pos read read_left read_next chosen_is owner_is prices_is =
    let at : (row_at l place ≡ current) × (current < row) = back_row cost columns row old l place current path back.within pos read in
    let column : column_of m current ≡ left = read_is m.column_of.items current left (omega (arith, at.1, back.is_hole.space.chosen)) read_left in
    let left_is : column_of m (row_at l place) ≡ left = ap (column_of m) at.0 ∙ column in
    let next_is : parent_of l (row_at l place) ≡ next = (back_less cost columns row old l place current next path back.within pos read read_next).0 in
    let step : IsAugmenting cost columns row old m' l (column_of m (row_at l place)) (parent_of l (row_at l place)) =
    handing_step cost columns row old m m' l hole place path back pos (rw at.0 chosen_is) (rw at.0 owner_is) prices_is in
    let at_left : IsAugmenting cost columns row old m' l left (parent_of l (row_at l place)) = rw (← left_is) step in
    rw (← next_is) at_left

-- one place more is raised
pub raise_step : (chosen old new : List ℕ) (l : Labels) (k row label : ℕ) → CanRaise chosen old l → AreRaised chosen old new l k → 0 < k
    → k ≤ l.at → row ≡ get_or l.reached.items k row → label ≡ get_or l.label.items row label
    → AreRaised chosen old (slice_set new (slice_index chosen row) (slice_index new (slice_index chosen row) + (l.level - label))) l (k + 1)
raise_step chosen old new l k row label can done pos within read read_label =
    let row_is : row_at l k ≡ row = read_is l.reached.items k row (omega (arith, can.places)) read in
    let label_is : label_of l row ≡ label = read_is l.label.items row label (omega (arith, (can.rows k within pos).1)) read_label in
    let s : ℕ = slice_index chosen row in
    let s_is : slice_index chosen (row_at l k) ≡ s = ap (λ n. slice_index chosen n) row_is in
    let s_in : s < length new = omega (arith, can.columns k within pos, done.size) in
    let raised : ℕ = slice_index new s + (l.level - label) in
    let here : slice_index (set new s raised) s ≡ raised = get_or-set_same new s raised 0 s_in in
    let other : (t : ℕ) → t ≢ s → slice_index (set new s raised) t ≡ slice_index new t = λ t ne. get_or-set_other new s t raised 0 ne in
    let apart : (i : ℕ) → 0 < i → i < k → slice_index chosen (row_at l i) ≢ s = λ i i_pos lt e. can.apart i k i_pos lt within (e ∙ sym s_is) in
    let untouched : slice_index new s ≡ slice_index old s = done.same s apart in
    let near : label ≤ l.level = omega (arith, can.near k within, ap (label_of l) row_is) in
    record {
      size = length-set new s raised ∙ done.size;
      raised = λ i i_pos lt. elim (cases_eq i k) [
        | inl e ↦ rw (e, s_is, row_is, here) (omega (arith, label_is))
        | inr ne ↦ rw (other (slice_index chosen (row_at l i)) (apart i i_pos (omega arith))) (done.raised i i_pos (omega arith))
      ];
      same = λ t out.
          other t (λ e. out k pos (omega arith) (s_is ∙ sym e)) ∙ done.same t (λ i i_pos lt. out i i_pos (omega arith));
      rises = λ t. elim (cases_eq t s) [
        | inl e ↦ rw (e, here) (omega arith)
        | inr ne ↦ omega (arith, other t ne, done.rises t)
      ];
    }
