-- How a row is added to a matching.
use Rattle.std.proofs.Common.{◌≡◌, ◌≢◌, ℕ, ◌+◌, ◌<◌, ◌≤◌, inl, inr, List, min, sym, ap, ◌∙◌, arith}
use Rattle.std.specs.Prelude.{slice_index, ◌^◌}
use Rattle.std.proofs.lemmas.Bool.{cases_eq, cases_lt}
use Rattle.fp_match.specs.declared.labels.Labels.{Labels}
use Rattle.fp_match.specs.declared.matching.Matching.{Matching}
use Rattle.fp_match.specs.Prices.{IsWithinLimits, IsBest}
use Rattle.fp_match.specs.Owners.{Agree, unused}
use Rattle.fp_match.specs.OwnerLaws.{free_or_owned, pigeonhole}
use Rattle.fp_match.specs.Search.{far, label_of, row_at, parent_of, owner_of, column_of, price_of, Fits, IsMatching, least_of, Covered, IsLink, IsSink, IsTree, IsGrown, IsPath, IsAugmented, CanRaise, IsRaised}
use Rattle.fp_match.proofs.Tree.{least_held, least_start}

-- some column is not used
some_free : (cost : ℕ → ℕ → ℕ) (columns row : ℕ) (m : Matching) → IsMatching cost columns row m → Fits columns row m → row < columns
    → (s : ℕ) × ((s < columns) × (row ≤ owner_of m s))
some_free cost columns row m matched fits lt =
    elim (free_or_owned row columns m.owner.items) [
      | inl free ↦ free
      | inr all ↦
          let few : columns ≤ row = pigeonhole columns row m.owner.items fits.owners all
          (λ i j i_lt j_in same. omega (
            arith,
            ap (column_of m) same,
            matched.agree.holds i (omega arith) (all i (omega arith)),
            matched.agree.holds j j_in (all j j_in),
          )) in
          absurd (omega arith)
    ]

grown_covered : (cost : ℕ → ℕ → ℕ) (columns row : ℕ) (m : Matching) (l : Labels) (k s : ℕ) → IsGrown cost columns row m l → k ≤ l.at
    → s < columns → Covered cost row m l (row_at l k) s
grown_covered cost columns row m l k s grown le lt =
    elim (cases_eq k l.at) [
      | inl e ↦ rw e (grown.covered s (omega arith) lt)
      | inr ne ↦ grown.tree.covered k s (omega arith) lt
    ]

-- an unused column was found, no farther than a cost
pub level_low : (cost : ℕ → ℕ → ℕ) (rows columns row : ℕ) (m : Matching) (l : Labels) → IsWithinLimits rows columns cost
    → IsMatching cost columns row m → Fits columns row m → IsGrown cost columns row m l → row < rows → rows ≤ columns → l.level ≤ 2 ^ 36
level_low cost rows columns row m l limits matched fits grown row_in few =
    let free : (s : ℕ) × ((s < columns) × (row ≤ owner_of m s)) = some_free cost columns row m matched fits (omega arith) in
    let covered : Covered cost row m l (row_at l 0) free.0 = grown_covered cost columns row m l 0 free.0 grown (omega arith) free.1.0 in
    omega (
      arith,
      covered.free free.1.1,
      ap (least_of cost row m) grown.tree.start,
      ap (label_of l) grown.tree.start,
      ap (λ n. cost n free.0) grown.tree.start,
      least_start cost row m,
      grown.tree.start_label,
      matched.free free.0 free.1.0 free.1.1,
      limits.most_cost row free.0 row_in free.1.0,
    )

-- rows behind the first have columns
pub held_row : (cost : ℕ → ℕ → ℕ) (columns row : ℕ) (m : Matching) (l : Labels) (k : ℕ) → IsTree cost columns row m l → 0 < k → k < l.count
    → row_at l k < row
held_row cost columns row m l k tree pos lt =
    let apart : row_at l 0 ≢ row_at l k = tree.distinct 0 k pos lt in
    omega (arith, tree.reached k lt, tree.start)

settled_near : (cost : ℕ → ℕ → ℕ) (columns row : ℕ) (m : Matching) (l : Labels) (k : ℕ) → IsTree cost columns row m l → k ≤ l.at
    → label_of l (row_at l k) ≤ l.level
settled_near cost columns row m l k tree le = omega (arith, tree.before k le, tree.level_after)

-- rows with one column are the same
same_row : (columns row : ℕ) (m : Matching) (i j : ℕ) → Agree columns row m.column_of.items m.owner.items → i < row → j < row
    → column_of m i ≡ column_of m j → i ≡ j
same_row columns row m i j agree i_in j_in same = sym (agree.owned i i_in) ∙ ap (owner_of m) same ∙ agree.owned j j_in

pub can_raise : (cost : ℕ → ℕ → ℕ) (columns row : ℕ) (m : Matching) (l : Labels) → IsMatching cost columns row m → Fits columns row m
    → IsGrown cost columns row m l → l.level ≤ 2 ^ 36 → CanRaise m.column_of.items m.prices.items l
can_raise cost columns row m l matched fits grown low =
    let tree : IsTree cost columns row m l = grown.tree in
    let in_row : (k : ℕ) → k ≤ l.at → 0 < k → row_at l k < row = λ k le pos. held_row cost columns row m l k tree pos (omega (arith, tree.within)) in
    record {
      places = omega (arith, tree.within, tree.places);
      rows = λ k le pos. (omega (arith, in_row k le pos, fits.chosen), omega (arith, in_row k le pos, tree.room.labels));
      columns = λ k le pos. omega (arith, matched.agree.in_range (row_at l k) (in_row k le pos), fits.prices);
      apart = λ i j i_pos lt j_in same.
          tree.distinct i j lt (omega (arith, tree.within))
          (same_row columns row m (row_at l i) (row_at l j) matched.agree (in_row i (omega arith) i_pos) (in_row j j_in (omega arith)) same);
      near = λ k le. settled_near cost columns row m l k tree le;
      level_most = low;
      capped = λ k le pos. matched.capped (column_of m (row_at l k)) (matched.agree.in_range (row_at l k) (in_row k le pos));
    }

-- what is known when prices are raised to new ones
record Raised (cost : ℕ → ℕ → ℕ) (columns row : ℕ) (m : Matching) (l : Labels) (new : List ℕ) : Type 0 where
  matched : IsMatching cost columns row m
  fits : Fits columns row m
  grown : IsGrown cost columns row m l
  low : l.level < far
  raised : IsRaised m.column_of.items m.prices.items new l

-- unused columns keep their price
free_same : (cost : ℕ → ℕ → ℕ) (columns row : ℕ) (m : Matching) (l : Labels) (new : List ℕ) (s : ℕ) → Raised cost columns row m l new
    → row ≤ owner_of m s → slice_index new s ≡ price_of m s
free_same cost columns row m l new s r out =
    r.raised.same s (λ k pos lt same.
    let n_in : row_at l k < row = held_row cost columns row m l k r.grown.tree pos (omega (arith, r.grown.tree.within)) in
    omega (arith, r.matched.agree.owned (row_at l k) n_in, ap (owner_of m) same))

-- the price of a row's column is raised by as much as the row lies nearer than the level
held_price : (cost : ℕ → ℕ → ℕ) (columns row : ℕ) (m : Matching) (l : Labels) (new : List ℕ) (n : ℕ) → Raised cost columns row m l new
    → n < row → slice_index new (column_of m n) + min l.level (label_of l n) ≡ price_of m (column_of m n) + l.level
held_price cost columns row m l new n r n_in =
    elim (r.grown.tree.found n (omega (arith, r.grown.tree.room.labels))) [
      | inl is_far ↦
          let same : slice_index new (column_of m n) ≡ price_of m (column_of m n) = r.raised.same (column_of m n) (λ k pos lt e.
          let k_in : k < l.count = omega (arith, r.grown.tree.within) in
          let is : row_at l k ≡ n = same_row columns row m (row_at l k) n r.matched.agree (held_row cost columns row m l k r.grown.tree pos k_in) n_in e in
          omega (arith, r.grown.tree.near k k_in, ap (label_of l) is)) in
          omega (arith, r.low)
      | inr place ↦ elim (cases_lt l.at place.0) [
        | inl waits ↦
            let same : slice_index new (column_of m n) ≡ price_of m (column_of m n) = r.raised.same (column_of m n) (λ k pos lt e.
            let k_in : k < l.count = omega (arith, r.grown.tree.within) in
            let is : row_at l k ≡ n = same_row columns row m (row_at l k) n r.matched.agree (held_row cost columns row m l k r.grown.tree pos k_in) n_in e in
            r.grown.tree.distinct k place.0 (omega arith) place.1 (is ∙ sym place.2)) in
            let later : l.level ≤ label_of l n = omega (arith, r.grown.reached place.0 waits place.1, ap (label_of l) place.2) in
            omega arith
        | inr settled ↦
            let pos : 0 < place.0 = elim (cases_eq place.0 0) [
              | inl e ↦ absurd (omega (arith, r.grown.tree.start, ap (row_at l) e, place.2))
              | inr ne ↦ omega arith
            ] in
            let up : slice_index new (column_of m (row_at l place.0)) + label_of l (row_at l place.0) ≡ price_of m (column_of m (row_at l place.0)) + l.level =
            r.raised.raised place.0 pos (omega arith) in
            let near : label_of l (row_at l place.0) ≤ l.level = settled_near cost columns row m l place.0 r.grown.tree settled in
            let up_n : slice_index new (column_of m n) + label_of l n ≡ price_of m (column_of m n) + l.level = rw (← place.2) up in
            let near_n : label_of l n ≤ l.level = rw (← place.2) near in
            omega arith
      ]
    ]

-- what a settled row pays at least, at the new prices
pays_least : (cost : ℕ → ℕ → ℕ) (columns row : ℕ) (m : Matching) (l : Labels) (new : List ℕ) (k t : ℕ) → Raised cost columns row m l new
    → k ≤ l.at → t < columns
    → least_of cost row m (row_at l k) + l.level ≤ label_of l (row_at l k) + (cost (row_at l k) t + slice_index new t)
pays_least cost columns row m l new k t r le lt =
    let covered : Covered cost row m l (row_at l k) t = grown_covered cost columns row m l k t r.grown le lt in
    elim (cases_lt (owner_of m t) row) [
      | inl has ↦
          let price : slice_index new (column_of m (owner_of m t)) + min l.level (label_of l (owner_of m t))
          ≡ price_of m (column_of m (owner_of m t)) + l.level = held_price cost columns row m l new (owner_of m t) r has in
          let price_t : slice_index new t + min l.level (label_of l (owner_of m t)) ≡ price_of m t + l.level =
          rw (r.matched.agree.holds t lt has) at price in
          let held : min l.level (label_of l (owner_of m t)) + least_of cost row m (row_at l k) ≤ label_of l (row_at l k) + (cost (row_at l k) t + price_of m t) =
          covered.held has in
          omega arith
      | inr out ↦ omega (arith, covered.free out, free_same cost columns row m l new t r out)
    ]

-- the column of a linked row is best for its parent
link_best : (cost : ℕ → ℕ → ℕ) (columns row : ℕ) (m : Matching) (l : Labels) (new : List ℕ) (k : ℕ) → Raised cost columns row m l new
    → 0 < k → k ≤ l.at → IsBest cost columns new (row_at l (parent_of l (row_at l k))) (column_of m (row_at l k))
link_best cost columns row m l new k r pos le t lt =
    let link : IsLink cost row m l k = r.grown.tree.linked k pos (omega (arith, r.grown.tree.within)) in
    let up : slice_index new (column_of m (row_at l k)) + label_of l (row_at l k) ≡ price_of m (column_of m (row_at l k)) + l.level =
    r.raised.raised k pos (omega arith) in
    omega (arith, link.tight, pays_least cost columns row m l new (parent_of l (row_at l k)) t r link.settled lt)

sink_best : (cost : ℕ → ℕ → ℕ) (columns row : ℕ) (m : Matching) (l : Labels) (new : List ℕ) → Raised cost columns row m l new
    → IsBest cost columns new (row_at l l.last) l.sink
sink_best cost columns row m l new r t lt =
    let sink : IsSink cost columns row m l = r.grown.tree.sunk r.low in
    omega (arith, sink.tight, free_same cost columns row m l new l.sink r sink.free, pays_least cost columns row m l new l.last t r sink.settled lt)

-- each row's own column stays its best
own_best : (cost : ℕ → ℕ → ℕ) (columns row : ℕ) (m : Matching) (l : Labels) (new : List ℕ) (n : ℕ) → Raised cost columns row m l new
    → n < row → IsBest cost columns new n (column_of m n)
own_best cost columns row m l new n r n_in t lt =
    let price : slice_index new (column_of m n) + min l.level (label_of l n) ≡ price_of m (column_of m n) + l.level =
    held_price cost columns row m l new n r n_in in
    let old : cost n (column_of m n) + price_of m (column_of m n) ≤ cost n t + price_of m t = r.matched.best n n_in t lt in
    elim (cases_lt (label_of l n) l.level) [
      | inr over ↦ omega (arith, r.raised.rises t)
      | inl under ↦ elim (r.grown.tree.found n (omega (arith, r.grown.tree.room.labels))) [
        | inl is_far ↦ absurd (omega (arith, r.low))
        | inr place ↦ elim (cases_lt l.at place.0) [
          | inl waits ↦ absurd (omega (arith, r.grown.reached place.0 waits place.1, ap (label_of l) place.2))
          | inr settled ↦
              let pays : least_of cost row m (row_at l place.0) + l.level ≤ label_of l (row_at l place.0) + (cost (row_at l place.0) t + slice_index new t) =
              pays_least cost columns row m l new place.0 t r settled lt in
              let pays_n : least_of cost row m n + l.level ≤ label_of l n + (cost n t + slice_index new t) = rw (← place.2) pays in
              let least : least_of cost row m n ≡ cost n (column_of m n) + price_of m (column_of m n) = least_held cost row m n n_in in
              omega arith
        ]
      ]
    ]

-- the way back from the sink, at the new prices
pub path_of : (cost : ℕ → ℕ → ℕ) (columns row : ℕ) (m m' : Matching) (l : Labels) (new : List ℕ) → IsMatching cost columns row m → Fits columns row m
    → IsGrown cost columns row m l → l.level ≤ 2 ^ 36 → row < unused
    → m'.column_of.items ≡ m.column_of.items → m'.owner.items ≡ m.owner.items → m'.prices.items ≡ new → IsRaised m.column_of.items m.prices.items new l
    → IsPath cost columns row m' l
path_of cost columns row m m' l new matched fits grown low few chosen_is owner_is prices_is raised_new =
    let raised : IsRaised m.column_of.items m.prices.items m'.prices.items l = rw prices_is raised_new in
    let r : Raised cost columns row m l m'.prices.items =
    record { matched = matched; fits = fits; grown = grown; low = omega arith; raised = raised } in
    let tree : IsTree cost columns row m l = grown.tree in
    let sink : IsSink cost columns row m l = tree.sunk r.low in
    let columns_same : (n : ℕ) → column_of m' n ≡ column_of m n = λ n. ap (λ xs. slice_index xs n) chosen_is in
    let owners_same : (s : ℕ) → owner_of m' s ≡ owner_of m s = λ s. ap (λ xs. slice_index xs s) owner_is in
    let in_count : (k : ℕ) → k ≤ l.last → k < l.count = λ k le. omega (arith, sink.settled, tree.within) in
    record {
      matched = record {
        space = record {
          chosen = rw chosen_is fits.chosen;
          owners = rw owner_is fits.owners;
          prices = omega (arith, raised.size, fits.prices);
        };
        few = few;
        within = sink.within;
        in_range = λ n lt. rw (columns_same n) (matched.agree.in_range n lt);
        owned = λ n lt. rw (columns_same n, owners_same (column_of m n)) (matched.agree.owned n lt);
        vacant = λ n lt same.
            omega (arith, sink.free, matched.agree.owned n lt, ap (owner_of m) (sym (columns_same n) ∙ same));
        holds = λ s s_in ne has. rw (owners_same s, columns_same (owner_of m s)) (matched.agree.holds s s_in (omega (arith, owners_same s)));
        free = λ s s_in ne out.
            let out_m : row ≤ owner_of m s = omega (arith, owners_same s) in
            (owners_same s ∙ matched.agree.free s s_in out_m, free_same cost columns row m l m'.prices.items s r out_m ∙ matched.free s s_in out_m);
        best = λ n lt. rw (columns_same n) (own_best cost columns row m l m'.prices.items n r lt);
      };
      room = tree.room.parents;
      places = omega (arith, sink.settled, tree.within, tree.places);
      start = tree.start;
      rows = λ k pos le. held_row cost columns row m l k tree pos (in_count k le);
      distinct = λ i j lt le. tree.distinct i j lt (in_count j le);
      parents = λ k pos le. (tree.linked k pos (in_count k le)).earlier;
      best = λ k pos le. rw (columns_same (row_at l k)) (link_best cost columns row m l m'.prices.items k r pos (omega (arith, sink.settled)));
      last = sink_best cost columns row m l m'.prices.items r;
    }

-- the matching with one row more
pub matched_more : (cost : ℕ → ℕ → ℕ) (rows columns row : ℕ) (m m' m'' : Matching) (l : Labels) (new : List ℕ) → IsWithinLimits rows columns cost
    → IsMatching cost columns row m → Fits columns row m → IsGrown cost columns row m l → l.level ≤ 2 ^ 36 → row < rows
    → m'.prices.items ≡ new → IsRaised m.column_of.items m.prices.items new l → IsAugmented cost columns row m' m''
    → IsMatching cost columns (row + 1) m''
matched_more cost rows columns row m m' m'' l new limits matched fits grown low row_in prices_is raised_new back =
    let raised : IsRaised m.column_of.items m.prices.items m'.prices.items l = rw prices_is raised_new in
    let r : Raised cost columns row m l m'.prices.items =
    record { matched = matched; fits = fits; grown = grown; low = omega arith; raised = raised } in
    let sink : IsSink cost columns row m l = grown.tree.sunk r.low in
    let sink_price : price_of m'' l.sink ≡ 0 =
    ap (λ xs. slice_index xs l.sink) back.prices ∙ free_same cost columns row m l m'.prices.items l.sink r sink.free ∙ matched.free l.sink sink.within sink.free in
    record {
      agree = back.agree;
      free = back.free;
      best = back.best;
      capped = λ s s_in. elim (cases_lt (owner_of m'' s) (row + 1)) [
        | inl has ↦
            let best : cost (owner_of m'' s) (column_of m'' (owner_of m'' s)) + price_of m'' (column_of m'' (owner_of m'' s))
            ≤ cost (owner_of m'' s) l.sink + price_of m'' l.sink = back.best (owner_of m'' s) has l.sink sink.within in
            let best_s : cost (owner_of m'' s) s + price_of m'' s ≤ cost (owner_of m'' s) l.sink + price_of m'' l.sink =
            rw (back.agree.holds s s_in has) at best in
            let most : cost (owner_of m'' s) l.sink ≤ 2 ^ 36 = limits.most_cost (owner_of m'' s) l.sink (omega arith) sink.within in
            omega arith
        | inr out ↦ omega (arith, back.free s s_in out)
      ];
    }
