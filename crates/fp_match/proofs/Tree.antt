-- How what a search knows is kept through its steps.
use Rattle.std.proofs.Common.{◌≡◌, ◌≢◌, ℕ, ◌+◌, ◌<◌, ◌≤◌, inl, inr, List, ◌∷◌, length, refl, sym, ap, ◌∙◌, arith, suc, zero}
use Rattle.std.specs.Prelude.{slice_index, slice_set}
use Rattle.std.proofs.lemmas.Bool.{cases_eq, cases_lt}
use Rattle.std.proofs.lemmas.Bool.Decides.{nat_tests}
use Rattle.std.proofs.lemmas.List.{get_or-set_same, get_or-set_other}
use Rattle.std.proofs.Math.ListN.{length-set}
use Rattle.fp_match.specs.declared.labels.Labels.{Labels}
use Rattle.fp_match.specs.declared.matching.Matching.{Matching}
use Rattle.fp_match.specs.declared.scan.Turn.{Turn}
use Rattle.fp_match.specs.Prices.{AreDistinctBelow}
use Rattle.fp_match.specs.Owners.{unused}
use Rattle.fp_match.specs.OwnerLaws.{pigeonhole}
use Rattle.fp_match.specs.Search.{far, label_of, row_at, parent_of, owner_of, column_of, price_of, HasRoom, IsMatching, least_of, Covered, IsLink, IsSink, IsTree, Grown, Scanned, IsOffer, Offered, IsTurn, IsLabelled, IsLowered, IsEntered, IsStarted, AreFar}

pub least_held : (cost : ℕ → ℕ → ℕ) (row : ℕ) (m : Matching) (n : ℕ) → n < row
    → least_of cost row m n ≡ cost n (column_of m n) + price_of m (column_of m n)
unfolding least_of
least_held cost row m n lt = grind (arith, nat_tests)

pub least_start : (cost : ℕ → ℕ → ℕ) (row : ℕ) (m : Matching) → least_of cost row m row ≡ 0
unfolding least_of
least_start cost row m = grind (arith, nat_tests)

-- no column costs a row of the tree less than its own
pub least_low : (cost : ℕ → ℕ → ℕ) (columns row : ℕ) (m : Matching) (n s : ℕ) → IsMatching cost columns row m → n ≤ row → s < columns
    → least_of cost row m n ≤ cost n s + price_of m s
least_low cost columns row m n s matched most lt =
    elim (cases_eq n row) [
      | inl e ↦ rw (e, least_start cost row m) (omega arith)
      | inr ne ↦
          let held : least_of cost row m n ≡ cost n (column_of m n) + price_of m (column_of m n) = least_held cost row m n (omega arith) in
          let best : cost n (column_of m n) + price_of m (column_of m n) ≤ cost n s + price_of m s = matched.best n (omega arith) s lt in
          omega arith
    ]

-- what is covered stays covered while levels and labels fall
pub cov_mono : (cost : ℕ → ℕ → ℕ) (row : ℕ) (m : Matching) (l l' : Labels) (n n' s : ℕ) → n' ≡ n → l'.level ≤ l.level
    → ((j : ℕ) → label_of l' j ≤ label_of l j) → label_of l' n ≡ label_of l n → Covered cost row m l n s → Covered cost row m l' n' s
cov_mono cost row m l l' n n' s same level labels own covered =
    let here : Covered cost row m l' n s = record {
      free = λ out. omega (arith, covered.free out);
      held = λ has. omega (arith, covered.held has, labels (owner_of m s));
    } in
    rw same here

-- a link from its parts
pub link_of : (cost : ℕ → ℕ → ℕ) (row : ℕ) (m : Matching) (l : Labels) (k n i r : ℕ) → row_at l k ≡ n → parent_of l n ≡ i → row_at l i ≡ r
    → i < k → i ≤ l.at
    → label_of l n + least_of cost row m r ≡ label_of l r + (cost r (column_of m n) + price_of m (column_of m n))
    → IsLink cost row m l k
link_of cost row m l k n i r row_is parent_is from earlier settled tight = record {
  earlier = rw (row_is, parent_is) earlier;
  settled = rw (row_is, parent_is) settled;
  tight = rw (row_is, parent_is, from) tight;
}

-- a link whose rows and labels stay
pub link_kept : (cost : ℕ → ℕ → ℕ) (row : ℕ) (m : Matching) (l l' : Labels) (k k' : ℕ) → row_at l' k' ≡ row_at l k
    → parent_of l' (row_at l k) ≡ parent_of l (row_at l k) → label_of l' (row_at l k) ≡ label_of l (row_at l k)
    → ((i : ℕ) → i ≤ l.at → row_at l' i ≡ row_at l i) → ((i : ℕ) → i ≤ l.at → label_of l' (row_at l i) ≡ label_of l (row_at l i))
    → parent_of l (row_at l k) < k' → parent_of l (row_at l k) ≤ l'.at → IsLink cost row m l k → IsLink cost row m l' k'
link_kept cost row m l l' k k' row_is parent_is label_is rows labels earlier settled link =
    let from : row_at l' (parent_of l (row_at l k)) ≡ row_at l (parent_of l (row_at l k)) = rows _ link.settled in
    let depth : label_of l' (row_at l (parent_of l (row_at l k))) ≡ label_of l (row_at l (parent_of l (row_at l k))) = labels _ link.settled in
    link_of cost row m l' k' (row_at l k) (parent_of l (row_at l k)) (row_at l (parent_of l (row_at l k))) row_is parent_is from earlier settled
    (omega (arith, link.tight, label_is, depth))

pub sink_kept : (cost : ℕ → ℕ → ℕ) (columns row : ℕ) (m : Matching) (l l' : Labels) → l'.level ≡ l.level → l'.sink ≡ l.sink → l'.last ≡ l.last
    → l.at ≤ l'.at → ((i : ℕ) → i ≤ l.at → row_at l' i ≡ row_at l i) → ((i : ℕ) → i ≤ l.at → label_of l' (row_at l i) ≡ label_of l (row_at l i))
    → IsSink cost columns row m l → IsSink cost columns row m l'
sink_kept cost columns row m l l' level sink last at rows labels sunk =
    let from : row_at l' l.last ≡ row_at l l.last = rows _ sunk.settled in
    let depth : label_of l' (row_at l l.last) ≡ label_of l (row_at l l.last) = labels _ sunk.settled in
    record {
      within = rw sink sunk.within;
      free = rw sink sunk.free;
      settled = omega (arith, sunk.settled);
      tight = rw (last, from, sink, level, depth) sunk.tight;
    }

-- there is a place for a row that is not reached
pub place_for : (cost : ℕ → ℕ → ℕ) (columns row : ℕ) (m : Matching) (l : Labels) (h : ℕ) → IsTree cost columns row m l → h ≤ row
    → far ≤ label_of l h → l.count < row + 1
place_for cost columns row m l h tree most is_far =
    let all : l.count + 1 ≤ row + 1 = pigeonhole (l.count + 1) (row + 1) (h ∷ l.reached.items) (omega (arith, tree.places)) within apart in
    omega arith
  where
    within : (i : ℕ) → i < l.count + 1 → slice_index (h ∷ l.reached.items) i < row + 1
    within zero lt = omega arith
    within (suc i) lt = omega (arith, tree.reached i (omega arith))

    apart : AreDistinctBelow (l.count + 1) (h ∷ l.reached.items)
    apart zero zero lt below same = absurd (omega arith)
    apart zero (suc j) lt below same = omega (arith, tree.near j (omega arith), ap (label_of l) same)
    apart (suc i) zero lt below same = absurd (omega arith)
    apart (suc i) (suc j) lt below same = tree.distinct i j (omega arith) (omega arith) same

pub count_most : (cost : ℕ → ℕ → ℕ) (columns row : ℕ) (m : Matching) (l : Labels) → IsTree cost columns row m l → l.count ≤ row + 1
count_most cost columns row m l tree =
    pigeonhole l.count (row + 1) l.reached.items tree.places (λ k lt. omega (arith, tree.reached k lt)) tree.distinct

-- a row of the matching gets a lower label
pub tree_labelled : (cost : ℕ → ℕ → ℕ) (columns row : ℕ) (m : Matching) (l l' : Labels) (h v p s : ℕ)
    → IsTree cost columns row m l → IsOffer cost columns row m l s v → owner_of m s ≡ h → h < row
    → IsLabelled l l' h v → v < label_of l h
    → ((k : ℕ) → k < l.count → row_at l' k ≡ row_at l k)
    → ((k : ℕ) → l.count ≤ k → k < l'.count → row_at l' k ≡ h)
    → l.count ≤ l'.count → l'.count ≤ length l'.reached.items → length l'.reached.items ≡ length l.reached.items
    → p < l'.count → row_at l' p ≡ h → AreDistinctBelow l'.count l'.reached.items
    → Offered cost columns row m l l' s
tree_labelled cost columns row m l l' h v p s tree offer owner_is h_in labelled lower rows news more places sized p_in p_is distinct =
    let lab_h : label_of l' h ≡ v = rw labelled.label (get_or-set_same l.label.items h v 0 (omega (arith, tree.room.labels))) in
    let par_h : parent_of l' h ≡ l.at = rw labelled.parent (get_or-set_same l.parent.items h l.at 0 (omega (arith, tree.room.parents))) in
    let lab = λ (n : ℕ) (ne : n ≢ h). others l.label.items l'.label.items h v labelled.label n ne in
    let par = λ (n : ℕ) (ne : n ≢ h). others l.parent.items l'.parent.items h l.at labelled.parent n ne in
    let falls : (n : ℕ) → label_of l' n ≤ label_of l n =
    λ n. elim (cases_eq n h) [ inl e ↦ rw e (omega arith) | inr ne ↦ omega (arith, lab n ne) ] in
    let unsettled : (k : ℕ) → k ≤ l.at → row_at l k ≢ h =
    λ k le e. omega (arith, tree.before k le, offer.after, ap (label_of l) e) in
    let settled : (k : ℕ) → k ≤ l.at → label_of l' (row_at l k) ≡ label_of l (row_at l k) = λ k le. lab (row_at l k) (unsettled k le) in
    let settled_rows : (k : ℕ) → k ≤ l.at → row_at l' k ≡ row_at l k = λ k le. rows k (omega (arith, tree.within)) in
    let last_row : row_at l' l'.at ≡ row_at l l.at = ap (row_at l') labelled.at ∙ settled_rows l.at (omega arith) in
    let depth : label_of l' (row_at l' l'.at) ≡ label_of l (row_at l l.at) = ap (label_of l') last_row ∙ settled l.at (omega arith) in
    let old_place : (k : ℕ) → k < l'.count → row_at l' k ≢ h → k < l.count =
    λ k lt ne. elim (cases_lt k l.count) [ inl under ↦ under | inr over ↦ absurd (ne (news k over lt)) ] in
    let at_is : l'.at ≡ l.at = labelled.at in
    let h_is : column_of m h ≡ s =
    rw (← owner_is) (offer.agree.holds s offer.within (rw owner_is h_in)) in
    let grown : Grown l l' = record {
      at = at_is;
      level = omega (arith, labelled.level);
      size = rw labelled.label (length-set l.label.items h v);
      sizes = (rw labelled.parent (length-set l.parent.items h l.at), sized);
      rows = settled_rows;
      labels = falls;
      settled = settled;
    } in
    record {
      grown = grown;
      covered = record {
        free = λ out. absurd (omega (arith, owner_is));
        held = λ has. rw (last_row, owner_is) (omega (arith, lab_h, settled l.at (omega arith), offer.tight));
      };
      tree = record {
        room = record {
          labels = omega (arith, grown.size, tree.room.labels);
          parents = omega (arith, grown.sizes.0, tree.room.parents);
          places = omega (arith, sized, tree.room.places);
        };
        start = rows 0 (omega (arith, tree.within)) ∙ tree.start;
        start_label = lab row (omega arith) ∙ tree.start_label;
        within = omega (arith, tree.within);
        places = places;
        reached = λ k lt. elim (cases_eq (row_at l' k) h) [
          | inl e ↦ omega arith
          | inr ne ↦ omega (arith, tree.reached k (old_place k lt ne), rows k (old_place k lt ne))
        ];
        near = λ k lt. elim (cases_eq (row_at l' k) h) [
          | inl e ↦ rw e (omega (arith, lab_h, offer.lower, tree.level_most))
          | inr ne ↦
              let e : row_at l' k ≡ row_at l k = rows k (old_place k lt ne) in
              let less : label_of l (row_at l k) < far = tree.near k (old_place k lt ne) in
              omega (arith, falls (row_at l' k), ap (label_of l) e)
        ];
        distinct = distinct;
        found = λ n lt. elim (cases_eq n h) [
          | inl e ↦ inr (p, p_in, p_is ∙ sym e)
          | inr ne ↦ elim (tree.found n (omega (arith, grown.size))) [
            | inl is_far ↦ inl (lab n ne ∙ is_far)
            | inr place ↦ inr (place.0, omega (arith, place.1), rows place.0 place.1 ∙ place.2)
          ]
        ];
        before = λ k le.
            let old : label_of l (row_at l k) ≤ label_of l (row_at l l.at) = tree.before k (omega arith) in
            let e : row_at l' k ≡ row_at l k = settled_rows k (omega arith) in
            omega (arith, depth, falls (row_at l' k), ap (label_of l) e);
        after = λ k gt lt. elim (cases_eq (row_at l' k) h) [
          | inl e ↦ rw e (omega (arith, lab_h, depth, offer.after))
          | inr ne ↦
              let e : row_at l' k ≡ row_at l k = rows k (old_place k lt ne) in
              let old : label_of l (row_at l l.at) ≤ label_of l (row_at l k) = tree.after k (omega arith) (old_place k lt ne) in
              omega (arith, depth, lab (row_at l' k) ne, ap (label_of l) e)
        ];
        level_most = omega (arith, tree.level_most, labelled.level);
        level_after = omega (arith, tree.level_after, labelled.level, depth);
        covered = λ k t lt t_in. cov_mono cost row m l l' (row_at l k) (row_at l' k) t (settled_rows k (omega arith)) (omega (arith, labelled.level)) falls
            (settled k (omega arith)) (tree.covered k t (omega arith) t_in);
        linked = λ k pos lt. elim (cases_eq (row_at l' k) h) [
          | inl e ↦
              let later : l.at < k = elim (cases_lt l.at k) [
                | inl under ↦ under
                | inr over ↦ absurd (unsettled k over (sym (settled_rows k over) ∙ e))
              ] in
              link_of cost row m l' k h l.at (row_at l l.at) e par_h (settled_rows l.at (omega arith)) later (omega arith)
              (rw h_is (omega (arith, lab_h, settled l.at (omega arith), offer.tight)))
          | inr ne ↦
              let old : k < l.count = old_place k lt ne in
              let e : row_at l' k ≡ row_at l k = rows k old in
              let apart : row_at l k ≢ h = λ same. ne (e ∙ same) in
              let link : IsLink cost row m l k = tree.linked k pos old in
              link_kept cost row m l l' k k e (par (row_at l k) apart) (lab (row_at l k) apart) settled_rows settled link.earlier
              (omega (arith, link.settled)) link
        ];
        sunk = λ near. sink_kept cost columns row m l l' labelled.level labelled.sink labelled.last (omega arith) settled_rows settled
            (tree.sunk (omega (arith, labelled.level)));
      };
    }
  where
    others : (old new : List ℕ) (h v : ℕ) → new ≡ slice_set old h v → (n : ℕ) → n ≢ h → slice_index new n ≡ slice_index old n
    others old new h v is n ne = rw is (get_or-set_other old h n v 0 ne)

-- a waiting row gets a lower label
pub tree_lowered : (cost : ℕ → ℕ → ℕ) (columns row : ℕ) (m : Matching) (l l' : Labels) (h v s : ℕ)
    → IsTree cost columns row m l → IsOffer cost columns row m l s v → owner_of m s ≡ h → h < row → label_of l h ≢ far
    → IsLowered l l' h v → v < label_of l h → Offered cost columns row m l l' s
tree_lowered cost columns row m l l' h v s tree offer owner_is h_in near lowered lower =
    elim (tree.found h (omega (arith, tree.room.labels))) [
      | inl is_far ↦ absurd (near is_far)
      | inr place ↦
          tree_labelled cost columns row m l l' h v place.0 s tree offer owner_is h_in lowered.labelled lower
          (λ k lt. ap (λ xs. slice_index xs k) lowered.reached)
          (λ k le lt. absurd (omega (arith, lowered.count)))
          (omega (arith, lowered.count)) (omega (arith, lowered.count, tree.places, ap length lowered.reached)) (ap length lowered.reached)
          (omega (arith, lowered.count, place.1)) (ap (λ xs. slice_index xs place.0) lowered.reached ∙ place.2)
          (rw (lowered.count, lowered.reached) tree.distinct)
    ]

-- a row that was not reached is
pub tree_entered : (cost : ℕ → ℕ → ℕ) (columns row : ℕ) (m : Matching) (l l' : Labels) (h v s : ℕ)
    → IsTree cost columns row m l → IsOffer cost columns row m l s v → owner_of m s ≡ h → h < row → label_of l h ≡ far
    → IsEntered l l' h v → Offered cost columns row m l l' s
tree_entered cost columns row m l l' h v s tree offer owner_is h_in is_far entered =
    let place : l.count < row + 1 = place_for cost columns row m l h tree (omega arith) (omega arith) in
    let here : row_at l' l.count ≡ h = rw entered.reached (get_or-set_same l.reached.items l.count h 0 (omega (arith, tree.room.places))) in
    let same : (k : ℕ) → k < l.count → row_at l' k ≡ row_at l k =
    λ k lt. rw entered.reached (get_or-set_other l.reached.items l.count k h 0 (omega arith)) in
    let size : length l'.reached.items ≡ length l.reached.items = rw entered.reached (length-set l.reached.items l.count h) in
    tree_labelled cost columns row m l l' h v l.count s tree offer owner_is h_in entered.labelled (omega (arith, offer.lower, tree.level_most))
    same (λ k le lt. ap (row_at l') (let e : k ≡ l.count = omega (arith, entered.count) in e) ∙ here)
    (omega (arith, entered.count)) (omega (arith, entered.count, tree.room.places)) size (omega (arith, entered.count)) here
    (λ i j lt below e. elim (cases_eq j l.count) [
      | inl last ↦ omega (arith, tree.near i (omega arith), ap (label_of l) (sym (same i (omega arith)) ∙ e ∙ ap (row_at l') last ∙ here))
      | inr ne ↦
          let j_in : j < l.count = omega (arith, entered.count) in
          tree.distinct i j lt j_in (sym (same i (omega arith)) ∙ e ∙ same j j_in)
    ])

-- an unused column is the nearest so far
pub tree_sunk : (cost : ℕ → ℕ → ℕ) (columns row : ℕ) (m : Matching) (l l' : Labels) (v s : ℕ)
    → IsTree cost columns row m l → IsOffer cost columns row m l s v → row ≤ owner_of m s
    → l' ≡ record l { level = v; sink = s; last = l.at } → Offered cost columns row m l l' s
tree_sunk cost columns row m l l' v s tree offer unowned is =
    let at_is : l'.at ≡ l.at = ap (λ x. x.at) is in
    let count_is : l'.count ≡ l.count = ap (λ x. x.count) is in
    let level_is : l'.level ≡ v = ap (λ x. x.level) is in
    let sink_is : l'.sink ≡ s = ap (λ x. x.sink) is in
    let last_is : l'.last ≡ l.at = ap (λ x. x.last) is in
    let label_is : l'.label.items ≡ l.label.items = ap (λ x. x.label.items) is in
    let parent_is : l'.parent.items ≡ l.parent.items = ap (λ x. x.parent.items) is in
    let reached_is : l'.reached.items ≡ l.reached.items = ap (λ x. x.reached.items) is in
    let rows : (k : ℕ) → row_at l' k ≡ row_at l k = λ k. ap (λ xs. slice_index xs k) reached_is in
    let labels : (n : ℕ) → label_of l' n ≡ label_of l n = λ n. ap (λ xs. slice_index xs n) label_is in
    let parents : (n : ℕ) → parent_of l' n ≡ parent_of l n = λ n. ap (λ xs. slice_index xs n) parent_is in
    let lower : l'.level ≤ l.level = omega (arith, offer.lower) in
    let last_row : row_at l' l'.at ≡ row_at l l.at = ap (row_at l') at_is ∙ rows l.at in
    let depth : label_of l' (row_at l' l'.at) ≡ label_of l (row_at l l.at) = ap (label_of l') last_row ∙ labels (row_at l l.at) in
    let at_k : (k : ℕ) → label_of l' (row_at l' k) ≡ label_of l (row_at l k) = λ k. ap (label_of l') (rows k) ∙ labels (row_at l k) in
    let grown : Grown l l' = record {
      at = at_is;
      level = lower;
      size = ap length label_is;
      sizes = (ap length parent_is, ap length reached_is);
      rows = λ k le. rows k;
      labels = λ n. omega (arith, labels n);
      settled = λ k le. labels (row_at l k);
    } in
    record {
      grown = grown;
      covered = record {
        free = λ out. rw last_row (omega (arith, offer.tight, labels (row_at l l.at)));
        held = λ has. absurd (omega arith);
      };
      tree = record {
        room = record {
          labels = omega (arith, ap length label_is, tree.room.labels);
          parents = omega (arith, ap length parent_is, tree.room.parents);
          places = omega (arith, ap length reached_is, tree.room.places);
        };
        start = rows 0 ∙ tree.start;
        start_label = labels row ∙ tree.start_label;
        within = omega (arith, tree.within);
        places = omega (arith, tree.places, ap length reached_is);
        reached = λ k lt. omega (arith, rows k, tree.reached k (omega arith));
        near = λ k lt. omega (arith, at_k k, tree.near k (omega arith));
        distinct = rw (count_is, reached_is) tree.distinct;
        found = λ n lt. elim (tree.found n (omega (arith, ap length label_is))) [
          | inl is_far ↦ inl (labels n ∙ is_far)
          | inr place ↦ inr (place.0, omega (arith, place.1), rows place.0 ∙ place.2)
        ];
        before = λ k le. omega (arith, depth, at_k k, tree.before k (omega arith));
        after = λ k gt lt. omega (arith, depth, at_k k, tree.after k (omega arith) (omega arith));
        level_most = omega (arith, tree.level_most);
        level_after = omega (arith, offer.after, depth);
        covered = λ k t lt t_in. cov_mono cost row m l l' (row_at l k) (row_at l' k) t (rows k) lower (λ n. omega (arith, labels n))
            (labels (row_at l k)) (tree.covered k t (omega arith) t_in);
        linked = λ k pos lt.
            let link : IsLink cost row m l k = tree.linked k pos (omega arith) in
            link_kept cost row m l l' k k (rows k) (parents (row_at l k)) (labels (row_at l k)) (λ i le. rows i) (λ i le. labels (row_at l i))
            link.earlier (omega (arith, link.settled)) link;
        sunk = λ near. record {
          within = rw sink_is offer.within;
          free = rw sink_is unowned;
          settled = omega arith;
          tight = rw (last_is, rows l.at, sink_is, level_is, labels (row_at l l.at)) offer.tight;
        };
      };
    }

pub grown_refl : (l : Labels) → Grown l l
grown_refl l = record {
  at = refl;
  level = omega arith;
  size = refl;
  sizes = (refl, refl);
  rows = λ k le. refl;
  labels = λ n. omega arith;
  settled = λ k le. refl;
}

-- where a column offers nothing nearer, it is covered already
pub tree_same : (cost : ℕ → ℕ → ℕ) (columns row : ℕ) (m : Matching) (l : Labels) (h v s : ℕ)
    → IsTree cost columns row m l → IsOffer cost columns row m l s v → owner_of m s ≡ h → h < row → label_of l h ≤ v
    → Offered cost columns row m l l s
tree_same cost columns row m l h v s tree offer owner_is h_in lower = record {
  tree = tree;
  grown = grown_refl l;
  covered = record {
    free = λ out. absurd (omega arith);
    held = λ has. rw owner_is (omega (arith, offer.tight));
  };
}

pub grown_trans : (a b c : Labels) → Grown a b → Grown b c → Grown a c
grown_trans a b c ab bc = record {
  at = bc.at ∙ ab.at;
  level = omega (arith, ab.level, bc.level);
  size = bc.size ∙ ab.size;
  sizes = (bc.sizes.0 ∙ ab.sizes.0, bc.sizes.1 ∙ ab.sizes.1);
  rows = λ k le. bc.rows k (omega (arith, ab.at)) ∙ ab.rows k le;
  labels = λ n. omega (arith, ab.labels n, bc.labels n);
  settled = λ k le.
      let same : row_at b k ≡ row_at a k = ab.rows k le in
      let one : label_of c (row_at b k) ≡ label_of b (row_at b k) = bc.settled k (omega (arith, ab.at)) in
      ap (label_of c) (sym same) ∙ one ∙ ap (label_of b) same ∙ ab.settled k le;
}

-- a column covered from the row settled last stays covered
pub covered_grown : (cost : ℕ → ℕ → ℕ) (row : ℕ) (m : Matching) (l l' : Labels) (s : ℕ) → Grown l l'
    → Covered cost row m l (row_at l l.at) s → Covered cost row m l' (row_at l' l'.at) s
covered_grown cost row m l l' s grown covered =
    cov_mono cost row m l l' (row_at l l.at) (row_at l' l'.at) s (ap (row_at l') grown.at ∙ grown.rows l.at (omega arith)) grown.level grown.labels
    (grown.settled l.at (omega arith)) covered

pub turn_grown : (cost : ℕ → ℕ → ℕ) (row : ℕ) (m : Matching) (l l' : Labels) (t : Turn) → Grown l l' → IsTurn cost row m l t
    → IsTurn cost row m l' t
turn_grown cost row m l l' t grown turn =
    let last_row : row_at l' l'.at ≡ row_at l l.at = ap (row_at l') grown.at ∙ grown.rows l.at (omega arith) in
    record {
      row_is = turn.row_is ∙ sym last_row;
      depth_is = rw last_row (turn.depth_is ∙ sym (grown.settled l.at (omega arith)));
      least_is = rw last_row turn.least_is;
    }

-- a column that the row settled last reaches no nearer than the level
pub covered_far : (cost : ℕ → ℕ → ℕ) (row : ℕ) (m : Matching) (l : Labels) (t : Turn) (s price : ℕ) → IsTurn cost row m l t
    → price ≤ price_of m s
    → l.level + t.least ≤ t.depth + (cost t.row s + price) → Covered cost row m l (row_at l l.at) s
covered_far cost row m l t s price turn same over =
    let paid : cost t.row s ≡ cost (row_at l l.at) s = ap (λ n. cost n s) turn.row_is in
    record {
      free = λ out. omega (arith, turn.depth_is, turn.least_is);
      held = λ has. omega (arith, turn.depth_is, turn.least_is);
    }

pub offer_of : (cost : ℕ → ℕ → ℕ) (columns row : ℕ) (m : Matching) (l : Labels) (t : Turn) (s value label : ℕ) → IsMatching cost columns row m
    → IsTree cost columns row m l → IsTurn cost row m l t → s < columns → row < unused
    → value ≡ t.depth + (cost t.row s + price_of m s) → value < l.level + t.least → label + t.least ≡ value
    → IsOffer cost columns row m l s label
offer_of cost columns row m l t s value label matched tree turn within few value_is lower label_is =
    let paid : cost t.row s ≡ cost (row_at l l.at) s = ap (λ n. cost n s) turn.row_is in
    let low : least_of cost row m (row_at l l.at) ≤ cost (row_at l l.at) s + price_of m s =
    least_low cost columns row m (row_at l l.at) s matched (tree.reached l.at tree.within) within in
    record {
      within = within;
      lower = omega (arith, turn.least_is);
      after = omega (arith, turn.least_is, turn.depth_is);
      tight = omega (arith, turn.least_is, turn.depth_is);
      agree = matched.agree;
      few = few;
    }

-- the least cost is at most what the row pays at a column
pub turn_low : (cost : ℕ → ℕ → ℕ) (columns row : ℕ) (m : Matching) (l : Labels) (t : Turn) (s : ℕ) → IsMatching cost columns row m
    → IsTree cost columns row m l → IsTurn cost row m l t → s < columns → t.least ≤ cost t.row s + price_of m s
turn_low cost columns row m l t s matched tree turn within =
    let paid : cost t.row s ≡ cost (row_at l l.at) s = ap (λ n. cost n s) turn.row_is in
    omega (arith, turn.least_is, least_low cost columns row m (row_at l l.at) s matched (tree.reached l.at tree.within) within)

pub scanned_none : (cost : ℕ → ℕ → ℕ) (columns row : ℕ) (m : Matching) (l : Labels) (from : ℕ) → IsTree cost columns row m l
    → Scanned cost columns row m l l from from
scanned_none cost columns row m l from tree = record {
  tree = tree;
  grown = grown_refl l;
  covered = λ s le lt. absurd (omega arith);
}

-- one part after the other
pub scanned_more : (cost : ℕ → ℕ → ℕ) (columns row : ℕ) (m : Matching) (a b c : Labels) (from mid to : ℕ)
    → Scanned cost columns row m a b from mid → Scanned cost columns row m b c mid to → Scanned cost columns row m a c from to
scanned_more cost columns row m a b c from mid to one two = record {
  tree = two.tree;
  grown = grown_trans a b c one.grown two.grown;
  covered = λ s le lt. elim (cases_lt s mid) [
    | inl before ↦ covered_grown cost row m b c s two.grown (one.covered s le before)
    | inr after ↦ two.covered s after lt
  ];
}

pub scanned_step : (cost : ℕ → ℕ → ℕ) (columns row : ℕ) (m : Matching) (a b c : Labels) (from s : ℕ)
    → Scanned cost columns row m a b from s → Offered cost columns row m b c s → Scanned cost columns row m a c from (s + 1)
scanned_step cost columns row m a b c from s one offered = record {
  tree = offered.tree;
  grown = grown_trans a b c one.grown offered.grown;
  covered = λ t le lt. elim (cases_eq t s) [
    | inl e ↦ rw e offered.covered
    | inr ne ↦ covered_grown cost row m b c t offered.grown (one.covered t le (omega arith))
  ];
}

-- the tree of one row
pub tree_started : (cost : ℕ → ℕ → ℕ) (columns row : ℕ) (m : Matching) (l l' : Labels) → HasRoom row l → AreFar l → IsStarted row l l'
    → IsTree cost columns row m l'
tree_started cost columns row m l l' room all_far started =
    let mine : label_of l' row ≡ 0 = rw started.label (get_or-set_same l.label.items row 0 0 (omega (arith, room.labels))) in
    let first : row_at l' 0 ≡ row = rw started.reached (get_or-set_same l.reached.items 0 row 0 (omega (arith, room.places))) in
    let others : (n : ℕ) → n ≢ row → label_of l' n ≡ label_of l n = λ n ne. rw started.label (get_or-set_other l.label.items row n 0 0 ne) in
    let size : length l'.label.items ≡ length l.label.items = rw started.label (length-set l.label.items row 0) in
    let places : length l'.reached.items ≡ length l.reached.items = rw started.reached (length-set l.reached.items 0 row) in
    let only : (k : ℕ) → k < l'.count → row_at l' k ≡ row =
    λ k lt. ap (row_at l') (let e : k ≡ 0 = omega (arith, started.count) in e) ∙ first in
    let last_row : row_at l' l'.at ≡ row = ap (row_at l') started.at ∙ first in
    let depth : label_of l' (row_at l' l'.at) ≡ 0 = ap (label_of l') last_row ∙ mine in
    let at_k : (k : ℕ) → k < l'.count → label_of l' (row_at l' k) ≡ 0 = λ k lt. ap (label_of l') (only k lt) ∙ mine in
    record {
      room = record {
        labels = omega (arith, size, room.labels);
        parents = omega (arith, ap length started.parent, room.parents);
        places = omega (arith, places, room.places);
      };
      start = first;
      start_label = mine;
      within = omega (arith, started.at, started.count);
      places = omega (arith, started.count, places, room.places);
      reached = λ k lt. omega (arith, only k lt);
      near = λ k lt. omega (arith, at_k k lt);
      distinct = λ i j lt below. absurd (omega (arith, started.count));
      found = λ n lt. elim (cases_eq n row) [
        | inl e ↦ inr (0, omega (arith, started.count), first ∙ sym e)
        | inr ne ↦ inl (others n ne ∙ all_far n (omega (arith, size)))
      ];
      before = λ k le. omega (arith, depth, at_k k (omega (arith, started.at, started.count)));
      after = λ k gt lt. absurd (omega (arith, started.at, started.count));
      level_most = omega (arith, started.level);
      level_after = omega (arith, depth);
      covered = λ k s lt. absurd (omega (arith, started.at));
      linked = λ k pos lt. absurd (omega (arith, started.count));
      sunk = λ near. absurd (omega (arith, started.level));
    }
