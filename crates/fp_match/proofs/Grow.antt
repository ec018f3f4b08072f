-- How a tree grows by the nearest row that waits.
use Rattle.std.proofs.Common.{◌≡◌, ◌≢◌, ℕ, ◌+◌, ◌<◌, ◌≤◌, inl, inr, length, set, refl, sym, ap, ◌∙◌, arith}
use Rattle.std.specs.Prelude.{slice_index}
use Rattle.std.proofs.lemmas.Bool.{cases_eq, cases_lt}
use Rattle.std.proofs.lemmas.List.{get_or-set_same, get_or-set_other}
use Rattle.std.proofs.Math.ListN.{length-set}
use Rattle.fp_match.specs.declared.labels.Labels.{Labels}
use Rattle.fp_match.specs.declared.matching.Matching.{Matching}
use Rattle.fp_match.specs.Search.{label_of, row_at, parent_of, IsLink, IsFound, IsTree, AreCovered, CanTake, IsSettled}
use Rattle.fp_match.proofs.Tree.{cov_mono, link_kept, sink_kept}

pub can_take : (cost : ℕ → ℕ → ℕ) (columns row : ℕ) (m : Matching) (l : Labels) → IsTree cost columns row m l → CanTake l
can_take cost columns row m l tree = record {
  after = tree.after;
  within = tree.within;
  places = tree.places;
  labels = λ k lt. omega (arith, tree.reached k lt, tree.room.labels);
}

-- where the row now at place j stood before
pub record Came (l l' : Labels) (k j : ℕ) : Type 0 where
  pub place : ℕ
  pub place_in : place < l.count
  pub same : row_at l' j ≡ row_at l place
  pub settled : j ≤ l.at → place ≡ j
  pub waits : l.at < j → l.at < place
  pub taken : j ≡ l.at + 1 → place ≡ k
  pub moved : j ≡ k → place ≡ l.at + 1
  pub stays : j ≢ l.at + 1 → j ≢ k → place ≡ j

pub came : (l l' : Labels) (k j : ℕ) → IsSettled l l' k → l.count ≤ length l.reached.items → j < l.count → Came l l' k j
came l l' k j step places lt =
    let size : length (set l.reached.items k (row_at l (l.at + 1))) ≡ length l.reached.items = length-set l.reached.items k (row_at l (l.at + 1)) in
    elim (cases_eq j (l.at + 1)) [
      | inl taken ↦ record {
        place = k;
        place_in = step.waiting;
        same = rw (step.reached, taken) (get_or-set_same (set l.reached.items k (row_at l (l.at + 1))) (l.at + 1) (row_at l k) 0 (omega (arith, step.nearest.waits, step.waiting)));
        settled = λ le. absurd (omega arith);
        waits = λ gt. step.nearest.waits;
        taken = λ e. refl;
        moved = λ e. omega arith;
        stays = λ ne other. absurd (ne taken);
      }
      | inr not_taken ↦ elim (cases_eq j k) [
        | inl moved ↦ record {
          place = l.at + 1;
          place_in = omega (arith, step.nearest.waits);
          same = rw step.reached (get_or-set_other (set l.reached.items k (row_at l (l.at + 1))) (l.at + 1) j (row_at l k) 0 not_taken
              ∙ rw moved (get_or-set_same l.reached.items k (row_at l (l.at + 1)) 0 (omega arith)));
          settled = λ le. absurd (omega (arith, step.nearest.waits));
          waits = λ gt. omega arith;
          taken = λ e. absurd (not_taken e);
          moved = λ e. refl;
          stays = λ ne other. absurd (other moved);
        }
        | inr not_moved ↦ record {
          place = j;
          place_in = lt;
          same = rw step.reached (get_or-set_other (set l.reached.items k (row_at l (l.at + 1))) (l.at + 1) j (row_at l k) 0 not_taken
              ∙ get_or-set_other l.reached.items k j (row_at l (l.at + 1)) 0 not_moved);
          settled = λ le. refl;
          waits = λ gt. gt;
          taken = λ e. absurd (not_taken e);
          moved = λ e. absurd (not_moved e);
          stays = λ ne other. refl;
        }
      ]
    ]

-- the places before are as different as those after
came_apart : (l l' : Labels) (k i j : ℕ) → (a : Came l l' k i) → (b : Came l l' k j) → i ≢ j → a.place ≢ b.place
came_apart l l' k i j a b ne same =
    elim (cases_eq i (l.at + 1)) [
      | inl i_taken ↦ elim (cases_eq j (l.at + 1)) [
        | inl j_taken ↦ omega arith
        | inr j_not ↦ elim (cases_eq j k) [
          | inl j_moved ↦ omega (arith, a.taken i_taken, b.moved j_moved)
          | inr j_stays ↦ omega (arith, a.taken i_taken, b.stays j_not j_stays)
        ]
      ]
      | inr i_not ↦ elim (cases_eq i k) [
        | inl i_moved ↦ elim (cases_eq j (l.at + 1)) [
          | inl j_taken ↦ omega (arith, a.moved i_moved, b.taken j_taken)
          | inr j_not ↦ elim (cases_eq j k) [
            | inl j_moved ↦ omega arith
            | inr j_stays ↦ omega (arith, a.moved i_moved, b.stays j_not j_stays)
          ]
        ]
        | inr i_stays ↦ elim (cases_eq j (l.at + 1)) [
          | inl j_taken ↦ omega (arith, a.stays i_not i_stays, b.taken j_taken)
          | inr j_not ↦ elim (cases_eq j k) [
            | inl j_moved ↦ omega (arith, a.stays i_not i_stays, b.moved j_moved)
            | inr j_stays ↦ omega (arith, a.stays i_not i_stays, b.stays j_not j_stays)
          ]
        ]
      ]
    ]

-- rows at different places differ
apart : (cost : ℕ → ℕ → ℕ) (columns row : ℕ) (m : Matching) (l : Labels) (i j : ℕ) → IsTree cost columns row m l → i < l.count → j < l.count
    → i ≢ j → row_at l i ≢ row_at l j
apart cost columns row m l i j tree i_in j_in ne same =
    elim (cases_lt i j) [
      | inl lt ↦ tree.distinct i j lt j_in same
      | inr le ↦ tree.distinct j i (omega arith) i_in (sym same)
    ]

-- the nearest row that waits is settled
pub tree_taken : (cost : ℕ → ℕ → ℕ) (columns row : ℕ) (m : Matching) (l l' : Labels) (k : ℕ) → IsTree cost columns row m l
    → AreCovered cost row m l 0 columns → IsSettled l l' k → IsTree cost columns row m l'
tree_taken cost columns row m l l' k tree covered step =
    let at_is : l'.at ≡ l.at + 1 = step.at in
    let count_is : l'.count ≡ l.count = step.count in
    let level_is : l'.level ≡ l.level = step.level in
    let waits : l.at < k = step.nearest.waits in
    let waiting : k < l.count = step.waiting in
    let from = λ (j : ℕ) (lt : j < l'.count). came l l' k j step tree.places (omega arith) in
    let size : length l'.reached.items ≡ length l.reached.items =
    rw step.reached (length-set (set l.reached.items k (row_at l (l.at + 1))) (l.at + 1) (row_at l k)
    ∙ length-set l.reached.items k (row_at l (l.at + 1))) in
    let labels : (n : ℕ) → label_of l' n ≡ label_of l n = λ n. ap (λ xs. slice_index xs n) step.label in
    let parents : (n : ℕ) → parent_of l' n ≡ parent_of l n = λ n. ap (λ xs. slice_index xs n) step.parent in
    let settled : (j : ℕ) → j ≤ l.at → row_at l' j ≡ row_at l j =
    λ j le.
    let c : Came l l' k j = from j (omega (arith, tree.within)) in
    c.same ∙ ap (row_at l) (c.settled le) in
    let new : row_at l' (l.at + 1) ≡ row_at l k =
    let c : Came l l' k (l.at + 1) = from (l.at + 1) (omega arith) in
    c.same ∙ ap (row_at l) (c.taken refl) in
    let new_row : row_at l' l'.at ≡ row_at l k = ap (row_at l') at_is ∙ new in
    let depth : label_of l' (row_at l' l'.at) ≡ label_of l (row_at l k) = ap (label_of l') new_row ∙ labels (row_at l k) in
    let at_place : (j p : ℕ) → row_at l' j ≡ row_at l p → label_of l' (row_at l' j) ≡ label_of l (row_at l p) =
    λ j p e. ap (label_of l') e ∙ labels (row_at l p) in
    record {
      room = record {
        labels = omega (arith, ap length step.label, tree.room.labels);
        parents = omega (arith, ap length step.parent, tree.room.parents);
        places = omega (arith, size, tree.room.places);
      };
      start = settled 0 (omega arith) ∙ tree.start;
      start_label = labels row ∙ tree.start_label;
      within = omega arith;
      places = omega (arith, tree.places, size);
      reached = λ j lt.
          let c : Came l l' k j = from j lt in
          omega (arith, c.same, tree.reached c.place c.place_in);
      near = λ j lt.
          let c : Came l l' k j = from j lt in
          omega (arith, at_place j c.place c.same, tree.near c.place c.place_in);
      distinct = λ i j lt below same.
          let a : Came l l' k i = from i (omega arith) in
          let b : Came l l' k j = from j below in
          apart cost columns row m l a.place b.place tree a.place_in b.place_in (came_apart l l' k i j a b (omega arith)) (sym a.same ∙ same ∙ b.same);
      found = λ n lt. elim (tree.found n (omega (arith, ap length step.label))) [
        | inl is_far ↦ inl (labels n ∙ is_far)
        | inr place ↦ inr (found_at place.0 n place.1 place.2)
      ];
      before = λ j le. elim (cases_lt l.at j) [
        | inl is_new ↦
            let e : j ≡ l.at + 1 = omega arith in
            omega (arith, depth, ap (label_of l') (ap (row_at l') e ∙ new), labels (row_at l k))
        | inr old ↦ omega (arith, depth, at_place j j (settled j old), tree.before j old, tree.after k waits waiting)
      ];
      after = λ j gt lt.
          let c : Came l l' k j = from j lt in
          omega (arith, depth, at_place j c.place c.same, step.nearest.least waiting c.place (c.waits (omega arith)) c.place_in);
      level_most = omega (arith, tree.level_most);
      level_after = omega (arith, depth, step.near);
      covered = λ j s lt s_in.
          let old : j ≤ l.at = omega arith in
          cov_mono cost row m l l' (row_at l j) (row_at l' j) s (settled j old) (omega arith) (λ n. omega (arith, labels n)) (labels (row_at l j))
          (elim (cases_eq j l.at) [
            | inl e ↦ rw e (covered s (omega arith) s_in)
            | inr ne ↦ tree.covered j s (omega arith) s_in
          ]);
      linked = λ j pos lt.
          let c : Came l l' k j = from j lt in
          let place_pos : 0 < c.place = elim (cases_lt l.at j) [
            | inl wait ↦ omega (arith, c.waits wait)
            | inr old ↦ omega (arith, c.settled old)
          ] in
          let link : IsLink cost row m l c.place = tree.linked c.place place_pos c.place_in in
          let earlier : parent_of l (row_at l c.place) < j = elim (cases_lt l.at j) [
            | inl wait ↦ omega (arith, link.settled)
            | inr old ↦ omega (arith, link.earlier, c.settled old)
          ] in
          link_kept cost row m l l' c.place j c.same (parents (row_at l c.place)) (labels (row_at l c.place)) settled (λ i le. labels (row_at l i)) earlier
          (omega (arith, link.settled)) link;
      sunk = λ near. sink_kept cost columns row m l l' level_is step.sink step.last (omega arith) settled (λ i le. labels (row_at l i))
          (tree.sunk (omega arith));
    }
  where
    found_at : (p n : ℕ) → p < l.count → row_at l p ≡ n → IsFound l' n
    found_at p n lt is = elim (cases_eq p k) [
      | inl e ↦
          let c : Came l l' k (l.at + 1) = came l l' k (l.at + 1) step tree.places (omega (arith, step.nearest.waits, step.waiting)) in
          (l.at + 1, omega (arith, step.count, step.nearest.waits, step.waiting), c.same ∙ ap (row_at l) (c.taken refl ∙ sym e) ∙ is)
      | inr ne ↦ elim (cases_eq p (l.at + 1)) [
        | inl e ↦
            let c : Came l l' k k = came l l' k k step tree.places step.waiting in
            (k, omega (arith, step.count, step.waiting), c.same ∙ ap (row_at l) (c.moved refl ∙ sym e) ∙ is)
        | inr other ↦
            let c : Came l l' k p = came l l' k p step tree.places lt in
            (p, omega (arith, step.count), c.same ∙ ap (row_at l) (c.stays other ne) ∙ is)
      ]
    ]
