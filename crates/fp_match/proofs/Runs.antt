-- Runs of closed columns.
use Rattle.std.proofs.Common.{◌≡◌, ◌≢◌, ℕ, ◌+◌, ◌<◌, ◌≤◌, inl, inr, length, set, refl, sym, ap, ◌∙◌, arith}
use Rattle.std.specs.Prelude.{slice_index}
use Rattle.std.proofs.lemmas.Bool.{cases_eq, cases_lt}
use Rattle.std.proofs.lemmas.List.{get_or-set_same, get_or-set_other}
use Rattle.std.proofs.Math.ListN.{length-set}
use Rattle.fp_match.specs.declared.closed.Closed.{Closed}
use Rattle.fp_match.specs.declared.labels.Labels.{Labels}
use Rattle.fp_match.specs.declared.matching.Matching.{Matching}
use Rattle.fp_match.specs.declared.scan.Turn.{Turn}
use Rattle.fp_match.specs.Owners.{unused}
use Rattle.fp_match.specs.Search.{label_of, row_at, owner_of, price_of, mark_of, next_of, IsMatching, IsTree, IsTurn, IsTaken, Covered, Grown, Scanned, IsClosed, AreMarks, AreRuns}
use Rattle.fp_match.proofs.Grow.{Came, came}
use Rattle.fp_match.proofs.Tree.{turn_low}

-- a search begins with no column closed
pub runs_start : (row : ℕ) (m : Matching) (l : Labels) (c : Closed) → AreMarks row m c → AreRuns row m l c
runs_start row m l c marks = record {
  marks = record { room = marks.room; earlier = λ s lt. omega (arith, marks.earlier s lt) };
  behind = λ s lt marked. absurd (omega (arith, marks.earlier s lt));
  closed = λ s t lt marked from to. absurd (omega (arith, marks.earlier s lt));
}

-- what is closed stays so as more is known
closed_grown : (row : ℕ) (m : Matching) (a b : Labels) (s : ℕ) → Grown a b → IsClosed row m a s → IsClosed row m b s
closed_grown row m a b s grown is =
    let at_row : row_at b b.at ≡ row_at a a.at = ap (row_at b) grown.at ∙ grown.rows a.at (omega arith) in
    let depth : label_of b (row_at b b.at) ≡ label_of a (row_at a a.at) = ap (label_of b) at_row ∙ grown.settled a.at (omega arith) in
    record { held = is.held; near = omega (arith, is.near, depth, grown.labels (owner_of m s)) }

pub runs_grown : (row : ℕ) (m : Matching) (a b : Labels) (c : Closed) → Grown a b → AreRuns row m a c → AreRuns row m b c
runs_grown row m a b c grown runs = record {
  marks = runs.marks;
  behind = runs.behind;
  closed = λ s t lt marked from to. closed_grown row m a b t grown (runs.closed s t lt marked from to);
}

-- the row that is settled next lies no nearer
pub runs_taken : (cost : ℕ → ℕ → ℕ) (columns row : ℕ) (m : Matching) (l l' : Labels) (c : Closed) → IsTree cost columns row m l → IsTaken l l'
    → AreRuns row m l c → AreRuns row m l' c
runs_taken cost columns row m l l' c tree taken runs =
    let step = taken.1 in
    let new : Came l l' taken.0 (l.at + 1) = came l l' taken.0 (l.at + 1) step tree.places (omega (arith, step.nearest.waits, step.waiting)) in
    let labels : (n : ℕ) → label_of l' n ≡ label_of l n = λ n. ap (λ xs. slice_index xs n) step.label in
    let at_row : row_at l' l'.at ≡ row_at l taken.0 = ap (row_at l') step.at ∙ new.same ∙ ap (row_at l) (new.taken refl) in
    let depth : label_of l' (row_at l' l'.at) ≡ label_of l (row_at l taken.0) = ap (label_of l') at_row ∙ labels (row_at l taken.0) in
    record {
      marks = runs.marks;
      behind = runs.behind;
      closed = λ s t lt marked from to.
          let is : IsClosed row m l t = runs.closed s t lt marked from to in
          record {
            held = is.held;
            near = omega (arith, is.near, depth, labels (owner_of m t), tree.after taken.0 step.nearest.waits step.waiting);
          };
    }

-- the matching changes, but has as many columns
pub marks_kept : (row : ℕ) (m m' : Matching) (l : Labels) (c : Closed) → AreRuns row m l c → length m'.owner.items ≡ length m.owner.items
    → AreMarks (row + 1) m' c
marks_kept row m m' l c runs size = record {
  room = record { searches = runs.marks.room.searches ∙ sym size; nexts = runs.marks.room.nexts ∙ sym size };
  earlier = runs.marks.earlier;
}

-- a column that is not unused has one of the first rows
pub held_or_unused : (cost : ℕ → ℕ → ℕ) (columns row : ℕ) (m : Matching) (s : ℕ) → IsMatching cost columns row m → s < columns
    → owner_of m s ≢ unused → owner_of m s < row
held_or_unused cost columns row m s matched lt not_free = elim (cases_lt (owner_of m s) row) [
  | inl has ↦ has
  | inr out ↦ absurd (not_free (matched.agree.free s lt out))
]

-- a closed column is covered
pub closed_covered : (cost : ℕ → ℕ → ℕ) (columns row : ℕ) (m : Matching) (l : Labels) (t : Turn) (s : ℕ) → IsMatching cost columns row m
    → IsTree cost columns row m l → IsTurn cost row m l t → s < columns → IsClosed row m l s → Covered cost row m l (row_at l l.at) s
closed_covered cost columns row m l t s matched tree turn lt is =
    let low : t.least ≤ cost t.row s + price_of m s = turn_low cost columns row m l t s matched tree turn lt in
    record {
      free = λ out. absurd (omega (arith, is.held));
      held = λ has. omega (arith, is.near, low, turn.least_is, ap (λ n. cost n s) turn.row_is);
    }

-- closed columns behind those that were looked at
pub scanned_closed : (cost : ℕ → ℕ → ℕ) (columns row : ℕ) (m : Matching) (a b : Labels) (t : Turn) (from j k : ℕ) → IsMatching cost columns row m
    → IsTurn cost row m b t → k ≤ columns → Scanned cost columns row m a b from j → ((s : ℕ) → j ≤ s → s < k → IsClosed row m b s)
    → Scanned cost columns row m a b from k
scanned_closed cost columns row m a b t from j k matched turn within scanned closed = record {
  tree = scanned.tree;
  grown = scanned.grown;
  covered = λ s le lt. elim (cases_lt s j) [
    | inl before ↦ scanned.covered s le before
    | inr behind ↦ closed_covered cost columns row m b t s matched scanned.tree turn (omega arith) (closed s behind lt)
  ];
}

-- a run and the one behind it
pub runs_joined : (row : ℕ) (m : Matching) (l : Labels) (c c' : Closed) (s n : ℕ) → AreRuns row m l c → s < length c.search.items
    → n < length c.search.items → mark_of c s ≡ row + 1 → mark_of c n ≡ row + 1 → next_of c s ≡ n
    → c'.search.items ≡ c.search.items → c'.next.items ≡ set c.next.items s (next_of c n) → AreRuns row m l c'
runs_joined row m l c c' s n runs s_in n_in s_marked n_marked next searches nexts =
    let marks : (i : ℕ) → mark_of c' i ≡ mark_of c i = λ i. ap (λ xs. slice_index xs i) searches in
    let size : length c'.search.items ≡ length c.search.items = ap length searches in
    let here : next_of c' s ≡ next_of c n =
    ap (λ xs. slice_index xs s) nexts ∙ get_or-set_same c.next.items s (next_of c n) 0 (omega (arith, runs.marks.room.searches, runs.marks.room.nexts)) in
    let elsewhere : (i : ℕ) → i ≢ s → next_of c' i ≡ next_of c i =
    λ i ne. ap (λ xs. slice_index xs i) nexts ∙ get_or-set_other c.next.items s i (next_of c n) 0 ne in
    record {
      marks = record {
        room = record {
          searches = size ∙ runs.marks.room.searches;
          nexts = ap length nexts ∙ length-set c.next.items s (next_of c n) ∙ runs.marks.room.nexts;
        };
        earlier = λ i lt. omega (arith, marks i, runs.marks.earlier i (omega (arith, size)));
      };
      behind = λ i lt marked. elim (cases_eq i s) [
        | inl e ↦ omega (arith, ap (next_of c') e, here, runs.behind s s_in s_marked, runs.behind n n_in n_marked)
        | inr ne ↦ omega (arith, elsewhere i ne, runs.behind i (omega (arith, size)) (sym (marks i) ∙ marked))
      ];
      closed = λ i t lt marked from to. elim (cases_eq i s) [
        | inl e ↦ elim (cases_lt t n) [
          | inl under ↦ runs.closed s t s_in s_marked (omega arith) (omega arith)
          | inr over ↦ runs.closed n t n_in n_marked over (omega (arith, ap (next_of c') e, here))
        ]
        | inr ne ↦ runs.closed i t (omega (arith, size)) (sym (marks i) ∙ marked) from (omega (arith, elsewhere i ne))
      ];
    }

-- one column more is closed
pub runs_more : (row : ℕ) (m : Matching) (l : Labels) (c c' : Closed) (s : ℕ) → AreRuns row m l c → s < length c.search.items → IsClosed row m l s
    → c'.search.items ≡ set c.search.items s (row + 1) → c'.next.items ≡ set c.next.items s (s + 1) → AreRuns row m l c'
runs_more row m l c c' s runs s_in is searches nexts =
    let size : length c'.search.items ≡ length c.search.items = ap length searches ∙ length-set c.search.items s (row + 1) in
    let mark : mark_of c' s ≡ row + 1 = ap (λ xs. slice_index xs s) searches ∙ get_or-set_same c.search.items s (row + 1) 0 s_in in
    let here : next_of c' s ≡ s + 1 =
    ap (λ xs. slice_index xs s) nexts ∙ get_or-set_same c.next.items s (s + 1) 0 (omega (arith, runs.marks.room.searches, runs.marks.room.nexts)) in
    let marks : (i : ℕ) → i ≢ s → mark_of c' i ≡ mark_of c i =
    λ i ne. ap (λ xs. slice_index xs i) searches ∙ get_or-set_other c.search.items s i (row + 1) 0 ne in
    let elsewhere : (i : ℕ) → i ≢ s → next_of c' i ≡ next_of c i =
    λ i ne. ap (λ xs. slice_index xs i) nexts ∙ get_or-set_other c.next.items s i (s + 1) 0 ne in
    record {
      marks = record {
        room = record {
          searches = size ∙ runs.marks.room.searches;
          nexts = ap length nexts ∙ length-set c.next.items s (s + 1) ∙ runs.marks.room.nexts;
        };
        earlier = λ i lt. elim (cases_eq i s) [
          | inl e ↦ omega (arith, ap (mark_of c') e, mark)
          | inr ne ↦ omega (arith, marks i ne, runs.marks.earlier i (omega (arith, size)))
        ];
      };
      behind = λ i lt marked. elim (cases_eq i s) [
        | inl e ↦ omega (arith, ap (next_of c') e, here)
        | inr ne ↦ omega (arith, elsewhere i ne, runs.behind i (omega (arith, size)) (sym (marks i ne) ∙ marked))
      ];
      closed = λ i t lt marked from to. elim (cases_eq i s) [
        | inl e ↦
            let same : t ≡ s = omega (arith, ap (next_of c') e, here) in
            rw same is
        | inr ne ↦ runs.closed i t (omega (arith, size)) (sym (marks i ne) ∙ marked) from (omega (arith, elsewhere i ne))
      ];
    }
