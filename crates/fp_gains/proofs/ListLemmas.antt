-- Lists in one flat list: their number, each of them, and one more behind them.
use Rattle.std.proofs.Common.{◌≡◌, ℕ, zero, suc, ◌+◌, ◌-◌, ◌<◌, ◌≤◌, List, [], ◌∷◌, ◌++◌, length, take, drop, get_or, refl, sym, ap, subst, ◌∙◌, arith}
use Rattle.std.specs.List.{slice_range}
use Rattle.std.proofs.lemmas.List.{length-append, drop-append-le, take-append-le, length-drop, drop_at, take_all}
use Rattle.fp_gains.specs.Lists.{parts_from, parts, AreStarts, list_at}

parts_many_from : (start : ℕ) (ends items : List ℕ) → length (parts_from start ends items) ≡ length ends
unfolding parts_from
parts_many_from start [] items = refl
parts_many_from start (end ∷ ends) items = ap suc (parts_many_from end ends items)

pub parts_many : (starts items : List ℕ) (total : ℕ) → AreStarts starts total → length (parts starts items) + 1 ≡ length starts
unfolding parts
parts_many [] items total are = absurd (omega (arith, are.some))
parts_many (start ∷ ends) items total are = omega (arith, parts_many_from start ends items)

part_from : (start : ℕ) (ends items : List ℕ) (k : ℕ) → k < length ends → list_at (parts_from start ends items) k ≡ slice_range items (get_or (start ∷ ends) k 0) (get_or ends k 0)
unfolding parts_from
part_from start [] items k within = absurd (omega arith)
part_from start (end ∷ ends) items zero within = refl
part_from start (end ∷ ends) items (suc k) within = part_from end ends items k (omega arith)

pub part_is : (starts items : List ℕ) (k : ℕ) → k + 1 < length starts → list_at (parts starts items) k ≡ slice_range items (get_or starts k 0) (get_or starts (k + 1) 0)
unfolding parts
part_is [] items k within = absurd (omega arith)
part_is (start ∷ ends) items k within =
    let up : suc k ≡ k + 1 = omega arith in
    subst (λ j. list_at (parts_from start ends items) k ≡ slice_range items (get_or (start ∷ ends) k 0) (get_or (start ∷ ends) j 0)) up
    (part_from start ends items k (omega arith))

-- a part that ends within the front
front_stays : (items list : List ℕ) (a b : ℕ) → a ≤ b → b ≤ length items → slice_range (items ++ list) a b ≡ slice_range items a b
front_stays items list a b le within =
    ap (take (b - a)) (drop-append-le a items list (omega arith))
    ∙ take-append-le (b - a) (drop a items) list (omega (arith, length-drop a items))

-- the part behind the front
last_part : (items list : List ℕ) → slice_range (items ++ list) (length items) (length (items ++ list)) ≡ list
last_part items list =
    ap (take (length (items ++ list) - length items)) (drop_at items list (length items) refl)
    ∙ take_all (length (items ++ list) - length items) list (omega (arith, length-append items list))

pushed_from : (start : ℕ) (ends items list : List ℕ)
    → ((k : ℕ) → k < length ends → get_or (start ∷ ends) k 0 ≤ get_or ends k 0)
    → ((k : ℕ) → k < length ends → get_or ends k 0 ≤ length items)
    → get_or (start ∷ ends) (length ends) 0 ≡ length items
    → parts_from start (ends ++ length (items ++ list) ∷ []) (items ++ list) ≡ parts_from start ends items ++ list ∷ []
unfolding parts_from
pushed_from start [] items list rises within last =
    ap (λ xs. xs ∷ []) (ap (λ s. slice_range (items ++ list) s (length (items ++ list))) last ∙ last_part items list)
pushed_from start (end ∷ ends) items list rises within last =
    ap (λ xs. xs ∷ parts_from end (ends ++ length (items ++ list) ∷ []) (items ++ list)) (front_stays items list start end (rises 0 (omega arith)) (within 0 (omega arith)))
    ∙ ap (λ others. slice_range items start end ∷ others)
    (pushed_from end ends items list (λ k less. rises (suc k) (omega arith)) (λ k less. within (suc k) (omega arith)) last)

pub pushed : (starts items list : List ℕ) → AreStarts starts (length items) → parts (starts ++ length (items ++ list) ∷ []) (items ++ list) ≡ parts starts items ++ list ∷ []
unfolding parts
pushed [] items list are = absurd (omega (arith, are.some))
pushed (start ∷ ends) items list are =
    pushed_from start ends items list
    (λ k less. let up : k + 1 ≡ suc k = omega arith in subst (λ j. get_or (start ∷ ends) k 0 ≤ get_or (start ∷ ends) j 0) up (are.rises k (omega arith)))
    (λ k less. are.within (suc k) (omega arith))
    (let at : suc (length ends) - 1 ≡ length ends = omega arith in subst (λ j. get_or (start ∷ ends) j 0 ≡ length items) at are.last)

pub lists_pushed : (starts items list starts' items' : List ℕ) (lists : List (List ℕ)) → AreStarts starts (length items) → parts starts items ≡ lists
    → items' ≡ items ++ list → starts' ≡ starts ++ length items' ∷ [] → parts starts' items' ≡ lists ++ list ∷ []
lists_pushed starts items list starts' items' lists are is items_are starts_are =
    ap (λ ss. parts ss items') (starts_are ∙ ap (λ xs. starts ++ length xs ∷ []) items_are)
    ∙ ap (parts (starts ++ length (items ++ list) ∷ [])) items_are
    ∙ pushed starts items list are
    ∙ ap (λ ls. ls ++ list ∷ []) is

pub no_lists : (starts items : List ℕ) → length starts ≡ 1 → parts starts items ≡ []
unfolding parts parts_from
no_lists [] items one = absurd (omega arith)
no_lists (start ∷ []) items one = refl
no_lists (start ∷ end ∷ ends) items one = absurd (omega arith)

-- a list's ends are there
pub record IsThere (starts items : List ℕ) (k : ℕ) (list : List ℕ) : Type 0 where
  pub there : k + 1 < length starts
  pub rises : get_or starts k 0 ≤ get_or starts (k + 1) 0
  pub within : get_or starts (k + 1) 0 ≤ length items
  pub is : slice_range items (get_or starts k 0) (get_or starts (k + 1) 0) ≡ list

pub is_there : (starts items : List ℕ) (lists : List (List ℕ)) (k : ℕ) → AreStarts starts (length items) → parts starts items ≡ lists → k < length lists → IsThere starts items k (list_at lists k)
is_there starts items lists k are is within =
    let there : k + 1 < length starts = omega (arith, parts_many starts items (length items) are, ap length is) in
    record {
      there = there;
      rises = are.rises k there;
      within = are.within (k + 1) there;
      is = sym (part_is starts items k there) ∙ ap (λ ls. list_at ls k) is;
    }

-- also where the lists are read by other names
pub is_there_in : (starts items starts' items' : List ℕ) (lists : List (List ℕ)) (k : ℕ) → AreStarts starts (length items) → parts starts items ≡ lists → k < length lists
    → starts' ≡ starts → items' ≡ items → IsThere starts' items' k (list_at lists k)
is_there_in starts items starts' items' lists k are is within starts_are items_are =
    subst (λ ss. IsThere ss items' k (list_at lists k)) (sym starts_are)
    (subst (λ xs. IsThere starts xs k (list_at lists k)) (sym items_are) (is_there starts items lists k are is within))
