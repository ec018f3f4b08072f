-- What shown prices say of a choice.
use Rattle.std.proofs.Common.{◌≡◌, ℕ, ◌<◌, ◌≤◌, List, length, sym, ap, ◌∙◌, arith, Vec, Global}
use Rattle.std.specs.Prelude.{slice_index, ◌^◌}
use Rattle.fp_match.specs.declared.choice.Choice.TheInside.{Inside}
use Rattle.fp_match.specs.Prices.{Chosen, IsBest, IsLeast}
use Rattle.fp_match.specs.Owners.{Agree, unused}
use Rattle.fp_match.specs.Chosen.{chosen_of, IsKept}
use Rattle.fp_match.specs.PriceLaws.{least_by_prices}
use Rattle.fp_match.specs.OwnerLaws.{choice_by_owners, prices_by_owners, room_for_row}

pub shown_least : (cost : ℕ → ℕ → ℕ) (rows columns : ℕ) (inside : Inside) (choice : Chosen) (prices owner chosen : List ℕ)
    → owner ≡ inside.owner.items → chosen ≡ inside.chosen.items → chosen_of inside ≡ choice → IsKept inside
    → length choice.chosen ≡ rows → choice.columns ≡ columns → length prices ≡ columns
    → ((s : ℕ) → s < length owner → slice_index owner s ≡ unused → slice_index prices s ≡ 0)
    → ((n : ℕ) → n < length chosen → IsBest cost columns prices n (slice_index chosen n))
    → IsLeast cost rows columns choice.chosen
shown_least cost rows columns inside choice prices owner chosen owner_is chosen_is view kept rows_are columns_are size free best =
    let list : choice.chosen ≡ chosen = sym (ap (λ x. x.chosen) view) ∙ sym chosen_is in
    let count : length owner ≡ columns = ap length owner_is ∙ ap (λ x. x.columns) view ∙ columns_are in
    let rows_list : length chosen ≡ rows = sym (ap length list) ∙ rows_are in
    let agree : Agree (length owner) (length chosen) chosen owner = rw (owner_is, chosen_is) kept.agree in
    let agreed : Agree columns (length chosen) chosen owner = rw (sym count) agree in
    let agreed_rows : Agree columns rows chosen owner = rw (sym rows_list) agreed in
    rw list (least_by_prices cost rows columns chosen prices size (choice_by_owners columns rows chosen owner rows_list agreed_rows)
    (prices_by_owners cost columns chosen owner prices agreed (λ s lt. free s (omega arith)) best))

-- the columns of a list that agree with their owners are a choice that is kept
pub choice_kept : (columns : ℕ) (chosen owner : Vec ℕ Global) (list : List ℕ) → chosen.items ≡ list → columns < 2 ^ 32
    → length owner.items ≡ columns → Agree columns (length list) list owner.items
    → IsKept (record { chosen = chosen; owner = owner })
choice_kept columns chosen owner list same small sized agree =
    let most : length list ≤ columns = room_for_row (length list) list owner.items columns agree (omega arith) in
    let agreed : Agree (length owner.items) (length chosen.items) chosen.items owner.items = rw (same, sized) agree in
    record { few = rw same (omega (arith, most)); agree = agreed }
