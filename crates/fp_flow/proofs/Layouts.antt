-- Rows that are added one by one are the rows of all lanes; and the rows of both dies show a placement of their lanes.
use Rattle.std.proofs.Common.{◌≡◌, ◌⊎◌, ℕ, ◌+◌, ◌^◌, ◌<◌, ◌≤◌, List, [], ◌∷◌, ◌++◌, length, get_or, slice_get, Some, refl, sym, ap, subst, ◌∙◌, inl, inr, append_assoc, arith}
use Rattle.std.specs.Prelude.{All}
use Rattle.std.proofs.lemmas.List.{append-nil, ext_get_or, length-append, length-map, get_or-map}
use Rattle.std.proofs.lemmas.Bool.{cases_order}
use Rattle.std.proofs.lemmas.Option.{same_Some, slice_get_within, slice_get-get_or}
use Rattle.fp_base.specs.declared.ids.CellId.{CellId}
use Rattle.fp_base.specs.declared.ids.Die.{Die}
use Rattle.fp_base.specs.declared.ids.Die.TheVariants.{Top, Bottom}
use Rattle.fp_base.specs.declared.ids.Point.{Point}
use Rattle.fp_tech.specs.declared.dies.Segment.{Segment}
use Rattle.fp_tech.specs.BookLaws.{slice_get-last, slice_get-front}
use Rattle.fp_tech.specs.Plan.{segments}
use Rattle.fp_netlist.specs.Netlist.{Netlist}
use Rattle.fp_place.specs.Placed.{LaneList, lanes_on}
use Rattle.fp_score.specs.FirstFit.{no_segment}
use Rattle.fp_cert.specs.Shown.{ShownRow, ShownTrial, rows_of, with_row}
use Rattle.fp_cert.specs.Standing.{lane_shown, lanes_shown}
use Rattle.fp_cert.specs.Trials.{AreRowsBest}
use Rattle.fp_cert.specs.Certified.{row_duals, AreDualsShown}
use Rattle.fp_flow.specs.Lanes.{AddsBestRows}
use Rattle.fp_flow.specs.Rows.{IsBestRow, AddsBestRow}
use Rattle.fp_flow.specs.Steps.{AddsBoth}
use Rattle.fp_flow.specs.Still.{with_rows}

-- ---- one row after the other

pub no_row : ShownRow
no_row = record { first = 0; cells = [] }

none_added : (trial : ShownTrial) (die : Die) → trial ≡ with_rows trial die []
none_added trial Top = ap (λ rows. record trial { top = rows }) (sym (append-nil trial.top))
none_added trial Bottom = ap (λ rows. record trial { bottom = rows }) (sym (append-nil trial.bottom))

one_added : (trial : ShownTrial) (die : Die) (rows : List ShownRow) (row : ShownRow) → with_row (with_rows trial die rows) die row ≡ with_rows trial die (rows ++ row ∷ [])
one_added trial Top rows row = ap (λ all. record trial { top = all }) (append_assoc trial.top rows (row ∷ []))
one_added trial Bottom rows row = ap (λ all. record trial { bottom = all }) (append_assoc trial.bottom rows (row ∷ []))

-- no rows are those of no lanes
pub no_rows : (p : Netlist) (die : Die) (lanes : LaneList) (targets : List Point) (trial : ShownTrial) → AddsBestRows p die lanes 0 targets trial trial
no_rows p die lanes targets trial = record {
  rows = [];
  new_is = none_added trial die;
  many = refl;
  each = λ number segment lane row there held at. absurd (let below = slice_get_within {A = ShownRow} [] number row at in omega (arith, below));
}

either : (a b : ℕ) → a < b + 1 → (a < b) ⊎ (a ≡ b)
either a b below = by (cases_order a b)
  where
    by : (a ≡ b) ⊎ ((a < b) ⊎ (b < a)) → (a < b) ⊎ (a ≡ b)
    by (inl same) = inr same
    by (inr (inl less)) = inl less
    by (inr (inr more)) = absurd (omega (arith, more, below))

-- the row of the next lane is one more
pub rows_more : (p : Netlist) (die : Die) (lanes : LaneList) (k : ℕ) (targets : List Point) (old mid new : ShownTrial) (segment : Segment) (lane : List CellId)
    → slice_get (segments p.plan die) k ≡ Some segment → slice_get lanes k ≡ Some lane → AddsBestRows p die lanes k targets old mid → AddsBestRow p die segment lane targets mid new
    → AddsBestRows p die lanes (k + 1) targets old new
rows_more p die lanes k targets old mid new segment lane there held so_far adds = record {
  rows = so_far.rows ++ adds.row ∷ [];
  new_is = adds.new_is ∙ ap (λ (trial : ShownTrial). with_row trial die adds.row) so_far.new_is ∙ one_added old die so_far.rows adds.row;
  many = long;
  each = λ number s l row s_at l_at at. by number s l row s_at l_at at (either number k (omega (arith, slice_get_within (so_far.rows ++ adds.row ∷ []) number row at, long)));
}
  where
    long : length (so_far.rows ++ adds.row ∷ []) ≡ k + 1
    long = omega (arith, so_far.many, length-append so_far.rows (adds.row ∷ []))

    by : (number : ℕ) (s : Segment) (l : List CellId) (row : ShownRow) → slice_get (segments p.plan die) number ≡ Some s → slice_get lanes number ≡ Some l
        → slice_get (so_far.rows ++ adds.row ∷ []) number ≡ Some row → (number < k) ⊎ (number ≡ k) → IsBestRow p die s l targets row
    by number s l row s_at l_at at (inl before) =
        so_far.each number s l row s_at l_at (sym (slice_get-front so_far.rows adds.row number (omega (arith, before, so_far.many))) ∙ at)
    by number s l row s_at l_at at (inr same) =
        let last : slice_get (so_far.rows ++ adds.row ∷ []) number ≡ Some adds.row =
        ap (slice_get (so_far.rows ++ adds.row ∷ [])) (same ∙ sym so_far.many) ∙ slice_get-last so_far.rows adds.row in
        let row_is : adds.row ≡ row = same_Some adds.row row (sym last ∙ at) in
        let segment_is : segment ≡ s = same_Some segment s (sym there ∙ ap (slice_get (segments p.plan die)) (sym same) ∙ s_at) in
        let lane_is : lane ≡ l = same_Some lane l (sym held ∙ ap (slice_get lanes) (sym same) ∙ l_at) in
        subst (λ (r : ShownRow). IsBestRow p die s l targets r) row_is
        (subst (λ (seg : Segment). IsBestRow p die seg l targets adds.row) segment_is
        (subst (λ (cells : List CellId). IsBestRow p die segment cells targets adds.row) lane_is adds.is_best))

-- ---- the rows of both dies

-- each row of a trial is the best of its lane
pub record AreBest (p : Netlist) (targets : List Point) (top bottom : LaneList) (trial : ShownTrial) : Type 0 where
  pub lanes : (die : Die) → length (lanes_on top bottom die) ≡ length (segments p.plan die)
  pub rows : (die : Die) → length (rows_of trial die) ≡ length (lanes_on top bottom die)
  pub each : (die : Die) (number : ℕ) (segment : Segment) (lane : List CellId) (row : ShownRow) → slice_get (segments p.plan die) number ≡ Some segment
      → slice_get (lanes_on top bottom die) number ≡ Some lane → slice_get (rows_of trial die) number ≡ Some row → IsBestRow p die segment lane targets row

-- so are those that are added to a trial without rows
pub both_best : (p : Netlist) (targets : List Point) (top bottom : LaneList) (old new : ShownTrial) → length top ≡ length (segments p.plan Top)
    → length bottom ≡ length (segments p.plan Bottom) → old.top ≡ [] → old.bottom ≡ [] → AddsBoth p targets top bottom old new → AreBest p targets top bottom new
both_best p targets top bottom old new top_long bottom_long no_top no_bottom adds = record {
  lanes = λ die. lanes die;
  rows = λ die. rows die;
  each = λ die number segment lane row there held at. each die number segment lane row there held at;
}
  where
    tops_are : new.top ≡ adds.tops.rows
    tops_are =
        ap (λ (t : ShownTrial). t.top) adds.bottoms.new_is ∙ ap (λ (t : ShownTrial). t.top) adds.tops.new_is ∙ ap (λ rows. rows ++ adds.tops.rows) no_top

    bottoms_are : new.bottom ≡ adds.bottoms.rows
    bottoms_are =
        ap (λ (t : ShownTrial). t.bottom) adds.bottoms.new_is ∙ ap (λ (t : ShownTrial). t.bottom ++ adds.bottoms.rows) adds.tops.new_is
        ∙ ap (λ rows. rows ++ adds.bottoms.rows) no_bottom

    lanes : (die : Die) → length (lanes_on top bottom die) ≡ length (segments p.plan die)
    lanes Top = top_long
    lanes Bottom = bottom_long

    rows : (die : Die) → length (rows_of new die) ≡ length (lanes_on top bottom die)
    rows Top = ap length tops_are ∙ adds.tops.many
    rows Bottom = ap length bottoms_are ∙ adds.bottoms.many

    each : (die : Die) (number : ℕ) (segment : Segment) (lane : List CellId) (row : ShownRow) → slice_get (segments p.plan die) number ≡ Some segment
        → slice_get (lanes_on top bottom die) number ≡ Some lane → slice_get (rows_of new die) number ≡ Some row → IsBestRow p die segment lane targets row
    each Top number segment lane row there held at =
        adds.tops.each number segment lane row there held (ap (λ (list : List ShownRow). slice_get list number) (sym tops_are) ∙ at)
    each Bottom number segment lane row there held at =
        adds.bottoms.each number segment lane row there held (ap (λ (list : List ShownRow). slice_get list number) (sym bottoms_are) ∙ at)

-- nothing else of a trial changes
pub both_else : (p : Netlist) (targets : List Point) (top bottom : LaneList) (old new : ShownTrial) → AddsBoth p targets top bottom old new → new.cuts ≡ old.cuts
both_else p targets top bottom old new adds = ap (λ (t : ShownTrial). t.cuts) adds.bottoms.new_is ∙ ap (λ (t : ShownTrial). t.cuts) adds.tops.new_is

pub both_tops : (p : Netlist) (targets : List Point) (top bottom : LaneList) (old new : ShownTrial) → AddsBoth p targets top bottom old new → new.top_cells ≡ old.top_cells
both_tops p targets top bottom old new adds = ap (λ (t : ShownTrial). t.top_cells) adds.bottoms.new_is ∙ ap (λ (t : ShownTrial). t.top_cells) adds.tops.new_is

-- the lane of a row
lane_there : (p : Netlist) (targets : List Point) (top bottom : LaneList) (trial : ShownTrial) (die : Die) (number : ℕ) (row : ShownRow) → AreBest p targets top bottom trial
    → slice_get (rows_of trial die) number ≡ Some row → slice_get (lanes_on top bottom die) number ≡ Some (get_or (lanes_on top bottom die) number [])
lane_there p targets top bottom trial die number row best at =
    slice_get-get_or (lanes_on top bottom die) number [] (omega (arith, slice_get_within (rows_of trial die) number row at, best.rows die))

segment_there : (p : Netlist) (targets : List Point) (top bottom : LaneList) (trial : ShownTrial) (die : Die) (number : ℕ) (row : ShownRow) → AreBest p targets top bottom trial
    → slice_get (rows_of trial die) number ≡ Some row → slice_get (segments p.plan die) number ≡ Some (get_or (segments p.plan die) number no_segment)
segment_there p targets top bottom trial die number row best at =
    slice_get-get_or (segments p.plan die) number no_segment (omega (arith, slice_get_within (rows_of trial die) number row at, best.rows die, best.lanes die))

-- a row is the best of its lane
pub best_of : (p : Netlist) (targets : List Point) (top bottom : LaneList) (trial : ShownTrial) (die : Die) (number : ℕ) (row : ShownRow) → AreBest p targets top bottom trial
    → slice_get (rows_of trial die) number ≡ Some row → IsBestRow p die (get_or (segments p.plan die) number no_segment) (get_or (lanes_on top bottom die) number []) targets row
best_of p targets top bottom trial die number row best at =
    best.each die number (get_or (segments p.plan die) number no_segment) (get_or (lanes_on top bottom die) number []) row
    (segment_there p targets top bottom trial die number row best at) (lane_there p targets top bottom trial die number row best at) at

-- the trial shows the lanes,
pub lanes_best : (p : Netlist) (targets : List Point) (top bottom : LaneList) (trial : ShownTrial) → AreBest p targets top bottom trial → (die : Die) → lanes_shown trial die ≡ lanes_on top bottom die
lanes_best p targets top bottom trial best die =
    ext_get_or [] (lanes_shown trial die) (lanes_on top bottom die) (long ∙ best.rows die) (λ number below.
    let inside : number < length (rows_of trial die) = omega (arith, below, long) in
    let row = get_or (rows_of trial die) number no_row in
    get_or-map lane_shown (rows_of trial die) number no_row [] inside
    ∙ (best_of p targets top bottom trial die number row best (slice_get-get_or (rows_of trial die) number no_row inside)).lane_is)
  where
    long : length (lanes_shown trial die) ≡ length (rows_of trial die)
    long = length-map (rows_of trial die) lane_shown

-- its rows are the best,
pub rows_best : (p : Netlist) (targets : List Point) (top bottom : LaneList) (trial : ShownTrial) → AreBest p targets top bottom trial → AreRowsBest p trial
rows_best p targets top bottom trial best = λ die number segment row there at.
    (best.each die number segment (get_or (lanes_on top bottom die) number []) row there (lane_there p targets top bottom trial die number row best at) at).best

-- their duals show it,
pub duals_best : (p : Netlist) (targets : List Point) (top bottom : LaneList) (trial : ShownTrial) → AreBest p targets top bottom trial → AreDualsShown p trial
duals_best p targets top bottom trial best = λ die number segment row there at.
    (best.each die number segment (get_or (lanes_on top bottom die) number []) row there (lane_there p targets top bottom trial die number row best at) at).duals

-- and are small,
pub small_best : (p : Netlist) (targets : List Point) (top bottom : LaneList) (trial : ShownTrial) → AreBest p targets top bottom trial → (die : Die)
    → All (λ row. All (λ dual. dual ≤ 2 ^ 57) (row_duals row)) (rows_of trial die)
small_best p targets top bottom trial best die = λ number d below.
    (best_of p targets top bottom trial die number (get_or (rows_of trial die) number d) best (slice_get-get_or (rows_of trial die) number d below)).small
