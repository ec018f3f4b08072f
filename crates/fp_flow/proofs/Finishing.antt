-- A trial of placed rows with the best terminals, ended after a base: it is scored and certified, and shows its placement.
use Rattle.std.proofs.Common.{◌≡◌, ℕ, ◌^◌, ◌≤◌, true, false, List, ◌++◌, length, map, slice_get, Some, None, Option, pos, refl, sym, ap, subst, ◌∙◌, arith}
use Rattle.std.specs.Prelude.{All, Bool, nat_lt, if◌then◌else◌, IfSome, is_some, find}
use Rattle.std.specs.List.{range_with_len}
use Rattle.fp_base.specs.declared.ids.Die.{Die}
use Rattle.fp_base.specs.declared.ids.Die.TheVariants.{Top, Bottom}
use Rattle.fp_base.specs.declared.ids.Point.{Point}
use Rattle.fp_tech.specs.Plan.{IsPlan}
use Rattle.fp_tech.specs.Slots.{Slots, IsGrid}
use Rattle.fp_netlist.specs.Netlist.{Netlist, IsSound}
use Rattle.fp_place.specs.Places.{dies_of}
use Rattle.fp_place.specs.Placed.{Placed, place_of, places_of, DoAgree, IsInOrder}
use Rattle.fp_place.specs.Settled.{KeepRules}
use Rattle.fp_score.specs.Score.{score}
use Rattle.fp_cert.specs.declared.shown.CutShown.{CutShown}
use Rattle.fp_cert.specs.declared.shown.Ending.TheVariants.{Better, NotBetter}
use Rattle.fp_cert.specs.Certified.{row_duals, AreDualsShown, IsCertified}
use Rattle.fp_cert.specs.Endings.{has_rows}
use Rattle.fp_cert.specs.OfProblem.{IsTargetPoint}
use Rattle.fp_cert.specs.Shown.{ShownRow, ShownTrial, rows_of}
use Rattle.fp_cert.specs.Standing.{Stand, stands, stands_on, is_stand_of, spot_by, target_by, spots_shown, targets_shown, lane_shown, lanes_shown, terminals_shown, placed_shown}
use Rattle.fp_cert.specs.Trials.{compared, is_better, AreRowsBest, IsScored}
use Rattle.fp_cert.specs.CutLinesLaws.{terminals_are}
use Rattle.fp_flow.specs.Bases.{IsBase}
use Rattle.fp_flow.specs.Slotted.{IsSlotted}
use Rattle.fp_flow.specs.Steps.{IsLaid, IsEnded, IsFinished}
use Rattle.fp_flow.proofs.Certifying.{slotted_prices, slotted_prices_small}
use Rattle.fp_flow.proofs.Ranges.{near_points, slots_within, base_of_problem}
use Rattle.fp_flow.proofs.Firsts.{shown_placed, shown_scored, slotted_of}

-- ---- what a trial shows of its cells is by its rows

same_stands : (a b : ShownTrial) → a.top ≡ b.top → a.bottom ≡ b.bottom → stands a ≡ stands b
same_stands a b tops bottoms = λ i. stands_on Top 0 (tops i) ++ stands_on Bottom 0 (bottoms i)

pub spots_by_rows : (p : Netlist) (a b : ShownTrial) → a.top ≡ b.top → a.bottom ≡ b.bottom → spots_shown p a ≡ spots_shown p b
unfolding spots_shown
spots_by_rows p a b tops bottoms =
    ap (λ (all : List Stand). map (λ cell. spot_by p.plan (find (is_stand_of cell) all)) (range_with_len 0 (length p.cells))) (same_stands a b tops bottoms)

pub targets_by_rows : (p : Netlist) (a b : ShownTrial) → a.top ≡ b.top → a.bottom ≡ b.bottom → targets_shown p a ≡ targets_shown p b
unfolding targets_shown
targets_by_rows p a b tops bottoms =
    ap (λ (all : List Stand). map (λ cell. target_by (find (is_stand_of cell) all)) (range_with_len 0 (length p.cells))) (same_stands a b tops bottoms)

pub rows_by_rows : (a b : ShownTrial) → a.top ≡ b.top → a.bottom ≡ b.bottom → (die : Die) → rows_of a die ≡ rows_of b die
rows_by_rows a b tops bottoms Top = tops
rows_by_rows a b tops bottoms Bottom = bottoms

pub best_by_rows : (p : Netlist) (a b : ShownTrial) → a.top ≡ b.top → a.bottom ≡ b.bottom → AreRowsBest p b → AreRowsBest p a
best_by_rows p a b tops bottoms best = λ die number segment row there at.
    best die number segment row there (ap (λ (rows : List ShownRow). slice_get rows number) (sym (rows_by_rows a b tops bottoms die)) ∙ at)

duals_by_rows : (p : Netlist) (a b : ShownTrial) → a.top ≡ b.top → a.bottom ≡ b.bottom → AreDualsShown p b → AreDualsShown p a
duals_by_rows p a b tops bottoms shown = λ die number segment row there at.
    shown die number segment row there (ap (λ (rows : List ShownRow). slice_get rows number) (sym (rows_by_rows a b tops bottoms die)) ∙ at)

small_by_rows : (a b : ShownTrial) → a.top ≡ b.top → a.bottom ≡ b.bottom → ((die : Die) → All (λ row. All (λ dual. dual ≤ 2 ^ 57) (row_duals row)) (rows_of b die)) → (die : Die)
    → All (λ row. All (λ dual. dual ≤ 2 ^ 57) (row_duals row)) (rows_of a die)
small_by_rows a b tops bottoms small die = subst (All (λ row. All (λ dual. dual ≤ 2 ^ 57) (row_duals row))) (sym (rows_by_rows a b tops bottoms die)) (small die)

-- ---- how it ends

pub ends_with_rows : (score before : ℕ) → has_rows (compared score before) ≡ true
ends_with_rows score before = by (nat_lt score before)
  where
    by : (b : Bool) → has_rows (if b then Better else NotBetter) ≡ true
    by true = refl
    by false = refl

-- ---- a finished trial

-- the trial with its terminals
pub record IsSet (p : Netlist) (grid : Slots) (old : ShownTrial) (placed slotted : Placed) (new : ShownTrial) : Type 0 where
  pub scored : IsScored p grid new
  pub certified : IsCertified p grid new
  pub base : IsBase p grid new slotted

set_is : (p : Netlist) (grid : Slots) (old mid new : ShownTrial) (placed slotted : Placed) (targets : List Point) → IsPlan p.plan → IsGrid p.plan.frame p.plan.terminal grid → IsLaid p targets old placed
    → KeepRules p (dies_of (places_of placed)) → IsSlotted p grid placed slotted old mid → new.top ≡ old.top → new.bottom ≡ old.bottom → new.cuts ≡ mid.cuts → new.top_cells ≡ old.top_cells
    → has_rows new.ending ≡ true → pos new.score ≡ score p (places_of slotted) slotted.terminals → IsSet p grid old placed slotted new
set_is p grid old mid new placed slotted targets plan is_grid laid rules s tops bottoms cuts top_cells has score_is = record {
  scored = scored;
  certified = certified;
  base = record {
    has = has;
    shown = shown;
    of_problem = slotted_of p grid placed slotted old mid plan is_grid laid.of_problem s;
    agree = subst DoAgree (sym s.slotted_is) laid.agree;
    in_order = subst (IsInOrder p) (sym s.slotted_is) laid.in_order;
    rules = subst (λ (pl : Placed). KeepRules p (dies_of (places_of pl))) (sym s.slotted_is) rules;
    scored = scored;
    certified = certified;
  };
}
  where
    same : slotted.spots ≡ placed.spots
    same = ap (λ (pl : Placed). pl.spots) s.slotted_is

    spots : spots_shown p new ≡ placed.spots
    spots = spots_by_rows p new old tops bottoms ∙ laid.spots_are

    terminals : terminals_shown p grid new ≡ slotted.terminals
    terminals =
        terminals_are p grid new (dies_of (places_of placed)) s.solution.chosen
        (ap (λ (list : List CutShown). map (λ cut. cut.net.0) list) cuts ∙ s.nets_are) (ap (λ (list : List CutShown). map (λ cut. cut.slot.0) list) cuts ∙ s.slots_are)
        ∙ sym (ap (λ (pl : Placed). pl.terminals) s.slotted_is)

    scored : IsScored p grid new
    scored =
        shown_scored p grid new placed slotted has spots terminals same (ap (λ (list : List CutShown). map (λ cut. cut.net.0) list) cuts ∙ s.nets_are) s.best score_is
        (top_cells ∙ laid.no_tops)

    certified : IsCertified p grid new
    certified = record {
      duals = duals_by_rows p new old tops bottoms laid.duals;
      prices = slotted_prices p grid placed slotted old mid new laid.of_problem s cuts (ap (map place_of) spots) terminals;
      small_duals = small_by_rows new old tops bottoms laid.small;
      small_prices = slotted_prices_small p grid placed slotted old mid new s cuts;
    }

    lanes : (die : Die) → lanes_shown new die ≡ lanes_shown old die
    lanes die = ap (map lane_shown) (rows_by_rows new old tops bottoms die)

    shown : placed_shown p grid new ≡ slotted
    shown = shown_placed p grid new slotted (record {
      spots = spots ∙ sym same;
      top = lanes Top ∙ laid.top_shown ∙ sym (ap (λ (pl : Placed). pl.top) s.slotted_is);
      bottom = lanes Bottom ∙ laid.bottom_shown ∙ sym (ap (λ (pl : Placed). pl.bottom) s.slotted_is);
      terminals = terminals;
    })

pub finished : (p : Netlist) (grid : Slots) (before : ℕ) (old mid new : ShownTrial) (placed slotted : Placed) (better : Option Placed) (targets : List Point) → IsSound p
    → IsGrid p.plan.frame p.plan.terminal grid → IsLaid p targets old placed → KeepRules p (dies_of (places_of placed)) → IsSlotted p grid placed slotted old mid
    → IsEnded p before mid slotted new better → IsFinished p grid before old placed new better
finished p grid before old mid new placed slotted better targets sound is_grid laid rules s ended = record {
  top_is = tops;
  bottom_is = bottoms;
  scored = set.scored;
  ending_is = ending;
  of_problem =
      base_of_problem p grid new slotted sound set.base (subst (All IsTargetPoint) (sym (targets_by_rows p new old tops bottoms ∙ laid.targets_are)) (near_points targets laid.near))
      (slots_within p grid placed slotted old mid new s (ap (λ (t : ShownTrial). t.cuts) ended.new_is)) (omega (arith, ended.small, scores));
  certified = set.certified;
  better_is = ending_cases.0 ∙ ap is_better (sym (ap (λ (t : ShownTrial). t.ending) ended.new_is));
  next = ending_cases.1;
}
  where
    tops : new.top ≡ old.top
    tops = ap (λ (t : ShownTrial). t.top) ended.new_is ∙ ap (λ (t : ShownTrial). t.top) s.after_is

    bottoms : new.bottom ≡ old.bottom
    bottoms = ap (λ (t : ShownTrial). t.bottom) ended.new_is ∙ ap (λ (t : ShownTrial). t.bottom) s.after_is

    scores : new.score ≡ ended.total
    scores = ap (λ (t : ShownTrial). t.score) ended.new_is

    ending : new.ending ≡ compared new.score before
    ending = ap (λ (t : ShownTrial). t.ending) ended.new_is ∙ ap (λ n. compared n before) (sym scores)

    set : IsSet p grid old placed slotted new
    set =
        set_is p grid old mid new placed slotted targets sound.plan is_grid laid rules s tops bottoms (ap (λ (t : ShownTrial). t.cuts) ended.new_is)
        (ap (λ (t : ShownTrial). t.top_cells) ended.new_is ∙ ap (λ (t : ShownTrial). t.top_cells) s.after_is)
        (ap has_rows ending ∙ ends_with_rows new.score before) (ap pos scores ∙ ended.total_is)

    next_of : IsBase p grid new slotted × (slotted.spots ≡ placed.spots)
    next_of = (set.base, ap (λ (pl : Placed). pl.spots) s.slotted_is)

    by_case : (b : Bool) → better ≡ (if b then Some slotted else None)
        → (is_some better ≡ is_better (if b then Better else NotBetter)) × IfSome better (λ pl. IsBase p grid new pl × (pl.spots ≡ placed.spots))
    by_case true is = (ap is_some is, subst (λ (o : Option Placed). IfSome o (λ pl. IsBase p grid new pl × (pl.spots ≡ placed.spots))) (sym is) next_of)
    by_case false is = (ap is_some is, subst (λ (o : Option Placed). IfSome o (λ pl. IsBase p grid new pl × (pl.spots ≡ placed.spots))) (sym is) tt)

    ending_cases : (is_some better ≡ is_better (compared ended.total before)) × IfSome better (λ pl. IsBase p grid new pl × (pl.spots ≡ placed.spots))
    ending_cases = by_case (nat_lt ended.total before) ended.better_is
