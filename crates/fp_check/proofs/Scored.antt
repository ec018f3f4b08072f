-- What holds of each of a run's trials, one more at a time; and that exactly the cut nets have a terminal where a trial lists its cut nets.
use Rattle.std.proofs.Common.{◌≡◌, ℕ, ◌+◌, ◌<◌, ◌≤◌, true, false, Result, Ok, Err, List, length, slice_get, get_or, Option, Some, refl, sym, ap, subst, ◌∙◌, arith, inl, inr}
use Rattle.std.specs.Prelude.{Bool, IsTrue, IfOk, ◌↔◌, MatchOption}
use Rattle.std.proofs.lemmas.Bool.{cases_eq}
use Rattle.std.proofs.lemmas.Option.{slice_get_within, slice_get-get_or, get_or_from_slice_get}
use Rattle.fp_base.specs.declared.ids.Die.{Die}
use Rattle.fp_tech.specs.Slots.{Slots}
use Rattle.fp_netlist.specs.Netlist.{Netlist}
use Rattle.fp_place.specs.Places.{dies_of}
use Rattle.fp_place.specs.Placed.{Placed, places_of}
use Rattle.fp_score.specs.SlotBestLaws.{chosen_on_cuts}
use Rattle.fp_score.specs.Terminals.{AreOnCuts}
use Rattle.fp_cert.specs.CutLinesLaws.{terminals_are}
use Rattle.fp_cert.specs.Endings.{has_rows}
use Rattle.fp_cert.specs.Shown.{ShownTrial}
use Rattle.fp_cert.specs.Standing.{places_shown, terminals_shown, placed_shown, dies_shown}
use Rattle.fp_cert.specs.Shown.{ShownRun}
use Rattle.fp_check.specs.Conditions.{AreCutsListed}
use Rattle.fp_check.specs.CutLines.{slots_of}
use Rattle.fp_check.specs.Views.{IsLayoutOf, IsViewOf, AreViews}
use Rattle.fp_check.specs.declared.views.Layout.{Layout}
use Rattle.fp_check.specs.declared.views.View.{View}
use Rattle.fp_check.proofs.Priced.{dies_placed}

pub never : (fact : Type 0) → IsTrue false → fact
never fact so = absurd cc

-- two facts that hold together are tested alike
pub ok_as : {E : Type 0} (result : Result Bool E) (one other : Type 0) → one ↔ other → IfOk result (λ b. IsTrue b ↔ one) → IfOk result (λ b. IsTrue b ↔ other)
ok_as (Ok b) one other same is = (λ yes. same.0 (is.0 yes), λ fact. is.1 (same.1 fact))
ok_as (Err fault) one other same is = tt

-- ---- trial by trial

-- what an index gives stands in the list
pub there : {A : Type 0} (all list : List A) (number : ℕ) (x : A) → list ≡ all → number < length list → x ≡ get_or list number x → slice_get all number ≡ Some x
there all list number x same below is = ap (λ xs. slice_get xs number) (sym same) ∙ slice_get-get_or list number x below ∙ ap Some (sym is)

pub view_of : (p : Netlist) (grid : Slots) (run : ShownRun) (views : List View) (number : ℕ) (trial : ShownTrial) (view : View) → AreViews p grid run views
    → slice_get run.trials number ≡ Some trial → view ≡ get_or views number view → IsViewOf p grid trial view
view_of p grid run views number trial view are at is =
    are.each number trial view at (there views views number view refl (omega (arith, slice_get_within run.trials number trial at, are.many)) is)

pub layout_of : (p : Netlist) (grid : Slots) (trial : ShownTrial) (view : View) (layout : Layout) → IsViewOf p grid trial view → view.layout ≡ Some layout → IsLayoutOf p grid trial layout
layout_of p grid trial view layout is has = subst (λ (o : Option Layout). MatchOption o (has_rows trial.ending ≡ false) (IsLayoutOf p grid trial)) has is.layout_is

-- where a fact holds of each trial before a number and of that one, it holds of each up to it
pub one_more : (fact : ShownTrial → Type 0) (trials : List ShownTrial) (number : ℕ) (here : ShownTrial) → slice_get trials number ≡ Some here → fact here
    → ((k : ℕ) (trial : ShownTrial) → k < number → slice_get trials k ≡ Some trial → fact trial)
    → (k : ℕ) (trial : ShownTrial) → k < number + 1 → slice_get trials k ≡ Some trial → fact trial
one_more fact trials number here there is before k trial below at =
    elim (cases_eq k number) [
      | inl same ↦
          subst fact (sym (get_or_from_slice_get trials number here trial there) ∙ get_or_from_slice_get trials number trial trial (ap (slice_get trials) (sym same) ∙ at)) is
      | inr other ↦ before k trial (omega (arith, below, other)) at
    ]

-- and where it holds before the end, of all
pub of_all : (fact : ShownTrial → Type 0) (trials : List ShownTrial) (number : ℕ) → length trials ≤ number
    → ((k : ℕ) (trial : ShownTrial) → k < number → slice_get trials k ≡ Some trial → fact trial) → (k : ℕ) (trial : ShownTrial) → slice_get trials k ≡ Some trial → fact trial
of_all fact trials number end before k trial at = before k trial (omega (arith, slice_get_within trials k trial at, end)) at

-- exactly the cut nets of a trial have a terminal
pub on_cuts : (p : Netlist) (grid : Slots) (trial : ShownTrial) → has_rows trial.ending ≡ true → AreCutsListed p trial
    → AreOnCuts p (dies_of (places_shown p trial)) (terminals_shown p grid trial)
on_cuts p grid trial has listed =
    subst (λ (dies : List Die). AreOnCuts p dies (terminals_shown p grid trial)) (dies_placed p trial has)
    (subst (AreOnCuts p (dies_shown p trial)) (sym (terminals_are p grid trial (dies_shown p trial) (slots_of trial.cuts) listed.nets refl))
    (chosen_on_cuts p grid (dies_shown p trial) (slots_of trial.cuts)))

-- so it is in a placement that is as the trial shows
pub placed_on_cuts : (p : Netlist) (grid : Slots) (trial : ShownTrial) (placed : Placed) → has_rows trial.ending ≡ true → AreCutsListed p trial → placed ≡ placed_shown p grid trial
    → AreOnCuts p (dies_of (places_of placed)) placed.terminals
placed_on_cuts p grid trial placed has listed shows =
    subst (λ (pl : Placed). AreOnCuts p (dies_of (places_of pl)) pl.terminals) (sym shows) (on_cuts p grid trial has listed)
