-- Facts of each view and the one before it, and of the trials that they show.
use Rattle.std.proofs.Common.{◌≡◌, ℕ, ◌+◌, ◌-◌, ◌<◌, ◌≤◌, Bool, true, false, List, [], ◌∷◌, length, get_or, slice_get, Some, refl, sym, ap, ◌∙◌, arith}
use Rattle.std.specs.Prelude.{nat_eq}
use Rattle.std.proofs.lemmas.Bool.Decides.{nat_tests}
use Rattle.std.proofs.lemmas.Option.{slice_get_within, slice_get-get_or, slice_get_read, get_or_from_slice_get}
use Rattle.fp_base.specs.declared.ids.Die.{Die}
use Rattle.fp_tech.specs.Slots.{Slots}
use Rattle.fp_netlist.specs.Netlist.{Netlist}
use Rattle.fp_cert.specs.declared.shown.Ending.TheVariants as endings
use Rattle.fp_cert.specs.Shown.{ShownTrial, ShownRun}
use Rattle.fp_check.specs.declared.views.View.{View}
use Rattle.fp_check.specs.Conditions.{OfNext}
use Rattle.fp_check.specs.Views.{IsViewOf, AreViews}

-- of each of so many views, behind the first, with the one before it
abbrev pub OfViews : List View → ℕ → (View → View → Type 0) → Type 0
OfViews views count fact = (number : ℕ) (base view : View) → number + 1 < count → slice_get views number ≡ Some base → slice_get views (number + 1) ≡ Some view → fact base view

same_number : (a b : ℕ) → nat_eq a b ≡ true → a ≡ b
same_number a b is = grind (arith, nat_tests)

before : (a b : ℕ) → nat_eq a b ≡ false → a < b + 1 → a < b
before a b is below = grind (arith, nat_tests)

pub one_view : (views : List View) (fact : View → View → Type 0) → OfViews views 1 fact
one_view views fact = λ number base view below first second. absurd (omega (arith, below))

pub one_view_more : (views : List View) (count : ℕ) (fact : View → View → Type 0) → OfViews views count fact
    → ((number : ℕ) (base view : View) → number + 1 ≡ count → slice_get views number ≡ Some base → slice_get views (number + 1) ≡ Some view → fact base view)
    → OfViews views (count + 1) fact
one_view_more views count fact each last = λ number base view below first second. by number base view below first second (nat_eq (number + 1) count) refl
  where
    by : (number : ℕ) (base view : View) → number + 1 < count + 1 → slice_get views number ≡ Some base → slice_get views (number + 1) ≡ Some view
        → (b : Bool) → nat_eq (number + 1) count ≡ b → fact base view
    by number base view below first second true is = last number base view (same_number (number + 1) count is) first second
    by number base view below first second false is = each number base view (before (number + 1) count is below) first second

-- ---- the views of trials

-- a trial's view
pub record IsViewAt (p : Netlist) (grid : Slots) (views : List View) (number : ℕ) (trial : ShownTrial) : Type 0 where
  pub view : View
  pub there : slice_get views number ≡ Some view
  pub is : IsViewOf p grid trial view

pub view_at : (p : Netlist) (grid : Slots) (run : ShownRun) (views : List View) → AreViews p grid run views → (number : ℕ) (trial : ShownTrial) → slice_get run.trials number ≡ Some trial
    → (d : View) → IsViewAt p grid views number trial
view_at p grid run views are number trial at d =
    let below : number < length views = omega (arith, slice_get_within run.trials number trial at, are.many) in
    let there = slice_get-get_or views number d below in
    record { view = get_or views number d; there = there; is = are.each number trial (get_or views number d) at there }

-- a view's trial
pub record IsTrialAt (p : Netlist) (grid : Slots) (run : ShownRun) (number : ℕ) (view : View) : Type 0 where
  pub trial : ShownTrial
  pub there : slice_get run.trials number ≡ Some trial
  pub is : IsViewOf p grid trial view

no_trial : ShownTrial
no_trial = record { ending = endings.Start; top = []; bottom = []; cuts = []; score = 0; top_cells = [] }

pub trial_at : (p : Netlist) (grid : Slots) (run : ShownRun) (views : List View) → AreViews p grid run views → (number : ℕ) (view : View) → slice_get views number ≡ Some view
    → IsTrialAt p grid run number view
trial_at p grid run views are number view at =
    let below : number < length run.trials = omega (arith, slice_get_within views number view at, are.many) in
    let there = slice_get-get_or run.trials number no_trial below in
    record { trial = get_or run.trials number no_trial; there = there; is = are.each number (get_or run.trials number no_trial) view there at }

-- a view that is read is that of a trial
pub read_at : (p : Netlist) (grid : Slots) (run : ShownRun) (views : List View) → AreViews p grid run views → (number : ℕ) (view : View) → number < length run.trials
    → view ≡ get_or views number view → IsTrialAt p grid run number view
read_at p grid run views are number view below is = trial_at p grid run views are number view (slice_get_read views (length views) number view refl (omega (arith, below, are.many)) is)

-- a fact of views is one of the trials, and the other way round
pub of_trials : (p : Netlist) (grid : Slots) (run : ShownRun) (views : List View) → AreViews p grid run views → (fact : View → View → Type 0) (shown : ShownTrial → ShownTrial → Type 0)
    → ((base trial : ShownTrial) (first second : View) → IsViewOf p grid base first → IsViewOf p grid trial second → fact first second → shown base trial)
    → OfViews views (length views) fact → OfNext run shown
of_trials p grid run views are fact shown tells each = λ number base trial first second.
    let at : number + 1 < length views = omega (arith, slice_get_within run.trials (number + 1) trial second, are.many) in
    let mine = trial_view number base first (omega (arith, at)) in
    let its = trial_view (number + 1) trial second at in
    tells base trial mine.view its.view mine.is its.is (each number mine.view its.view at mine.there its.there)
  where
    trial_view : (number : ℕ) (trial : ShownTrial) → slice_get run.trials number ≡ Some trial → number < length views → IsViewAt p grid views number trial
    trial_view number trial at below = by views are below
      where
        by : (these : List View) → AreViews p grid run these → number < length these → IsViewAt p grid these number trial
        by [] are below = absurd (omega (arith, below))
        by (d ∷ these) are below = view_at p grid run (d ∷ these) are number trial at d

pub of_views : (p : Netlist) (grid : Slots) (run : ShownRun) (views : List View) → AreViews p grid run views → (fact : View → View → Type 0) (shown : ShownTrial → ShownTrial → Type 0)
    → ((base trial : ShownTrial) (first second : View) → IsViewOf p grid base first → IsViewOf p grid trial second → shown base trial → fact first second)
    → OfNext run shown → (number : ℕ) (base view : View) → slice_get views number ≡ Some base → slice_get views (number + 1) ≡ Some view → fact base view
of_views p grid run views are fact shown tells each number base view first second =
    let mine = trial_at p grid run views are number base first in
    let its = trial_at p grid run views are (number + 1) view second in
    tells mine.trial its.trial base view mine.is its.is (each number mine.trial its.trial mine.there its.there)

-- ---- views that are read

-- the dies of a view are as many as the cells
pub many_dies : (p : Netlist) (grid : Slots) (run : ShownRun) (views : List View) → AreViews p grid run views → (number : ℕ) (view : View) (dies : List Die) → number < length run.trials
    → view ≡ get_or views number view → dies ≡ (get_or views number view).dies.items → length dies ≡ length p.cells
many_dies p grid run views are number view dies below is value =
    ap length (value ∙ ap (λ (v : View). v.dies.items) (sym is)) ∙ (read_at p grid run views are number view below is).is.many

-- so many views say of all trials what they say
pub of_read : (p : Netlist) (grid : Slots) (run : ShownRun) (views : List View) → AreViews p grid run views → (fact : View → View → Type 0) (shown : ShownTrial → ShownTrial → Type 0)
    → ((base trial : ShownTrial) (first second : View) → IsViewOf p grid base first → IsViewOf p grid trial second → fact first second → shown base trial)
    → (count : ℕ) → length run.trials ≤ count → OfViews views count fact → OfNext run shown
of_read p grid run views are fact shown tells count all each =
    of_trials p grid run views are fact shown tells (λ number base view below first second. each number base view (omega (arith, below, are.many, all)) first second)

-- what all trials say is so at a view that is read
pub step_at : (p : Netlist) (grid : Slots) (run : ShownRun) (views : List View) → AreViews p grid run views → (fact : View → View → Type 0) (shown : ShownTrial → ShownTrial → Type 0)
    → ((base trial : ShownTrial) (first second : View) → IsViewOf p grid base first → IsViewOf p grid trial second → shown base trial → fact first second)
    → OfNext run shown → (number : ℕ) (view d : View) → 1 ≤ number → number < length run.trials → view ≡ get_or views number view → fact (get_or views (number - 1) d) view
step_at p grid run views are fact shown tells each number view d some below is =
    let next : number - 1 + 1 ≡ number = omega (arith, some) in
    let inside : number < length views = omega (arith, below, are.many) in
    of_views p grid run views are fact shown tells each (number - 1) (get_or views (number - 1) d) view
    (slice_get-get_or views (number - 1) d (omega (arith, inside)))
    (ap (slice_get views) next ∙ slice_get_read views (length views) number view refl inside is)

-- a view that is read is the one that stands there
pub last_is : (views : List View) (number count : ℕ) (view read : View) → number + 1 ≡ count → slice_get views (number + 1) ≡ Some view → read ≡ get_or views count read → read ≡ view
last_is views number count view read next at is = is ∙ get_or_from_slice_get views count view read (ap (slice_get views) (sym next) ∙ at)

pub base_is : (views : List View) (number count : ℕ) (base read : View) → number + 1 ≡ count → slice_get views number ≡ Some base → get_or views (count - 1) read ≡ base
base_is views number count base read next at =
    let same : count - 1 ≡ number = omega (arith, next) in
    ap (λ n. get_or views n read) same ∙ get_or_from_slice_get views number base read at
