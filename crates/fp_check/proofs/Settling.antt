-- Dies that are settled from the first ones, and dies that are settled from those before them.
use Rattle.std.proofs.Common.{◌≡◌, ℕ, zero, suc, ◌+◌, ◌<◌, ◌≤◌, Bool, true, false, List, slice_get, Some, refl, sym, ap, ◌∙◌, arith}
use Rattle.std.specs.Prelude.{Decides}
use Rattle.std.proofs.lemmas.Bool.{false≢true}
use Rattle.std.proofs.lemmas.Option.{same_Some, slice_get_within, slice_get-get_or}
use Rattle.fp_base.specs.declared.ids.Die.{Die}
use Rattle.fp_base.specs.declared.ids.Die.TheVariants.{Top, Bottom}
use Rattle.fp_netlist.specs.Netlist.{Netlist}
use Rattle.fp_place.specs.Settled.{settled}
use Rattle.fp_part.specs.SettledLaws.{settled_twice}
use Rattle.fp_check.specs.declared.views.View.{View}
use Rattle.fp_check.proofs.Nexts.{OfViews}

-- dies that are all settled from the first ones are settled from those before them
pub settles : (p : Netlist) (views : List View) (count : ℕ) (first : View) (kept : List Die) → slice_get views 0 ≡ Some first → kept ≡ settled p first.dies.items
    → OfViews views count (λ base view. view.dies.items ≡ kept) → OfViews views count (λ base view. view.dies.items ≡ settled p base.dies.items)
settles p views count first kept at is each = λ number base view below one two. each number base view below one two ∙ by number base below one
  where
    again : kept ≡ settled p kept
    again = is ∙ sym (settled_twice p first.dies.items) ∙ ap (settled p) (sym is)

    by : (number : ℕ) (base : View) → number + 1 < count → slice_get views number ≡ Some base → kept ≡ settled p base.dies.items
    by zero base below one = is ∙ ap (λ (v : View). settled p v.dies.items) (same_Some first base (sym at ∙ one))
    by (suc k) base below one =
        let next : k + 1 ≡ suc k = omega arith in
        let there = slice_get-get_or views k first (omega (arith, slice_get_within views (suc k) base one)) in
        again ∙ ap (settled p) (sym (each k _ base (omega (arith, below)) there (ap (slice_get views) next ∙ one)))

-- and the other way round
pub kept_by : (p : Netlist) (views : List View) (first : View) (kept : List Die) → slice_get views 0 ≡ Some first → kept ≡ settled p first.dies.items
    → ((number : ℕ) (base view : View) → slice_get views number ≡ Some base → slice_get views (number + 1) ≡ Some view → view.dies.items ≡ settled p base.dies.items)
    → (number : ℕ) (view : View) → 1 ≤ number → slice_get views number ≡ Some view → view.dies.items ≡ kept
kept_by p views first kept at is each zero view some there = absurd (omega (arith, some))
kept_by p views first kept at is each (suc zero) view some there = each 0 first view at there ∙ sym is
kept_by p views first kept at is each (suc (suc k)) view some there =
    let next : suc k + 1 ≡ suc (suc k) = omega arith in
    let before = slice_get-get_or views (suc k) first (omega (arith, slice_get_within views (suc (suc k)) view there)) in
    let same = kept_by p views first kept at is each (suc k) _ (omega arith) before in
    each (suc k) _ view before (ap (slice_get views) next ∙ there)
    ∙ ap (settled p) (same ∙ is)
    ∙ settled_twice p first.dies.items
    ∙ sym is

-- a test that tells two dies apart decides whether they are one
pub dies_decided : (test : Die → Die → Bool) → test Top Top ≡ true → test Top Bottom ≡ false → test Bottom Top ≡ false → test Bottom Bottom ≡ true → (a b : Die) → Decides (test a b) (a ≡ b)
dies_decided test top first second bottom Top Top = (λ _. refl, λ _. top)
dies_decided test top first second bottom Top Bottom = (λ is. absurd (false≢true (sym first ∙ is)), λ same. absurd cc)
dies_decided test top first second bottom Bottom Top = (λ is. absurd (false≢true (sym second ∙ is)), λ same. absurd cc)
dies_decided test top first second bottom Bottom Bottom = (λ _. refl, λ _. bottom)
