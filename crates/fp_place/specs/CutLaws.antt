-- Laws of the number of cut nets below a net, which numbers cut nets upwards.
use Rattle.std.specs.Prelude.{◌≡◌, ◌⊎◌, ℕ, zero, suc, ◌+◌, ◌<◌, ◌≤◌, Bool, true, if◌then◌else◌, List}
use Rattle.std.proofs.Common.{ap, arith, inl, inr}
use Rattle.std.proofs.lemmas.Bool.{cases_lt, cases_order}
use Rattle.fp_base.specs.declared.ids.Die.{Die}
use Rattle.fp_netlist.specs.Netlist.{Netlist}
use Rattle.fp_place.specs.Cut.{is_cut, cut_below}

-- further nets are no fewer cut nets
pub cut_grows : (p : Netlist) (dies : List Die) (j k : ℕ) → j ≤ k → cut_below p dies j ≤ cut_below p dies k
unfolding cut_below
cut_grows p dies j zero le = let same : j ≡ 0 = omega arith in omega (arith, ap (cut_below p dies) same)
cut_grows p dies j (suc k) le = by (cases_lt k j) (cut_grows p dies j k)
  where
    by : (k < j) ⊎ (j ≤ k) → (j ≤ k → cut_below p dies j ≤ cut_below p dies k) → cut_below p dies j ≤ cut_below p dies (suc k)
    by (inl end) rest = let same : j ≡ suc k = omega (arith, le, end) in omega (arith, ap (cut_below p dies) same)
    by (inr before) rest = omega (arith, rest before)

-- a cut net is counted
pub cut_counted : (p : Netlist) (dies : List Die) (net : ℕ) → is_cut p dies net ≡ true → cut_below p dies (suc net) ≡ cut_below p dies net + 1
unfolding cut_below
cut_counted p dies net is = ap (λ (b : Bool). cut_below p dies net + (if b then 1 else 0)) is

-- the number rises behind a cut net
pub cut_rises : (p : Netlist) (dies : List Die) (j k : ℕ) → is_cut p dies j ≡ true → j < k → cut_below p dies j < cut_below p dies k
cut_rises p dies j k is less = omega (arith, cut_counted p dies j is, cut_grows p dies (suc j) k less)

-- two cut nets with the same number are one
pub cut_once : (p : Netlist) (dies : List Die) (j k : ℕ) → is_cut p dies j ≡ true → is_cut p dies k ≡ true → cut_below p dies j ≡ cut_below p dies k → j ≡ k
cut_once p dies j k cut_j cut_k same = by (cases_order j k)
  where
    by : (j ≡ k) ⊎ ((j < k) ⊎ (k < j)) → j ≡ k
    by (inl one) = one
    by (inr (inl less)) = absurd (omega (arith, same, cut_rises p dies j k cut_j less))
    by (inr (inr more)) = absurd (omega (arith, same, cut_rises p dies k j cut_k more))
