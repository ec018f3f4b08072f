-- One move of a pass.
use Rattle.std.specs.Prelude.{◌≡◌, ℕ, zero, suc, ◌≤◌, if◌then◌else◌, List, length, ℤ, pos, ◌+ℤ◌, ◌≤ℤ◌}
use Rattle.std.proofs.Common.{arith}
use Rattle.std.proofs.lemmas.Bool.{cond_both}
use Rattle.std.proofs.lemmas.Int.{ints}
use Rattle.fp_base.specs.declared.ids.Die.{Die}
use Rattle.fp_netlist.specs.Netlist.{Netlist, IsSound}
use Rattle.fp_place.specs.Cut.{is_cut, cut_below, cut}
use Rattle.fp_place.specs.Settled.{flipped}

-- at most as many nets are cut as there are
cut_few : (p : Netlist) (dies : List Die) (nets : ℕ) → cut_below p dies nets ≤ nets
unfolding cut_below
cut_few p dies zero = omega arith
cut_few p dies (suc net) =
    let one : (if is_cut p dies net then 1 else 0) ≤ 1 = cond_both (is_cut p dies net) 1 0 (λ n. n ≤ 1) (λ _. omega arith) (λ _. omega arith) in
    omega (arith, one, cut_few p dies net)

-- what a gain says of the number of cut nets
pub record IsGainOf (p : Netlist) (dies : List Die) (cell now : ℕ) (gain : ℤ) : Type 0 where
  pub sound : IsSound p
  pub now_is : now ≡ cut p dies
  pub gain_is : pos (cut p dies) ≡ (pos (cut p (flipped dies cell)) +ℤ gain)

pub gain_high : (p : Netlist) (dies : List Die) (cell now : ℕ) (gain : ℤ) → IsGainOf p dies cell now gain → pos now ≤ℤ (gain +ℤ pos 262144)
gain_high p dies cell now gain is = omega (arith, ints, is.now_is, is.gain_is, cut_few p (flipped dies cell) (length p.nets), is.sound.few_nets)

pub cut_after : (p : Netlist) (dies : List Die) (cell now next : ℕ) (gain : ℤ) → IsGainOf p dies cell now gain → pos now ≡ (pos next +ℤ gain) → next ≡ cut p (flipped dies cell)
cut_after p dies cell now next gain is next_is = omega (arith, ints, is.now_is, is.gain_is, next_is)
