-- Laws of lanes that are in order.
use Rattle.std.specs.Prelude.{◌≡◌, ℕ, zero, suc, ◌<◌, List, [], ◌∷◌, slice_get, Some, None, ℤ, pos, ◌+ℤ◌, ◌≤ℤ◌}
use Rattle.std.proofs.Common.{subst, arith}
use Rattle.std.proofs.lemmas.Int.{ints}
use Rattle.std.proofs.lemmas.Option.{same_Some}
use Rattle.fp_base.specs.declared.ids.CellId.{CellId}
use Rattle.fp_base.specs.declared.ids.Die.{Die}
use Rattle.fp_netlist.specs.Netlist.{Netlist}
use Rattle.fp_netlist.specs.Points.{width}
use Rattle.fp_place.specs.Places.{Place, place_at}
use Rattle.fp_place.specs.Placed.{StandBetween}

-- a cell stands between two ends
pub record IsBetween (p : Netlist) (die : Die) (places : List Place) (from to : ℤ) (cell : CellId) : Type 0 where
  pub starts : from ≤ℤ (place_at places cell.0).x
  pub ends : ((place_at places cell.0).x +ℤ pos (width p cell.0 die)) ≤ℤ to

between_ends : (p : Netlist) (die : Die) (places : List Place) (from to : ℤ) (lane : List CellId) → StandBetween p die places from to lane → from ≤ℤ to
between_ends p die places from to [] is = is
between_ends p die places from to (cell ∷ cells) is =
    omega (arith, ints, is.0, between_ends p die places ((place_at places cell.0).x +ℤ pos (width p cell.0 die)) to cells is.1)

-- each cell of a lane that is in order stands between the lane's ends
pub between_at : (p : Netlist) (die : Die) (places : List Place) (from to : ℤ) (lane : List CellId) → StandBetween p die places from to lane
    → (rank : ℕ) (cell : CellId) → slice_get lane rank ≡ Some cell → IsBetween p die places from to cell
between_at p die places from to [] is rank cell e = absurd (let nothing : None ≡ Some cell = e in cc)
between_at p die places from to (first ∷ cells) is zero cell e =
    subst (IsBetween p die places from to) (same_Some first cell e)
    (record { starts = is.0; ends = between_ends p die places ((place_at places first.0).x +ℤ pos (width p first.0 die)) to cells is.1 })
between_at p die places from to (first ∷ cells) is (suc rank) cell e =
    let later = between_at p die places ((place_at places first.0).x +ℤ pos (width p first.0 die)) to cells is.1 rank cell e in
    record { starts = omega (arith, ints, is.0, later.starts); ends = later.ends }

-- of two cells of a lane that is in order the later stands from where the earlier ends
pub between_behind : (p : Netlist) (die : Die) (places : List Place) (from to : ℤ) (lane : List CellId) → StandBetween p die places from to lane
    → (i j : ℕ) (a b : CellId) → i < j → slice_get lane i ≡ Some a → slice_get lane j ≡ Some b
    → ((place_at places a.0).x +ℤ pos (width p a.0 die)) ≤ℤ (place_at places b.0).x
between_behind p die places from to [] is i j a b less at_i at_j = absurd (let nothing : None ≡ Some a = at_i in cc)
between_behind p die places from to (first ∷ cells) is i zero a b less at_i at_j = absurd (omega arith)
between_behind p die places from to (first ∷ cells) is zero (suc j) a b less at_i at_j =
    subst (λ (c : CellId). ((place_at places c.0).x +ℤ pos (width p c.0 die)) ≤ℤ (place_at places b.0).x) (same_Some first a at_i)
    (between_at p die places ((place_at places first.0).x +ℤ pos (width p first.0 die)) to cells is.1 j b at_j).starts
between_behind p die places from to (first ∷ cells) is (suc i) (suc j) a b less at_i at_j =
    between_behind p die places ((place_at places first.0).x +ℤ pos (width p first.0 die)) to cells is.1 i j a b (omega arith) at_i at_j
