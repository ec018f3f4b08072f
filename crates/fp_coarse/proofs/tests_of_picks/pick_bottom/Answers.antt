use Rattle.std.proofs.Common.{◌≡◌, ℕ, zero, suc, ◌<◌, [], ◌∷◌, length, true, IsTrue, arith, rules}
use Rattle.fp_base.specs.declared.ids.Die.TheVariants.{Bottom}
use Rattle.fp_base.specs.declared.ids.Point.{Point}
use Rattle.fp_netlist.specs.Netlist.{Netlist}
use Rattle.fp_place.specs.Areas.{fits}
use Rattle.fp_place.specs.Places.{die_at}
use Rattle.fp_score.specs.Pick.{point_at}
use Rattle.fp_coarse.specs.Nearest.{IsNearPoint}
use Rattle.fp_coarse.specs.Picking.{CanPick}
use Rattle.fp_coarse.proofs.tests_of_picks.pick_bottom.Goals as goal

two_can : (p : Netlist) (first second : Point) → length p.cells ≡ 2 → fits p 0 Bottom ≡ true → fits p 1 Bottom ≡ true → IsNearPoint first → IsNearPoint second
    → CanPick p (Bottom ∷ Bottom ∷ []) (first ∷ second ∷ [])
two_can p first second count fits_first fits_second near_first near_second = record {
  dies_long = omega (arith, count);
  targets_long = omega (arith, count);
  fitting = fitting;
  near = near;
}
  where
    fitting : (cell : ℕ) → cell < length p.cells → IsTrue (fits p cell (die_at (Bottom ∷ Bottom ∷ []) cell))
    fitting zero below = fits_first
    fitting (suc zero) below = fits_second
    fitting (suc (suc cell)) below = absurd (omega (arith, below, count))

    near : (cell : ℕ) → cell < length p.cells → IsNearPoint (point_at (first ∷ second ∷ []) cell)
    near zero below = near_first
    near (suc zero) below = near_second
    near (suc (suc cell)) below = absurd (omega (arith, below, count))

pub pick-requires : goal.pick-requires
pick-requires g c = two_can c.args.problem.now c.args.first c.args.second (omega arith) (search rules) (search rules) c.requires.first c.requires.second
