-- Laws of the segments of a die as segments of a search.
use Rattle.std.specs.Prelude.{◌≡◌, ◌⊎◌, ℕ, ◌<◌, ◌≤◌, length, ◌+ℤ◌, ◌≤ℤ◌, Some, slice_get}
use Rattle.std.proofs.Common.{ap, inl, inr, arith}
use Rattle.std.proofs.lemmas.Bool.{cases_lt}
use Rattle.std.proofs.lemmas.Int.{ints}
use Rattle.std.proofs.lemmas.Option.{slice_get-get_or}
use Rattle.fp_base.specs.declared.ids.Die.{Die}
use Rattle.fp_base.specs.declared.ids.Die.TheVariants.{Top, Bottom}
use Rattle.fp_tech.specs.declared.dies.DieSpec.{DieSpec}
use Rattle.fp_tech.specs.declared.dies.Segment.{Segment}
use Rattle.fp_tech.specs.Plan.{Plan, spec_of, segments, IsPlan, ComesBehind}
use Rattle.fp_tech.specs.PlanLaws.{few_segments, segments_rise}
use Rattle.fp_place.specs.PlacedLaws.{LiesInRange, segment_in_range}
use Rattle.fp_score.specs.FirstFit.{no_segment}
use Rattle.fp_coarse.specs.Nearest.{at, IsSegment, AreSegments}

there : (plan : Plan) (die : Die) (number : ℕ) → number < length (segments plan die) → slice_get (segments plan die) number ≡ Some (at (segments plan die) number)
there plan die number below = slice_get-get_or (segments plan die) number no_segment below

segment_in : (segment : Segment) → LiesInRange segment → IsSegment segment
segment_in segment lies = record {
  y_low = omega (arith, ints, lies.y.least);
  y_high = omega (arith, ints, lies.y.most);
  low = omega (arith, ints, lies.start.least);
  high = omega (arith, ints, lies.start.most);
  some = lies.some;
  long = omega (arith, ints, lies.length.most);
}

-- a segment that comes behind another is not lower
not_lower : (spec : DieSpec) (a b : Segment) → ComesBehind spec a b → a.y ≤ℤ b.y
not_lower spec a b (inl above) = omega (arith, ints, above)
not_lower spec a b (inr beside) = omega (arith, ints, beside.0)

rising : (plan : Plan) (die : Die) (i j : ℕ) → i ≤ j → j < length (segments plan die) → (at (segments plan die) i).y ≤ℤ (at (segments plan die) j).y
rising plan die i j le below = by (cases_lt i j)
  where
    by : ((i < j) ⊎ (j ≤ i)) → (at (segments plan die) i).y ≤ℤ (at (segments plan die) j).y
    by (inl less) =
        not_lower (spec_of plan die) (at (segments plan die) i) (at (segments plan die) j)
        (segments_rise plan die i j (at (segments plan die) i) (at (segments plan die) j) less (there plan die i (omega (arith, less, below))) (there plan die j below))
    by (inr most) =
        let one : i ≡ j = omega (arith, le, most) in
        omega (arith, ints, ap (λ n. (at (segments plan die) n).y) one)

-- a die's rows have some height
some_height : (plan : Plan) → IsPlan plan → (die : Die) → 1 ≤ (spec_of plan die).height
some_height plan is Top = is.setup.top.some_height
some_height plan is Bottom = is.setup.bottom.some_height

-- a segment that comes behind another of its row starts at its end or behind it
starts_behind : (spec : DieSpec) (a b : Segment) → 1 ≤ spec.height → ComesBehind spec a b → a.y ≡ b.y → (a.start +ℤ a.length) ≤ℤ b.start
starts_behind spec a b some (inl above) same = absurd (omega (arith, ints, above, some, same))
starts_behind spec a b some (inr beside) same = omega (arith, ints, beside.1)

pub rows_are : (plan : Plan) → IsPlan plan → (die : Die) → AreSegments (segments plan die)
rows_are plan is die = record {
  few = few_segments plan is die;
  each = λ number below. segment_in (at (segments plan die) number) (segment_in_range plan is die number (at (segments plan die) number) (there plan die number below));
  rising = rising plan die;
  apart = λ i j less below same. starts_behind (spec_of plan die) (at (segments plan die) i) (at (segments plan die) j) (some_height plan is die)
      (segments_rise plan die i j (at (segments plan die) i) (at (segments plan die) j) less (there plan die i (omega (arith, less, below))) (there plan die j below)) same;
}
