-- Rooms after a segment's free length fell.
use Rattle.std.specs.Prelude.{◌≡◌, ℕ, ◌/◌, ◌<◌, List, length, get_or, set, ◌⊎◌, ℤ, pos, ◌-ℤ◌, ◌≤ℤ◌}
use Rattle.std.proofs.Common.{ap, ◌∙◌, arith, inl, inr}
use Rattle.std.proofs.lemmas.Bool.{cases_eq}
use Rattle.std.proofs.lemmas.Int.{ints}
use Rattle.std.proofs.lemmas.List.{length-set, get_or-set_same, get_or-set_other}
use Rattle.fp_coarse.specs.Rooms.{AreRooms, IsBounded}

pub bound_there : (free most : List ℤ) (segment : ℕ) → AreRooms free most → segment < length free → segment / 64 < length most
bound_there free most segment are below = omega (arith, are.many, below)

pub rooms_taken : (free most left bounds : List ℤ) (segment : ℕ) (width : ℤ) → AreRooms free most → segment < length free → pos 0 ≤ℤ width
    → left ≡ set free segment (get_or free segment (pos 0) -ℤ width) → IsBounded left (segment / 64) most bounds → AreRooms left bounds
rooms_taken free most left bounds segment width are below some left_is is = record {
  few = omega (arith, are.few, long);
  many = omega (arith, are.many, long, blocks);
  above = λ number inside. by number inside (cases_eq (number / 64) (segment / 64));
}
  where
    long : length left ≡ length free
    long = ap length left_is ∙ length-set free segment (get_or free segment (pos 0) -ℤ width)

    blocks : length bounds ≡ length most
    blocks = ap length is.bounds_are ∙ length-set most (segment / 64) is.bound

    by : (number : ℕ) → number < length left → ((number / 64 ≡ segment / 64) ⊎ (number / 64 ≡ segment / 64 → ⊥)) → get_or left number (pos 0) ≤ℤ get_or bounds (number / 64) (pos 0)
    by number inside (inl same) =
        let there : segment / 64 < length most = bound_there free most segment are below in
        let bound_is : get_or bounds (number / 64) (pos 0) ≡ is.bound =
        ap (λ (b : List ℤ). get_or b (number / 64) (pos 0)) is.bounds_are ∙ ap (λ n. get_or (set most (segment / 64) is.bound) n (pos 0)) same
        ∙ get_or-set_same most (segment / 64) is.bound (pos 0) there in
        omega (arith, ints, is.above number inside same, bound_is)
    by number inside (inr apart) =
        let other : number ≡ segment → ⊥ = λ e. apart (ap (λ n. n / 64) e) in
        let free_is : get_or left number (pos 0) ≡ get_or free number (pos 0) =
        ap (λ (l : List ℤ). get_or l number (pos 0)) left_is ∙ get_or-set_other free segment number (get_or free segment (pos 0) -ℤ width) (pos 0) other in
        let bound_is : get_or bounds (number / 64) (pos 0) ≡ get_or most (number / 64) (pos 0) =
        ap (λ (b : List ℤ). get_or b (number / 64) (pos 0)) is.bounds_are ∙ get_or-set_other most (segment / 64) (number / 64) is.bound (pos 0) apart in
        omega (arith, ints, are.above number (omega (arith, inside, long)), free_is, bound_is)
