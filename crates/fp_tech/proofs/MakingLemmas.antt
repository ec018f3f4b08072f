-- What is known of making dies once the rows of each have been cut.
use Rattle.std.proofs.Common.{refl, sym, ap, subst, ◌∙◌}
use Rattle.std.specs.Prelude.{◌≡◌, Result, Err, true, length, nat_le}
use Rattle.fp_base.specs.declared.ids.Die.{Die}
use Rattle.fp_base.specs.declared.ids.Die.TheVariants.{Top, Bottom}
use Rattle.fp_tech.specs.declared.dies.DiesFault.{DiesFault}
use Rattle.fp_tech.specs.declared.dies.DiesFault.TheVariants.{RowsOutside, TooMany, Memory}
use Rattle.fp_tech.specs.Cutting.{Cuts, all_cut}
use Rattle.fp_tech.specs.Plan.{Plan, spec_of, segments, most_segments, has_few, RowsLie, Makes}

-- The segments of a die are those of all its rows.
pub all_rows : (plan : Plan) (die : Die) → segments plan die ≡ all_cut (spec_of plan die) die plan.blocks
unfolding segments
all_rows plan die = refl

-- A refusal at the top die is that of making the dies.
pub top_refused : (plan : Plan) (fault : DiesFault) → RowsLie plan → Cuts plan.top Top plan.blocks (Err fault) → Makes plan (Err fault)
unfolding segments
top_refused plan (RowsOutside die) lie cut = absurd cut
top_refused plan (TooMany Top) lie cut = (lie, cut.1)
top_refused plan (TooMany Bottom) lie cut = let e = cut.0 in cc
top_refused plan Memory lie cut = tt

-- A refusal at the bottom die is that of making the dies, once the top die is cut.
pub bottom_refused : (plan : Plan) (fault : DiesFault) → RowsLie plan → nat_le (length (all_cut plan.top Top plan.blocks)) most_segments ≡ true
    → Cuts plan.bottom Bottom plan.blocks (Err fault) → Makes plan (Err fault)
unfolding segments
bottom_refused plan (RowsOutside die) lie few cut = absurd cut
bottom_refused plan (TooMany Top) lie few cut = let e = cut.0 in cc
bottom_refused plan (TooMany Bottom) lie few cut = (lie, few, cut.1)
bottom_refused plan Memory lie few cut = tt

-- Neither die has too many segments, once both are cut.
pub both_few : (plan : Plan) → nat_le (length (all_cut plan.top Top plan.blocks)) most_segments ≡ true → nat_le (length (all_cut plan.bottom Bottom plan.blocks)) most_segments ≡ true
    → (has_few plan Top ≡ true) × (has_few plan Bottom ≡ true)
unfolding segments
both_few plan top bottom = (top, bottom)

-- A fault that is passed on stays what it is.
pub passed_on : (plan : Plan) (result : Result Plan DiesFault) (fault : DiesFault) → (shown : DiesFault) × (result ≡ Err shown) × (shown ≡ fault) → Makes plan (Err fault) → Makes plan result
passed_on plan result fault exit made = subst (Makes plan) (ap Err (sym exit.2) ∙ sym exit.1) made
