-- The loop that reads the sections, turn by turn.
use Rattle.std.proofs.Common.{◌≡◌, ℕ, suc, ◌+◌, ◌-◌, ◌<◌, ◌≤◌, true, false, List, Ok, refl, sym, ◌∙◌, arith}
use Rattle.fp_text.specs.Reading.{Left, Read, fault, GivesFault}
use Rattle.fp_text.specs.declared.fault.TextFault.{TextFault}
use Rattle.fp_text.specs.declared.fault.TextFault.TheVariants.{Wrong, Memory}
use Rattle.fp_contest_in.specs.declared.section.Found.{Found}
use Rattle.fp_contest_in.specs.Statements.{section_next, sections_next, none_found, has_nine}
use Rattle.fp_contest_in.specs.Ranges.{AreInRange}
use Rattle.fp_contest_in.specs.SectionsLaws.{sections_stop}

-- the sections so far, and what is still read
pub record SectionsSoFar (techs : ℕ) (names : List (List ℕ)) (i : ℕ) (found : Found) (l : Left) (total : Read Found) : Type 0 where
  pub reading : sections_next names (10 - i) found l ≡ total
  pub range : AreInRange techs found

pub sections_none : (techs : ℕ) (names : List (List ℕ)) (l : Left) → SectionsSoFar techs names 0 none_found l (sections_next names 10 none_found l)
sections_none techs names l = record {
  reading = refl;
  range = record { frame = tt; top = record { percent = tt; rows = tt; tech = tt }; bottom = record { percent = tt; rows = tt; tech = tt }; size = tt; spacing = tt; cost = tt };
}

pub sections_more : (techs : ℕ) (names : List (List ℕ)) (i : ℕ) (found next : Found) (l after : Left) (total : Read Found) → i < 10 → has_nine found ≡ false
    → section_next names found l ≡ Ok (next, after) → AreInRange techs next → SectionsSoFar techs names i found l total → SectionsSoFar techs names (i + 1) next after total
unfolding sections_next
sections_more techs names i found next l after total lt not_all read range so_far =
    let more : 10 - i ≡ suc (10 - (i + 1)) = omega arith in
    let one : sections_next names (10 - i) found l ≡ sections_next names (10 - (i + 1)) next after = rw (more, not_all, read) refl in
    record { reading = sym one ∙ so_far.reading; range = range }

pub sections_fault : (e : TextFault) (techs : ℕ) (names : List (List ℕ)) (i : ℕ) (found : Found) (l : Left) (total : Read Found) → i < 10 → has_nine found ≡ false
    → GivesFault e (section_next names found l) → SectionsSoFar techs names i found l total → GivesFault e total
unfolding sections_next
sections_fault Memory techs names i found l total lt not_all fails so_far = tt
sections_fault (Wrong at kind) techs names i found l total lt not_all fails so_far =
    let more : 10 - i ≡ suc (10 - (i + 1)) = omega arith in
    let one : sections_next names (10 - i) found l ≡ fault at kind = rw (more, not_all, fails) refl in
    sym so_far.reading ∙ one

-- the loop ended after ten turns, or with the nine
pub sections_all : (techs : ℕ) (names : List (List ℕ)) (i : ℕ) (found : Found) (l : Left) (total : Read Found) → 10 ≤ i → SectionsSoFar techs names i found l total → total ≡ Ok (found, l)
unfolding sections_next
sections_all techs names i found l total le so_far =
    let none : 10 - i ≡ 0 = omega arith in
    let one : sections_next names (10 - i) found l ≡ Ok (found, l) = rw none refl in
    sym so_far.reading ∙ one

pub sections_ended : (techs : ℕ) (names : List (List ℕ)) (i : ℕ) (found : Found) (l : Left) (total : Read Found) → has_nine found ≡ true → SectionsSoFar techs names i found l total → total ≡ Ok (found, l)
sections_ended techs names i found l total nine so_far = sym so_far.reading ∙ sections_stop names (10 - i) found l nine
