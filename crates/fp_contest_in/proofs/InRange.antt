-- A technology that was found by its name is in range, and so is a setup whose sections are.
use Rattle.std.proofs.Common.{◌≡◌, ℕ, ◌<◌, ◌≤◌, ◌^◌, List, length, Option, Some, None, true, refl, sym, ap, subst, arith}
use Rattle.std.specs.Prelude.{option_map, is_some, unwrap_or, IfSome, All}
use Rattle.std.proofs.lemmas.List.{length-map}
use Rattle.fp_base.specs.declared.ids.TechId.{TechId}
use Rattle.fp_tech.specs.Book.{Book, place_of, tech_names}
use Rattle.fp_tech.specs.BookLaws.{place_within}
use Rattle.fp_tech.specs.declared.dies.Block.{Block}
use Rattle.fp_tech.specs.Plan.{IsFrame, IsDieSpec, IsBlock, IsSetup}
use Rattle.fp_contest_in.specs.declared.section.DieFound.{DieFound}
use Rattle.fp_contest_in.specs.declared.section.Found.{Found}
use Rattle.fp_contest_in.specs.declared.section.Setup.{Setup}
use Rattle.fp_contest_in.specs.Statements.{die_spec, no_frame, no_rows, setup_of}
use Rattle.fp_contest_in.specs.Ranges.{AreRows, IsDieInRange, AreInRange, IsCompleteDie, IsComplete}
use Rattle.fp_contest_in.specs.Given.{plan_with}

abbrev tech_id : ℕ → TechId
tech_id t = record { 0 = t }

abbrev number_in : Option TechId → ℕ
number_in None = 0
number_in (Some tech) = tech.0

-- the number of a technology that was found by its name
pub tech_below : (book : Book) (name : List ℕ) (tech : TechId) → option_map (λ t. tech_id t) (place_of name (tech_names book)) ≡ Some tech → tech.0 < length book.techs
tech_below book name tech e = by (place_of name (tech_names book)) e (place_within name (tech_names book))
  where
    by : (o : Option ℕ) → option_map (λ t. tech_id t) o ≡ Some tech → ((p : ℕ) → o ≡ Some p → p < length (tech_names book)) → tech.0 < length book.techs
    by None e within = absurd cc
    by (Some p) e within =
        let same : p ≡ tech.0 = ap (λ (o : Option TechId). number_in o) e in
        omega (arith, within p refl, length-map book.techs (λ tech. tech.name))

-- ---- the setup

value_of : {A : Type 0} (P : A → Type 0) (o : Option A) (d : A) → is_some o ≡ true → IfSome o P → P (unwrap_or o d)
value_of P None d e is = absurd cc
value_of P (Some x) d e is = is

die_in_range : (techs : ℕ) (die : DieFound) → IsCompleteDie die → IsDieInRange techs die → IsDieSpec techs (die_spec die)
die_in_range techs die all is =
    let rows = value_of AreRows die.rows no_rows all.rows is.rows in
    record {
      percent = value_of (λ n. n ≤ 100) die.percent 0 all.percent is.percent;
      tech = value_of (λ tech. tech.0 < techs) die.tech (tech_id 0) all.tech is.tech;
      start_x = rows.start_x;
      start_y = rows.start_y;
      some_length = rows.some_length;
      length = rows.long;
      some_height = rows.some_height;
      height = rows.high;
      some_rows = rows.some_rows;
      rows = rows.many;
    }

cost_in_range : (o : Option ℕ) → IfSome o (λ n. n ≤ 2 ^ 30) → unwrap_or o 0 ≤ 2 ^ 30
cost_in_range None is = omega arith
cost_in_range (Some n) is = is

pub setup_in_range : (book : Book) (found : Found) (setup : Setup) (blocks listed : List Block) → IsComplete found → AreInRange (length book.techs) found → length listed ≤ 1024 → All IsBlock listed
    → setup ≡ setup_of found → blocks ≡ listed → IsSetup (plan_with book setup blocks)
setup_in_range book found setup blocks listed all is few each same same_blocks =
    let size = value_of (λ size. (1 ≤ size.0) × (size.0 ≤ 2 ^ 30) × (1 ≤ size.1) × (size.1 ≤ 2 ^ 30)) found.size (0, 0) all.size is.size in
    let spacing = value_of (λ n. n ≤ 2 ^ 30) found.spacing 0 all.spacing is.spacing in
    let setup_is : IsSetup (plan_with book (setup_of found) listed) = record {
      frame = value_of IsFrame found.frame no_frame all.frame is.frame;
      top = die_in_range (length book.techs) found.top all.top is.top;
      bottom = die_in_range (length book.techs) found.bottom all.bottom is.bottom;
      terminal = record { some_x = size.0; size_x = size.1; some_y = size.2; size_y = size.3; spacing = spacing; cost = cost_in_range found.cost is.cost };
      few_blocks = few;
      blocks = each;
    } in
    subst (λ (s : Setup). IsSetup (plan_with book s blocks)) (sym same) (subst (λ (bs : List Block). IsSetup (plan_with book (setup_of found) bs)) (sym same_blocks) setup_is)
