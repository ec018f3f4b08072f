-- After ten turns the nine sections are read, and a cost behind them changes neither them nor their rows.
use Rattle.std.proofs.Common.{◌≡◌, ℕ, true, cond, List, [], ◌∷◌, Option, Some, None, Result, Ok, Err, refl, sym, ap, subst, ◌∙◌, arith, inl, inr}
use Rattle.std.specs.Prelude.{is_some, IfOk}
use Rattle.fp_base.specs.declared.ids.Die.TheVariants.{Top, Bottom}
use Rattle.fp_text.specs.Reading.{Left, fault, begins, Gives}
use Rattle.fp_text.specs.ReadingLaws.{bind_ok, cond_ok, ok_is}
use Rattle.fp_text.specs.declared.fault.Kind.TheVariants as kinds
use Rattle.fp_text.specs.declared.fault.TextFault.{TextFault}
use Rattle.fp_tech.specs.Plan.{rows_lie}
use Rattle.fp_contest_in.specs.declared.section.Section.TheVariants.{DieSize, MaxUtil, Rows, Tech, TerminalSize, TerminalSpacing, TerminalCost}
use Rattle.fp_contest_in.specs.declared.section.DieFound.{DieFound}
use Rattle.fp_contest_in.specs.declared.section.Found.{Found}
use Rattle.fp_contest_in.specs.Text.{TechText, tech_name_list}
use Rattle.fp_contest_in.specs.Grammar.{keyword_of}
use Rattle.fp_contest_in.specs.Statements.{section_next, sections_next, may_cost_next, cost_next, rows_checked, rows_of, setup_of, die_spec, no_frame, no_rows, none_found}
use Rattle.fp_contest_in.specs.Ranges.{IsCompleteDie, IsComplete, HasRowsInFrame}
use Rattle.fp_contest_in.specs.BitsLaws.{HasNeeded, nine_has}
use Rattle.fp_contest_in.specs.FieldsLaws.{Kept, kept_is, Keeps, keeps_refl, keeps_then}
use Rattle.fp_contest_in.specs.SectionsLaws.{section_ok, chosen, sections_nine}

-- ---- all nine

-- technologies of these names
named : List (List ℕ) → List TechText
named [] = []
named (name ∷ names) = record { name = name; libs = [] } ∷ named names

tech_name_list-named : (names : List (List ℕ)) → tech_name_list (named names) ≡ names
unfolding named
tech_name_list-named [] = refl
tech_name_list-named (name ∷ names) = ap (λ (ns : List (List ℕ)). name ∷ ns) (tech_name_list-named names)

pub sections_complete : (names : List (List ℕ)) (found : Found) (l r : Left) → sections_next names 10 none_found l ≡ Ok (found, r) → IsComplete found
sections_complete names found l r e =
    let read = subst (λ (ns : List (List ℕ)). sections_next ns 10 none_found l ≡ Ok (found, r)) (sym (tech_name_list-named names)) e in
    let nine = sections_nine (named names) 10 none_found l found r (omega arith) read in
    let all = nine_has found nine in
    record {
      frame = all DieSize refl;
      top = record { percent = all (MaxUtil Top) refl; rows = all (Rows Top) refl; tech = all (Tech Top) refl };
      bottom = record { percent = all (MaxUtil Bottom) refl; rows = all (Rows Bottom) refl; tech = all (Tech Bottom) refl };
      size = all TerminalSize refl;
      spacing = all TerminalSpacing refl;
    }

-- ---- what the cost behind the nine keeps

section_keeps : (names : List (List ℕ)) (found : Found) (l : Left) (f : Found) (r : Left) → section_next names found l ≡ Ok (f, r) → Keeps found f
section_keeps names found l f r e =
    (section_ok (named names) found l f r (subst (λ (ns : List (List ℕ)). section_next ns found l ≡ Ok (f, r)) (sym (tech_name_list-named names)) e)).keeps

pub may_cost_keeps : (names : List (List ℕ)) (found : Found) (l : Left) (f : Found) (r : Left) → may_cost_next names found l ≡ Ok (f, r) → Keeps found f
unfolding may_cost_next
may_cost_keeps names found l f r e =
    elim (chosen {A = Found} (begins (keyword_of TerminalCost) l) (section_next names found l) (Ok (found, l)) (Ok (f, r)) e) [
      | inl told ↦ section_keeps names found l f r told.1
      | inr none ↦ subst (λ (p : Found × Left). Keeps found p.0) (ok_is {A = Found × Left} (found, l) (f, r) none.1) (keeps_refl found)
    ]

pub cost_keeps : (names : List (List ℕ)) (found : Found) (l : Left) (f : Found) (r : Left) → cost_next names found l ≡ Ok (f, r) → Keeps found f
unfolding cost_next
cost_keeps names found l f r e =
    let b = bind_ok (may_cost_next names found l) _ _ e in
    keeps_then found b.0.0 f (may_cost_keeps names found l b.0.0 b.0.1 b.1) (may_cost_keeps names b.0.0 b.0.1 f r b.2)

-- what was read is still read
still : {A : Type 0} (a b : Option A) → is_some a ≡ true → Kept a b → is_some b ≡ true
still {A} a b h k = by a h k
  where
    by : (o : Option A) → is_some o ≡ true → Kept o b → is_some b ≡ true
    by None h k = absurd cc
    by (Some x) h k = ap is_some k

pub complete_kept : (a b : Found) → IsComplete a → Keeps a b → IsComplete b
complete_kept a b is k = record {
  frame = still a.frame b.frame is.frame k.frame;
  top = record {
    percent = still a.top.percent b.top.percent is.top.percent k.top_percent;
    rows = still a.top.rows b.top.rows is.top.rows k.top_rows;
    tech = still a.top.tech b.top.tech is.top.tech k.top_tech;
  };
  bottom = record {
    percent = still a.bottom.percent b.bottom.percent is.bottom.percent k.bottom_percent;
    rows = still a.bottom.rows b.bottom.rows is.bottom.rows k.bottom_rows;
    tech = still a.bottom.tech b.bottom.tech is.bottom.tech k.bottom_tech;
  };
  size = still a.size b.size is.size k.size;
  spacing = still a.spacing b.spacing is.spacing k.spacing;
}

pub complete_nine : (found : Found) → IsComplete found → HasNeeded found
complete_nine found is DieSize needed = is.frame
complete_nine found is (MaxUtil Top) needed = is.top.percent
complete_nine found is (MaxUtil Bottom) needed = is.bottom.percent
complete_nine found is (Rows Top) needed = is.top.rows
complete_nine found is (Rows Bottom) needed = is.bottom.rows
complete_nine found is (Tech Top) needed = is.top.tech
complete_nine found is (Tech Bottom) needed = is.bottom.tech
complete_nine found is TerminalSize needed = is.size
complete_nine found is TerminalSpacing needed = is.spacing
complete_nine found is TerminalCost needed = absurd cc

-- a section more leaves the nine read
pub still_complete : (names : List (List ℕ)) (result : Result Found TextFault) (found : Found) (l r : Left) → IsComplete found → Gives (λ f. f) result r (section_next names found l) → IfOk result IsComplete
still_complete names (Ok f) found l r is e = complete_kept found f is (section_keeps names found l f r e)
still_complete names (Err e) found l r is gives = tt

-- ---- the rows

pub rows_ok : (found : Found) (l : Left) (f : Found) (r : Left) → rows_checked found l ≡ Ok (f, r) → ◌≡◌ {A = Found × Left} (found, l) (f, r) × HasRowsInFrame found
unfolding rows_checked
rows_ok found l f r e =
    let s = setup_of found in
    let top = cond_ok (rows_lie s.frame s.top) (cond (rows_lie s.frame s.bottom) (Ok (found, l)) (fault (rows_of found.bottom).at kinds.Rows)) (record { at = (rows_of found.top).at; kind = kinds.Rows }) (f, r) e in
    let bottom = cond_ok (rows_lie s.frame s.bottom) (Ok (found, l)) (record { at = (rows_of found.bottom).at; kind = kinds.Rows }) (f, r) top.1 in
    (ok_is {A = Found × Left} (found, l) (f, r) bottom.1, record { top = top.0; bottom = bottom.0 })

die_kept : (a b : DieFound) → IsCompleteDie a → Kept a.percent b.percent → Kept a.rows b.rows → Kept a.tech b.tech → die_spec a ≡ die_spec b
die_kept a b is percent_kept rows_kept tech_kept =
    let percent = kept_is a.percent b.percent 0 is.percent percent_kept in
    let rows = kept_is a.rows b.rows no_rows is.rows rows_kept in
    let tech = kept_is a.tech b.tech (record { 0 = 0 }) is.tech tech_kept in
    λ i. record {
      percent = percent i;
      tech = tech i;
      start_x = (rows i).start_x;
      start_y = (rows i).start_y;
      length = (rows i).length;
      height = (rows i).height;
      repeat = (rows i).repeat;
    }

pub rows_kept : (a b : Found) → IsComplete a → Keeps a b → HasRowsInFrame a → HasRowsInFrame b
rows_kept a b is k lie =
    let frame = kept_is a.frame b.frame no_frame is.frame k.frame in
    let top = die_kept a.top b.top is.top k.top_percent k.top_rows k.top_tech in
    let bottom = die_kept a.bottom b.bottom is.bottom k.bottom_percent k.bottom_rows k.bottom_tech in
    record {
      top = sym (λ i. rows_lie (frame i) (top i)) ∙ lie.top;
      bottom = sym (λ i. rows_lie (frame i) (bottom i)) ∙ lie.bottom;
    }

-- the cost behind the nine leaves the rows in the frame
pub still_lie : (names : List (List ℕ)) (result : Result Found TextFault) (found : Found) (l r : Left) → IsComplete found → rows_checked found l ≡ Ok (found, l)
    → Gives (λ f. f) result r (cost_next names found l) → IfOk result HasRowsInFrame
still_lie names (Ok f) found l r is lying e = rows_kept found f is (cost_keeps names found l f r e) (rows_ok found l found l lying).1
still_lie names (Err e) found l r is lying gives = tt
