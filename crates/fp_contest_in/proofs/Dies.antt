-- From the technologies, the sections and the blockages that were read to the dies that they describe.
use Rattle.std.proofs.Common.{◌≡◌, ℕ, true, false, ◌&&◌, List, Result, Ok, Err, refl, sym, ap, subst, ◌∙◌}
use Rattle.fp_base.specs.declared.ids.Die.TheVariants.{Top, Bottom}
use Rattle.fp_text.specs.Reading.{Left, fault, GivesFault}
use Rattle.fp_text.specs.declared.fault.TextFault.{TextFault}
use Rattle.fp_text.specs.declared.fault.TextFault.TheVariants.{Wrong, Memory}
use Rattle.fp_tech.specs.declared.dies.Block.{Block}
use Rattle.fp_tech.specs.Book.{Book, no_techs, tech_names}
use Rattle.fp_tech.specs.Plan.{Plan, has_few}
use Rattle.fp_contest_in.specs.declared.section.Found.{Found}
use Rattle.fp_contest_in.specs.Text.{TechText, tech_name_list, with_tech_texts, plan_of}
use Rattle.fp_contest_in.specs.Statements.{techs_next, all_sections_next, blocks_next, front_of, few_checked, setup_of, front_next}
use Rattle.fp_contest_in.specs.Given.{plan_with, GivesDies, GivesFront}
use Rattle.fp_contest_in.proofs.Growth.{tech_names-grown}

-- the technologies were read into an empty book
abbrev pub TechsRead : Left → Left → Book → Type 0
TechsRead l mid book = (techs : List TechText) × (techs_next l ≡ Ok (techs, mid)) × (book ≡ with_tech_texts no_techs techs)

pub techs_read : (l mid : Left) (old book : Book) → old ≡ no_techs → (techs : List TechText) × (techs_next l ≡ Ok (techs, mid)) × (book ≡ with_tech_texts old techs) → TechsRead l mid book
techs_read l mid old book empty t = (t.0, t.1, t.2 ∙ ap (λ b. with_tech_texts b t.0) empty)

names_read : (book : Book) (techs : List TechText) → book ≡ with_tech_texts no_techs techs → tech_names book ≡ tech_name_list techs
names_read book techs is = ap tech_names is ∙ tech_names-grown no_techs techs

pub sections_fail : (e : TextFault) (book : Book) (l mid : Left) → TechsRead l mid book → GivesFault e (all_sections_next (tech_names book) mid) → GivesFault e (front_next l)
unfolding front_next
sections_fail Memory book l mid techs fails = tt
sections_fail (Wrong at kind) book l mid techs fails =
    let gone : all_sections_next (tech_name_list techs.0) mid ≡ fault at kind = ap (λ (ns : List (List ℕ)). all_sections_next ns mid) (sym (names_read book techs.0 techs.2)) ∙ fails in
    rw (techs.1, gone) refl

-- the sections were read behind them
abbrev pub FoundRead : Book → Left → Found → Left → Type 0
FoundRead book l found r = all_sections_next (tech_names book) l ≡ Ok (found, r)

found_read : (book : Book) (l mid : Left) (found : Found) (after : Left) → (techs : TechsRead l mid book) → FoundRead book mid found after → all_sections_next (tech_name_list techs.0) mid ≡ Ok (found, after)
found_read book l mid found after techs read = ap (λ (ns : List (List ℕ)). all_sections_next ns mid) (sym (names_read book techs.0 techs.2)) ∙ read

pub blocks_fail : (e : TextFault) (book : Book) (found : Found) (l mid after : Left) → TechsRead l mid book → FoundRead book mid found after → GivesFault e (blocks_next after) → GivesFault e (front_next l)
unfolding front_next
blocks_fail Memory book found l mid after techs read fails = tt
blocks_fail (Wrong at kind) book found l mid after techs read fails = rw (techs.1, found_read book l mid found after techs read, fails) refl

pub front_done : (result : Result Plan TextFault) (book : Book) (found : Found) (at : ℕ) (blocks : List Block) (l mid after end : Left) → TechsRead l mid book → FoundRead book mid found after
    → blocks_next after ≡ Ok ((at, blocks), end) → GivesDies (plan_with book (setup_of found) blocks) at result → GivesFront result end (front_next l)
unfolding front_next few_checked
front_done (Err Memory) book found at blocks l mid after end techs read listed gives = tt
front_done (Err (Wrong where_at kind)) book found at blocks l mid after end techs read listed gives =
    let plan : plan_with book (setup_of found) blocks ≡ plan_of (front_of techs.0 found blocks) = ap (λ (b : Book). plan_with b (setup_of found) blocks) techs.2 in
    let few : (has_few (plan_of (front_of techs.0 found blocks)) Top && has_few (plan_of (front_of techs.0 found blocks)) Bottom) ≡ false =
    subst (λ (p : Plan). (has_few p Top && has_few p Bottom) ≡ false) plan gives.0 in
    rw (techs.1, found_read book l mid found after techs read, listed, few) (λ i. fault (sym gives.1 i) (sym gives.2 i))
front_done (Ok dies) book found at blocks l mid after end techs read listed gives =
    let plan : plan_with book (setup_of found) blocks ≡ plan_of (front_of techs.0 found blocks) = ap (λ (b : Book). plan_with b (setup_of found) blocks) techs.2 in
    let few : (has_few (plan_of (front_of techs.0 found blocks)) Top && has_few (plan_of (front_of techs.0 found blocks)) Bottom) ≡ true =
    subst (λ (p : Plan). (has_few p Top && has_few p Bottom) ≡ true) plan gives.0 in
    (front_of techs.0 found blocks, rw (techs.1, found_read book l mid found after techs read, listed, few) refl, gives.1 ∙ plan)
